-- The numbers of a table from a log: the bit of each entry, and no other.
use Rattle.std.proofs.Common.{◌≡◌, ℕ, ◌+◌, ◌-◌, ◌*◌, ◌/◌, ◌%◌, ◌^◌, ◌<◌, ◌≤◌, Bool, true, false, cond, ◌&&◌, ◌||◌, eqb, ltb, List, [], ◌∷◌, ◌++◌, map, length, get_or, replicate, sym, refl, ap, ◌∙◌, subst, ap₂, ⊎_elim, arith}
use lib.Bits.{bit_or}
use borrow.Author.Tests.{clash}
use Rattle.std.specs.List.{range_with_len}
use Rattle.std.proofs.lemmas.List.FromFn.{get_or-map-range_with_len, length-map-range_with_len}
use Rattle.std.proofs.lemmas.List.{get_or_append_left, get_or-append-add}
use Rattle.std.proofs.lemmas.Bool.{and_parts, and_from, eqb-true, eq-eqb, ltb-true, cases_lt}
use Rattle.items.specs.Members.{bit, member}
use Rattle.items.proofs.Laws.{bit-or, bit_pow, bit_none}
use Rattle.grammar.specs.Grammar.{Grammar}
use Rattle.grammar.specs.View.{Plain, plain}
use Rattle.tables.specs.Table.{Stands}
use Rattle.tables.specs.Columns.{first_place, cell, cell_of, Column, Standing}
use Rattle.tables.proofs.Placing.{cells_apart, cells_same}
use Rattle.seats.proofs.Columns.{getD_zeros}
use Rattle.seats.proofs.Sameness.{cell_at}
use Rattle.worked.proofs.Finite.{all, any}
use Rattle.worked.proofs.Rules.{first_at, first_is}
use Rattle.worked.proofs.Logged.{Entry, entry, logged, among, some, sound, sound_so}
use Rattle.worked.proofs.Closed.{closed, exact, logged_all}

-- the entry's dotted place, and the position of the number that has it
abbrev pub place : List Plain → Entry → ℕ
place ps e = first_at ps e.by + e.dot

abbrev position : List Plain → Entry → ℕ
position ps e = 4 * cell e.from e.to + place ps e / 64

-- the number at a position
abbrev pub marks : List Plain → List Entry → ℕ → ℕ
marks ps [] p = 0
marks ps (e ∷ es) p = cond (eqb (position ps e) p) (bit_or (2 ^ (place ps e % 64)) (marks ps es p)) (marks ps es p)

-- the entry is bit b of the number at the position
abbrev marked : List Plain → ℕ → ℕ → Entry → Bool
marked ps p b e = eqb (position ps e) p && eqb b (place ps e % 64)

bit_marks : (ps : List Plain) (es : List Entry) (p b : ℕ) → bit (marks ps es p) b ≡ any (marked ps p b) es
bit_marks ps [] p b = bit_none b
bit_marks ps (e ∷ es) p b = go (eqb (position ps e) p) (bit_marks ps es p b)
  where
    go : (t : Bool) → bit (marks ps es p) b ≡ any (marked ps p b) es → bit (cond t (bit_or (2 ^ (place ps e % 64)) (marks ps es p)) (marks ps es p)) b ≡ ((t && eqb b (place ps e % 64)) || any (marked ps p b) es)
    go true rest = bit-or (2 ^ (place ps e % 64)) (marks ps es p) b ∙ ap₂ ◌||◌ (bit_pow (place ps e % 64) b) rest
    go false rest = rest

-- how many numbers the columns up to n have
abbrev pub span : ℕ → ℕ
span n = 4 * cell 0 (n + 1)

abbrev pub used : List Plain → List Entry → ℕ → List ℕ
used ps es n = map (marks ps es) (range_with_len 0 (span n))

abbrev pub table : List Plain → List Entry → ℕ → List ℕ
table ps es n = used ps es n ++ replicate (924 - span n) 0

module _ (ps : List Plain) (es : List Entry) (n : ℕ) where
  number_low : (p : ℕ) → p < span n → get_or (table ps es n) p 0 ≡ marks ps es p
  number_low p l =
      get_or_append_left (used ps es n) (replicate (924 - span n) 0) 0 p (subst (λ (m : ℕ). p < m) (sym (length-map-range_with_len (marks ps es) 0 (span n))) l)
      ∙ get_or-map-range_with_len (marks ps es) 0 (span n) p p 0 l (omega arith)

  number_high : (p : ℕ) → span n ≤ p → get_or (table ps es n) p 0 ≡ 0
  number_high p l =
      let e : p ≡ length (used ps es n) + (p - span n) = omega (arith, length-map-range_with_len (marks ps es) 0 (span n)) in
      ap (λ (m : ℕ). get_or (table ps es n) m 0) e ∙ get_or-append-add (used ps es n) (replicate (924 - span n) 0) (p - span n) 0 ∙ getD_zeros (924 - span n) (p - span n)

-- ---- cells

member_at : (xs : List ℕ) (i j d : ℕ) → d < 256 → member (cell_of xs i j) d ≡ bit (get_or xs (4 * cell i j + d / 64) 0) (d % 64)
unfolding member
member_at xs i j d l = ap (λ (n : ℕ). bit n (d % 64)) (cell_at xs i j (d / 64) (omega arith))

-- every place is one of 256
abbrev pub placed : List Plain → List Entry → Bool
placed ps es = all (λ e. ltb (place ps e) 256) es

module _ (g : Grammar) (ps : List Plain) (says : map plain g.rules ≡ ps) (start : ℕ) (starts : start ≡ g.start) (ws ns : List ℕ) (es : List Entry)
    (c : closed ps start ws ns es ≡ true) (s : sound ps start ws es ≡ true) (fit : placed ps es ≡ true) where
  abbrev n : ℕ
  n = length ws

  low : (e : Entry) → logged es e ≡ true → place ps e < 256
  low e l = ltb-true (place ps e) 256 (logged_all (λ d. ltb (place ps d) 256) es e fit l)

  -- a bit of a cell up to the last word
  in_cell : (i j d : ℕ) → i ≤ j → j ≤ n → d < 256 → member (cell_of (table ps es n) i j) d ≡ any (marked ps (4 * cell i j + d / 64) (d % 64)) es
  in_cell i j d o l h =
      let p = 4 * cell i j + d / 64 in
      let apart : cell i j < cell 0 (n + 1) = cells_apart i j 0 (n + 1) o (omega arith) in
      member_at (table ps es n) i j d h ∙ ap (λ (m : ℕ). bit m (d % 64)) (number_low ps es n p (omega arith)) ∙ bit_marks ps es p (d % 64)

  only : (i j d : ℕ) → i ≤ j → j ≤ n → d < 256 → member (cell_of (table ps es n) i j) d ≡ true → Standing g ws i j d
  only i j d o l h m =
      let x = among (marked ps (4 * cell i j + d / 64) (d % 64)) es (sym (in_cell i j d o l h) ∙ m) in
      let e : Entry = x.0 in
      let parts = and_parts (eqb (position ps e) (4 * cell i j + d / 64)) _ x.1 in
      let at : 4 * cell e.from e.to + place ps e / 64 ≡ 4 * cell i j + d / 64 = eqb-true _ _ parts.0 in
      let rest : d % 64 ≡ place ps e % 64 = eqb-true _ _ parts.1 in
      let small : place ps e < 256 = low e x.2 in
      let up = sound_so g ps says ws start starts es s e x.2 in
      let cells : cell e.from e.to ≡ cell i j = omega arith in
      let same = cells_same e.from e.to i j up.ordered o cells in
      let is : d ≡ first_place g.rules e.by + e.dot = omega (arith, first_is g ps says e.by) in
      record {
        by = e.by;
        dot = e.dot;
        is = is;
        stands = subst (λ (a : ℕ). Stands g ws a j e.by e.dot) same.0 (subst (λ (b : ℕ). Stands g ws e.from b e.by e.dot) same.1 up);
      }

  holds : (i j r k : ℕ) → j ≤ n → Stands g ws i j r k → member (cell_of (table ps es n) i j) (first_place g.rules r + k) ≡ true
  holds i j r k l up =
      let e = entry i j r k in
      let in-log : logged es e ≡ true = (exact g ps says start starts ws ns es c s j l i r k up.ordered up.listed up.dot).1 up in
      let is : first_place g.rules r + k ≡ place ps e = ap (λ (m : ℕ). m + k) (first_is g ps says r) in
      subst (λ (d : ℕ). member (cell_of (table ps es n) i j) d ≡ true) (sym is)
      (in_cell i j (place ps e) up.ordered l (low e in-log)
      ∙ some (marked ps (4 * cell i j + place ps e / 64) (place ps e % 64)) es e in-log (and_from _ _ (eq-eqb (position ps e) (position ps e) refl) (eq-eqb (place ps e % 64) (place ps e % 64) refl)))

  -- a cell past the last word is clear
  past : (i j d : ℕ) → n < j → d < 256 → member (cell_of (table ps es n) i j) d ≡ false
  past i j d l h =
      let p = 4 * cell i j + d / 64 in
      let high : span n ≤ p = ⊎_elim
      (λ (o : n + 1 < j). let a = cells_apart 0 (n + 1) i j (omega arith) o in omega arith)
      (λ (o : j ≤ n + 1). let e : n + 1 ≡ j = omega arith in let f : cell 0 (n + 1) ≡ cell 0 j = ap (λ (m : ℕ). cell 0 m) e in omega arith)
      (cases_lt (n + 1) j) in
      member_at (table ps es n) i j d h ∙ ap (λ (m : ℕ). bit m (d % 64)) (number_high ps es n p high) ∙ bit_none (d % 64)

  pub column : (j : ℕ) → Column g ws (table ps es n) j
  column j = ⊎_elim
      (λ (o : n < j). record {
        only = λ i a d h m. absurd (clash (sym (past i j d o h) ∙ m));
        holds = λ i r k up. absurd (omega (arith, up.within));
      })
      (λ (o : j ≤ n). record { only = λ i a d h m. only i j d a o h m; holds = λ i r k up. holds i j r k o up })
      (cases_lt n j)
