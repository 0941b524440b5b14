-- The words determine every number of a seat.
use Rattle.std.proofs.Common.{◌≡◌, ℕ, zero, suc, ◌+◌, ◌*◌, ◌/◌, ◌%◌, ◌^◌, ◌<◌, ◌≤◌, Bool, true, false, List, ◌++◌, length, get_or, take, drop, sym, refl, ap, ◌∙◌, subst, ap₂, ⊎_elim, mul_comm, mul-add, arith}
use Rattle.std.proofs.lemmas.Nat.{mul-le}
use Rattle.std.proofs.lemmas.List.{ext_get_or, get_or-drop, length-drop, take-append-drop}
use Rattle.std.proofs.lemmas.Bool.{cases_lt}
use Rattle.items.specs.Members.{bit, member}
use Rattle.grammar.specs.Grammar.{Grammar}
use Rattle.grammar.specs.View.{grammar_of}
use Rattle.grammar.proofs.BitSets.{same_set}
use Rattle.tables.specs.Columns.{cell, cell_of, Column}
use Rattle.seats.specs.Seats.{OneRecord}

-- ---- every cell of a table by its row and column

record Spot (q : ℕ) : Type 0 where
  row : ℕ
  column : ℕ
  ordered : row ≤ column
  is : q ≡ cell row column

-- a column begins where the one before it ends
column_more : (j : ℕ) → (j + 1) * (j + 1 + 1) / 2 ≡ j * (j + 1) / 2 + (j + 1)
column_more j = let e = mul-add (j + 1) j 2 in let f = mul_comm (j + 1) j in omega arith

spot : (q : ℕ) → Spot q
spot zero = record { row = 0; column = 0; ordered = omega arith; is = omega arith }
spot (suc q) =
    let c = spot q in
    let i = c.row in
    let j = c.column in
    let e = c.is in
    let l = c.ordered in
    ⊎_elim (λ (h : i < j). record { row = i + 1; column = j; ordered = omega arith; is = omega arith })
    (λ (h : j ≤ i). record { row = 0; column = j + 1; ordered = omega arith; is = let f = column_more j in omega arith })
    (cases_lt i j)

-- the first 231 cells are those of 21 columns
spot_low : (q : ℕ) → q < 231 → (spot q).column ≤ 20
spot_low q h =
    let c = spot q in
    ⊎_elim (λ (l : c.column < 21). omega arith)
    (λ (l : 21 ≤ c.column). let e = mul-le 21 22 c.column (c.column + 1) l (omega arith) in let f = c.is in absurd (omega arith))
    (cases_lt c.column 21)

-- ---- one number of a table

same_truth : (a b : Bool) → (a ≡ true → b ≡ true) → (b ≡ true → a ≡ true) → a ≡ b
same_truth true b f g = sym (f refl)
same_truth false true f g = g refl
same_truth false false f g = refl

pub cell_at : (table : List ℕ) (i j k : ℕ) → k < 4 → get_or (cell_of table i j) k 0 ≡ get_or table (4 * cell i j + k) 0
unfolding cell_of
cell_at table i j zero l = let e : 4 * cell i j ≡ 4 * cell i j + 0 = omega arith in ap (λ (p : ℕ). get_or table p 0) e
cell_at table i j (suc zero) l = refl
cell_at table i j (suc (suc zero)) l = refl
cell_at table i j (suc (suc (suc zero))) l = refl
cell_at table i j (suc (suc (suc (suc k)))) l = absurd (omega arith)

-- bit b of number k of a cell
bit_at : (table : List ℕ) (i j k b : ℕ) → k < 4 → b < 64 → member (cell_of table i j) (64 * k + b) ≡ bit (get_or table (4 * cell i j + k) 0) b
unfolding member
bit_at table i j k b l h =
    let e : (64 * k + b) / 64 ≡ k = omega arith in
    let f : (64 * k + b) % 64 ≡ b = omega arith in
    ap₂ (λ (m n : ℕ). bit (get_or (cell_of table i j) m 0) n) e f ∙ ap (λ (n : ℕ). bit n b) (cell_at table i j k l)

-- what one exact column marks stands, so the other marks it
marked : (g : Grammar) (ws old new : List ℕ) (i j d : ℕ) → Column g ws old j → Column g ws new j → i ≤ j → d < 256 → member (cell_of old i j) d ≡ true → member (cell_of new i j) d ≡ true
marked g ws old new i j d c c' o l e =
    let s = c.only i o d l e in
    subst (λ (n : ℕ). member (cell_of new i j) n ≡ true) (sym s.is) (c'.holds i s.by s.dot s.stands)

module _ (g : Grammar) (ws old new : List ℕ) (fits : (p : ℕ) → get_or old p 0 < 2 ^ 64) (fits' : (p : ℕ) → get_or new p 0 < 2 ^ 64)
    (columns : (j : ℕ) → j ≤ 20 → Column g ws old j) (columns' : (j : ℕ) → j ≤ 20 → Column g ws new j) where
  same_number : (i j k : ℕ) → i ≤ j → j ≤ 20 → k < 4 → get_or old (4 * cell i j + k) 0 ≡ get_or new (4 * cell i j + k) 0
  same_number i j k o l h =
      same_set 64 (get_or old (4 * cell i j + k) 0) (get_or new (4 * cell i j + k) 0) (fits (4 * cell i j + k)) (fits' (4 * cell i j + k))
      (λ b m.
      let low : 64 * k + b < 256 = omega arith in
      sym (bit_at old i j k b h m)
      ∙ same_truth (member (cell_of old i j) (64 * k + b)) (member (cell_of new i j) (64 * k + b))
      (marked g ws old new i j (64 * k + b) (columns j l) (columns' j l) o low) (marked g ws new old i j (64 * k + b) (columns' j l) (columns j l) o low)
      ∙ bit_at new i j k b h m)

  same_table : length old ≡ 924 → length new ≡ 924 → old ≡ new
  same_table e f = ext_get_or 0 old new (e ∙ sym f) (λ p l.
      let c = spot (p / 4) in
      let is = c.is in
      let at : 4 * cell c.row c.column + p % 4 ≡ p = omega arith in
      subst (λ (n : ℕ). get_or old n 0 ≡ get_or new n 0) at (same_number c.row c.column (p % 4) c.ordered (spot_low (p / 4) (omega arith)) (omega arith)))

pub one_record : OneRecord
one_record s ws xs ys f f' h h' =
    let fits : (p : ℕ) → get_or (drop 21 xs) p 0 < 2 ^ 64 = λ p. subst (λ (n : ℕ). n < 2 ^ 64) (sym (get_or-drop 21 xs p 0)) (f (21 + p)) in
    let fits' : (p : ℕ) → get_or (drop 21 ys) p 0 < 2 ^ 64 = λ p. subst (λ (n : ℕ). n < 2 ^ 64) (sym (get_or-drop 21 ys p 0)) (f' (21 + p)) in
    let words : take 21 xs ≡ take 21 ys = h.words ∙ sym h'.words in
    let table : drop 21 xs ≡ drop 21 ys = same_table (grammar_of s) ws (drop 21 xs) (drop 21 ys) fits fits' h.table h'.table (omega (arith, length-drop 21 xs, h.size)) (omega (arith, length-drop 21 ys, h'.size)) in
    sym (take-append-drop 21 xs) ∙ ap₂ (λ (us vs : List ℕ). us ++ vs) words table ∙ take-append-drop 21 ys
