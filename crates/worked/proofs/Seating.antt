-- The numbers of a seat from a log, and that no others are a seat of those words.
use Rattle.std.proofs.Common.{◌≡◌, ℕ, zero, suc, ◌+◌, ◌-◌, ◌/◌, ◌%◌, ◌^◌, ◌<◌, ◌≤◌, Bool, true, ◌&&◌, ltb, leb, List, [], ◌∷◌, ◌++◌, map, length, get_or, drop, replicate, sym, refl, ap, ◌∙◌, subst, ap₂, pow-suc, arith, take_at, drop_at}
use lib.Count.{ones, ones_in, ones_step}
use Rattle.std.proofs.lemmas.List.FromFn.{length-map-range_with_len}
use Rattle.std.proofs.lemmas.List.{length-append, length-replicate}
use Rattle.std.proofs.lemmas.Bool.{and_parts, ltb-true, leb-true}
use Rattle.grammar.specs.declared.sheet.Sheet.{Sheet}
use Rattle.grammar.specs.View.{Plain, plain, rules_of, grammar_of, words_in}
use Rattle.tables.specs.Columns.{Column}
use Rattle.seats.specs.Calls.{ones_of}
use Rattle.seats.proofs.Columns.{getD_zeros}
use Rattle.seats.proofs.Sameness.{one_record}
use Rattle.worked.specs.Findings.{The, Seated}
use Rattle.worked.proofs.Finite.{all}
use Rattle.worked.proofs.Rules.{left_of, left_is}
use Rattle.worked.proofs.Logged.{Entry, sound}
use Rattle.worked.proofs.Closed.{closed}
use Rattle.worked.proofs.Tabled.{marks, span, used, table, placed, column}

abbrev front : List ℕ → List ℕ
front ws = length ws ∷ (ws ++ replicate (20 - length ws) 0)

abbrev wide : List ℕ → Bool
wide xs = all (λ x. ltb x (2 ^ 64)) xs

-- the log is that of the words, where the names ns can yield nothing
abbrev pub tells : List Plain → List ℕ → List ℕ → List Entry → Bool
tells ps ns ws es = closed ps (left_of ps 0) ws ns es && (sound ps (left_of ps 0) ws es && placed ps es)

-- and its numbers are those of a seat, on a sheet of so many words
abbrev pub fitting : List Plain → ℕ → List ℕ → List Entry → Bool
fitting ps count ws es =
    leb (length ws) 20 && (leb (span (length ws)) 924 && (all (λ w. ltb w count) ws && (wide (front ws) && wide (used ps es (length ws)))))

-- ---- bounds

all_get_d : (p : ℕ → Bool) (xs : List ℕ) → all p xs ≡ true → (k : ℕ) → k < length xs → p (get_or xs k 0) ≡ true
all_get_d p [] h k l = absurd (omega arith)
all_get_d p (x ∷ xs) h zero l = (and_parts (p x) (all p xs) h).0
all_get_d p (x ∷ xs) h (suc k) l = all_get_d p xs (and_parts (p x) (all p xs) h).1 k (omega arith)

abbrev Wide : List ℕ → Type 0
Wide xs = (p : ℕ) → get_or xs p 0 < 2 ^ 64

wide_so : (xs : List ℕ) → wide xs ≡ true → Wide xs
wide_so [] h p = omega arith
wide_so (x ∷ xs) h zero = ltb-true x (2 ^ 64) (and_parts (ltb x (2 ^ 64)) (wide xs) h).0
wide_so (x ∷ xs) h (suc p) = wide_so xs (and_parts (ltb x (2 ^ 64)) (wide xs) h).1 p

wide_append : (xs ys : List ℕ) → Wide xs → Wide ys → Wide (xs ++ ys)
wide_append [] ys a b p = b p
wide_append (x ∷ xs) ys a b zero = a 0
wide_append (x ∷ xs) ys a b (suc p) = wide_append xs ys (λ q. a (suc q)) b p

wide_zeros : (n : ℕ) → Wide (replicate n 0)
wide_zeros n p = subst (λ (x : ℕ). x < 2 ^ 64) (sym (getD_zeros n p)) (omega arith)

-- ---- set bits

abbrev tally : ℕ → ℕ → ℕ
tally zero n = 0
tally (suc d) n = n % 2 + tally d (n / 2)

ones_none : ones 0 ≡ 0
unfolding ones ones_in
ones_none = refl

ones_tally : (d n : ℕ) → n < 2 ^ d → ones n ≡ tally d n
ones_tally zero n l = let e : n ≡ 0 = omega arith in ap ones e ∙ ones_none
ones_tally (suc d) n l = ones_step n ∙ ap (λ (m : ℕ). n % 2 + m) (ones_tally d (n / 2) (omega (arith, pow-suc 2 d)))

abbrev pub tallies : List ℕ → ℕ
tallies [] = 0
tallies (x ∷ xs) = tally 64 x + tallies xs

ones_tallies : (xs : List ℕ) → wide xs ≡ true → ones_of xs ≡ tallies xs
ones_tallies [] h = refl
ones_tallies (x ∷ xs) h =
    let parts = and_parts (ltb x (2 ^ 64)) (wide xs) h in
    ap₂ ◌+◌ (ones_tally 64 x (ltb-true x (2 ^ 64) parts.0)) (ones_tallies xs parts.1)

ones_zeros : (xs : List ℕ) (n : ℕ) → ones_of (xs ++ replicate n 0) ≡ ones_of xs
ones_zeros [] zero = refl
ones_zeros [] (suc n) = omega (arith, ones_none, ones_zeros [] n)
ones_zeros (x ∷ xs) n = ap (λ (m : ℕ). ones x + m) (ones_zeros xs n)

-- ---- the seat

module _ (s : Sheet) (ps : List Plain) (says : map plain (rules_of s) ≡ ps) (count : ℕ) (counts : length (words_in s) ≡ count)
    (ns ws : List ℕ) (es : List Entry) (t : tells ps ns ws es ≡ true) (f : fitting ps count ws es ≡ true) where
  abbrev numbers : List ℕ
  numbers = front ws ++ table ps es (length ws)

  few : length ws ≤ 20
  few = leb-true (length ws) 20 (and_parts (leb (length ws) 20) _ f).0

  fit : span (length ws) ≤ 924
  fit = leb-true (span (length ws)) 924 (and_parts (leb (span (length ws)) 924) _ (and_parts (leb (length ws) 20) _ f).1).0

  others : (all (λ w. ltb w count) ws && (wide (front ws) && wide (used ps es (length ws)))) ≡ true
  others = (and_parts (leb (span (length ws)) 924) _ (and_parts (leb (length ws) 20) _ f).1).1

  all_wide : (wide (front ws) && wide (used ps es (length ws))) ≡ true
  all_wide = (and_parts (all (λ w. ltb w count) ws) _ others).1

  wide_used : wide (used ps es (length ws)) ≡ true
  wide_used = (and_parts (wide (front ws)) _ all_wide).1

  long : length (front ws) ≡ 21
  long = omega (arith, length-append ws (replicate (20 - length ws) 0), length-replicate {A = ℕ} (20 - length ws) 0, few)

  table_is : drop 21 numbers ≡ table ps es (length ws)
  table_is = drop_at (front ws) (table ps es (length ws)) 21 long

  table_long : length (table ps es (length ws)) ≡ 924
  table_long =
      length-append (used ps es (length ws)) (replicate (924 - span (length ws)) 0)
      ∙ (omega (arith, length-replicate {A = ℕ} (924 - span (length ws)) 0, length-map-range_with_len (marks ps es) 0 (span (length ws)), fit))

  pub seated : Seated s ws numbers
  seated = record {
    wide =
        wide_append (front ws) (table ps es (length ws)) (wide_so (front ws) (and_parts (wide (front ws)) _ all_wide).0)
        (wide_append (used ps es (length ws)) (replicate (924 - span (length ws)) 0) (wide_so (used ps es (length ws)) wide_used) (wide_zeros (924 - span (length ws))));
    seat = record {
      size = length-append (front ws) (table ps es (length ws)) ∙ ap₂ ◌+◌ long table_long;
      few = few;
      listed = λ n l. subst (λ (m : ℕ). get_or ws n 0 < m) (sym counts) (ltb-true (get_or ws n 0) count (all_get_d (λ w. ltb w count) ws (and_parts (all (λ w. ltb w count) ws) _ others).0 n l));
      words = take_at (front ws) (table ps es (length ws)) 21 long;
      table =
          λ j l.
          let one = and_parts (closed ps (left_of ps 0) ws ns es) _ t in
          let two = and_parts (sound ps (left_of ps 0) ws es) _ one.1 in
          subst (λ (xs : List ℕ). Column (grammar_of s) ws xs j) (sym table_is)
          (column (grammar_of s) ps says (left_of ps 0) (sym (left_is (grammar_of s) ps says 0)) ws ns es one.0 two.0 two.1 j);
    };
  }

  pub the_seat : (So : List ℕ → Type 0) → So numbers → The (Seated s ws) So
  the_seat So so = record {
    it = numbers;
    such = seated;
    only = λ other x. one_record s ws other numbers x.wide seated.wide x.seat seated.seat;
    so = so;
  }

  pub held_is : ones_of (drop 21 numbers) ≡ tallies (used ps es (length ws))
  held_is = ap ones_of table_is ∙ ones_zeros (used ps es (length ws)) (924 - span (length ws)) ∙ ones_tallies (used ps es (length ws)) wide_used

  pub number_is : (p : ℕ) → get_or (drop 21 numbers) p 0 ≡ get_or (table ps es (length ws)) p 0
  number_is p = ap (λ (xs : List ℕ). get_or xs p 0) table_is
