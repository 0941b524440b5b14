-- The table of a seat, lent to a call.
use Rattle.std.proofs.Common.{◌≡◌, ℕ, ◌-◌, ◌<◌, ◌≤◌, List, ◌++◌, length, take, drop, Some, Option, ap, ◌∙◌, subst, arith}
use Rattle.std.specs.Array.{IsWholeChunk}
use Rattle.std.specs.Borrow.{Bor, MutBor}
use Rattle.std.specs.Option.{MatchOption}
use Rattle.std.proofs.lemmas.List.{drop_at, take_all, take_at, length-append, length-drop, length-take-le}

-- what a call of `last_chunk_mut` says of what it lends
abbrev pub LastOf : List ℕ → Option (MutBor (List ℕ)) → Type 0
LastOf xs r = MatchOption r (length xs < 924) (λ y. (924 ≤ length xs) × IsWholeChunk (drop (length xs - 924) xs) y.now 924)

module _ (xs : List ℕ) (size : length xs ≡ 945) where
  where_table : length xs - 924 ≡ 21
  where_table = omega arith

  pub all_of : take 924 (drop 21 xs) ≡ drop 21 xs
  all_of = take_all 924 (drop 21 xs) (omega (arith, length-drop 21 xs))

  pub lent_is : (r : Option (MutBor (List ℕ))) (own : MutBor (List ℕ)) → r ≡ Some own → LastOf xs r → own.now ≡ drop 21 xs
  lent_is r own e m = (subst (λ (o : Option (MutBor (List ℕ))). LastOf xs o) e m).1.same ∙ ap (λ (n : ℕ). drop n xs) where_table

  pub table_long : (own ys : List ℕ) → own ≡ drop 21 xs → length ys ≡ length own → length ys ≡ 924
  table_long own ys e same = omega (arith, same, ap length e, length-drop 21 xs)

  -- the same, of a call of `last_chunk`
  pub shown_is : (r : Option (Bor (List ℕ))) (own : Bor (List ℕ)) → r ≡ Some own → MatchOption r (length xs < 924) (λ y. (924 ≤ length xs) × IsWholeChunk (drop (length xs - 924) xs) y.now 924) → own.now ≡ drop 21 xs
  shown_is r own e m =
      (subst (λ (o : Option (Bor (List ℕ))). MatchOption o (length xs < 924) (λ y. (924 ≤ length xs) × IsWholeChunk (drop (length xs - 924) xs) y.now 924)) e m).1.same
      ∙ ap (λ (n : ℕ). drop n xs) where_table

  -- ys is what the table holds when it comes back
  module _ (ys : List ℕ) (long : length ys ≡ 924) where
    back : take (length xs - 924) xs ++ ys ≡ take 21 xs ++ ys
    back = ap (λ (n : ℕ). take n xs ++ ys) where_table

    words : length (take 21 xs) ≡ 21
    words = length-take-le 21 xs (omega arith)

    pub back_words : take 21 (take (length xs - 924) xs ++ ys) ≡ take 21 xs
    back_words = ap (take 21) back ∙ take_at (take 21 xs) ys 21 words

    pub back_table : drop 21 (take (length xs - 924) xs ++ ys) ≡ ys
    back_table = ap (drop 21) back ∙ drop_at (take 21 xs) ys 21 words

    pub back_size : length (take (length xs - 924) xs ++ ys) ≡ 945
    back_size = ap length back ∙ omega (arith, length-append (take 21 xs) ys, words)
