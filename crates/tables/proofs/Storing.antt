-- Reads and writes of cells.
use Rattle.std.proofs.Common.{◌≡◌, ℕ, zero, suc, ◌+◌, ◌-◌, ◌*◌, ◌<◌, ◌≤◌, ◌⊎◌, List, [], ◌∷◌, ◌++◌, length, get_or, take, drop, sym, refl, ap, ◌∙◌, ap₂, inl, inr, ⊎_elim, arith}
use borrow.Rule.Slice.PartMut.{put_mid}
use Rattle.std.specs.Simd.{first_chunks}
use Rattle.std.proofs.lemmas.Bool.{cases_lt}
use Rattle.std.proofs.lemmas.List.{ext_get_or, drop-drop, get_or_append_left, get_or-append_right, get_or-drop, get_or-take, length-append, length-drop, length-take, length-take-le}
use Rattle.tables.specs.Columns.{cell, cell_of}
use Rattle.tables.specs.inner.Cells.{Stored}
use Rattle.tables.proofs.Placing.{cells_same}

load_is : (table : List ℕ) (i j p : ℕ) → p ≡ 4 * cell i j → (get_or table p 0 ∷ (get_or table (p + 1) 0 ∷ (get_or table (p + 2) 0 ∷ (get_or table (p + 3) 0 ∷ [])))) ≡ cell_of table i j
unfolding cell_of
load_is table i j p e = ap {B = List ℕ} (λ (x : ℕ). get_or table x 0 ∷ (get_or table (x + 1) 0 ∷ (get_or table (x + 2) 0 ∷ (get_or table (x + 3) 0 ∷ [])))) e

-- ys has taken the place of k numbers from position a on
module _ (xs ys : List ℕ) (a k : ℕ) (long : length ys ≡ k) (within : a + k ≤ length xs) where
  front : length (take a xs) ≡ a
  front = length-take-le a xs (omega arith)

  pub put_before : (p : ℕ) → p < a → get_or (put_mid a k xs ys) p 0 ≡ get_or xs p 0
  put_before p l = get_or_append_left (take a xs) (ys ++ drop k (drop a xs)) 0 p (omega (arith, front)) ∙ get_or-take a xs p 0 l

  pub put_within : (p q : ℕ) → p ≡ a + q → q < k → get_or (put_mid a k xs ys) p 0 ≡ get_or ys q 0
  put_within p q e u =
      get_or-append_right (take a xs) (ys ++ drop k (drop a xs)) a p 0 front (omega arith)
      ∙ get_or_append_left ys (drop k (drop a xs)) 0 (p - a) (omega (arith, long))
      ∙ ap (λ (i : ℕ). get_or ys i 0) (omega arith)

  pub put_after : (p : ℕ) → a + k ≤ p → get_or (put_mid a k xs ys) p 0 ≡ get_or xs p 0
  put_after p l =
      let on : a + (k + (p - a - k)) ≡ p = omega arith in
      get_or-append_right (take a xs) (ys ++ drop k (drop a xs)) a p 0 front (omega arith)
      ∙ get_or-append_right ys (drop k (drop a xs)) k (p - a) 0 long (omega arith)
      ∙ get_or-drop k (drop a xs) (p - a - k) 0 ∙ get_or-drop a xs (k + (p - a - k)) 0 ∙ ap (λ (i : ℕ). get_or xs i 0) on

  pub put_long : length (put_mid a k xs ys) ≡ length xs
  put_long =
      omega (arith, length-append (take a xs) (ys ++ drop k (drop a xs)), length-append ys (drop k (drop a xs)), length-drop k (drop a xs), length-drop a xs, front, long)

-- a list of four numbers by its places
four_of : (xs : List ℕ) → length xs ≡ 4 → (get_or xs 0 0 ∷ (get_or xs 1 0 ∷ (get_or xs 2 0 ∷ (get_or xs 3 0 ∷ [])))) ≡ xs
four_of xs l = ext_get_or 0 (get_or xs 0 0 ∷ (get_or xs 1 0 ∷ (get_or xs 2 0 ∷ (get_or xs 3 0 ∷ [])))) xs (omega arith) (λ k h. at k (omega arith))
  where
    at : (k : ℕ) → k < 4 → get_or (get_or xs 0 0 ∷ (get_or xs 1 0 ∷ (get_or xs 2 0 ∷ (get_or xs 3 0 ∷ [])))) k 0 ≡ get_or xs k 0
    at zero u = refl
    at (suc zero) u = refl
    at (suc (suc zero)) u = refl
    at (suc (suc (suc zero))) u = refl
    at (suc (suc (suc (suc k)))) u = absurd (omega arith)

same_four : (a b c d a' b' c' d' : ℕ) → a ≡ a' → b ≡ b' → c ≡ c' → d ≡ d' → (a ∷ (b ∷ (c ∷ (d ∷ [])))) ≡ (a' ∷ (b' ∷ (c' ∷ (d' ∷ []))))
same_four a b c d a' b' c' d' p q r s = ap₂ {C = List ℕ} (λ x y. x ∷ y) p (ap₂ {C = List ℕ} (λ x y. x ∷ y) q (ap₂ {C = List ℕ} (λ x y. x ∷ y) r (ap₂ {C = List ℕ} (λ x y. x ∷ y) s refl)))

pub store_is : (t : List ℕ) (i j p : ℕ) (xs : List ℕ) → p ≡ 4 * cell i j → p + 4 ≤ length t → length xs ≡ 4 → Stored t (put_mid p 4 t xs) i j xs
store_is t i j p xs e l h =
    let new = put_mid p 4 t xs in
    let at = put_within t xs p 4 h l in
    record {
      here =
          sym (load_is new i j p e)
          ∙ same_four (get_or new p 0) (get_or new (p + 1) 0) (get_or new (p + 2) 0) (get_or new (p + 3) 0) (get_or xs 0 0) (get_or xs 1 0) (get_or xs 2 0) (get_or xs 3 0)
          (at p 0 (omega arith) (omega arith)) (at (p + 1) 1 refl (omega arith)) (at (p + 2) 2 refl (omega arith)) (at (p + 3) 3 refl (omega arith))
          ∙ four_of xs h;
      others = λ q o. ⊎_elim (λ (a : q < 4 * cell i j). put_before t xs p 4 h l q (omega arith)) (λ (a : 4 * cell i j + 4 ≤ q). put_after t xs p 4 h l q (omega arith)) o;
      size = put_long t xs p 4 h l;
    }

-- chunk p of a list cut into chunks of n
at_chunk : (n k p : ℕ) (xs : List ℕ) → p < k → get_or (first_chunks n k xs) p [] ≡ take n (drop (n * p) xs)
at_chunk n zero p xs l = absurd (omega arith)
at_chunk n (suc k) zero xs l = let e : 0 ≡ n * 0 = omega arith in ap (λ (q : ℕ). take n (drop q xs)) e
at_chunk n (suc k) (suc p) xs l =
    let e : n + n * p ≡ n * suc p = omega arith in
    at_chunk n k p (drop n xs) (omega arith) ∙ ap (λ (ys : List ℕ). take n ys) (drop-drop (n * p) n xs ∙ ap (λ (q : ℕ). drop q xs) e)

pub chunk_is : (table : List ℕ) (i j p k : ℕ) → p ≡ cell i j → p < k → 4 * p + 4 ≤ length table → get_or (first_chunks 4 k table) p [] ≡ cell_of table i j
chunk_is table i j p k e l size =
    let xs = take 4 (drop (4 * p) table) in
    let many : length xs ≡ 4 = omega (arith, length-take 4 (drop (4 * p) table), length-drop (4 * p) table) in
    at_chunk 4 k p table l ∙ sym (four_of xs many)
    ∙ same_four (get_or xs 0 0) (get_or xs 1 0) (get_or xs 2 0) (get_or xs 3 0) (get_or table (4 * p) 0) (get_or table (4 * p + 1) 0) (get_or table (4 * p + 2) 0) (get_or table (4 * p + 3) 0)
    (at 0 (4 * p) (omega arith) (omega arith)) (at 1 (4 * p + 1) refl (omega arith)) (at 2 (4 * p + 2) refl (omega arith)) (at 3 (4 * p + 3) refl (omega arith))
    ∙ load_is table i j (4 * p) (omega arith)
  where
    at : (q n : ℕ) → n ≡ 4 * p + q → q < 4 → get_or (take 4 (drop (4 * p) table)) q 0 ≡ get_or table n 0
    at q n e u = get_or-take 4 (drop (4 * p) table) q 0 u ∙ get_or-drop (4 * p) table q 0 ∙ ap (λ (m : ℕ). get_or table m 0) (sym e)

-- another cell is as it was
pub cell_kept : (old new : List ℕ) (i j : ℕ) (xs : List ℕ) → Stored old new i j xs → (a b : ℕ) → i ≤ j → a ≤ b → ((a ≡ i) × (b ≡ j) → ⊥) → cell_of new a b ≡ cell_of old a b
unfolding cell_of
cell_kept old new i j xs s a b o p n =
    same_four (get_or new (4 * cell a b) 0) (get_or new (4 * cell a b + 1) 0) (get_or new (4 * cell a b + 2) 0) (get_or new (4 * cell a b + 3) 0)
    (get_or old (4 * cell a b) 0) (get_or old (4 * cell a b + 1) 0) (get_or old (4 * cell a b + 2) 0) (get_or old (4 * cell a b + 3) 0)
    (s.others (4 * cell a b) (off 0 (4 * cell a b) (omega arith) (omega arith))) (s.others (4 * cell a b + 1) (off 1 (4 * cell a b + 1) (omega arith) refl)) (s.others (4 * cell a b + 2) (off 2 (4 * cell a b + 2) (omega arith) refl)) (s.others (4 * cell a b + 3) (off 3 (4 * cell a b + 3) (omega arith) refl))
  where
    differ : cell a b ≡ cell i j → ⊥
    differ e = n (cells_same a b i j p o e)

    off : (q x : ℕ) → q < 4 → x ≡ 4 * cell a b + q → (x < 4 * cell i j) ⊎ (4 * cell i j + 4 ≤ x)
    off q x l e =
        ⊎_elim (λ (u : cell a b < cell i j). inl (below (cell a b) (cell i j) q x l u e))
        (λ (u : cell i j ≤ cell a b). ⊎_elim (λ (v : cell i j < cell a b). inr (above (cell a b) (cell i j) q x v e)) (λ (v : cell a b ≤ cell i j). absurd (differ (both (cell a b) (cell i j) u v))) (cases_lt (cell i j) (cell a b)))
        (cases_lt (cell a b) (cell i j))
      where
        below : (m n q x : ℕ) → q < 4 → m < n → x ≡ 4 * m + q → x < 4 * n
        below m n q x l u e = omega arith

        above : (m n q x : ℕ) → n < m → x ≡ 4 * m + q → 4 * n + 4 ≤ x
        above m n q x u e = omega arith

        both : (m n : ℕ) → n ≤ m → m ≤ n → m ≡ n
        both m n u v = omega arith
