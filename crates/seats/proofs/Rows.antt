-- The first 21 numbers of a seat: the count and the words.
use Rattle.std.proofs.Common.{◌≡◌, ℕ, suc, ◌+◌, ◌-◌, ◌<◌, ◌≤◌, List, [], ◌∷◌, ◌++◌, length, get_or, take, set, replicate, sym, refl, ap, ◌∙◌, append_assoc, one-add, arith}
use Rattle.std.proofs.lemmas.List.{set_at, take_all, take_more, length_push, length-take-le, get_or_append_left}

abbrev pub row : List ℕ → List ℕ
row ws = length ws ∷ (ws ++ replicate (20 - length ws) 0)

pub row_count : (ws xs : List ℕ) → xs ≡ row ws → get_or xs 0 0 ≡ length ws
row_count ws xs e = ap (λ (ys : List ℕ). get_or ys 0 0) e

pub row_word : (ws xs : List ℕ) (n : ℕ) → xs ≡ row ws → n < length ws → get_or xs (1 + n) 0 ≡ get_or ws n 0
row_word ws xs n e h = ap (λ (ys : List ℕ). get_or ys (1 + n) 0) e ∙ ap (λ (i : ℕ). get_or (row ws) i 0) (one-add n) ∙ get_or_append_left ws (replicate (20 - length ws) 0) 0 n h

-- the number after those of vs, and the count
put_row : (vs rest : List ℕ) (k v w m : ℕ) → set (set (k ∷ (vs ++ (v ∷ rest))) (length vs + 1) w) 0 m ≡ m ∷ (vs ++ (w ∷ rest))
put_row vs rest k v w m =
    let on : length vs + 1 ≡ suc (length vs) = omega arith in
    ap (λ (i : ℕ). set (set (k ∷ (vs ++ (v ∷ rest))) i w) 0 m) on ∙ ap (λ (ys : List ℕ). m ∷ ys) (set_at vs v rest w (length vs) refl)

zeros : (n : ℕ) → n < 20 → replicate {A = ℕ} (20 - n) 0 ≡ 0 ∷ replicate (20 - (n + 1)) 0
zeros n h = let e : 20 - n ≡ suc (20 - (n + 1)) = omega arith in ap (λ (i : ℕ). replicate {A = ℕ} i 0) e

add_row : (ws xs : List ℕ) (w : ℕ) → length ws < 20 → xs ≡ row ws → set (set xs (length ws + 1) w) 0 (length ws + 1) ≡ row (ws ++ (w ∷ []))
add_row ws xs w h e =
    let rest = replicate {A = ℕ} (20 - (length ws + 1)) 0 in
    ap (λ (ys : List ℕ). set (set ys (length ws + 1) w) 0 (length ws + 1)) (e ∙ ap (λ (ys : List ℕ). length ws ∷ (ws ++ ys)) (zeros (length ws) h))
    ∙ put_row ws rest (length ws) 0 w (length ws + 1)
    ∙ ap (λ (ys : List ℕ). (length ws + 1) ∷ ys) (sym (append_assoc ws (w ∷ []) rest))
    ∙ ap (λ (n : ℕ). n ∷ ((ws ++ (w ∷ [])) ++ replicate (20 - n) 0)) (sym (length_push ws w))

take_row : (vs xs : List ℕ) (v : ℕ) → length vs < 20 → xs ≡ row (vs ++ (v ∷ [])) → set (set xs (length vs + 1) 0) 0 (length vs) ≡ row vs
take_row vs xs v h e =
    let rest = replicate {A = ℕ} (20 - (length vs + 1)) 0 in
    ap (λ (ys : List ℕ). set (set ys (length vs + 1) 0) 0 (length vs))
    (e ∙ ap (λ (n : ℕ). n ∷ ((vs ++ (v ∷ [])) ++ replicate (20 - n) 0)) (length_push vs v) ∙ ap (λ (ys : List ℕ). (length vs + 1) ∷ ys) (append_assoc vs (v ∷ []) rest))
    ∙ put_row vs rest (length vs + 1) v 0 (length vs)
    ∙ ap (λ (ys : List ℕ). length vs ∷ (vs ++ ys)) (sym (zeros (length vs) h))

module _ (ws xs : List ℕ) (n : ℕ) (long : length ws ≡ n) (is : xs ≡ row ws) where
  pub row_added : (w : ℕ) → n < 20 → set (set xs (n + 1) w) 0 (n + 1) ≡ row (ws ++ (w ∷ []))
  row_added w h = ap (λ (i : ℕ). set (set xs (i + 1) w) 0 (i + 1)) (sym long) ∙ add_row ws xs w (omega arith) is

  pub row_taken : 0 < n → n ≤ 20 → set (set xs n 0) 0 (n - 1) ≡ row (take (n - 1) ws)
  row_taken some few =
      let vs = take (n - 1) ws in
      let m : length vs ≡ n - 1 = length-take-le (n - 1) ws (omega arith) in
      let on : n ≡ length vs + 1 = omega arith in
      let split : ws ≡ vs ++ (get_or ws (n - 1) 0 ∷ []) = sym (take_all (n - 1 + 1) ws (omega arith)) ∙ take_more ws (n - 1) 0 (omega arith) in
      ap (λ (i : ℕ). set (set xs n 0) 0 i) (sym m) ∙ ap (λ (i : ℕ). set (set xs i 0) 0 (length vs)) on ∙ take_row vs xs (get_or ws (n - 1) 0) (omega arith) (is ∙ ap row split)
