-- The runs of a message from the first space or byte on. Assumes nothing.
use Rattle.std.proofs.Common.{◌≡◌, ℕ, suc, ◌+◌, ◌-◌, ◌<◌, ◌≤◌, Bool, true, false, cond, List, [], ◌∷◌, length, get_or, take, drop, Some, None, Ok, Err, sym, refl, ap, ◌∙◌, ⊎_elim, one-add, arith, length-drop}
use Rattle.std.specs.List.{prefix_len}
use Rattle.std.proofs.lemmas.List.{drop-drop, drop_more, drop_all, get_or-drop}
use Rattle.std.proofs.lemmas.List.Sums.{prefix_len-le-length}
use Rattle.std.proofs.lemmas.Bool.{cases_Bool}
use Rattle.faults.specs.Faults.{Told}
use Rattle.sources.specs.Messages.{space, other, runs, verdict, worded, spoken}
use Rattle.sources.proofs.Layers.{Takes, takes_end, takes_fault, takes_word}

step : (b : ℕ) (bs : List ℕ) (p k : ℕ) → runs (p + 1 + k) true (drop k bs) ≡ runs (p + (1 + k)) true (drop (1 + k) (b ∷ bs))
step b bs p k =
    let e : p + 1 + k ≡ p + (1 + k) = omega arith in
    let d : suc k ≡ 1 + k = omega arith in
    ap (λ n. runs n true (drop k bs)) e ∙ ap (λ n. runs (p + (1 + k)) true (drop n (b ∷ bs))) d

still : (bs : List ℕ) (p n : ℕ) → n ≡ 0 → runs p true bs ≡ runs (p + n) true (drop n bs)
still bs p n z =
    let e : p ≡ p + n = omega arith in
    ap (λ q. runs q true bs) e ∙ ap (λ k. runs (p + n) true (drop k bs)) (sym z)

-- spaces before a run do not count
skip_spaces : (bs : List ℕ) (p : ℕ) → runs p true bs ≡ runs (p + prefix_len space bs) true (drop (prefix_len space bs) bs)
skip_spaces [] p = refl
skip_spaces (b ∷ bs) p =
    ⊎_elim
    (λ e. rw e (skip_spaces bs (p + 1) ∙ step b bs p (prefix_len space bs)))
    (λ e. still (b ∷ bs) p (prefix_len space (b ∷ bs)) (rw e))
    (cases_Bool (space b))

-- inside a run nothing begins until it is over
leave_run : (bs : List ℕ) (p : ℕ) → runs p false bs ≡ runs (p + prefix_len other bs) true (drop (prefix_len other bs) bs)
leave_run [] p = refl
leave_run (b ∷ bs) p =
    ⊎_elim
    (λ e. let over : runs p false (b ∷ bs) ≡ runs p true (b ∷ bs) = rw e in over ∙ still (b ∷ bs) p (prefix_len other (b ∷ bs)) (rw e))
    (λ e. rw e (leave_run bs (p + 1) ∙ step b bs p (prefix_len other bs)))
    (cases_Bool (space b))

leading_stops : (q : ℕ → Bool) (xs : List ℕ) → prefix_len q xs < length xs → q (get_or xs (prefix_len q xs) 0) ≡ false
leading_stops q [] h = absurd (omega arith)
leading_stops q (x ∷ xs) h =
    ⊎_elim
    (λ e.
    let n : prefix_len q (x ∷ xs) ≡ suc (prefix_len q xs) = ap (λ b. cond b (1 + prefix_len q xs) 0) e ∙ one-add (prefix_len q xs) in
    let l : prefix_len q xs < length xs = omega arith in
    ap (λ k. q (get_or (x ∷ xs) k 0)) n ∙ leading_stops q xs l)
    (λ e. let n : prefix_len q (x ∷ xs) ≡ 0 = rw e in ap (λ k. q (get_or (x ∷ xs) k 0)) n ∙ e)
    (cases_Bool (q x))

opened : (b : ℕ) (bs : List ℕ) (p : ℕ) → space b ≡ false → runs p true (b ∷ bs) ≡ (record { place = p; bytes = take (prefix_len other (b ∷ bs)) (b ∷ bs) }) ∷ runs (p + 1) false bs
opened b bs p e = rw e

-- a message, where the word begins and where it is over
module _ (m : List ℕ) (at s e : ℕ) (begins : s ≡ at + prefix_len space (drop at m)) (over : e ≡ s + prefix_len other (drop s m)) where
  to_start : runs at true (drop at m) ≡ runs s true (drop s m)
  to_start =
      skip_spaces (drop at m) at
      ∙ ap (λ xs. runs (at + prefix_len space (drop at m)) true xs) (drop-drop (prefix_len space (drop at m)) at m)
      ∙ ap (λ n. runs n true (drop n m)) (sym begins)

  pub over_within : s < length m → e ≤ length m
  over_within h = omega (arith, prefix_len-le-length other (drop s m), length-drop s m)

  pub text_none : length m ≤ s → runs at true (drop at m) ≡ []
  text_none h = to_start ∙ ap (runs s true) (drop_all s m h)

  no_space : s < length m → space (get_or m s 0) ≡ false
  no_space h =
      let k = prefix_len space (drop at m) in
      let short : k < length (drop at m) = omega (arith, length-drop at m) in
      ap (λ n. space (get_or m n 0)) begins ∙ ap space (sym (get_or-drop at m k 0)) ∙ leading_stops space (drop at m) short

  pub text_some : s < length m → runs at true (drop at m) ≡ (record { place = s; bytes = take (e - s) (drop s m) }) ∷ runs e true (drop e m)
  text_some h =
      let open-here = drop_more m s 0 h in
      let rest = drop (s + 1) m in
      let k = prefix_len other rest in
      let one : prefix_len other (drop s m) ≡ 1 + k = ap (prefix_len other) open-here ∙ rw (no_space h) in
      let size : prefix_len other (drop s m) ≡ e - s = omega arith in
      let there : s + 1 + k ≡ e = omega arith in
      to_start
      ∙ ap (runs s true) open-here
      ∙ opened (get_or m s 0) rest s (no_space h)
      ∙ ap (λ xs. (record { place = s; bytes = take (prefix_len other xs) xs }) ∷ runs (s + 1) false rest) (sym open-here)
      ∙ ap (λ n. (record { place = s; bytes = take n (drop s m) }) ∷ runs (s + 1) false rest) size
      ∙ ap (λ rs. (record { place = s; bytes = take (e - s) (drop s m) }) ∷ rs)
      (leave_run rest (s + 1) ∙ ap (λ xs. runs (s + 1 + k) true xs) (drop-drop k (s + 1) m) ∙ ap (λ n. runs n true (drop n m)) there)

  module _ (words : List (List ℕ)) where
    pub text_ends : length m ≤ s → Takes (Ok None) (spoken words at (drop at m)) (spoken words at (drop at m))
    text_ends h = takes_end _ (ap (worded words) (text_none h))

    pub text_faults : s < length m → (f : Told) → Err f ≡ verdict words (record { place = s; bytes = take (e - s) (drop s m) }) → Takes (Err f) (spoken words at (drop at m)) (spoken words at (drop at m))
    text_faults h f v = takes_fault _ f (ap (worded words) (text_some h) ∙ rw (← v))

    pub text_says : s < length m → (w : ℕ) → Ok w ≡ verdict words (record { place = s; bytes = take (e - s) (drop s m) }) → Takes (Ok (Some (record { word = w; place = s }))) (spoken words at (drop at m)) (spoken words e (drop e m))
    text_says h w v = takes_word _ _ w s (ap (worded words) (text_some h) ∙ rw (← v))
