-- Bytes cut at their first tab or end of line.
use Rattle.std.proofs.Common.{◌≡◌, ℕ, zero, suc, ◌+◌, ◌-◌, ◌*◌, ◌<◌, ◌≤◌, Bool, true, not, eqb, leb, ltb, List, [], ◌∷◌, ◌++◌, length, get_or, take, drop, position, unwrap_or, Some, None, sym, refl, ap, ◌∙◌, subst, subst₂, inl, inr, one-add, arith, ne_eqb, length-take, lt-ltb, le-ltb, eqb-true}
use Rattle.std.specs.List.{prefix_len}
use borrow.Author.Tests.{eqb-false}
use Rattle.std.proofs.lemmas.List.{take_rest, at_drop_more}
use Rattle.std.proofs.lemmas.List.Folds.{length-prefix_len}
use Rattle.std.proofs.lemmas.Bool.{cases_Bool, cases_lt, cond-true, cond-false, and_parts, and_from, not-true, not-false, leb-true}
use Rattle.grammar.specs.Letters.{every, digit}
use Rattle.sheets.specs.inner.Fields.{other, Opens, Cut}
use Rattle.sheets.specs.Limits.{number_after}

pub every_append : (p : ℕ → Bool) (xs ys : List ℕ) → every p xs ≡ true → every p ys ≡ true → every p (xs ++ ys) ≡ true
every_append p [] ys h k = k
every_append p (x ∷ xs) ys h k =
    let e = and_parts (p x) (every p xs) h in and_from (p x) (every p (xs ++ ys)) e.0 (every_append p xs ys e.1 k)

pub every_at : (p : ℕ → Bool) (xs : List ℕ) (i : ℕ) → every p xs ≡ true → i < length xs → p (get_or xs i 0) ≡ true
every_at p [] i h l = absurd (omega arith)
every_at p (x ∷ xs) zero h l = (and_parts (p x) (every p xs) h).0
every_at p (x ∷ xs) (suc i) h l = every_at p xs i (and_parts (p x) (every p xs) h).1 (omega arith)

pub other_from : (b c : ℕ) → (c ≡ b → ⊥) → other b c ≡ true
other_from b c n = ap not (ne_eqb c b n)

prefix_len_le : (p : ℕ → Bool) (xs : List ℕ) → prefix_len p xs ≤ length xs
prefix_len_le p xs = omega (arith, length-prefix_len p xs, length-take (prefix_len p xs) xs)

-- the bytes before the first b, and the rest
cut_first : (b : ℕ) (bs : List ℕ) → Cut b bs (take (prefix_len (other b) bs) bs) (drop (prefix_len (other b) bs) bs)
cut_first b [] = (refl, refl, tt)
cut_first b (c ∷ bs) = elim (cases_Bool (other b c)) [
  | inl e ↦
      let h = cut_first b bs in
      subst (λ n. Cut b (c ∷ bs) (take n (c ∷ bs)) (drop n (c ∷ bs))) (sym (one-add (prefix_len (other b) bs)) ∙ sym (cond-true (other b c) (1 + prefix_len (other b) bs) 0 e))
      (ap (λ x. c ∷ x) h.0, and_from (other b c) (every (other b) (take (prefix_len (other b) bs) bs)) e h.1, h.2)
  | inr e ↦ subst (λ n. Cut b (c ∷ bs) (take n (c ∷ bs)) (drop n (c ∷ bs))) (sym (cond-false (other b c) (1 + prefix_len (other b) bs) 0 e)) (refl, refl, eqb-true c b (not-false (eqb c b) e))
]

pub end_at : (b : ℕ) (bs : List ℕ) → unwrap_or (position (λ c. eqb c b) bs) (length bs) ≡ prefix_len (other b) bs
end_at b bs =
    let n = prefix_len (other b) bs in
    let few = prefix_len_le (other b) bs in
    elim (cases_lt n (length bs)) [
      | inl l ↦ ap (λ o. unwrap_or o (length bs)) (cond-true (ltb n (length bs)) (Some n) None (lt-ltb n (length bs) l))
      | inr l ↦ ap (λ o. unwrap_or o (length bs)) (cond-false (ltb n (length bs)) (Some n) None (le-ltb n (length bs) l)) ∙ (omega arith)
    ]

-- cut there
pub cut_there : (b : ℕ) (bs front rest : List ℕ) (n : ℕ) → n ≡ unwrap_or (position (λ c. eqb c b) bs) (length bs) → front ≡ take n bs → rest ≡ drop n bs → Cut b bs front rest
cut_there b bs front rest n at f r =
    subst₂ (Cut b bs) (sym (f ∙ ap (λ k. take k bs) (at ∙ end_at b bs))) (sym (r ∙ ap (λ k. drop k bs) (at ∙ end_at b bs))) (cut_first b bs)

pub end_within : (b : ℕ) (bs : List ℕ) (n : ℕ) → n ≡ unwrap_or (position (λ c. eqb c b) bs) (length bs) → n ≤ length bs
end_within b bs n at = let e = at ∙ end_at b bs in let l = prefix_len_le (other b) bs in omega arith

pub first_and_rest : (bs : List ℕ) (b : ℕ) → 0 < length bs → get_or bs 0 0 ≡ b → bs ≡ b ∷ take (length bs - 1) (drop 1 bs)
first_and_rest [] b h e = absurd (omega arith)
first_and_rest (c ∷ bs) b h e = ap (λ x. x ∷ bs) e ∙ ap (λ ys. b ∷ ys) (sym (take_rest (c ∷ bs) 1))

-- a byte that is b stands in no stretch without b
opens_not_free : (b c : ℕ) (cs : List ℕ) → c ≡ b → every (other b) (c ∷ cs) ≡ true → ⊥
opens_not_free b c cs e h =
    let f = not-true (eqb c b) (and_parts (other b c) (every (other b) cs) h).0 in eqb-false c b f e

-- there is one such cut
pub cut_once : (b : ℕ) (f r f' r' : List ℕ) → f ++ r ≡ f' ++ r' → every (other b) f ≡ true → every (other b) f' ≡ true → Opens b r → Opens b r' → (f ≡ f') × (r ≡ r')
cut_once b [] r [] r' e h h' o o' = (refl, e)
cut_once b [] [] (c ∷ f') r' e h h' o o' = let z : ◌≡◌ {A = ℕ} 0 1 = cc in absurd (omega arith)
cut_once b [] (d ∷ r) (c ∷ f') r' e h h' o o' = let same : c ≡ b = cc in absurd (opens_not_free b c f' same h')
cut_once b (c ∷ f) r [] [] e h h' o o' = let z : ◌≡◌ {A = ℕ} 0 1 = cc in absurd (omega arith)
cut_once b (c ∷ f) r [] (d ∷ r') e h h' o o' = let same : c ≡ b = cc in absurd (opens_not_free b c f same h)
cut_once b (c ∷ f) r (d ∷ f') r' e h h' o o' =
    let heads : c ≡ d = cc in
    let tails : f ++ r ≡ f' ++ r' = cc in
    let below = cut_once b f r f' r' tails (and_parts (other b c) (every (other b) f) h).1 (and_parts (other b d) (every (other b) f') h').1 o o' in
    (let p = below.0 in cc, below.1)

pub number_after_le : (n : ℕ) (cs : List ℕ) → n ≤ number_after n cs
number_after_le n [] = omega arith
number_after_le n (c ∷ cs) = let e = number_after_le (10 * n + (c - 48)) cs in omega arith

pub digit_least : (c : ℕ) → digit c ≡ true → 48 ≤ c
digit_least c h = leb-true 48 c (and_parts (leb 48 c) (leb c 57) h).0

pub number_more : (n : ℕ) (cs : List ℕ) (i : ℕ) → i < length cs → number_after n (drop i cs) ≡ number_after (10 * n + (get_or cs i 0 - 48)) (drop (i + 1) cs)
number_more n cs i h = at_drop_more (number_after n) cs i 0 h
