-- Tests over lists and over numbers below a bound.
use Rattle.std.proofs.Common.{◌≡◌, ℕ, zero, suc, ◌<◌, ◌≤◌, Bool, true, false, not, ◌&&◌, ◌||◌, List, [], ◌∷◌, subst, ⊎_elim, arith}
use Rattle.std.proofs.lemmas.Bool.{and_parts, or_cases, cases_lt, false≢true}

abbrev pub all : {A : Type 0} → (A → Bool) → List A → Bool
all p [] = true
all p (x ∷ xs) = p x && all p xs

abbrev pub any : {A : Type 0} → (A → Bool) → List A → Bool
any p [] = false
any p (x ∷ xs) = p x || any p xs

abbrev pub below : ℕ → (ℕ → Bool) → Bool
below zero p = true
below (suc n) p = p n && below n p

abbrev pub implies : Bool → Bool → Bool
implies a b = not a || b

pub implied : (a b : Bool) → implies a b ≡ true → a ≡ true → b ≡ true
implied true b h e = h
implied false b h e = absurd (false≢true e)

pub below_at : (n : ℕ) (p : ℕ → Bool) → below n p ≡ true → (k : ℕ) → k < n → p k ≡ true
below_at zero p h k l = absurd (omega arith)
below_at (suc n) p h k l =
    let parts = and_parts (p n) (below n p) h in
    ⊎_elim (λ (o : k < n). below_at n p parts.1 k o)
    (λ (o : n ≤ k). let e : n ≡ k = omega arith in subst (λ (m : ℕ). p m ≡ true) e parts.0)
    (cases_lt k n)

-- an element that passes one test, where all pass another
pub all_any : {A : Type 0} (p q : A → Bool) (xs : List A) → all p xs ≡ true → any q xs ≡ true → (x : A) × (q x ≡ true) × (p x ≡ true)
all_any p q [] h e = absurd (false≢true e)
all_any p q (x ∷ xs) h e =
    let parts = and_parts (p x) (all p xs) h in
    ⊎_elim (λ (o : q x ≡ true). (x, o, parts.0)) (λ (o : any q xs ≡ true). all_any p q xs parts.1 o) (or_cases (q x) (any q xs) e)
