-- The first place that passes, or the length. Assumes nothing.
use Rattle.std.proofs.Common.{◌≡◌, ℕ, Bool, eqb, not, List, [], ◌∷◌, length, take, refl, arith, ◌≤◌, inl, inr, one-add}
use Rattle.std.specs.List.{position, position_or_len}
use Rattle.std.specs.Option.{unwrap_or}
use Rattle.std.proofs.lemmas.Bool.{cases_Bool, cases_lt, lt-ltb, le-ltb}
use Rattle.std.proofs.lemmas.List.Sums.{prefix_len-le-length}
use Rattle.answers.specs.Input.{Unended}

pub place_within : {X : Type 0} (p : X → Bool) (xs : List X) → position_or_len p xs ≤ length xs
place_within p xs = prefix_len-le-length (λ x. not (p x)) xs

-- `position`, and the length where it gives nothing
pub place_or_len : {X : Type 0} (p : X → Bool) (xs : List X) → unwrap_or (position p xs) (length xs) ≡ position_or_len p xs
place_or_len p xs = elim (cases_lt (position_or_len p xs) (length xs)) [
  | inl l ↦ rw (lt-ltb (position_or_len p xs) (length xs) l) refl
  | inr l ↦ rw (le-ltb (position_or_len p xs) (length xs) l) (let w = place_within p xs in omega arith)
]

-- no end of a line stands before the first
pub unended_before : (bs : List ℕ) → Unended (take (position_or_len (λ b. eqb b 10) bs) bs)
unended_before [] = tt
unended_before (b ∷ bs) = elim (cases_Bool (eqb b 10)) [
  | inl e ↦ rw e tt
  | inr e ↦ rw (e, one-add) (grind arith, unended_before bs)
]
