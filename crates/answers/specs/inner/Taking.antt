-- One message taken from the rest. Assumes nothing.
use Rattle.std.specs.Prelude.{◌≡◌, ℕ, List, [], ◌∷◌, ◌++◌}
use Rattle.answers.specs.Input.{Unended, FullLine}

-- the message is the first line, or all of the rest where that is a line without its end
pub data Taken (rest message after : List ℕ) : Type 0 where
  with_end : Unended message → rest ≡ message ++ (10 ∷ after) → Taken rest message after
  without_end : FullLine message → rest ≡ message → after ≡ [] → Taken rest message after
