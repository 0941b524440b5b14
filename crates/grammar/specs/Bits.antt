-- Sets of numbers, by the bits of a number. Assumes nothing.
use Rattle.std.specs.Prelude.{ℕ, ◌/◌, ◌%◌, ◌^◌, Bool, ◌==◌}

-- bit a of s is set
abbrev pub has : ℕ → ℕ → Bool
has s a = s / 2 ^ a % 2 == 1
