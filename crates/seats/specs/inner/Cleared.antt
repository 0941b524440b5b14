-- A column of a table that is cleared. Assumes nothing.
use Rattle.std.specs.Prelude.{◌≡◌, ℕ, ◌+◌, ◌*◌, ◌<◌, ◌≤◌, List, slice_index}
use Rattle.tables.specs.Columns.{cell, Beside}

-- position p is one of column j
abbrev pub InColumn : ℕ → ℕ → Type 0
InColumn j p = (4 * cell 0 j ≤ p) × (p < 4 * cell 0 j + 4 * (j + 1))

-- every number of column j is 0, and every other is as it was
pub record Cleared (old new : List ℕ) (j : ℕ) : Type 0 where
  pub clear : (p : ℕ) → InColumn j p → slice_index new p ≡ 0
  pub beside : Beside old new j
