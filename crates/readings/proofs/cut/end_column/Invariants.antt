use Rattle.std.proofs.Common.{◌≡◌, ℕ, ◌<◌, ◌≤◌, cond, eqb, Some, None}
use Rattle.readings.specs.inner.Columns.{marked}
use Rattle.readings.proofs.cut.end_column.Given as goal

abbrev pub invariant-loop-n : goal.invariant-loop-n
invariant-loop-n g l = (m : ℕ) → l.i ≤ m → m < l.n → marked g.S.Scale.measure l.column.prices.now l.column.marks m ≡ cond (eqb m l.j) (Some g.S.Scale.measure.unit) None
