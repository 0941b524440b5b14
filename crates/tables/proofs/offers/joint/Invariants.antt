use Rattle.tables.specs.inner.Cells.{Joint}
use Rattle.tables.proofs.offers.joint.Given as goal

abbrev pub invariant-loop-i : goal.invariant-loop-i
invariant-loop-i l = Joint l.table l.n l.i l.set.words
