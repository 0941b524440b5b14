use Rattle.tables.specs.inner.Related.{Related}
use Rattle.tables.proofs.sets.relate.Given as goal

abbrev pub invariant-loop-a : goal.invariant-loop-a
invariant-loop-a l = Related l.keys l.values l.items.words l.set.words l.a
