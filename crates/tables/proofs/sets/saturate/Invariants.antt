use Rattle.items.specs.Members.{room}
use Rattle.tables.specs.inner.Growth.{Grown}
use Rattle.tables.proofs.sets.saturate.Given as goal

abbrev pub invariant-loop-set : goal.invariant-loop-set
invariant-loop-set g l = Grown (goal.F-post g l.step) l.initial.set l.set

abbrev pub decreases-loop-set : goal.decreases-loop-set
decreases-loop-set g l = room l.set.words
