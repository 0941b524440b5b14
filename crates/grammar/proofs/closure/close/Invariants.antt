use Rattle.std.proofs.Common.{◌-◌, ◌^◌}
use Rattle.grammar.specs.inner.Closing.{Sound}
use Rattle.grammar.proofs.closure.close.Given as goal

-- each name of the set has a tree
abbrev pub invariant-loop-set : goal.invariant-loop-set
invariant-loop-set l = Sound l.words l.rules l.set

-- a set that is not closed grows
abbrev pub decreases-loop-set : goal.decreases-loop-set
decreases-loop-set l = 2 ^ 64 - l.set
