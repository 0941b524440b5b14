use Rattle.std.proofs.Common.{ℕ, ◌<◌}
use Rattle.grammar.specs.Closure.{HasTree}
use Rattle.grammar.proofs.closure.treeless_name.Given as goal

-- the names before this one have trees
abbrev pub invariant-loop-a : goal.invariant-loop-a
invariant-loop-a l = (b : ℕ) → b < l.a → HasTree l.rules b
