use Rattle.grammar.proofs.Closures.{Progress}
use Rattle.grammar.proofs.closure.expand.Given as goal

abbrev pub invariant-loop-rule : goal.invariant-loop-rule
invariant-loop-rule l = Progress l.words l.rules l.rule-index l.set l.next
