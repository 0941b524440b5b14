use Rattle.std.proofs.Common.{sym, ◌∙◌, below_more}
use borrow.Author.Tests.{clash}
use Rattle.grammar.proofs.Closures.{exactly_trees}
use Rattle.grammar.proofs.closure.treeless_name.Goals as goal

pub returns-then-not-holds : goal.returns-then-not-holds
returns-then-not-holds c = record {
  listed = c.loop-a-test.true;
  treeless = λ t. clash (c.if-not-holds.ensures ∙ (exactly_trees _ _ c.close-set.ensures c.loop-a.a).1 t);
  lowest = c.loop-a.invariant;
}

pub loop-a-preserved : goal.loop-a-preserved
loop-a-preserved c =
    below_more _ _ c.loop-a.invariant ((exactly_trees _ _ c.close-set.ensures c.loop-a.a).0 (sym c.if-not-holds.ensures))
