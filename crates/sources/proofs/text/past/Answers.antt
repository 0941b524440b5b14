use Rattle.std.proofs.Common.{◌+◌, drop, ap, ◌∙◌, rules}
use Rattle.std.proofs.lemmas.Iterator.{YieldsList-from_slice}
use Rattle.std.proofs.lemmas.Iterator.Consumers.{count_from_yields_List}
use Rattle.std.proofs.lemmas.Iterator.Search.{YieldsList-from_take_while}
use Rattle.std.proofs.lemmas.List.Folds.{length-prefix_len}
use Rattle.sources.proofs.text.past.Goals as goal

pub returns : goal.returns
returns g c = λ test says.
    ap (λ n. c.args.from + n)
    (count_from_yields_List c.take_while.result _ c.count.ensures.ran (YieldsList-from_take_while _ test (YieldsList-from_slice (drop c.args.from c.args.bytes.now) cc) c.take_while.ensures.closure c.take_while.ensures.done (λ x b q k. search (rules, says)))
    ∙ length-prefix_len test (drop c.args.from c.args.bytes.now))
