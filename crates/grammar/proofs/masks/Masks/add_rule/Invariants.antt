use Rattle.std.proofs.Common.{◌≡◌, ◌<◌, List, [], ◌++◌, length, take}
use Rattle.grammar.specs.Grammar.{right}
use Rattle.grammar.specs.Dotted.{Place, dots}
use Rattle.grammar.specs.inner.Marking.{Held}
use Rattle.grammar.proofs.masks.Masks.add_rule.Given as goal

-- the first k places are in; each tells that the right side is as long as the rule says
abbrev pub invariant-loop-k : goal.invariant-loop-k
invariant-loop-k l =
    (0 < l.k → length (right l.rule) ≡ l.rule.len)
    × ((before : List Place) → length before ≡ l.start → Held before l.nullable l.initial.self
    → Held (before ++ take l.k (dots l.rule.left [] (right l.rule))) l.nullable l.self)
