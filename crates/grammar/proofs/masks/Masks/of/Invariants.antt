use Rattle.std.proofs.Common.{◌≡◌, length, take}
use Rattle.grammar.specs.Grammar.{places}
use Rattle.grammar.specs.Dotted.{dotted}
use Rattle.grammar.specs.inner.Marking.{Held}
use Rattle.grammar.proofs.masks.Masks.of.Given as goal

-- the places of the rules so far are in, and `start` is their number
abbrev pub invariant-loop-rule : goal.invariant-loop-rule
invariant-loop-rule l =
    (places (take l.rule-index l.rules) ≡ l.start)
    × (length (dotted (take l.rule-index l.rules)) ≡ l.start)
    × Held (dotted (take l.rule-index l.rules)) l.nullable l.masks
