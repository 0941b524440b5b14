use Rattle.std.proofs.Common.{sym, ap, arith, get_or-take}
use Rattle.grammar.specs.declared.Rule.{Rule}
use Rattle.grammar.specs.Grammar.{no_rule}
use Rattle.grammar.proofs.Views.{rules_formed}
use Rattle.grammar.proofs.sheet.Sheet.start.Goals as goal

pub returns : goal.returns
returns c =
    let s = c.args.self.now in
    let d = s.draft in
    let e = ap (λ (p : Rule). p.left) (get_or-take d.rules.len d.rules.items 0 no_rule s.some) in
    record { is = sym e; low = omega (arith, (rules_formed s 0 (omega (arith, d.rules.whole, s.some))).0) }
