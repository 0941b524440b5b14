use Rattle.std.proofs.Common.{take, refl, arith}
use Rattle.grammar.specs.Dotted.{dotted}
use Rattle.grammar.proofs.Dots.{held_rule, length_rule, places_rule, room_rule, masked, fitting}
use Rattle.grammar.proofs.masks.Masks.of.Goals as goal

pub loop-rule-init : goal.loop-rule-init
loop-rule-init c = (refl, refl, c.none-masks.ensures c.args.nullable)

pub add_rule-requires : goal.add_rule-requires
add_rule-requires c = (record {
  formed = c.requires.all_formed c.loop-rule.rule-index c.loop-rule-test.true;
  len_bound = room_rule c.args.rules.now c.loop-rule.rule-index c.loop-rule-test.true c.loop-rule.start c.loop-rule.invariant.0 c.requires.rules_bound;
})

pub overflow_add-start-in-loop-rule : goal.overflow_add-start-in-loop-rule
overflow_add-start-in-loop-rule c =
    let room = room_rule c.args.rules.now c.loop-rule.rule-index c.loop-rule-test.true c.loop-rule.start c.loop-rule.invariant.0 c.requires.rules_bound in
    omega arith

pub loop-rule-preserved : goal.loop-rule-preserved
loop-rule-preserved c =
    let rules = c.args.rules.now in
    let i = c.loop-rule.rule-index in
    let listed = c.loop-rule-test.true in
    let inv = c.loop-rule.invariant in (
      places_rule rules i listed c.loop-rule.start inv.0,
      length_rule rules i listed c.loop-rule.start inv.1 c.add_rule.ensures.whole,
      held_rule rules i listed c.args.nullable c.add_rule.new.self (c.add_rule.ensures.added (dotted (take i rules)) inv.1 inv.2),
    )

pub returns : goal.returns
returns c =
    let inv = c.loop-rule.invariant in
    record {
      masked = masked c.args.rules.now c.loop-rule.rule-index c.args.nullable c.loop-rule.masks c.loop-rule-test.false inv.2;
      fitting = fitting c.args.rules.now c.loop-rule.rule-index c.loop-rule.start c.loop-rule-test.false inv.0 inv.1 c.requires.rules_bound;
    }
