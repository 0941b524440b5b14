use Rattle.std.proofs.Common.{◌+◌, ◌-◌, ◌*◌, get_or, drop, sym, ◌∙◌, arith}
use Rattle.std.proofs.lemmas.List.{at_drop_all}
use Rattle.grammar.specs.Letters.{digit}
use Rattle.sheets.specs.Limits.{number_after}
use Rattle.sheets.proofs.Cuts.{every_at, digit_least, number_after_le, number_more}
use Rattle.sheets.proofs.weights.weight.Goals as goal

pub overflow_sub-n : goal.overflow_sub-n
overflow_sub-n c = digit_least _ (every_at digit c.args.digits.now c.loop-c.c-index c.requires c.loop-c-test.true)

pub returns-then-n-gt65535 : goal.returns-then-n-gt65535
returns-then-n-gt65535 c =
    let e = number_more c.loop-c.n c.args.digits.now c.loop-c.c-index c.loop-c-test.true in
    let l = number_after_le (10 * c.loop-c.n + (get_or c.args.digits.now c.loop-c.c-index 0 - 48)) (drop (c.loop-c.c-index + 1) c.args.digits.now) in
    omega arith

pub loop-c-preserved : goal.loop-c-preserved
loop-c-preserved c = (
  c.if-n-gt65535.false,
  c.loop-c.invariant.1 ∙ number_more c.loop-c.n c.args.digits.now c.loop-c.c-index c.loop-c-test.true,
)

pub returns : goal.returns
returns c = sym (c.loop-c.invariant.1 ∙ at_drop_all (number_after c.loop-c.n) c.args.digits.now c.loop-c.c-index (omega arith))
