use Rattle.std.proofs.Common.{arith}
use Rattle.grammar.proofs.Dots.{upto_none, upto_more, upto_all}
use Rattle.grammar.proofs.masks.Masks.add_rule.Goals as goal

pub loop-k-init : goal.loop-k-init
loop-k-init c = (
  λ h. absurd (omega arith),
  λ before l h. upto_none c.args.rule.now before c.args.nullable c.args.self.now h,
)

pub loop-k-preserved : goal.loop-k-preserved
loop-k-preserved c =
    let whole = c.add_place.ensures.whole in (
      λ h. whole,
      λ before l h. upto_more c.args.rule.now before c.args.nullable c.args.start c.loop-k.k c.loop-k.self c.add_place.new.self l (omega arith) (c.loop-k.invariant.1 before l h) c.add_place.ensures.grown,
    )

pub returns : goal.returns
returns c =
    let whole = c.loop-k.invariant.0 (omega arith) in
    record {
      whole = whole;
      added = λ before l h. upto_all c.args.rule.now before c.args.nullable c.loop-k.k c.loop-k.self (omega arith) (c.loop-k.invariant.1 before l h);
    }
