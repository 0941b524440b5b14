use Rattle.std.proofs.Common.{arith}
use Rattle.readings.proofs.Offering.{repriced_more, repriced_same}
use Rattle.readings.proofs.offers.reprice.Goals as goal
use Rattle.readings.proofs.offers.reprice.Goals.{then-touches, else-touches}

pub loop-r-preserved : goal.loop-r-preserved
loop-r-preserved g c =
    elim c.if-touches.branch [
      | then-touches w ↦ rw w.offers-is (repriced_more c.args.rules.list.now g.S.Scale.measure _ _ _ _ _ c.args.a c.loop-r.r (w.set.ensures g.S.Scale.measure) w.offer_of-offer.ensures c.loop-r.invariant)
      | else-touches w ↦ rw w.offers-is (repriced_same c.args.rules.list.now g.S.Scale.measure _ _ _ _ _ c.args.a c.loop-r.r (omega arith) (c.touches.ensures w.if-touches.false) c.loop-r.invariant)
    ]
