use Rattle.readings.proofs.Offering.{offered_more}
use Rattle.readings.proofs.offers.offer_all.Goals as goal

pub loop-r-preserved : goal.loop-r-preserved
loop-r-preserved g c = offered_more c.args.rules.list.now g.S.Scale.measure _ _ _ _ _ c.loop-r.r (c.set.ensures g.S.Scale.measure) c.offer_of-offer.ensures c.loop-r.invariant
