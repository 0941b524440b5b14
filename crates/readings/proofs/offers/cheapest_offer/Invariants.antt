use Rattle.readings.specs.inner.Columns.{marked}
use Rattle.readings.specs.inner.Cells.{Picking}
use Rattle.readings.proofs.offers.cheapest_offer.Given as goal

abbrev pub invariant-loop-r : goal.invariant-loop-r
invariant-loop-r g l = Picking g.S.Scale.measure (marked g.S.Scale.measure l.offers.prices.now l.offers.marks) l.r-counter l.best
