use Rattle.readings.specs.inner.Columns.{marked}
use Rattle.readings.specs.inner.Cells.{RepricedIn}
use Rattle.readings.proofs.offers.reprice.Given as goal

abbrev pub invariant-loop-r : goal.invariant-loop-r
invariant-loop-r g l = RepricedIn l.rules.list.now g.S.Scale.measure l.cell l.a l.r (marked g.S.Scale.measure l.offers.prices.now l.offers.marks)
