use Rattle.readings.specs.inner.Columns.{marked}
use Rattle.readings.specs.inner.Candidates.{OfferedTo}
use Rattle.readings.specs.inner.Cells.{shown}
use Rattle.readings.proofs.offers.offer_all.Given as goal

abbrev pub invariant-loop-r : goal.invariant-loop-r
invariant-loop-r g l = OfferedTo l.rules.list.now g.S.Scale.measure l.cell.over.ground.now.words.now (shown g.S.Scale.measure l.cell.over.ground.now) l.cell.over.i l.cell.over.j l.cell.k l.r (marked g.S.Scale.measure l.offers.prices.now l.offers.marks)
