use Rattle.std.proofs.Common.{◌≡◌, ◌+◌, subst, sym, rules, arith}
use Rattle.readings.specs.inner.Columns.{marked}
use Rattle.readings.specs.inner.Cells.{Picking}
use Rattle.readings.proofs.Offering.{price_in, pick_of, picking_keep, picking_take}
use Rattle.readings.proofs.offers.cheapest_offer.Goals as goal
use Rattle.readings.proofs.offers.cheapest_offer.Goals.{then-improves, else-improves}

pub loop-r-preserved : goal.loop-r-preserved
loop-r-preserved g c =
    let S = g.S.Scale.measure in
    let L = g.met.S.Scale.lawful in
    let col = marked S c.args.offers.now.prices.now c.args.offers.now.marks in
    let e : c.map.result ≡ price_in S L col c.loop-r.best = search rules in
    elim c.if-improves.branch [
      | then-improves w ↦
          let f : c.if-improves.best ≡ pick_of S L col c.loop-r.r-counter c.get-offer.result = search rules in
          subst (Picking S col (c.loop-r.r-counter + 1)) (sym f) (picking_take S L col c.loop-r.r-counter c.loop-r.best c.get-offer.result (c.get-offer.ensures S) (rw e at (c.improves.ensures.yes w.if-improves.true)) c.loop-r.invariant)
      | else-improves w ↦
          subst (Picking S col (c.loop-r.r-counter + 1)) (sym w.best-is) (picking_keep S L col c.loop-r.r-counter c.loop-r.best c.get-offer.result (c.get-offer.ensures S) (rw e at (c.improves.ensures.no w.if-improves.false)) c.loop-r.invariant)
    ]

pub returns : goal.returns
returns g c = let e : c.loop-r.r-counter ≡ c.args.n = omega arith in rw e at c.loop-r.invariant
