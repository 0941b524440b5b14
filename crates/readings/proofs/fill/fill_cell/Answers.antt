use Rattle.std.proofs.Common.{◌≡◌, refl, ◌∙◌, add-one, arith}
use Rattle.readings.proofs.Fills.{filling_start, filling_done, filling_full}
use Rattle.readings.proofs.fill.fill_cell.Goals as goal

pub loop-k-init : goal.loop-k-init
loop-k-init g c = record {
  same = refl;
  filling = filling_start c.args.rules.list.now g.S.Scale.measure g.met.S.Scale.lawful _ _ _ _ (rw (add-one c.args.i) at c.requires.filled);
  gathered = rw (c.ground-ground.ensures.words, c.ground-ground.ensures.prices, c.ground-ground.ensures.numbers) at c.offer_all.ensures;
}

pub price_next-requires : goal.price_next-requires
price_next-requires g c = (
  omega arith,
  (omega arith, (rw c.loop-k.invariant.same (omega arith, omega arith, omega arith), (rw c.loop-k.invariant.same c.loop-k.invariant.filling, rw c.loop-k.invariant.same c.loop-k.invariant.gathered))),
)

pub loop-k-preserved : goal.loop-k-preserved
loop-k-preserved g c = record {
  same = c.price_next.ensures.same ∙ c.loop-k.invariant.same;
  filling = rw c.loop-k.invariant.same at (c.price_next.ensures.filling c.if-not-price_next.false);
  gathered = rw c.loop-k.invariant.same at (c.price_next.ensures.gathered c.if-not-price_next.false);
}

pub returns-clause-filled : goal.returns-clause-filled
returns-clause-filled g c =
    let e : c.loop-k.k ≡ 32 = omega arith in
    let f = rw e at c.loop-k.invariant.filling in
    filling_done c.args.rules.list.now g.S.Scale.measure g.met.S.Scale.lawful _ _ _ _ 32 f (filling_full c.args.rules.list.now g.S.Scale.measure g.met.S.Scale.lawful _ _ _ _ f (λ r h. (c.args.rules.formed r h).0))
