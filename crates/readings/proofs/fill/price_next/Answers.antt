use Rattle.std.proofs.Common.{None, refl, arith}
use Rattle.readings.proofs.Fills.{filling_last, filling_next}
use Rattle.readings.proofs.Offering.{foremost_best, repriced_none}
use Rattle.readings.proofs.fill.price_next.Goals as goal

pub returns-in_default-clause-last : goal.returns-in_default-clause-last
returns-in_default-clause-last g c =
    λ _. filling_last c.args.rules.list.now g.S.Scale.measure g.met.S.Scale.lawful _ _ _ _ c.args.k 0 None refl
    (foremost_best c.args.rules.list.now g.S.Scale.measure g.met.S.Scale.lawful _ _ _ _ _ _ _ _ c.requires.gathered c.in_default.ensures) c.requires.filling

pub offset_bounds-rules-pick : goal.offset_bounds-rules-pick
offset_bounds-rules-pick g c = let h = (c.in-Some.ensures.stands c.in-Some.pick.price refl).0 in omega (arith, h)

pub bounds-rules-pick : goal.bounds-rules-pick
bounds-rules-pick g c = (c.in-Some.ensures.stands c.in-Some.pick.price refl).0

pub put-requires : goal.put-requires
put-requires g c =
    let h = (c.in-Some.ensures.stands c.in-Some.pick.price refl).0 in
    (omega arith, omega arith, (c.args.rules.formed c.in-Some.pick.rule h).0, omega arith, omega arith)

pub reprice-requires : goal.reprice-requires
reprice-requires g c = (
  omega arith,
  (
    omega arith,
    rw (c.ground-ground.ensures.words, c.ground-ground.ensures.prices, c.ground-ground.ensures.numbers, c.put.ensures.words)
        (repriced_none g.S.Scale.measure g.met.S.Scale.lawful _ _ _ _ _ _ _ _ _ (c.put.ensures.adds g.S.Scale.measure) c.requires.filling.ranked c.args.rules.list.now _ c.requires.gathered),
  ),
)

pub returns-clause-filling : goal.returns-clause-filling
returns-clause-filling g c =
    let h = (c.in-Some.ensures.stands c.in-Some.pick.price refl).0 in
    λ _. filling_next c.args.rules.list.now g.S.Scale.measure g.met.S.Scale.lawful _ _ _ _ c.args.k _ c.in-Some.pick.rule _ c.in-Some.pick.price refl (omega arith) (omega arith)
    (c.args.rules.formed c.in-Some.pick.rule h).0 (foremost_best c.args.rules.list.now g.S.Scale.measure g.met.S.Scale.lawful _ _ _ _ _ _ _ _ c.requires.gathered c.in-Some.ensures) (c.put.ensures.adds g.S.Scale.measure) c.requires.filling

pub returns-clause-gathered : goal.returns-clause-gathered
returns-clause-gathered g c = λ _. rw (c.ground-ground.ensures.words, c.ground-ground.ensures.prices, c.ground-ground.ensures.numbers, c.put.ensures.words) at c.reprice.ensures
