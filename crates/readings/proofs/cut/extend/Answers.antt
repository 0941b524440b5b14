use Rattle.std.proofs.Common.{sym, subst, arith}
use Rattle.readings.specs.inner.Least.{Least}
use Rattle.readings.proofs.Cuts.{cut_turn, cut_last}
use Rattle.readings.proofs.cut.extend.Goals as goal

pub loop-n-preserved : goal.loop-n-preserved
loop-n-preserved g c =
    λ s h. cut_turn g.S.Scale.measure g.met.S.Scale.lawful _ _ _ _ _ c.loop-n.n c.loop-n.best c.symbol_price-first.result c.get.result c.join_both.result c.pick_cheaper-best.result
    (omega arith) c.symbol_price-first.ensures c.join_both.ensures c.pick_cheaper-best.ensures (c.loop-n.invariant s h)
    (subst (Least g.S.Scale.measure _) (sym (c.get.ensures g.S.Scale.measure)) (h c.loop-n.n (omega arith) (omega arith)))

pub returns-2 : goal.returns-2
returns-2 g c =
    λ s h. cut_last g.S.Scale.measure g.met.S.Scale.lawful _ _ _ _ _ c.loop-n.n c.loop-n.best c.symbol_price-first.result c.get.result c.join_both.result c.pick_cheaper-best.result
    (omega arith) (omega arith) c.symbol_price-first.ensures c.join_both.ensures c.pick_cheaper-best.ensures (c.loop-n.invariant s h)
    (subst (Least g.S.Scale.measure _) (sym (c.get.ensures g.S.Scale.measure)) (h c.loop-n.n (omega arith) (omega arith)))
