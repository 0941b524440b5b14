use Rattle.std.proofs.Common.{sym, subst, arith}
use Rattle.readings.specs.inner.Least.{Least}
use Rattle.readings.proofs.Chosen.{choosing_keep, choosing_take, chosen_at}
use Rattle.readings.proofs.ends.choose.Goals as goal
use Rattle.readings.proofs.ends.choose.Goals.{then-improves, else-improves}

pub loop-n-preserved : goal.loop-n-preserved
loop-n-preserved g c =
    λ s h. let l : Least g.S.Scale.measure _ c.get.result = subst (Least g.S.Scale.measure _) (sym (c.get.ensures g.S.Scale.measure)) (h c.loop-n.n (omega arith) (omega arith)) in
    elim c.if-improves.branch [
      | then-improves w ↦ choosing_take g.S.Scale.measure g.met.S.Scale.lawful _ _ _ _ _ c.loop-n.n c.loop-n.to c.loop-n.best c.symbol_price-first.result c.get.result c.join_both-both.result c.if-improves.to c.if-improves.best w.to-is w.best-is
          (omega arith) c.symbol_price-first.ensures c.join_both-both.ensures l (c.improves.ensures.yes w.if-improves.true) (c.loop-n.invariant s h)
      | else-improves w ↦ choosing_keep g.S.Scale.measure g.met.S.Scale.lawful _ _ _ _ _ c.loop-n.n c.loop-n.to c.loop-n.best c.symbol_price-first.result c.get.result c.join_both-both.result c.if-improves.to c.if-improves.best w.to-is w.best-is
          (omega arith) c.symbol_price-first.ensures c.join_both-both.ensures l (c.improves.ensures.no w.if-improves.false) (c.loop-n.invariant s h)
    ]

pub returns-after-improves : goal.returns-after-improves
returns-after-improves g c =
    λ s p h l. let r : Least g.S.Scale.measure _ c.get.result = subst (Least g.S.Scale.measure _) (sym (c.get.ensures g.S.Scale.measure)) (h c.loop-n.n (omega arith) (omega arith)) in
    chosen_at g.S.Scale.measure g.met.S.Scale.lawful _ _ _ _ _ _ _ _ c.if-improves.to c.if-improves.best p l c.loop-n.n (omega arith)
    (elim c.if-improves.branch [
      | then-improves w ↦ choosing_take g.S.Scale.measure g.met.S.Scale.lawful _ _ _ _ _ c.loop-n.n c.loop-n.to c.loop-n.best c.symbol_price-first.result c.get.result c.join_both-both.result c.if-improves.to c.if-improves.best w.to-is w.best-is
          (omega arith) c.symbol_price-first.ensures c.join_both-both.ensures r (c.improves.ensures.yes w.if-improves.true) (c.loop-n.invariant s h)
      | else-improves w ↦ choosing_keep g.S.Scale.measure g.met.S.Scale.lawful _ _ _ _ _ c.loop-n.n c.loop-n.to c.loop-n.best c.symbol_price-first.result c.get.result c.join_both-both.result c.if-improves.to c.if-improves.best w.to-is w.best-is
          (omega arith) c.symbol_price-first.ensures c.join_both-both.ensures r (c.improves.ensures.no w.if-improves.false) (c.loop-n.invariant s h)
    ])
