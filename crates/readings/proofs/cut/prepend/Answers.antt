use Rattle.std.proofs.Common.{arith}
use Rattle.readings.proofs.Cuts.{column_turn, column_last}
use Rattle.readings.proofs.cut.prepend.Goals as goal

pub loop-m-preserved : goal.loop-m-preserved
loop-m-preserved g c =
    λ s h. let f = c.loop-m.invariant s h in
    column_turn c.args.cell.now.over.i c.args.cell.now.over.j c.loop-m.m (c.set.ensures g.S.Scale.measure) f (c.extend-best.ensures s f.0)

pub returns-2 : goal.returns-2
returns-2 g c =
    λ s h. let f = c.loop-m.invariant s h in
    column_last c.args.cell.now.over.i c.args.cell.now.over.j c.loop-m.m (omega arith) (c.set.ensures g.S.Scale.measure) f (c.extend-best.ensures s f.0)
