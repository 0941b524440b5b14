use Rattle.std.proofs.Common.{arith}
use Rattle.readings.proofs.Cuts.{column_more}
use Rattle.readings.proofs.cut.end_column.Goals as goal

pub loop-n-preserved : goal.loop-n-preserved
loop-n-preserved g c = column_more {f = _} c.args.i c.loop-n.n (c.set.ensures g.S.Scale.measure) c.end_price.ensures c.loop-n.invariant

pub returns-2 : goal.returns-2
returns-2 g c = λ n x y. column_more {f = _} c.args.i c.loop-n.n (c.set.ensures g.S.Scale.measure) c.end_price.ensures c.loop-n.invariant n x (omega arith)
