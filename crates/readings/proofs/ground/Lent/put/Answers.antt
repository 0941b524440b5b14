use Rattle.std.proofs.Common.{add-one, arith}
use Rattle.readings.proofs.Places.{table_adds}
use Rattle.readings.proofs.ground.Lent.put.Goals as goal

pub returns-clause-adds : goal.returns-clause-adds
returns-clause-adds g c =
    λ S. simp (c.find_place-at.ensures.0, add-one c.args.r)
    (table_adds S c.args.self.now.prices.now c.args.self.now.numbers.now c.args.i c.args.j c.args.a c.args.p c.args.k c.args.r
    (omega arith) (omega arith) (omega arith) (omega arith) (omega arith) (omega arith))
