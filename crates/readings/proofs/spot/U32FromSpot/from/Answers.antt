use Rattle.std.proofs.Common.{refl}
use Rattle.readings.specs.inner.Places.{packed}
use Rattle.readings.proofs.spot.U32FromSpot.from.Goals as goal

pub returns : goal.returns
unfolding packed
returns c = refl
