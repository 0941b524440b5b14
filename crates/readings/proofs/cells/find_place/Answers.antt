use Rattle.std.proofs.Common.{refl}
use Rattle.readings.specs.inner.Places.{place}
use Rattle.readings.proofs.Places.{place_lt}
use Rattle.readings.proofs.cells.find_place.Goals as goal

pub returns : goal.returns
unfolding place
returns c = (refl, place_lt c.args.i c.args.j c.args.a c.requires.0 c.requires.1 c.requires.2)
