use Rattle.faults.specs.Faults.{telling}
use Rattle.beachwhisk.proofs.Readings.{exact}
use Rattle.beachwhisk.proofs.reading.beachwhisk_read_points.Goals as goal

pub returns : goal.returns
returns c = (telling c.read_on.result, exact _ _ c.into.ensures, c.read_on.ensures)
