use Rattle.std.proofs.Common.{Err, refl}
use Rattle.faults.specs.Faults.{told, telling}
use Rattle.beachwhisk.specs.Calls.{done, no_sheet}
use Rattle.beachwhisk.proofs.hall.beachwhisk_open.Goals as goal

pub returns-in-Ok : goal.returns-in-Ok
returns-in-Ok c = (telling c.open.result, c.into.ensures, done c.in-Ok.sheet c.in-Ok.ensures (c.open.ensures.opened, c.open.ensures.kept, c.open.ensures.first))

pub returns-in-Err : goal.returns-in-Err
returns-in-Err c = let t = told c.in-Err.fault in (Err t, c.into-in-Err.ensures, no_sheet t c.in-Err.ensures refl refl)
