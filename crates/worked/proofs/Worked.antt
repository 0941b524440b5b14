-- The worked cases, by one test.
use Rattle.std.proofs.Common.{◌≡◌, true, refl}
use Rattle.worked.specs.Cases.{cases, Worked}
use Rattle.worked.proofs.Checked.{check_all, all_checked}
use Rattle.worked.proofs.Certificates.{certificates}

all_pass : check_all cases certificates ≡ true
all_pass = refl

pub worked : Worked
worked = all_checked cases certificates all_pass
