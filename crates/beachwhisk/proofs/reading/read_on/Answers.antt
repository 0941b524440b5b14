use Rattle.std.proofs.Common.{refl}
use Rattle.std.proofs.lemmas.Result.{err_from_is_err_and}
use Rattle.faults.specs.Faults.{told}
use Rattle.beachwhisk.specs.Calls.{done, no_sheet}
use Rattle.beachwhisk.proofs.reading.read_on.Goals as goal

pub returns-in_err-sheet : goal.returns-in_err-sheet
returns-in_err-sheet g c =
    let p = err_from_is_err_and c.from_residual.result c.from_residual.ensures.1 in
    rw (p.1, p.2) (no_sheet (told c.in_err-sheet.field-0.0) c.in_err-sheet.ensures refl refl)

pub returns : goal.returns
returns g c = done c.in_ok-sheet.sheet c.in_ok-sheet.ensures c.read.ensures
