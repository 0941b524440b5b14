-- A price that crosses as it is. Assumes nothing.
use Rattle.std.proofs.Common.{◌≡◌, ℕ, Ok, Err, Result, ap, ◌∙◌}
use Rattle.faults.specs.declared.Fault.{Fault}
use Rattle.faults.specs.Faults.{telling}
use Rattle.readings.specs.declared.read.Reading.{Reading}
use Rattle.beachwhisk.specs.declared.answer.ReadAnswer.{ReadAnswer}
use Rattle.beachwhisk.specs.Told.{reading_of, Tells}

pub exact : (r : Result (Reading ℕ) Fault) (answer : ReadAnswer) → Tells (λ price told. told ≡ price) r answer → answer ≡ reading_of (telling r)
exact (Ok d) answer t = t.2 ∙ ap (λ p. reading_of (Ok (record { length = d.length; price = p }))) t.1
exact (Err f) answer is = is
