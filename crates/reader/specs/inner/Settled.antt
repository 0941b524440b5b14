-- What a reading found, or not found, answers. Assumes nothing.
use Rattle.std.specs.Prelude.{Some, None, Ok, Err, Option, Result}
use Rattle.faults.specs.declared.Refusal.TheVariants.{NoCommand}
use Rattle.faults.specs.Faults.{Told}
use Rattle.seats.specs.Answers.{fault}

-- without a reading the words are no command
abbrev pub settled : {A : Type 0} → Option A → Result A Told
settled (Some x) = Ok x
settled None = Err (fault NoCommand 0)
