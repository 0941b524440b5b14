-- What the library's calls answer, in numbers. Assumes nothing.
use Rattle.std.specs.Prelude.{◌≡◌, ℕ, Ok, Err, Result}
use Rattle.faults.specs.declared.Fault.{Fault}
use Rattle.faults.specs.Faults.{Told, told}
use Rattle.readings.specs.declared.read.Reading.{Reading}
use Rattle.beachwhisk.specs.declared.answer.Answer.{Answer}
use Rattle.beachwhisk.specs.declared.answer.ReadAnswer.{ReadAnswer}

-- code 0 and the value, or the refusal's number with its place and its layer
abbrev pub answer_of : Result ℕ Told → Answer
answer_of (Ok n) = record { code = 0; place = 0; layer = 0; value = n }
answer_of (Err t) = record { code = t.number; place = t.place; layer = t.layer; value = 0 }

-- the same of a reading: the form's length and its price
abbrev pub reading_of : Result (Reading ℕ) Told → ReadAnswer
reading_of (Ok d) = record { code = 0; place = 0; layer = 0; length = d.length; price = d.price }
reading_of (Err t) = record { code = t.number; place = t.place; layer = t.layer; length = 0; price = 0 }

-- the same where a price becomes a number
abbrev pub Tells : {P : Type 0} → (P → ℕ → Type 0) → Result (Reading P) Fault → ReadAnswer → Type 0
Tells Becomes (Ok d) answer = (price : ℕ) × Becomes d.price price × (answer ≡ reading_of (Ok (record { length = d.length; price = price })))
Tells Becomes (Err f) answer = answer ≡ reading_of (Err (told f))
