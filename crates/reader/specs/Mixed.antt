-- A run, and then a source of another kind heard on the same hall. Assumes nothing.
use Rattle.std.specs.Prelude.{◌≡◌, ℕ, ◌≢◌, List, [], ◌∷◌, length, Err, Result}
use Rattle.faults.specs.declared.Refusal.TheVariants.{NoSuchSeat}
use Rattle.faults.specs.Faults.{Told}
use Rattle.grammar.specs.declared.sheet.Sheet.{Sheet}
use Rattle.sources.specs.Meanings.{Meaning}
use Rattle.seats.specs.Standing.{Kept, open_all, hear_at}
use Rattle.seats.specs.Answers.{fault, Answered}
use Rattle.readings.specs.declared.read.Reading.{Reading}
use Rattle.readings.specs.Scales.{Scale}
use Rattle.reader.specs.declared.performing.Turn.{Turn}
use Rattle.reader.specs.Reads.{Lent, Refused}
use Rattle.reader.specs.Runs.{calls_of, Answers, ReadAfter}

-- the run as it is by itself, with its reading; and the source, which meant m and then means m', heard after it at seat k, where hear answers r
pub record Joined {T P : Type 0} (means : T → Meaning) (s : Sheet) (S : Scale P) (k : ℕ) (hall : List ℕ) (turns : List (Turn T)) (b : Lent P) (m : Meaning)
    (read : Result (Reading P) Told) (r : Result ℕ Told) (hall' : List ℕ) (turns' : List (Turn T)) (b' : Lent P) (m' : Meaning) : Type 0 where
  pub no_hall : length hall ≢ 3780 → Refused NoSuchSeat b read b' × (turns' ≡ turns) × (r ≡ Err (fault NoSuchSeat 0)) × (m' ≡ m) × (hall' ≡ hall)
  pub answers : length hall ≡ 3780 → Answers means s (open_all ∷ []) turns turns'
  pub reading : length hall ≡ 3780 → ReadAfter s S (calls_of means turns) k b read b'
  pub heard : length hall ≡ 3780 → Answered s (calls_of means turns) (hear_at k m) r (hear_at k m')
  pub kept : length hall ≡ 3780 → Kept s (hear_at k m ∷ calls_of means turns) hall'
