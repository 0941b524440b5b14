-- Whole runs: what every list of calls on one hall answers and leaves, and what reading it then gives. Assumes nothing.
use Rattle.std.specs.Prelude.{◌≡◌, ℕ, ◌<◌, ◌≤◌, ◌≢◌, List, [], ◌∷◌, length, Result}
use Rattle.faults.specs.declared.Refusal.TheVariants.{NoSuchSeat, BufferTooShort}
use Rattle.faults.specs.Faults.{Told, telling}
use Rattle.grammar.specs.declared.sheet.Sheet.{Sheet}
use Rattle.sources.specs.Meanings.{Meaning}
use Rattle.seats.specs.Standing.{Standing, Kept, open_all, clear_at, say_at, back_at, hear_at}
use Rattle.seats.specs.Standing as standing
use Rattle.seats.specs.Answers.{Answered}
use Rattle.readings.specs.declared.read.Reading.{Reading}
use Rattle.readings.specs.Scales.{Scale}
use Rattle.reader.specs.declared.performing.Call.{Call}
use Rattle.reader.specs.declared.performing.Call.TheVariants.{Open, Clear, Say, Back, Hear}
use Rattle.reader.specs.declared.performing.Turn.{Turn}
use Rattle.reader.specs.Reads.{Lent, Room, Refused, Reads}

-- a call by its arguments, a source by what it means
abbrev pub called : {T : Type 0} → (T → Meaning) → Call T → standing.Call
called means Open = open_all
called means (Clear k) = clear_at k
called means (Say k w) = say_at k w
called means (Back k) = back_at k
called means (Hear k source) = hear_at k (means source)

-- the calls cs and then those of the turns, the newest first
abbrev pub followed : {T : Type 0} → (T → Meaning) → List standing.Call → List (Turn T) → List standing.Call
followed means cs [] = cs
followed means cs (t ∷ ts) = followed means (called means t.call ∷ cs) ts

-- the calls of a run: open, and then those of the turns
abbrev pub calls_of : {T : Type 0} → (T → Meaning) → List (Turn T) → List standing.Call
calls_of means turns = followed means (open_all ∷ []) turns

-- each turn's answer, and what its source means then, as the rules say after the calls before it
abbrev pub Answers : {T : Type 0} → (T → Meaning) → Sheet → List standing.Call → List (Turn T) → List (Turn T) → Type 0
Answers means s cs [] [] = Unit {0}
Answers means s cs [] (t' ∷ ts') = ⊥
Answers means s cs (t ∷ ts) [] = ⊥
Answers means s cs (t ∷ ts) (t' ∷ ts') =
    Answered s cs (called means t.call) (telling t'.answer) (called means t'.call)
    × Answers means s (called means t.call ∷ cs) ts ts'

-- what reading a seat after the calls cs gives
pub record ReadAfter {P : Type 0} (s : Sheet) (S : Scale P) (cs : List standing.Call) (k : ℕ) (b : Lent P) (r : Result (Reading P) Told) (b' : Lent P) : Type 0 where
  pub no_seat : 4 ≤ k → Refused NoSuchSeat b r b'
  pub short : k < 4 → (Room b → ⊥) → Refused BufferTooShort b r b'
  pub reading : k < 4 → Room b → (ws : List ℕ) × Standing s k cs ws × Reads s S ws b r b'

-- a whole run on any hall: after every list of calls each seat holds exactly the words that the calls alone define, and their table;
-- each answer is as the rules say at that point; and the reading is cheapest among all derivations of the words standing
pub record Performed {T P : Type 0} (means : T → Meaning) (s : Sheet) (S : Scale P) (k : ℕ) (hall : List ℕ) (turns : List (Turn T)) (b : Lent P)
    (r : Result (Reading P) Told) (hall' : List ℕ) (turns' : List (Turn T)) (b' : Lent P) : Type 0 where
  pub no_hall : length hall ≢ 3780 → Refused NoSuchSeat b r b' × (hall' ≡ hall) × (turns' ≡ turns)
  pub kept : length hall ≡ 3780 → Kept s (calls_of means turns) hall'
  pub answers : length hall ≡ 3780 → Answers means s (open_all ∷ []) turns turns'
  pub reading : length hall ≡ 3780 → ReadAfter s S (calls_of means turns) k b r b'
