-- The contract of reading a seat. Assumes nothing.
use Rattle.std.specs.Prelude.{◌≡◌, ℕ, ◌≤◌, List, length, Ok, Err, Result}
use Rattle.faults.specs.declared.Refusal.{Refusal}
use Rattle.faults.specs.declared.Refusal.TheVariants.{NoSuchSeat, BrokenRecord, NoCommand, BufferTooShort}
use Rattle.faults.specs.Faults.{Told}
use Rattle.grammar.specs.declared.sheet.Sheet.{Sheet}
use Rattle.grammar.specs.Trees.{Command}
use Rattle.grammar.specs.View.{grammar_of}
use Rattle.seats.specs.Seats.{Seat, Whole, seat}
use Rattle.seats.specs.Answers.{fault}
use Rattle.seats.specs.Calls.{Addressed}
use Rattle.readings.specs.declared.read.Reading.{Reading}
use Rattle.readings.specs.Scales.{Scale}
use Rattle.readings.specs.Cheapest.{Cheapest}

-- what read is lent, besides the hall: the list, the prices and the numbers
pub record Lent (P : Type 0) : Type 0 where
  pub list : List ℕ
  pub prices : List P
  pub numbers : List ℕ

-- they are long enough
pub record Room {P : Type 0} (b : Lent P) : Type 0 where
  pub list : 10240 ≤ length b.list
  pub prices : 8192 ≤ length b.prices
  pub numbers : 8192 ≤ length b.numbers

-- refused, with nothing written anywhere
abbrev pub Refused : {P : Type 0} → Refusal → Lent P → Result (Reading P) Told → Lent P → Type 0
Refused refusal b r b' = (r ≡ Err (fault refusal 0)) × (b' ≡ b)

-- the reading of words: a cheapest derivation of them, its form in the list and the list's other bytes as before; or they are no command.
-- What the prices and numbers hold after a reading is free.
pub data Reads {P : Type 0} (s : Sheet) (S : Scale P) (ws : List ℕ) (b : Lent P) (r : Result (Reading P) Told) (b' : Lent P) : Type 0 where
  reading : (d : Reading P) → r ≡ Ok d → Cheapest (grammar_of s) S ws b.list b'.list d.length d.price → Reads s S ws b r b'
  no_command : (Command (grammar_of s) ws → ⊥) → Refused NoCommand b r b' → Reads s S ws b r b'

-- read at seat k. Where the numbers there are the record of no list of words, the answer is free: only the refusals are promised.
pub record Read {P : Type 0} (s : Sheet) (S : Scale P) (k : ℕ) (hall : List ℕ) (b : Lent P) (r : Result (Reading P) Told) (b' : Lent P) : Type 0 where
  pub no_seat : (Addressed hall k → ⊥) → Refused NoSuchSeat b r b'
  pub broken : Addressed hall k → (Whole s (seat hall k) → ⊥) → Refused BrokenRecord b r b'
  pub short : Addressed hall k → Whole s (seat hall k) → (Room b → ⊥) → Refused BufferTooShort b r b'
  pub exact : Addressed hall k → Room b → (ws : List ℕ) → Seat s ws (seat hall k) → Reads s S ws b r b'
