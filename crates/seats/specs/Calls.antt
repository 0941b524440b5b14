-- The contracts of the calls at a hall. Assumes nothing.
use Rattle.std.specs.Prelude.{◌≡◌, ℕ, ◌+◌, ◌<◌, ◌≤◌, true, ◌≢◌, ◌⊎◌, ◌↔◌, List, [], ◌∷◌, length, drop, Ok, Err, Result, count_ones}
use Rattle.std.specs.Borrow.{Bor}
use Rattle.faults.specs.declared.Fault.{Fault}
use Rattle.faults.specs.declared.Refusal.{Refusal}
use Rattle.faults.specs.declared.Refusal.TheVariants.{MessageTooLong, NoSuchSeat, BrokenRecord, LeadsNowhere}
use Rattle.faults.specs.declared.Layer.TheVariants.{Text as TextLayer}
use Rattle.faults.specs.Faults.{Told, told, met}
use Rattle.items.specs.Members.{bit}
use Rattle.grammar.specs.declared.sheet.Sheet.{Sheet}
use Rattle.grammar.specs.View.{grammar_of}
use Rattle.sources.specs.Piles.{piled}
use Rattle.tables.specs.Table.{Offered}
use Rattle.seats.specs.Seats.{Listed, Seat, Whole, seat, Apart}
use Rattle.seats.specs.Standing.{Call, Kept, hear_at}
use Rattle.seats.specs.Answers.{fault, Refuses, Does}

-- the hall has its length, and the seat is one of its four
abbrev pub Addressed : List ℕ → ℕ → Type 0
Addressed hall k = (length hall ≡ 3780) × (k < 4)

-- whether a call at seat k is refused for the seat
abbrev pub Seated : List ℕ → ℕ → Result (Unit {0}) Fault → Type 0
Seated hall k (Ok u) = Addressed hall k
Seated hall k (Err f) = (Addressed hall k → ⊥) × (told f ≡ fault NoSuchSeat 0)

-- whether a call that looks at the record at seat k is refused before it does: for the seat, then for the record
abbrev pub Barred : Sheet → List ℕ → ℕ → Result (Bor (List ℕ)) Fault → Type 0
Barred s hall k (Ok own) = Addressed hall k × Whole s (seat hall k) × (own.now ≡ seat hall k)
Barred s hall k (Err f) =
    ((Addressed hall k → ⊥) × (told f ≡ fault NoSuchSeat 0)) ⊎ (Addressed hall k × (Whole s (seat hall k) → ⊥) × (told f ≡ fault BrokenRecord 0))

-- refused, with nothing changed
abbrev pub Refused : Refusal → List ℕ → Result ℕ Told → List ℕ → Type 0
Refused refusal hall r hall' = (r ≡ Err (fault refusal 0)) × (hall' ≡ hall)

-- open
pub record Opened (s : Sheet) (hall : List ℕ) (r : Result ℕ Told) (hall' : List ℕ) : Type 0 where
  pub no_hall : length hall ≢ 3780 → Refused NoSuchSeat hall r hall'
  pub answer : length hall ≡ 3780 → r ≡ Ok 0
  pub size : length hall' ≡ length hall
  pub empty : length hall ≡ 3780 → (k : ℕ) → k < 4 → Seat s [] (seat hall' k)

-- a call at seat k that looks at the record there: say, back.
-- Where the numbers are the record of no list of words, the answer is free: only the refusals and the frame are promised.
pub record Changed (s : Sheet) (k : ℕ) (c : Call) (hall : List ℕ) (r : Result ℕ Told) (hall' : List ℕ) : Type 0 where
  pub no_seat : (Addressed hall k → ⊥) → Refused NoSuchSeat hall r hall'
  pub broken : Addressed hall k → (Whole s (seat hall k) → ⊥) → Refused BrokenRecord hall r hall'
  pub frame : Addressed hall k → Apart hall k hall'
  pub exact : Addressed hall k → (ws : List ℕ) → Seat s ws (seat hall k) → (vs : List ℕ) × Does s ws c r vs c × Seat s vs (seat hall' k)
  pub untouched : Addressed hall k → (ws : List ℕ) → Seat s ws (seat hall k) → (f : Told) → r ≡ Err f → hall' ≡ hall

-- a call at seat k that does not look at the record there: clear, hear; c' is the call with what its source means after it
pub record Anew (s : Sheet) (k : ℕ) (c : Call) (hall : List ℕ) (r : Result ℕ Told) (hall' : List ℕ) (c' : Call) : Type 0 where
  pub no_seat : (Addressed hall k → ⊥) → Refused NoSuchSeat hall r hall' × (c' ≡ c)
  pub frame : Addressed hall k → Apart hall k hall'
  pub exact : Addressed hall k → (vs : List ℕ) × Does s [] c r vs c' × Seat s vs (seat hall' k)

-- what the calls before it left, a call keeps
abbrev pub Keeps : Sheet → Call → List ℕ → List ℕ → Type 0
Keeps s c hall hall' = (cs : List Call) → Kept s cs hall → Kept s (c ∷ cs) hall'

-- what is heard of a message through the server's pile; one that is too long is not heard at all
pub data MessageHeard (s : Sheet) (k : ℕ) (message hall : List ℕ) (r : Result ℕ Told) (hall' : List ℕ) : Type 0 where
  too_long : 512 < length message → r ≡ Err (met MessageTooLong 0 TextLayer) → hall' ≡ hall → MessageHeard s k message hall r hall'
  heard : length message ≤ 512 → (rest : Call) → Anew s k (hear_at k (piled s message)) hall r hall' rest → Keeps s (hear_at k (piled s message)) hall hall' → MessageHeard s k message hall r hall'

-- the set bits of a list of numbers
abbrev pub ones_of : List ℕ → ℕ
ones_of [] = 0
ones_of (n ∷ rest) = count_ones n + ones_of rest

-- a call that only looks at seat k, and answers `Gives` of the words standing there
pub record Looked (s : Sheet) (k : ℕ) (hall : List ℕ) (r : Result ℕ Told) (Gives : List ℕ → ℕ → Type 0) : Type 0 where
  pub no_seat : (Addressed hall k → ⊥) → r ≡ Err (fault NoSuchSeat 0)
  pub broken : Addressed hall k → (Whole s (seat hall k) → ⊥) → r ≡ Err (fault BrokenRecord 0)
  pub exact : Addressed hall k → (ws : List ℕ) → Seat s ws (seat hall k) → (n : ℕ) × (r ≡ Ok n) × Gives ws n

-- held: the set bits of the seat's table
abbrev pub Held : List ℕ → ℕ → List ℕ → ℕ → Type 0
Held hall k ws n = n ≡ ones_of (drop 21 (seat hall k))

-- offer: bit w is set exactly when some command, of any length, begins with the words standing and w
abbrev pub Offers : Sheet → List ℕ → ℕ → Type 0
Offers s ws n = (w : ℕ) → (bit n w ≡ true) ↔ Offered (grammar_of s) ws w

-- offers and refusals agree
abbrev pub OfferAgrees : Type 0
OfferAgrees =
    (s : Sheet) (ws : List ℕ) (w : ℕ) → Listed s w → length ws < 20
    → Refuses s ws w LeadsNowhere ↔ (Offered (grammar_of s) ws w → ⊥)
