-- What is found of a message on a sheet, each finding by the definitions that the calls' contracts cite. Assumes nothing.
use Rattle.std.specs.Prelude.{◌≡◌, ℕ, ◌^◌, ◌<◌, List, [], length, drop, Ok, Err, Result, slice_index}
use Rattle.std.specs.List.{AllByRecursion}
use Rattle.faults.specs.declared.Refusal.{Refusal}
use Rattle.faults.specs.Faults.{Told}
use Rattle.grammar.specs.declared.sheet.Sheet.{Sheet}
use Rattle.grammar.specs.Trees.{Command}
use Rattle.grammar.specs.View.{grammar_of, Blank}
use Rattle.sources.specs.Meanings.{Meaning}
use Rattle.sources.specs.Piles.{piled}
use Rattle.seats.specs.Seats.{Seat}
use Rattle.seats.specs.Answers.{fault, HeardOut}
use Rattle.seats.specs.Calls.{ones_of, Offers}
use Rattle.readings.specs.Scales.{Scale, points, worst}
use Rattle.readings.specs.Cheapest.{Cheapest}
use Rattle.worked.specs.Lathe.{HoldTheLathe}

-- there is exactly one such thing, and this is so of it
pub record The {A : Type 0} (Such : A → Type 0) (So : A → Type 0) : Type 0 where
  pub it : A
  pub such : Such it
  pub only : (other : A) → Such other → other ≡ it
  pub so : So it

-- a hearing: the answer, the words that stand after it, and what the source means then
pub record Hearing : Type 0 where
  pub answer : Result ℕ Told
  pub standing : List ℕ
  pub left : Meaning

-- the message was heard so through the server's pile
abbrev pub Heard : Sheet → List ℕ → Hearing → Type 0
Heard s message h = HeardOut s (piled s message) h.answer h.standing h.left

-- numbers of 64 bits are those of a seat where the words stand
pub record Seated (s : Sheet) (ws numbers : List ℕ) : Type 0 where
  pub wide : (p : ℕ) → slice_index numbers p < 2 ^ 64
  pub seat : Seat s ws numbers

-- a reading: the form, and its price
pub record Reading : Type 0 where
  pub form : List ℕ
  pub price : ℕ

-- a cheapest reading of the words, written to an empty list
abbrev pub Read : Sheet → Scale ℕ → List ℕ → Reading → Type 0
Read s scale ws r = Cheapest (grammar_of s) scale ws [] r.form (length r.form) r.price

-- some cheapest reading of the words has this price
abbrev pub Priced : Sheet → Scale ℕ → List ℕ → ℕ → Type 0
Priced s scale ws price = (form : List ℕ) × Read s scale ws (record { form = form; price = price })

pub data Finding : Type 0 where
  -- the message is heard to its end, and these words stand
  stand : List ℕ → Finding
  -- it is refused at this place of it, and these words stand
  refused : Refusal → ℕ → List ℕ → Finding
  -- what held and offer then answer
  held : ℕ → Finding
  offer : ℕ → Finding
  -- what stands at this position of the table
  number : ℕ → ℕ → Finding
  -- the words standing are no command
  no_command : Finding
  -- the reading by points: its form and its price
  by_points : List ℕ → ℕ → Finding
  -- the price of a reading by worst: of several cheapest ones any may be read
  by_worst : ℕ → Finding

abbrev pub Found : Sheet → Hearing → Finding → Type 0
Found s h (stand ws) = (h.answer ≡ Ok (length ws)) × (h.standing ≡ ws)
Found s h (refused refusal place ws) = (h.answer ≡ Err (fault refusal place)) × (h.standing ≡ ws)
Found s h (held n) = The (Seated s h.standing) (λ numbers. ones_of (drop 21 numbers) ≡ n)
Found s h (offer n) = Offers s h.standing n
Found s h (number p n) = The (Seated s h.standing) (λ numbers. slice_index (drop 21 numbers) p ≡ n)
Found s h no_command = Command (grammar_of s) h.standing → ⊥
Found s h (by_points form price) = The (Read s points h.standing) (λ r. (r.form ≡ form) × (r.price ≡ price))
Found s h (by_worst price) = The (Priced s worst h.standing) (λ p. p ≡ price)

-- the two sheets of the cases, and what a sheet must say to be one of them
pub data Said : Type 0 where
  blank : Said
  lathe_sheet : Said

abbrev pub Says : Said → Sheet → Type 0
Says blank s = Blank s
Says lathe_sheet s = HoldTheLathe s

pub record Case : Type 0 where
  pub sheet : Said
  pub message : List ℕ
  pub findings : List Finding

-- on every sheet that says so, the message is heard in one way, and all that is listed is found
abbrev pub Agrees : Case → Type 0
Agrees c = (s : Sheet) → Says c.sheet s → The (Heard s c.message) (λ h. AllByRecursion (Found s h) c.findings)
