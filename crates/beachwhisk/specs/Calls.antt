-- The contracts of the library's calls: those of the hall, on a sheet that the given text means. Assumes nothing.
use Rattle.std.specs.Prelude.{◌≡◌, ℕ, List, [], ◌∷◌, length, Ok, Err, Result}
use Rattle.faults.specs.Faults.{Told}
use Rattle.grammar.specs.declared.sheet.Sheet.{Sheet}
use Rattle.grammar.specs.View.{words_in}
use Rattle.sheets.specs.Texts.{Loaded, Refused}
use Rattle.sources.specs.Piles.{piled}
use Rattle.seats.specs.Standing.{Call, Kept, open_all, clear_at, say_at, back_at}
use Rattle.seats.specs.Calls.{Opened, Changed, Anew, Keeps, MessageHeard, Looked, Held, Offers}
use Rattle.readings.specs.declared.read.Reading.{Reading}
use Rattle.readings.specs.Scales.{Scale}
use Rattle.reader.specs.Reads.{Lent, Read}

-- a call that is given a sheet's text: what it does with a sheet that the text means, or the loader's refusal, which leaves all as it was
pub data Given {A : Type 0} (text : List ℕ) (Does : Sheet → Result A Told → Type 0) (Left : Type 0) (r : Result A Told) : Type 0 where
  done : (s : Sheet) → Loaded text s → Does s r → Given text Does Left r
  no_sheet : (t : Told) → Refused text t → r ≡ Err t → Left → Given text Does Left r

-- load: how many words the sheet has
abbrev pub Load : List ℕ → Result ℕ Told → Type 0
Load text r = Given text (λ s a. a ≡ Ok (length (words_in s))) (Unit {0}) r

abbrev pub Open : List ℕ → List ℕ → Result ℕ Told → List ℕ → Type 0
Open text hall r hall' =
    Given text (λ s a. Opened s hall a hall' × Keeps s open_all hall hall' × (length hall ≡ 3780 → Kept s (open_all ∷ []) hall')) (hall' ≡ hall) r

abbrev pub Clear : List ℕ → ℕ → List ℕ → Result ℕ Told → List ℕ → Type 0
Clear text k hall r hall' = Given text (λ s a. Anew s k (clear_at k) hall a hall' (clear_at k) × Keeps s (clear_at k) hall hall') (hall' ≡ hall) r

abbrev pub Say : List ℕ → ℕ → ℕ → List ℕ → Result ℕ Told → List ℕ → Type 0
Say text k w hall r hall' = Given text (λ s a. Changed s k (say_at k w) hall a hall' × Keeps s (say_at k w) hall hall') (hall' ≡ hall) r

abbrev pub Back : List ℕ → ℕ → List ℕ → Result ℕ Told → List ℕ → Type 0
Back text k hall r hall' = Given text (λ s a. Changed s k (back_at k) hall a hall' × Keeps s (back_at k) hall hall') (hall' ≡ hall) r

-- hear, through the server's pile
abbrev pub Hear : List ℕ → ℕ → List ℕ → List ℕ → Result ℕ Told → List ℕ → Type 0
Hear text k message hall r hall' = Given text (λ s a. MessageHeard s k message hall a hall') (hall' ≡ hall) r

abbrev pub Offer : List ℕ → ℕ → List ℕ → Result ℕ Told → Type 0
Offer text k hall r = Given text (λ s a. Looked s k hall a (Offers s)) (Unit {0}) r

abbrev pub CountHeld : List ℕ → ℕ → List ℕ → Result ℕ Told → Type 0
CountHeld text k hall r = Given text (λ s a. Looked s k hall a (Held hall k)) (Unit {0}) r

-- a reading on a scale
abbrev pub ReadOn : {P : Type 0} → Scale P → List ℕ → ℕ → List ℕ → Lent P → Result (Reading P) Told → Lent P → Type 0
ReadOn S text k hall b r b' = Given text (λ s a. Read s S k hall b a b') (b' ≡ b) r

-- whichever sheet of a text the calls before were made with, they left the same
abbrev pub OneHall : Type 0
OneHall = (text : List ℕ) (s t : Sheet) → Loaded text s → Loaded text t → (cs : List Call) (hall : List ℕ) → Kept s cs hall → Kept t cs hall

-- and a message means the same
abbrev pub OneHearing : Type 0
OneHearing = (text : List ℕ) (s t : Sheet) → Loaded text s → Loaded text t → (message : List ℕ) → piled s message ≡ piled t message
