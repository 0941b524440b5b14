-- What each call answers where words stand at its seat. Assumes nothing.
use Rattle.std.specs.Prelude.{◌≡◌, ℕ, ◌-◌, ◌<◌, ◌≤◌, ◌⊎◌, List, [], ◌∷◌, ◌++◌, length, take, Some, None, Ok, Err, Option, Result}
use Rattle.faults.specs.declared.Layer.TheVariants.{Seat as Seats}
use Rattle.faults.specs.declared.Refusal.{Refusal}
use Rattle.faults.specs.declared.Refusal.TheVariants.{UnlistedWord, NoSuchSeat, Full, LeadsNowhere, NothingToTakeBack}
use Rattle.faults.specs.Faults.{Told, met}
use Rattle.grammar.specs.declared.sheet.Sheet.{Sheet}
use Rattle.grammar.specs.View.{grammar_of}
use Rattle.tables.specs.Table.{Offered}
use Rattle.sources.specs.declared.source.Heard.{Heard}
use Rattle.sources.specs.Meanings.{Meaning}
use Rattle.seats.specs.Seats.{Listed}
use Rattle.seats.specs.Standing.{Call, open_all, clear_at, say_at, back_at, hear_at, Adds, Standing}

-- a fault of the seats' layer
abbrev pub fault : Refusal → ℕ → Told
fault refusal place = met refusal place Seats

-- why a word is not added: unlisted, then twenty words stand, then no command begins so
pub data Refuses (s : Sheet) (ws : List ℕ) (w : ℕ) (refusal : Refusal) : Type 0 where
  unlisted : (Listed s w → ⊥) → refusal ≡ UnlistedWord → Refuses s ws w refusal
  full : Listed s w → 20 ≤ length ws → refusal ≡ Full → Refuses s ws w refusal
  leads_nowhere : Listed s w → length ws < 20 → (Offered (grammar_of s) ws w → ⊥) → refusal ≡ LeadsNowhere → Refuses s ws w refusal

-- say: the words that stand after it number the answer, or the count standing is the refusal's place
pub data Said (s : Sheet) (ws : List ℕ) (w : ℕ) (r : Result ℕ Told) (vs : List ℕ) : Type 0 where
  added : Adds s ws w → vs ≡ ws ++ (w ∷ []) → r ≡ Ok (length vs) → Said s ws w r vs
  refused : (refusal : Refusal) → Refuses s ws w refusal → vs ≡ ws → r ≡ Err (fault refusal (length ws)) → Said s ws w r vs

-- back: the last word is taken off, or there is none
pub data Taken (ws : List ℕ) (r : Result ℕ Told) (vs : List ℕ) : Type 0 where
  taken : 0 < length ws → vs ≡ take (length ws - 1) ws → r ≡ Ok (length vs) → Taken ws r vs
  nothing : ws ≡ [] → vs ≡ ws → r ≡ Err (fault NothingToTakeBack 0) → Taken ws r vs

abbrev pub counted : ℕ → Option Told → Result ℕ Told
counted n None = Ok n
counted n (Some f) = Err f

-- hear, with the words ws standing and hs to come: the answer, the words that stand after it, and those not taken
abbrev pub Hears : Sheet → Option Told → List ℕ → List Heard → Result ℕ Told → List ℕ → List Heard → Type 0
Hears s e ws [] r vs rest = (r ≡ counted (length ws) e) × (vs ≡ ws) × (rest ≡ [])
Hears s e ws (h ∷ hs) r vs rest =
    (Adds s ws h.word × Hears s e (ws ++ (h.word ∷ [])) hs r vs rest)
    ⊎ ((refusal : Refusal) × Refuses s ws h.word refusal × (r ≡ Err (fault refusal h.place)) × (vs ≡ ws) × (rest ≡ hs))

-- a source that meant m was heard, and means m' then: the words not taken, the refused one being taken
pub record HeardOut (s : Sheet) (m : Meaning) (r : Result ℕ Told) (vs : List ℕ) (m' : Meaning) : Type 0 where
  pub words : Hears s m.ending [] m.words r vs m'.words
  pub ending : m'.ending ≡ m.ending

-- the seat of a call
abbrev pub place_of : Call → ℕ
place_of open_all = 0
place_of (clear_at k) = k
place_of (say_at k w) = k
place_of (back_at k) = k
place_of (hear_at k m) = k

-- a call where the words ws stand at its seat: its answer, the words that stand after it, and the call with what its source means then
abbrev pub Does : Sheet → List ℕ → Call → Result ℕ Told → List ℕ → Call → Type 0
Does s ws open_all r vs c = (r ≡ Ok 0) × (vs ≡ []) × (c ≡ open_all)
Does s ws (clear_at k) r vs c = (r ≡ Ok 0) × (vs ≡ []) × (c ≡ clear_at k)
Does s ws (say_at k w) r vs c = Said s ws w r vs × (c ≡ say_at k w)
Does s ws (back_at k) r vs c = Taken ws r vs × (c ≡ back_at k)
Does s ws (hear_at k m) r vs c = (m' : Meaning) × HeardOut s m r vs m' × (c ≡ hear_at k m')

-- what a call made after the calls cs answers
pub record Answered (s : Sheet) (cs : List Call) (c : Call) (r : Result ℕ Told) (c' : Call) : Type 0 where
  pub no_seat : 4 ≤ place_of c → (r ≡ Err (fault NoSuchSeat 0)) × (c' ≡ c)
  pub answer : place_of c < 4 → (ws : List ℕ) × (vs : List ℕ) × Standing s (place_of c) cs ws × Does s ws c r vs c'
