-- The words standing after a list of calls, by the calls alone, and what a hall then holds. Assumes nothing.
use Rattle.std.specs.Prelude.{◌≡◌, ℕ, ◌-◌, ◌<◌, ◌≢◌, ◌⊎◌, List, [], ◌∷◌, ◌++◌, length, take}
use Rattle.grammar.specs.declared.sheet.Sheet.{Sheet}
use Rattle.grammar.specs.View.{grammar_of}
use Rattle.tables.specs.Table.{Offered}
use Rattle.sources.specs.declared.source.Heard.{Heard}
use Rattle.sources.specs.Meanings.{Meaning}
use Rattle.seats.specs.Seats.{Listed, Seat, seat}

-- a call by its arguments; a source by what it means
pub data Call : Type 0 where
  open_all : Call
  clear_at : ℕ → Call
  say_at : ℕ → ℕ → Call
  back_at : ℕ → Call
  hear_at : ℕ → Meaning → Call

-- the word is on the sheet, there is room for it, and some command begins so
pub record Adds (s : Sheet) (ws : List ℕ) (w : ℕ) : Type 0 where
  pub listed : Listed s w
  pub room : length ws < 20
  pub offered : Offered (grammar_of s) ws w

-- say: the word at the end, or the words as they were
abbrev pub Spoken : Sheet → List ℕ → ℕ → List ℕ → Type 0
Spoken s ws w vs = (Adds s ws w × (vs ≡ ws ++ (w ∷ []))) ⊎ ((Adds s ws w → ⊥) × (vs ≡ ws))

-- say for each word, until the end or a word not added
abbrev pub SpokenAll : Sheet → List ℕ → List Heard → List ℕ → Type 0
SpokenAll s ws [] vs = vs ≡ ws
SpokenAll s ws (h ∷ hs) vs = (Adds s ws h.word × SpokenAll s (ws ++ (h.word ∷ [])) hs vs) ⊎ ((Adds s ws h.word → ⊥) × (vs ≡ ws))

-- what a call at seat t does to the words ws standing at seat k
abbrev pub Here : ℕ → ℕ → List ℕ → List ℕ → Type 0 → Type 0
Here t k ws vs Does = (t ≡ k → Does) × (t ≢ k → vs ≡ ws)

-- what a call does to the words ws standing at seat k: they become vs
abbrev pub Step : Sheet → ℕ → List ℕ → Call → List ℕ → Type 0
Step s k ws open_all vs = vs ≡ []
Step s k ws (clear_at t) vs = Here t k ws vs (vs ≡ [])
Step s k ws (say_at t w) vs = Here t k ws vs (Spoken s ws w vs)
Step s k ws (back_at t) vs = Here t k ws vs (vs ≡ take (length ws - 1) ws)
Step s k ws (hear_at t m) vs = Here t k ws vs (SpokenAll s [] m.words vs)

-- the words standing at seat k after the calls, the newest first
abbrev pub Standing : Sheet → ℕ → List Call → List ℕ → Type 0
Standing s k [] ws = ws ≡ []
Standing s k (c ∷ cs) ws = (vs : List ℕ) × Standing s k cs vs × Step s k vs c ws

-- the words standing are one list
abbrev pub OneList : Type 0
OneList = (s : Sheet) (k : ℕ) (cs : List Call) (ws vs : List ℕ) → Standing s k cs ws → Standing s k cs vs → ws ≡ vs

-- a hall after the calls: each seat holds exactly the words standing there, and their table
pub record Kept (s : Sheet) (cs : List Call) (hall : List ℕ) : Type 0 where
  pub size : length hall ≡ 3780
  pub seats : (k : ℕ) → k < 4 → (ws : List ℕ) × Standing s k cs ws × Seat s ws (seat hall k)
