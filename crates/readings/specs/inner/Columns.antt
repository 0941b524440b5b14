-- Columns of prices, of which some are there. Assumes nothing.
use Rattle.std.specs.Prelude.{◌≡◌, ℕ, ◌≤◌, Bool, false, cond, List, Some, None, Option, ◌≢◌, slice_index_or}
use Rattle.grammar.specs.declared.Symbol.{Symbol}
use Rattle.readings.specs.Scales.{Scale}
use Rattle.readings.specs.inner.Tables.{Table, CutAt}

-- a column of prices, of which the marked ones are there
abbrev pub marked : {P : Type 0} → Scale P → List P → List Bool → ℕ → Option P
marked S ps bs n = cond (slice_index_or bs n false) (Some (slice_index_or ps n S.unit)) None

-- the second column has p at n, and else what the first has
pub record Written {P : Type 0} (S : Scale P) (ps : List P) (bs : List Bool) (ps' : List P) (bs' : List Bool) (n : ℕ) (p : Option P) : Type 0 where
  pub here : marked S ps' bs' n ≡ p
  pub other : (m : ℕ) → (m ≢ n) → marked S ps' bs' m ≡ marked S ps bs m

-- the column has the cheapest cuts of the symbols to j from every position from m on
abbrev pub Column : {P : Type 0} → Scale P → List ℕ → Table P → ℕ → ℕ → ℕ → List Symbol → ℕ → (ℕ → Option P) → Type 0
Column S ws t i j k s m col = (n : ℕ) → m ≤ n → n ≤ j → CutAt S ws t i j k s n (col n)
