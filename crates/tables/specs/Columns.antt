-- Where a table of numbers keeps its dotted rules, and what makes a column of it exact. Assumes nothing.
use Rattle.std.specs.Prelude.{◌≡◌, ℕ, zero, suc, ◌+◌, ◌*◌, ◌/◌, ◌<◌, ◌≤◌, true, ◌⊎◌, List, [], ◌∷◌, length, slice_index}
use Rattle.items.specs.Members.{member}
use Rattle.grammar.specs.declared.Rule.{Rule}
use Rattle.grammar.specs.Grammar.{Grammar, right}
use Rattle.tables.specs.Table.{Stands}
use Rattle.tables.specs.Steps.{Cells}

-- the first dotted place of the r-th rule: a rule of m symbols has m + 1
abbrev pub first_place : List Rule → ℕ → ℕ
first_place [] r = 0
first_place (p ∷ ps) zero = 0
first_place (p ∷ ps) (suc r) = suc (length (right p)) + first_place ps r

-- cell (i, j) among the cells, column after column
abbrev pub cell : ℕ → ℕ → ℕ
cell i j = j * (j + 1) / 2 + i

-- the four numbers of cell (i, j)
unfoldable pub cell_of : List ℕ → ℕ → ℕ → List ℕ
cell_of table i j = slice_index table (4 * cell i j) ∷ (slice_index table (4 * cell i j + 1) ∷ (slice_index table (4 * cell i j + 2) ∷ (slice_index table (4 * cell i j + 3) ∷ [])))

-- the set has rule r with its dot after k symbols
abbrev pub Has : Grammar → List ℕ → ℕ → ℕ → Type 0
Has g xs r k = member xs (first_place g.rules r + k) ≡ true

-- rule r with its dot after k symbols is in cell (i, j)
abbrev pub Held : Grammar → List ℕ → Cells
Held g table i j r k = Has g (cell_of table i j) r k

-- place d is that of a dotted rule that stands in cell (i, j)
pub record Standing (g : Grammar) (ws : List ℕ) (i j d : ℕ) : Type 0 where
  pub by : ℕ
  pub dot : ℕ
  pub is : d ≡ first_place g.rules by + dot
  pub stands : Stands g ws i j by dot

-- all that the set has stands in cell (i, j)
abbrev pub Sure : Grammar → List ℕ → ℕ → ℕ → List ℕ → Type 0
Sure g ws i j xs = (d : ℕ) → d < 256 → member xs d ≡ true → Standing g ws i j d

-- column m has what stands there, and every other bit of it is clear
pub record Column (g : Grammar) (ws : List ℕ) (table : List ℕ) (m : ℕ) : Type 0 where
  pub only : (i : ℕ) → i ≤ m → Sure g ws i m (cell_of table i m)
  pub holds : (i r k : ℕ) → Stands g ws i m r k → Held g table i m r k

-- column j is next, where w is word j: the columns before it are done
pub record Next (g : Grammar) (ws : List ℕ) (table : List ℕ) (j w : ℕ) : Type 0 where
  pub within : j ≤ length ws
  pub word : (n : ℕ) → j ≡ n + 1 → slice_index ws n ≡ w
  pub columns : (n : ℕ) → n < j → Column g ws table n

-- every number outside column j is as it was
pub record Beside (old new : List ℕ) (j : ℕ) : Type 0 where
  pub others : (p : ℕ) → (p < 4 * cell 0 j) ⊎ (4 * cell 0 j + 4 * (j + 1) ≤ p) → slice_index new p ≡ slice_index old p
  pub size : length new ≡ length old
