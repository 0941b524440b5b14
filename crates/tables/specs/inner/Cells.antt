-- The cells of a table, and a column of it while it is filled. Assumes nothing.
use Rattle.std.specs.Prelude.{◌≡◌, ℕ, ◌+◌, ◌*◌, ◌<◌, ◌≤◌, true, ◌⊎◌, List, length, slice_index}
use Rattle.items.specs.Members.{member, bit, Common}
use Rattle.items.specs.declared.Items.{Items}
use Rattle.grammar.specs.declared.Symbol.TheVariants.{Name, Word}
use Rattle.grammar.specs.Grammar.{Grammar, rule, right}
use Rattle.tables.specs.Table.{At}
use Rattle.tables.specs.Steps.{Full}
use Rattle.tables.specs.Columns.{cell, cell_of, Has, Held, Sure, Column}
use Rattle.tables.specs.inner.Sets.{set_at, Skips, Over}

-- cell (i, j) is in the table
pub record InTable (i j : ℕ) : Type 0 where
  pub ordered : i ≤ j
  pub low : j ≤ 20

-- cell (i, j) now has the words, and every number outside it is as it was
pub record Stored (old new : List ℕ) (i j : ℕ) (xs : List ℕ) : Type 0 where
  pub here : cell_of new i j ≡ xs
  pub others : (p : ℕ) → (p < 4 * cell i j) ⊎ (4 * cell i j + 4 ≤ p) → slice_index new p ≡ slice_index old p
  pub size : length new ≡ length old

-- the columns before column j are done; of column j, the cells from lo to j - 1 are, and what passes over their names is marked
pub record Filling (g : Grammar) (ws : List ℕ) (table : List ℕ) (overs : List Items) (j lo : ℕ) : Type 0 where
  pub columns : (m : ℕ) → m < j → Column g ws table m
  pub only : (a : ℕ) → lo ≤ a → a < j → Sure g ws a j (cell_of table a j)
  pub full : (a : ℕ) → lo ≤ a → a < j → Full g ws (Held g table) a j
  pub over : (a : ℕ) → lo ≤ a → a < j → Over g (cell_of table a j) (set_at overs a)

-- what the code is handed for cell (i, j), where w is word j
pub record Ready (g : Grammar) (ws : List ℕ) (table : List ℕ) (overs : List Items) (i j w : ℕ) : Type 0 where
  pub within : j ≤ length ws
  pub word : (n : ℕ) → j ≡ n + 1 → slice_index ws n ≡ w
  pub filling : Filling g ws table overs j (i + 1)

-- xs has what comes to cell (i, j) by the last word, and by a name that begins after i and before n
pub record Gathered (g : Grammar) (ws : List ℕ) (table : List ℕ) (i j n : ℕ) (xs : List ℕ) : Type 0 where
  pub scans : (m r k : ℕ) → j ≡ m + 1 → r < length g.rules → At (rule g r) k (Word (slice_index ws m)) → Held g table i m r k → Has g xs r (k + 1)
  pub products : (m r k q : ℕ) → i < m → m < n → m < j → r < length g.rules → q < length g.rules → At (rule g r) k (Name (rule g q).left) → Held g table i m r k → Held g table m j q (length (right (rule g q))) → Has g xs r (k + 1)
  pub only : Sure g ws i j xs

-- xs is what cell (i, j) should have
pub record Made (g : Grammar) (ws : List ℕ) (table : List ℕ) (i j : ℕ) (xs : List ℕ) : Type 0 where
  pub gathered : Gathered g ws table i j j xs
  pub skips : Skips g xs
  pub chains : (r k q : ℕ) → r < length g.rules → q < length g.rules → At (rule g r) k (Name (rule g q).left) → Held g table i i r k → Has g xs q (length (right (rule g q))) → Has g xs r (k + 1)

-- xs has the first places of the rules that are wanted in cell (j, j) by the cells from lo to j - 1, and by the start
pub record Wanting (g : Grammar) (ws : List ℕ) (table : List ℕ) (j lo : ℕ) (xs : List ℕ) : Type 0 where
  pub starts : (q : ℕ) → j ≡ 0 → q < length g.rules → (rule g q).left ≡ g.start → Has g xs q 0
  pub asks : (a r k q : ℕ) → lo ≤ a → a < j → r < length g.rules → q < length g.rules → At (rule g r) k (Name (rule g q).left) → Held g table a j r k → Has g xs q 0
  pub only : Sure g ws j j xs

-- xs is the union of the cells (i, n) for i below m
pub record Joint (table : List ℕ) (n m : ℕ) (xs : List ℕ) : Type 0 where
  pub into : (i d : ℕ) → i < m → d < 256 → member (cell_of table i n) d ≡ true → member xs d ≡ true
  pub from : (d : ℕ) → d < 256 → member xs d ≡ true → (i : ℕ) × (i < m) × (member (cell_of table i n) d ≡ true)

-- bit w says whether the set has a place with its dot before word w, for w below m
pub record Expects (words : List Items) (xs : List ℕ) (m mask : ℕ) : Type 0 where
  pub into : (w : ℕ) → w < m → Common xs (set_at words w) → bit mask w ≡ true
  pub from : (w : ℕ) → bit mask w ≡ true → (w < m) × Common xs (set_at words w)
