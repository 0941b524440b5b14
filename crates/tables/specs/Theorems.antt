-- What the table is proved by, as statements. Assumes nothing.
use Rattle.std.specs.Prelude.{◌≡◌, ℕ, ◌<◌, ◌≤◌, Bool, true, ◌↔◌, List, length, take}
use Rattle.grammar.specs.declared.Symbol.TheVariants.{Word}
use Rattle.grammar.specs.Grammar.{Grammar}
use Rattle.grammar.specs.Trees.{Command, Follows}
use Rattle.tables.specs.Table.{Offered}
use Rattle.tables.specs.Contexts.{Reached}
use Rattle.tables.specs.Columns.{Column}
use Rattle.tables.specs.Steps.{Cells, Exact, Sound, Full, Seeded, Productive, Shown, Complete}

-- the cells that a test tells
abbrev pub Told : (ℕ → ℕ → ℕ → ℕ → Bool) → Cells
Told test i j r k = test i j r k ≡ true

-- after exact columns, a sound column of full cells is exact
abbrev pub ColumnsAreExact : Type 0
ColumnsAreExact = (g : Grammar) (ws : List ℕ) (test : ℕ → ℕ → ℕ → ℕ → Bool) (j : ℕ) → j ≤ length ws → ((m : ℕ) → m < j → Exact g ws (Told test) m) → Sound g ws (Told test) j → ((i : ℕ) → i ≤ j → Full g ws (Told test) i j) → Seeded g (Told test) j → Exact g ws (Told test) j

-- the words offered are those that the last column shows
abbrev pub OffersAreShown : Type 0
OffersAreShown = (g : Grammar) → Productive g → (ws : List ℕ) (w : ℕ) → Offered g ws w ↔ ∥ Shown g ws (Word w) ∥₁

-- the commands are the words over which a rule of the start is complete
abbrev pub CommandsAreComplete : Type 0
CommandsAreComplete = (g : Grammar) (ws : List ℕ) → Command g ws ↔ ∥ Complete g ws ∥₁

-- a name follows the words exactly where a path of rules from the start leads to it
abbrev pub NamesFollowByContext : Type 0
NamesFollowByContext = (g : Grammar) (ws : List ℕ) (a : ℕ) → Follows g ws a ↔ Reached g ws a

-- a column stays exact whatever words come after it
abbrev pub ColumnsKeep : Type 0
ColumnsKeep = (g : Grammar) (ws vs table : List ℕ) (m : ℕ) → m ≤ length vs → take m ws ≡ take m vs → Column g ws table m → Column g vs table m
