-- The steps by which the table is filled. Assumes nothing.
use Rattle.std.specs.Prelude.{◌≡◌, ℕ, ◌+◌, ◌<◌, ◌≤◌, ◌↔◌, List, length, slice_index}
use Rattle.grammar.specs.declared.Symbol.{Symbol}
use Rattle.grammar.specs.declared.Symbol.TheVariants.{Name, Word}
use Rattle.grammar.specs.Grammar.{Grammar, rule, right}
use Rattle.grammar.specs.Closure.{Empties, HasTree}
use Rattle.tables.specs.Table.{At, Stands}

-- each name on a right side has a tree
abbrev pub Productive : Grammar → Type 0
Productive g = (r k b : ℕ) → r < length g.rules → At (rule g r) k (Name b) → HasTree g.rules b

-- In i j r k says that rule r with its dot after k symbols is in cell (i, j)
abbrev pub Cells : Type 1
Cells = ℕ → ℕ → ℕ → ℕ → Type 0

-- rule r with its dot after k + 1 symbols is due in cell (i, j)
pub data Due (g : Grammar) (ws : List ℕ) (In : Cells) (i j r k : ℕ) : Type 0 where
  by_word : (m : ℕ) → j ≡ m + 1 → i ≤ m → In i m r k → At (rule g r) k (Word (slice_index ws m)) → Due g ws In i j r k
  by_name : (m b q : ℕ) → i ≤ m → m < j → In i m r k → At (rule g r) k (Name b) → q < length g.rules → (rule g q).left ≡ b → In m j q (length (right (rule g q))) → Due g ws In i j r k
  by_nothing : (b : ℕ) → In i j r k → At (rule g r) k (Name b) → Empties g.rules b → Due g ws In i j r k

-- rule q is due in cell (j, j) with its dot at the front
pub data Wanted (g : Grammar) (In : Cells) (j q : ℕ) : Type 0 where
  at_start : j ≡ 0 → (rule g q).left ≡ g.start → Wanted g In j q
  by_rule : (i r k b : ℕ) → i ≤ j → r < length g.rules → In i j r k → At (rule g r) k (Name b) → (rule g q).left ≡ b → Wanted g In j q

-- nothing due is missing
abbrev pub Full : Grammar → List ℕ → Cells → ℕ → ℕ → Type 0
Full g ws In i j = (r k : ℕ) → r < length g.rules → Due g ws In i j r k → In i j r (k + 1)

abbrev pub Seeded : Grammar → Cells → ℕ → Type 0
Seeded g In j = (q : ℕ) → q < length g.rules → Wanted g In j q → In j j q 0

-- column j holds only what stands there
abbrev pub Sound : Grammar → List ℕ → Cells → ℕ → Type 0
Sound g ws In j = (i r k : ℕ) → i ≤ j → r < length g.rules → k ≤ length (right (rule g r)) → In i j r k → Stands g ws i j r k

-- column j holds what stands there and nothing else
abbrev pub Exact : Grammar → List ℕ → Cells → ℕ → Type 0
Exact g ws In j = (i r k : ℕ) → i ≤ j → r < length g.rules → k ≤ length (right (rule g r)) → In i j r k ↔ Stands g ws i j r k

-- a dotted rule up to the last word that has its dot before the symbol
pub record Shown (g : Grammar) (ws : List ℕ) (y : Symbol) : Type 0 where
  pub from : ℕ
  pub by : ℕ
  pub dot : ℕ
  pub stands : Stands g ws from (length ws) by dot
  pub at : At (rule g by) dot y

-- some rule of the start stands over all the words with its dot at the end
pub record Complete (g : Grammar) (ws : List ℕ) : Type 0 where
  pub by : ℕ
  pub left : (rule g by).left ≡ g.start
  pub stands : Stands g ws 0 (length ws) by (length (right (rule g by)))
