-- The left context in which a name stands. Assumes nothing.
use Rattle.std.specs.Prelude.{◌≡◌, ℕ, ◌<◌, List, [], ◌++◌, length, take}
use Rattle.grammar.specs.declared.Symbol.TheVariants.{Name}
use Rattle.grammar.specs.Grammar.{Grammar, rule, right}
use Rattle.grammar.specs.Trees.{Matches}
use Rattle.tables.specs.Table.{At}

-- the name a can stand after the words u, by a path of rules from the start
pub data Reached (g : Grammar) : List ℕ → ℕ → Type 0 where
  first : {u : List ℕ} {a : ℕ} → u ≡ [] → a ≡ g.start → Reached g u a
  next : {u : List ℕ} {a : ℕ} (v w : List ℕ) (r k : ℕ) → Reached g v (rule g r).left → r < length g.rules → At (rule g r) k (Name a) → Matches g.rules (take k (right (rule g r))) w → u ≡ v ++ w → Reached g u a
