-- Which names have a tree, and which can yield nothing. Assumes nothing.
use Rattle.std.specs.Prelude.{◌≡◌, ℕ, ◌<◌, true, ◌↔◌, List, [], ◌∷◌, length, slice_index_or}
use Rattle.grammar.specs.declared.Symbol.TheVariants.{Name}
use Rattle.grammar.specs.declared.Rule.{Rule}
use Rattle.grammar.specs.Grammar.{no_rule, Formed}
use Rattle.grammar.specs.Trees.{Row, Fits, Matches}
use Rattle.grammar.specs.Bits.{has}

-- every rule keeps the limits
abbrev pub AllFormed : ℕ → ℕ → List Rule → Type 0
AllFormed names words rules = (r : ℕ) → r < length rules → Formed names words (slice_index_or rules r no_rule)

-- the name can yield no words
abbrev pub Empties : List Rule → ℕ → Type 0
Empties rules a = ∥ Matches rules (Name a ∷ []) [] ∥₁

-- the set has exactly the names that can yield no words
abbrev pub Nullables : List Rule → ℕ → Type 0
Nullables rules set = (a : ℕ) → (has set a ≡ true) ↔ Empties rules a

-- the name has a tree
abbrev pub HasTree : List Rule → ℕ → Type 0
HasTree rules a = ∥ ((row : Row) × Fits rules (Name a ∷ []) row) ∥₁

-- a is the lowest of the first n names that has no tree
pub record LowestTreeless (rules : List Rule) (n a : ℕ) : Type 0 where
  pub listed : a < n
  pub treeless : HasTree rules a → ⊥
  pub lowest : (b : ℕ) → b < a → HasTree rules b
