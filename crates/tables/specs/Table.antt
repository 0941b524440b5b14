-- The table of dotted rules that a row of words defines. Assumes nothing.
use Rattle.std.specs.Prelude.{◌≡◌, ℕ, ◌<◌, ◌≤◌, List, ◌∷◌, ◌++◌, length, take, slice_index_or, slice_range}
use Rattle.grammar.specs.declared.Symbol.{Symbol}
use Rattle.grammar.specs.declared.Rule.{Rule}
use Rattle.grammar.specs.Grammar.{Grammar, rule, right}
use Rattle.grammar.specs.Trees.{Matches, Follows, Command}

-- words i + 1 to j
abbrev pub stretch : ℕ → ℕ → List ℕ → List ℕ
stretch i j ws = slice_range ws i j

-- the symbol after the first k of the right side, as a read of it says
abbrev pub At : Rule → ℕ → Symbol → Type 0
At p k x = (k < length (right p)) × (x ≡ slice_index_or (right p) k x)

-- the rule r with its dot after k symbols stands in cell (i, j)
pub record Stands (g : Grammar) (ws : List ℕ) (i j r k : ℕ) : Type 0 where
  pub ordered : i ≤ j
  pub within : j ≤ length ws
  pub listed : r < length g.rules
  pub dot : k ≤ length (right (rule g r))
  pub follows : ∥ Follows g (take i ws) (rule g r).left ∥₁
  pub matches : ∥ Matches g.rules (take k (right (rule g r))) (stretch i j ws) ∥₁

-- some command begins with the words and then w
abbrev pub Offered : Grammar → List ℕ → ℕ → Type 0
Offered g ws w = ∥ ((more : List ℕ) × Command g (ws ++ (w ∷ more))) ∥₁
