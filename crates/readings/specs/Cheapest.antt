-- A cheapest reading of words, written to a list. Assumes nothing.
use Rattle.std.specs.Prelude.{◌≡◌, ℕ, ◌≤◌, List, ◌++◌, length, drop}
use Rattle.grammar.specs.Grammar.{Grammar}
use Rattle.grammar.specs.Trees.{Derivation}
use Rattle.readings.specs.Scales.{Scale, NoDearer}
use Rattle.readings.specs.Prices.{price, form}

-- of the list, n numbers are the form of a derivation of the words, and the others are as before; it costs c, and no derivation of the words costs less
pub record Cheapest {P : Type 0} (g : Grammar) (S : Scale P) (ws before after : List ℕ) (n : ℕ) (c : P) : Type 0 where
  pub derivation : Derivation g ws
  pub costs : c ≡ price g.rules S derivation.0
  pub least : (other : Derivation g ws) → NoDearer S c (price g.rules S other.0)
  pub long : n ≡ length (form derivation.0)
  pub short : n ≤ 9984
  pub list : after ≡ form derivation.0 ++ drop n before

-- the words have no derivation, and the list is as before
pub record Unread (g : Grammar) (ws before after : List ℕ) : Type 0 where
  pub underived : Derivation g ws → ⊥
  pub same : after ≡ before
