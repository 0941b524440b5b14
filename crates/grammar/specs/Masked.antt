-- The masks over dotted places that a sheet keeps. Assumes nothing.
use Rattle.std.specs.Prelude.{ℕ, List}
use Rattle.grammar.specs.declared.Rule.{Rule}
use Rattle.grammar.specs.declared.masks.Masks.{Masks}
use Rattle.grammar.specs.Dotted.{next_name, next_word, first_of, last_of, Marks, Skips}

-- the masks are those of the rules, where the names of the set can yield nothing
pub record Masked (rules : List Rule) (set : ℕ) (m : Masks) : Type 0 where
  pub names : Marks next_name rules m.before_name
  pub words : Marks next_word rules m.before_word
  pub first : Marks first_of rules m.first
  pub last : Marks last_of rules m.last
  pub nullable : Skips rules set m.before_nullable
