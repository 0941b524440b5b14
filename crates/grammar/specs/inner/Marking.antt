-- How masks grow place by place. Assumes nothing.
use Rattle.std.specs.Prelude.{◌≡◌, ℕ, Bool, ◌&&◌, ◌||◌, List, map, take, drop, None, Option, ◌==◌, slice_index_or}
use Rattle.items.specs.Members.{member}
use Rattle.items.specs.declared.Items.{Items}
use Rattle.grammar.specs.declared.Rule.{Rule}
use Rattle.grammar.specs.declared.masks.Masks.{Masks}
use Rattle.grammar.specs.Grammar.{right}
use Rattle.grammar.specs.Dotted.{Place, next_name, next_word, first_of, last_of, is, among, no_items}

-- the set has exactly the places whose key passes the test
abbrev pub Holds : (Option ℕ → Bool) → List (Option ℕ) → Items → Type 0
Holds test keys set = (d : ℕ) → member set.words d ≡ test (slice_index_or keys d None)

-- the a-th set has exactly the places whose key is a
abbrev pub Keyed : List (Option ℕ) → List Items → Type 0
Keyed keys sets = (a : ℕ) → Holds (is a) keys (slice_index_or sets a no_items)

-- the masks are those of the places
pub record Held (places : List Place) (set : ℕ) (m : Masks) : Type 0 where
  pub names : Keyed (map next_name places) m.before_name
  pub words : Keyed (map next_word places) m.before_word
  pub first : Keyed (map first_of places) m.first
  pub last : Keyed (map last_of places) m.last
  pub nullable : Holds (among set) (map next_name places) m.before_nullable

-- the number goes in where the test says so
abbrev pub Joins : Bool → ℕ → Items → Items → Type 0
Joins here at x y = (d : ℕ) → member y.words d ≡ (member x.words d || (here && d == at))

-- the number goes into the key's set alone, if there is a key
abbrev pub Marked : Option ℕ → ℕ → List Items → List Items → Type 0
Marked key at xs ys = (a : ℕ) → Joins (is a key) at (slice_index_or xs a no_items) (slice_index_or ys a no_items)

-- the place goes into its masks under that number
pub record Grown (p : Place) (at set : ℕ) (m n : Masks) : Type 0 where
  pub names : Marked (next_name p) at m.before_name n.before_name
  pub words : Marked (next_word p) at m.before_word n.before_word
  pub first : Marked (first_of p) at m.first n.first
  pub last : Marked (last_of p) at m.last n.last
  pub nullable : Joins (among set (next_name p)) at m.before_nullable n.before_nullable

-- the place after k symbols of the rule
abbrev pub spot : Rule → ℕ → Place
spot p k = record { left = p.left; before = take k (right p); after = drop k (right p) }
