-- The dotted places of rules in the order of their numbers, and the sets that mark them. Assumes nothing.
use Rattle.std.specs.Prelude.{◌≡◌, ℕ, Bool, false, List, [], ◌∷◌, ◌++◌, map, get_or, Some, None, Option, ◌==◌, slice_index_or}
use Rattle.items.specs.Members.{member}
use Rattle.items.specs.declared.Items.{Items}
use Rattle.grammar.specs.declared.Symbol.{Symbol}
use Rattle.grammar.specs.declared.Symbol.TheVariants.{Name, Word}
use Rattle.grammar.specs.declared.Rule.{Rule}
use Rattle.grammar.specs.Grammar.{right}
use Rattle.grammar.specs.Bits.{has}

-- the left name of a rule, the symbols before the dot, and those after it
pub record Place : Type 0 where
  pub left : ℕ
  pub before : List Symbol
  pub after : List Symbol

-- the places with these symbols before the dot or further left ones, leftmost dot first
abbrev pub dots : ℕ → List Symbol → List Symbol → List Place
dots a before [] = record { left = a; before = before; after = [] } ∷ []
dots a before (s ∷ rest) = record { left = a; before = before; after = s ∷ rest } ∷ dots a (before ++ (s ∷ [])) rest

-- rule after rule: a place's number is its position here
abbrev pub dotted : List Rule → List Place
dotted [] = []
dotted (p ∷ ps) = dots p.left [] (right p) ++ dotted ps

-- the name that stands first, and the word
abbrev pub leading_name : List Symbol → Option ℕ
leading_name [] = None
leading_name (Name a ∷ rest) = Some a
leading_name (Word w ∷ rest) = None

abbrev pub leading_word : List Symbol → Option ℕ
leading_word [] = None
leading_word (Name a ∷ rest) = None
leading_word (Word w ∷ rest) = Some w

abbrev pub where_none : ℕ → List Symbol → Option ℕ
where_none a [] = Some a
where_none a (s ∷ rest) = None

-- the name after the dot; the word after it; the left name where the dot stands first; and where it stands last
abbrev pub next_name : Place → Option ℕ
next_name p = leading_name p.after

abbrev pub next_word : Place → Option ℕ
next_word p = leading_word p.after

abbrev pub first_of : Place → Option ℕ
first_of p = where_none p.left p.before

abbrev pub last_of : Place → Option ℕ
last_of p = where_none p.left p.after

abbrev pub is : ℕ → Option ℕ → Bool
is a None = false
is a (Some b) = a == b

abbrev pub among : ℕ → Option ℕ → Bool
among set None = false
among set (Some a) = has set a

abbrev pub no_items : Items
no_items = record { words = [] }

-- what the key is at place d
abbrev pub key_at : (Place → Option ℕ) → List Rule → ℕ → Option ℕ
key_at key rules d = slice_index_or (map key (dotted rules)) d None

-- the a-th set has exactly the places whose key is a
abbrev pub Marks : (Place → Option ℕ) → List Rule → List Items → Type 0
Marks key rules sets = (a d : ℕ) → member (get_or sets a no_items).words d ≡ is a (key_at key rules d)

-- the set has exactly the places whose next symbol is a name among those
abbrev pub Skips : List Rule → ℕ → Items → Type 0
Skips rules names set = (d : ℕ) → member set.words d ≡ among names (key_at next_name rules d)
