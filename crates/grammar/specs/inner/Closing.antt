-- The closure over the rules while it is computed, with the words known or not. Assumes nothing.
use Rattle.std.specs.Prelude.{◌≡◌, ℕ, ◌<◌, Bool, true, T, ◌⊎◌, ◌↔◌, List, [], ◌∷◌, length, get_or, Some, None, Option, slice_index_or}
use Rattle.std.specs.List.{list_all}
use Rattle.grammar.specs.declared.Symbol.{Symbol}
use Rattle.grammar.specs.declared.Symbol.TheVariants.{Name, Word}
use Rattle.grammar.specs.declared.Rule.{Rule}
use Rattle.grammar.specs.Grammar.{no_rule, right}
use Rattle.grammar.specs.Trees.{Row, end, word, tree, Fits}
use Rattle.grammar.specs.Bits.{has}
use Rattle.grammar.specs.Closure.{HasTree, LowestTreeless}

-- the name is in the set; a word is known where `words` says so
abbrev pub known : ℕ → Bool → Symbol → Bool
known set words (Name a) = has set a
known set words (Word v) = words

abbrev pub all_known : ℕ → Bool → List Symbol → Bool
all_known set words ss = list_all (known set words) ss

-- the row holds words only where `words` says so
abbrev pub Of : Bool → Row → Type 0
Of words end = Unit {0}
Of words (word w rest) = T words × Of words rest
Of words (tree r below rest) = Of words below × Of words rest

-- rows that fit the symbols, of words only where `words` says so
abbrev pub Rows : Bool → List Rule → List Symbol → Type 0
Rows words rules s = (row : Row) × Fits rules s row × Of words row

-- each name of the set has such a tree
abbrev pub Sound : Bool → List Rule → ℕ → Type 0
Sound words rules set = (a : ℕ) → has set a ≡ true → ∥ Rows words rules (Name a ∷ []) ∥₁

-- each of the first n rules whose right side is known has its left name in the set `next`
abbrev pub ClosedTo : Bool → List Rule → ℕ → ℕ → ℕ → Type 0
ClosedTo words rules n set next =
    (r : ℕ) → r < n → all_known set words (right (slice_index_or rules r no_rule)) ≡ true → has next (get_or rules r no_rule).left ≡ true

abbrev pub Closed : Bool → List Rule → ℕ → ℕ → Type 0
Closed words rules set next = ClosedTo words rules (length rules) set next

-- a name of the set `next` is in the set, or on the left of a rule whose right side is known
abbrev pub Backed : Bool → List Rule → ℕ → ℕ → Type 0
Backed words rules set next =
    (a : ℕ) → has next a ≡ true → (has set a ≡ true) ⊎ ((r : ℕ) × (r < length rules) × ((get_or rules r no_rule).left ≡ a) × (all_known set words (right (slice_index_or rules r no_rule)) ≡ true))

-- the set has exactly the names with such a tree
abbrev pub Exactly : Bool → List Rule → ℕ → Type 0
Exactly words rules set =
    (a : ℕ) → (has set a ≡ true) ↔ ∥ Rows words rules (Name a ∷ []) ∥₁

-- the lowest of the first n names that has no tree, or none where each has one
abbrev pub Treeless : List Rule → ℕ → Option ℕ → Type 0
Treeless rules n None = (a : ℕ) → a < n → HasTree rules a
Treeless rules n (Some a) = LowestTreeless rules n a
