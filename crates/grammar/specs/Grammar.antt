-- A grammar, by the rules that the code holds. Assumes nothing.
use Rattle.std.specs.Prelude.{ℕ, suc, ◌+◌, ◌<◌, ◌≤◌, List, [], ◌∷◌, take, slice_index_or}
use Rattle.grammar.specs.declared.Symbol.{Symbol}
use Rattle.grammar.specs.declared.Symbol.TheVariants.{Name, Word}
use Rattle.grammar.specs.declared.Rule.{Rule}

-- the rules in their order, and the name that commands start from
pub record Grammar : Type 0 where
  pub rules : List Rule
  pub start : ℕ

abbrev pub no_rule : Rule
no_rule = record { weight = 0; left = 0; len = 0; symbols = [] }

-- the r-th rule, counted from 0
abbrev pub rule : Grammar → ℕ → Rule
rule g r = slice_index_or g.rules r no_rule

-- the symbols on a rule's right side
abbrev pub right : Rule → List Symbol
right p = take p.len p.symbols

-- the symbol's number
abbrev pub number : Symbol → ℕ
number (Name a) = a
number (Word w) = w

-- the count of its kind
abbrev pub limit : ℕ → ℕ → Symbol → ℕ
limit names words (Name a) = names
limit names words (Word w) = words

-- the symbol's number is below the count of its kind
abbrev pub Counted : ℕ → ℕ → Symbol → Type 0
Counted names words s = number s < limit names words s

-- the rule keeps the limits, and its names and words are counted
abbrev pub Formed : ℕ → ℕ → Rule → Type 0
Formed names words p =
    (p.left < names) × (p.len ≤ 8) × ((k : ℕ) → k < p.len → Counted names words (slice_index_or p.symbols k (Name 0)))

-- the dotted places of rules, one more than their symbols
abbrev pub places : List Rule → ℕ
places [] = 0
places (p ∷ rest) = suc p.len + places rest

-- the number of the place after k symbols of rule r
abbrev pub place : List Rule → ℕ → ℕ → ℕ
place rules r k = places (take r rules) + k
