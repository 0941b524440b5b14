-- What becomes of a draft. Assumes nothing.
use Rattle.std.specs.Prelude.{◌≡◌, ℕ, suc, ◌+◌, ◌<◌, ◌≤◌, ◌⊎◌, List, [], ◌∷◌, ◌++◌, take, slice_index}
use Rattle.grammar.specs.declared.draft.Draft.{Draft}
use Rattle.grammar.specs.declared.sheet.Sheet.{Sheet}
use Rattle.grammar.specs.declared.Rule.{Rule}
use Rattle.grammar.specs.declared.Alias.{Alias}
use Rattle.grammar.specs.Closure.{LowestTreeless}

-- the sheet holds what the draft held
abbrev pub Kept : Draft → Sheet → Type 0
Kept d s = s.draft ≡ d

abbrev pub listed : Draft → List Rule
listed d = take d.rules.len d.rules.items

-- the lowest name of the draft without a tree
abbrev pub Lowest : Draft → ℕ → Type 0
Lowest d a = LowestTreeless (listed d) d.names.len a

abbrev pub renamed : Draft → List Alias
renamed d = take d.aliases.len d.aliases.items

-- the dotted places of the draft's rules
abbrev pub places_in : Draft → ℕ
places_in d = slice_index d.starts d.rules.len

-- nothing yet
pub record Bare (d : Draft) : Type 0 where
  pub rules : d.rules.len ≡ 0
  pub names : d.names.len ≡ 0
  pub words : d.words.len ≡ 0
  pub aliases : d.aliases.len ≡ 0
  pub fillers : d.fillers ≡ 0

-- one rule more at the end, and all else as it was
pub record Added (d : Draft) (p : Rule) (e : Draft) : Type 0 where
  pub rules : listed e ≡ listed d ++ (p ∷ [])
  pub rule_count : e.rules.len ≡ d.rules.len + 1
  pub places : places_in e ≡ places_in d + suc p.len
  pub names : e.names ≡ d.names
  pub words : e.words ≡ d.words
  pub aliases : e.aliases ≡ d.aliases
  pub fillers : e.fillers ≡ d.fillers

-- there is no room for the rule, or none for its places
abbrev pub Overfull : Draft → Rule → Type 0
Overfull d p = (128 ≤ d.rules.len) ⊎ (256 < places_in d + suc p.len)

-- one alias more at the end, and all else as it was
pub record Renamed (d : Draft) (a : Alias) (e : Draft) : Type 0 where
  pub aliases : renamed e ≡ renamed d ++ (a ∷ [])
  pub alias_count : e.aliases.len ≡ d.aliases.len + 1
  pub rules : e.rules ≡ d.rules
  pub names : e.names ≡ d.names
  pub words : e.words ≡ d.words
  pub starts : e.starts ≡ d.starts
  pub fillers : e.fillers ≡ d.fillers
