-- What a sheet means. Assumes nothing.
use Rattle.std.specs.Prelude.{◌≡◌, ℕ, List, [], ◌∷◌, map, take, slice_index_or}
use Rattle.grammar.specs.declared.sheet.Sheet.{Sheet}
use Rattle.grammar.specs.declared.Symbol.{Symbol}
use Rattle.grammar.specs.declared.Rule.{Rule}
use Rattle.grammar.specs.declared.Alias.{Alias}
use Rattle.grammar.specs.Grammar.{Grammar, no_rule, right}
use Rattle.grammar.specs.Limits.{texts}

abbrev pub rules_of : Sheet → List Rule
rules_of s = take s.draft.rules.len s.draft.rules.items

-- the left name of the first rule is the start
abbrev pub grammar_of : Sheet → Grammar
grammar_of s = record { rules = rules_of s; start = (slice_index_or (rules_of s) 0 no_rule).left }

abbrev pub names_in : Sheet → List (List ℕ)
names_in s = texts s.draft.names.len s.draft.names.items

abbrev pub words_in : Sheet → List (List ℕ)
words_in s = texts s.draft.words.len s.draft.words.items

abbrev pub aliases_in : Sheet → List Alias
aliases_in s = take s.draft.aliases.len s.draft.aliases.items

-- the filler words, a bit for each
abbrev pub fillers_in : Sheet → ℕ
fillers_in s = s.draft.fillers

-- a rule without the unused part of its array
pub record Plain : Type 0 where
  pub weight : ℕ
  pub left : ℕ
  pub right : List Symbol

abbrev pub plain : Rule → Plain
plain p = record { weight = p.weight; left = p.left; right = right p }

-- two sheets say the same
pub record Alike (s t : Sheet) : Type 0 where
  pub names : names_in s ≡ names_in t
  pub words : words_in s ≡ words_in t
  pub rules : map plain (rules_of s) ≡ map plain (rules_of t)
  pub aliases : aliases_in s ≡ aliases_in t
  pub fillers : fillers_in s ≡ fillers_in t

-- one rule, weight 0, name `A`, no symbols; nothing else
pub record Blank (s : Sheet) : Type 0 where
  pub rules : map plain (rules_of s) ≡ record { weight = 0; left = 0; right = [] } ∷ []
  pub names : names_in s ≡ (65 ∷ []) ∷ []
  pub words : words_in s ≡ []
  pub aliases : aliases_in s ≡ []
  pub fillers : fillers_in s ≡ 0
