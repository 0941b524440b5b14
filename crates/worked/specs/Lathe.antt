-- The hold-the-lathe sheet. Assumes nothing.
use Rattle.std.specs.Prelude.{◌≡◌, ℕ, List, [], ◌∷◌, map, codes}
use Rattle.grammar.specs.declared.Symbol.{Symbol}
use Rattle.grammar.specs.declared.Symbol.TheVariants.{Name, Word}
use Rattle.grammar.specs.declared.sheet.Sheet.{Sheet}
use Rattle.grammar.specs.View.{Plain, plain, rules_of, names_in, words_in, aliases_in, fillers_in}

-- a rule by its weight, its left name and its symbols
abbrev pub rule : ℕ → ℕ → List Symbol → Plain
rule weight left right = record { weight = weight; left = left; right = right }

-- the names in the order of their numbers
abbrev pub go : ℕ
go = 0

abbrev pub opt : ℕ
opt = 1

abbrev pub tool : ℕ
tool = 2

-- and the words
abbrev pub hold : ℕ
hold = 0

abbrev pub the : ℕ
the = 1

abbrev pub lathe : ℕ
lathe = 2

-- Opt stands for nothing, for a word and for itself, and Tool begins with it or not: rules that loop and overlap
abbrev pub lathe_rules : List Plain
lathe_rules =
    rule 0 go (Word hold ∷ Name opt ∷ Name tool ∷ [])
    ∷ rule 0 opt []
    ∷ rule 1 opt (Word the ∷ [])
    ∷ rule 2 opt (Name opt ∷ [])
    ∷ rule 0 tool (Word lathe ∷ [])
    ∷ rule 3 tool (Name opt ∷ Word lathe ∷ [])
    ∷ []

abbrev pub lathe_names : List (List ℕ)
lathe_names = codes "Go" ∷ codes "Opt" ∷ codes "Tool" ∷ []

abbrev pub lathe_words : List (List ℕ)
lathe_words = codes "hold" ∷ codes "the" ∷ codes "lathe" ∷ []

-- these rules over these names and words, and nothing else
pub record HoldTheLathe (s : Sheet) : Type 0 where
  pub rules : map plain (rules_of s) ≡ lathe_rules
  pub names : names_in s ≡ lathe_names
  pub words : words_in s ≡ lathe_words
  pub aliases : aliases_in s ≡ []
  pub fillers : fillers_in s ≡ 0
