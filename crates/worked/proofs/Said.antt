-- What the two sheets say, as data.
use Rattle.std.proofs.Common.{◌≡◌, ℕ, List, [], ◌∷◌, map, codes}
use Rattle.grammar.specs.declared.sheet.Sheet.{Sheet}
use Rattle.grammar.specs.View.{Plain, plain, rules_of, names_in, words_in, aliases_in, fillers_in}
use Rattle.sheets.specs.Lines.{Spelled, name, word, Line, rule}
use Rattle.worked.specs.Lathe.{opt, lathe_rules, lathe_names, lathe_words}
use Rattle.worked.specs.Findings.{Said, blank, lathe_sheet, Says}
use Rattle.worked.proofs.Rules.{blank_rule}

abbrev pub rules_said : Said → List Plain
rules_said blank = blank_rule ∷ []
rules_said lathe_sheet = lathe_rules

abbrev pub names_said : Said → List (List ℕ)
names_said blank = codes "A" ∷ []
names_said lathe_sheet = lathe_names

abbrev pub words_said : Said → List (List ℕ)
words_said blank = []
words_said lathe_sheet = lathe_words

-- the names that can yield nothing
abbrev pub nulls_said : Said → List ℕ
nulls_said blank = 0 ∷ []
nulls_said lathe_sheet = opt ∷ []

-- the sheet says so
pub record Holds (said : Said) (s : Sheet) : Type 0 where
  pub rules : map plain (rules_of s) ≡ rules_said said
  pub names : names_in s ≡ names_said said
  pub words : words_in s ≡ words_said said
  pub aliases : aliases_in s ≡ []
  pub fillers : fillers_in s ≡ 0

pub says_so : (said : Said) (s : Sheet) → Says said s → Holds said s
says_so blank s h = record { rules = h.rules; names = h.names; words = h.words; aliases = h.aliases; fillers = h.fillers }
says_so lathe_sheet s h = record { rules = h.rules; names = h.names; words = h.words; aliases = h.aliases; fillers = h.fillers }

pub so_says : (said : Said) (s : Sheet) → Holds said s → Says said s
so_says blank s h = record { rules = h.rules; names = h.names; words = h.words; aliases = h.aliases; fillers = h.fillers }
so_says lathe_sheet s h = record { rules = h.rules; names = h.names; words = h.words; aliases = h.aliases; fillers = h.fillers }

-- ---- line by line

abbrev opt_name : Spelled
opt_name = name (codes "Opt")

abbrev lathe_word : Spelled
lathe_word = word (codes "lathe")

abbrev pub lines_said : Said → List Line
lines_said blank = rule (codes "0") (codes "A") [] ∷ []
lines_said lathe_sheet =
    rule (codes "0") (codes "Go") (word (codes "hold") ∷ opt_name ∷ name (codes "Tool") ∷ [])
    ∷ rule (codes "0") (codes "Opt") []
    ∷ rule (codes "1") (codes "Opt") (word (codes "the") ∷ [])
    ∷ rule (codes "2") (codes "Opt") (opt_name ∷ [])
    ∷ rule (codes "0") (codes "Tool") (lathe_word ∷ [])
    ∷ rule (codes "3") (codes "Tool") (opt_name ∷ lathe_word ∷ [])
    ∷ []
