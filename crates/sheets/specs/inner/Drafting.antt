-- A draft that holds the lines so far. Assumes nothing.
use Rattle.std.specs.Prelude.{◌≡◌, ℕ, ◌<◌, ◌≤◌, true, List, [], ◌∷◌, ◌++◌, map, length, get_or, take, Ok, Err, Result, slice_index_or}
use Rattle.std.specs.List.{AllByRecursion}
use Rattle.faults.specs.declared.Refusal.{Refusal}
use Rattle.faults.specs.declared.Refusal.TheVariants.{LineLimit, SecondAlias}
use Rattle.grammar.specs.declared.Rule.{Rule}
use Rattle.grammar.specs.declared.draft.Draft.{Draft}
use Rattle.grammar.specs.Grammar.{right}
use Rattle.grammar.specs.Bits.{has}
use Rattle.grammar.specs.Limits.{texts}
use Rattle.sheets.specs.declared.refusals.Bar.{Bar}
use Rattle.sheets.specs.declared.refusals.Bar.TheVariants.{Limit, Second as SecondBar}
use Rattle.sheets.specs.Lines.{Spelled, Line, spelling}
use Rattle.sheets.specs.Spellings.{names_among, words_among, member, with_all, names_of, words_of}
use Rattle.sheets.specs.Limits.{productions, renamings, fillers_of, places_of, Short, Within, Second}
use Rattle.sheets.specs.Texts.{spelled, production, renaming}

-- the draft holds what the lines say, with the names N and the words W
pub record Holding (ls : List Line) (N W : List (List ℕ)) (d : Draft) : Type 0 where
  pub names : texts d.names.len d.names.items ≡ N
  pub name_total : length N ≡ d.names.len
  pub word_total : length W ≡ d.words.len
  pub words : texts d.words.len d.words.items ≡ W
  pub rule_total : length (productions ls) ≡ d.rules.len
  pub alias_total : length (renamings ls) ≡ d.aliases.len
  pub rules : map (production N W) (take d.rules.len d.rules.items) ≡ productions ls
  pub aliases : map (renaming W) (take d.aliases.len d.aliases.items) ≡ renamings ls
  pub places : get_or d.starts d.rules.len 0 ≡ places_of ls
  pub fillers : (w : ℕ) → w < length W → has d.fillers w ≡ member (slice_index_or W w []) (fillers_of ls)
  pub known : (t : List ℕ) → member t (fillers_of ls) ≡ true → member t W ≡ true

-- with no others than theirs
abbrev pub Drafted : List Line → Draft → Type 0
Drafted ls d = Holding ls (names_of ls) (words_of ls) d

-- the draft holds the lines and the symbols, which the rule has on its right
pub record Righted (before : List Line) (N W : List (List ℕ)) (ss : List Spelled) (d : Draft) (p : Rule) : Type 0 where
  pub held : Holding before (with_all N (names_among ss)) (with_all W (words_among ss)) d
  pub spells : map (spelled (with_all N (names_among ss)) (with_all W (words_among ss))) (right p) ≡ ss
  pub counted : length ss ≡ p.len
  pub short : AllByRecursion (λ s. Short (spelling s)) ss

-- there is room for the symbols beside the names N and the words W
pub record Fitting (N W : List (List ℕ)) (ss : List Spelled) : Type 0 where
  pub short : AllByRecursion (λ s. Short (spelling s)) ss
  pub few : length ss ≤ 8
  pub names : length (with_all N (names_among ss)) ≤ 32
  pub words : length (with_all W (words_among ss)) ≤ 64

-- what a line does to a draft that holds those before it
abbrev pub Outcome : List Line → Line → Result (Unit {0}) Bar → Draft → Type 0
Outcome before ℓ (Ok u) d = Drafted (before ++ (ℓ ∷ [])) d × Within before ℓ × (Second before ℓ → ⊥)
Outcome before ℓ (Err Limit) d = Within before ℓ → ⊥
Outcome before ℓ (Err SecondBar) d = Within before ℓ × Second before ℓ

abbrev pub refusal_of : Bar → Refusal
refusal_of Limit = LineLimit
refusal_of SecondBar = SecondAlias
