use Rattle.std.proofs.Common.{◌≡◌, ℕ, true, List, map, length}
use Rattle.std.specs.List.{AllByRecursion}
use Rattle.grammar.specs.Grammar.{Formed}
use Rattle.sheets.specs.Lines.{Spelled, Line, spelling, tabbed, well}
use Rattle.sheets.specs.Spellings.{words_of}
use Rattle.sheets.specs.inner.Fields.{Symbols}
use Rattle.sheets.specs.inner.Drafting.{Holding}
use Rattle.sheets.proofs.Rights.{Midway}
use Rattle.sheets.proofs.rules.read_rule.Given as goal

-- the rule is formed so far, and has the symbols that are read
abbrev pub invariant-loop-field : goal.invariant-loop-field
invariant-loop-field l =
    Formed l.draft.names.len l.draft.words.len l.rule × (length l.rule.symbols ≡ 8) × (l.rule.weight ≡ l.weight) × (l.rule.left ≡ l.left) × Symbols l.rest
    × ((before : List Line) (N : List (List ℕ)) (ss : List Spelled) → Holding before N (words_of before) l.initial.draft → l.fields ≡ tabbed (map spelling ss) → AllByRecursion (λ s. well s ≡ true) ss
    → Midway before N (words_of before) ss l.rest l.draft l.rule)

abbrev pub decreases-loop-field : goal.decreases-loop-field
decreases-loop-field l = length l.rest
