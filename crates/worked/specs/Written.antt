-- The texts of the two sheets, and that each means exactly the sheets that say so. Assumes nothing.
use Rattle.std.specs.Prelude.{ℕ, cond, ◌↔◌, List, [], ◌∷◌, ◌++◌, map, codes, ◌==◌}
use Prim.Native.String.{String}
use Rattle.grammar.specs.declared.sheet.Sheet.{Sheet}
use Rattle.sheets.specs.Texts.{Loaded}
use Rattle.worked.specs.Findings.{Said, blank, lathe_sheet, Says}

-- lines with their ends, written with a bar for each tab
abbrev pub typed : List String → List ℕ
typed [] = []
typed (line ∷ more) = map (λ c. cond (c == 124) 9 c) (codes line) ++ (10 ∷ typed more)

abbrev pub text_of : Said → List ℕ
text_of blank = typed ("rule|0|A" ∷ [])
text_of lathe_sheet =
    typed
    ("rule|0|Go|hold|Opt|Tool"
    ∷ "rule|0|Opt"
    ∷ "rule|1|Opt|the"
    ∷ "rule|2|Opt|Opt"
    ∷ "rule|0|Tool|lathe"
    ∷ "rule|3|Tool|Opt|lathe"
    ∷ [])

abbrev pub TextsMean : Type 0
TextsMean = (said : Said) (s : Sheet) → Loaded (text_of said) s ↔ Says said s
