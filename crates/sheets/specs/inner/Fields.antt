-- Bytes cut at a byte. Assumes nothing.
use Rattle.std.specs.Prelude.{◌≡◌, ℕ, Bool, true, not, ◌||◌, List, [], ◌∷◌, ◌++◌, map, ◌==◌}
use Rattle.std.specs.List.{AllByRecursion}
use Rattle.grammar.specs.Letters.{every, name_spelled, word_spelled}
use Rattle.sheets.specs.Lines.{Spelled, Line, spelling, well, Well, fields, tabbed}

abbrev pub other : ℕ → ℕ → Bool
other b c = not (c == b)

-- nothing, or bytes that begin with b
abbrev pub Opens : ℕ → List ℕ → Type 0
Opens b [] = Unit {0}
Opens b (c ∷ cs) = c ≡ b

-- the bytes before the first b, and the rest
abbrev pub Cut : ℕ → List ℕ → List ℕ → List ℕ → Type 0
Cut b bytes front rest = (bytes ≡ front ++ rest) × (every (other b) front ≡ true) × Opens b rest

-- the first field, where each stands after a tab, and the rest
abbrev pub Field : List ℕ → List ℕ → List ℕ → Type 0
Field bytes field rest = (bytes ≡ 9 ∷ (field ++ rest)) × (every (other 9) field ≡ true) × Opens 9 rest

-- no field stands there
abbrev pub Fieldless : List ℕ → Type 0
Fieldless bytes = Opens 9 bytes → bytes ≡ []

-- the bytes are the fields of the line after the first
abbrev pub Holds : List ℕ → Line → Type 0
Holds bytes ℓ = (bytes ≡ tabbed (fields ℓ)) × Well ℓ

abbrev pub symbol_spelled : List ℕ → Bool
symbol_spelled cs = name_spelled cs || word_spelled cs

-- the bytes are fields that are symbols
abbrev pub Symbols : List ℕ → Type 0
Symbols bytes = (ss : List Spelled) × (bytes ≡ tabbed (map spelling ss)) × AllByRecursion (λ s. well s ≡ true) ss
