-- What a line of a command sheet says, by how it is written. Assumes nothing.
use Rattle.std.specs.Prelude.{◌≡◌, ℕ, Bool, true, false, cond, ◌&&◌, List, [], ◌∷◌, ◌++◌, map, codes, ◌==◌}
use Rattle.std.specs.List.{AllByRecursion}
use Rattle.grammar.specs.Letters.{digit, every, empty, name_spelled, word_spelled}

-- a symbol as it is spelled
pub data Spelled : Type 0 where
  name : List ℕ → Spelled
  word : List ℕ → Spelled

-- rule: the digits of the weight, the left name, the symbols; alias: the word said, the word meant
pub data Line : Type 0 where
  rule : List ℕ → List ℕ → List Spelled → Line
  alias : List ℕ → List ℕ → Line
  filler : List ℕ → Line

abbrev pub spelling : Spelled → List ℕ
spelling (name s) = s
spelling (word s) = s

-- each field after a tab
abbrev pub tabbed : List (List ℕ) → List ℕ
tabbed [] = []
tabbed (f ∷ fs) = 9 ∷ (f ++ tabbed fs)

-- the first field
abbrev pub kind : Line → List ℕ
kind (rule weight left symbols) = codes "rule"
kind (alias said meant) = codes "alias"
kind (filler w) = codes "filler"

-- the other fields
abbrev pub fields : Line → List (List ℕ)
fields (rule weight left symbols) = weight ∷ left ∷ map spelling symbols
fields (alias said meant) = said ∷ meant ∷ []
fields (filler w) = w ∷ []

-- the bytes of a line, without its end
abbrev pub written : Line → List ℕ
written ℓ = kind ℓ ++ tabbed (fields ℓ)

-- digits, at any length; a zero stands before no other digit
abbrev pub weight_spelled : List ℕ → Bool
weight_spelled [] = false
weight_spelled (c ∷ cs) = cond (c == 48) (empty cs) (digit c && every digit cs)

abbrev pub well : Spelled → Bool
well (name s) = name_spelled s
well (word s) = word_spelled s

abbrev pub Well : Line → Type 0
Well (rule weight left symbols) =
    (weight_spelled weight ≡ true) × (name_spelled left ≡ true) × AllByRecursion (λ s. well s ≡ true) symbols
Well (alias said meant) = (word_spelled said ≡ true) × (word_spelled meant ≡ true)
Well (filler w) = word_spelled w ≡ true

-- the bytes, without the end of the line, mean the line
abbrev pub Means : List ℕ → Line → Type 0
Means bytes ℓ = (bytes ≡ written ℓ) × Well ℓ

-- bytes mean one line at most
abbrev pub OneMeaning : Type 0
OneMeaning = (bytes : List ℕ) (ℓ ℓ' : Line) → Means bytes ℓ → Means bytes ℓ' → ℓ ≡ ℓ'
