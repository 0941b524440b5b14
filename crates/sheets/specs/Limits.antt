-- The limits of a sheet's lines. Assumes nothing.
use Rattle.std.specs.Prelude.{◌≡◌, ℕ, suc, ◌+◌, ◌-◌, ◌*◌, ◌≤◌, true, List, [], ◌∷◌, ◌++◌, length}
use Rattle.std.specs.List.{AllByRecursion}
use Rattle.sheets.specs.Lines.{Spelled, Line, rule, alias, filler, spelling}
use Rattle.sheets.specs.Spellings.{member, names_of, words_of}

-- the number that digits write, after n
abbrev pub number_after : ℕ → List ℕ → ℕ
number_after n [] = n
number_after n (c ∷ cs) = number_after (10 * n + (c - 48)) cs

abbrev pub number : List ℕ → ℕ
number cs = number_after 0 cs

-- what a rule line says, its weight as a number
pub record Production : Type 0 where
  pub weight : ℕ
  pub left : List ℕ
  pub right : List Spelled

pub record Renaming : Type 0 where
  pub said : List ℕ
  pub meant : List ℕ

abbrev pub productions : List Line → List Production
productions [] = []
productions (rule w a ss ∷ ls) = record { weight = number w; left = a; right = ss } ∷ productions ls
productions (alias s m ∷ ls) = productions ls
productions (filler w ∷ ls) = productions ls

abbrev pub renamings : List Line → List Renaming
renamings [] = []
renamings (rule w a ss ∷ ls) = renamings ls
renamings (alias s m ∷ ls) = record { said = s; meant = m } ∷ renamings ls
renamings (filler w ∷ ls) = renamings ls

abbrev pub fillers_of : List Line → List (List ℕ)
fillers_of [] = []
fillers_of (rule w a ss ∷ ls) = fillers_of ls
fillers_of (alias s m ∷ ls) = fillers_of ls
fillers_of (filler w ∷ ls) = w ∷ fillers_of ls

-- the words that aliases are for
abbrev pub said_in : List Line → List (List ℕ)
said_in [] = []
said_in (rule w a ss ∷ ls) = said_in ls
said_in (alias s m ∷ ls) = s ∷ said_in ls
said_in (filler w ∷ ls) = said_in ls

-- a rule has one dotted place more than symbols
abbrev pub places_of : List Line → ℕ
places_of [] = 0
places_of (rule w a ss ∷ ls) = suc (length ss) + places_of ls
places_of (alias s m ∷ ls) = places_of ls
places_of (filler w ∷ ls) = places_of ls

abbrev pub Short : List ℕ → Type 0
Short s = length s ≤ 15

-- the line by itself
abbrev pub Small : Line → Type 0
Small (rule w a ss) = (number w ≤ 65535) × Short a × AllByRecursion (λ s. Short (spelling s)) ss × (length ss ≤ 8)
Small (alias s m) = Short s × Short m
Small (filler w) = Short w

-- all lines together
abbrev pub Room : List Line → Type 0
Room ls =
    (length (names_of ls) ≤ 32) × (length (words_of ls) ≤ 64) × (length (productions ls) ≤ 128) × (length (renamings ls) ≤ 16) × (places_of ls ≤ 256)

-- the line after those before it
abbrev pub Within : List Line → Line → Type 0
Within before ℓ = Small ℓ × Room (before ++ (ℓ ∷ []))

-- an alias for a word that has one
abbrev pub Second : List Line → Line → Type 0
Second before (rule w a ss) = ⊥
Second before (alias s m) = member s (said_in before) ≡ true
Second before (filler w) = ⊥

-- each line keeps the limits and is no second alias, after those before it
abbrev pub Accepted : List Line → Type 0
Accepted ls = (before after : List Line) (ℓ : Line) → ls ≡ before ++ (ℓ ∷ after) → Within before ℓ × (Second before ℓ → ⊥)
