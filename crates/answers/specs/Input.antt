-- A sheet and messages in one input. Assumes nothing.
use Rattle.std.specs.Prelude.{◌≡◌, ℕ, List, [], ◌∷◌, ◌++◌, ◌≢◌}
use Rattle.std.specs.List.{AllByRecursion}

-- bytes without the end of a line, 0x0A
abbrev pub Unended : List ℕ → Type 0
Unended bytes = AllByRecursion (λ b. b ≢ 10) bytes

-- the lines, each with its end
abbrev pub ended : List (List ℕ) → List ℕ
ended [] = []
ended (l ∷ ls) = l ++ (10 ∷ ended ls)

-- a line that is not empty
abbrev pub FullLine : List ℕ → Type 0
FullLine l = Unended l × (l ≢ [])

-- the sheet is the lines before the first empty line, and the messages are what follows it; without an empty line all is the sheet
pub data Split (input sheet rest : List ℕ) : Type 0 where
  at_empty_line : (ls : List (List ℕ)) → AllByRecursion FullLine ls → sheet ≡ ended ls → input ≡ sheet ++ (10 ∷ rest) → Split input sheet rest
  without : (ls : List (List ℕ)) (last : List ℕ) → AllByRecursion FullLine ls → Unended last → input ≡ ended ls ++ last → sheet ≡ input → rest ≡ [] → Split input sheet rest

-- the messages are one a line; the last may lack its end, and after the last line end there is none
pub data Messages (rest : List ℕ) (ms : List (List ℕ)) : Type 0 where
  all_ended : AllByRecursion Unended ms → rest ≡ ended ms → Messages rest ms
  last_open : (before : List (List ℕ)) (last : List ℕ) → AllByRecursion Unended before → FullLine last → ms ≡ before ++ (last ∷ []) → rest ≡ ended before ++ last → Messages rest ms

-- a rest has one list of messages at most
abbrev pub OneList : Type 0
OneList = (rest : List ℕ) (ms ms' : List (List ℕ)) → Messages rest ms → Messages rest ms' → ms ≡ ms'

-- an input is split in one way at most
abbrev pub OneSplit : Type 0
OneSplit = (input sheet rest sheet' rest' : List ℕ) → Split input sheet rest → Split input sheet' rest' → (sheet ≡ sheet') × (rest ≡ rest')
