-- What the text of a sheet means, and what refuses it. Assumes nothing.
use Rattle.std.specs.Prelude.{◌≡◌, ℕ, suc, ◌<◌, ◌≤◌, List, [], ◌∷◌, ◌++◌, map, length, slice_index_or}
use Rattle.std.specs.List.{AllByRecursion}
use Rattle.faults.specs.declared.Layer.TheVariants.{Load}
use Rattle.faults.specs.declared.Refusal.{Refusal}
use Rattle.faults.specs.declared.Refusal.TheVariants.{SheetTooLong, LineShape, LineLimit, SecondAlias, NoRule, NoTree, MessageTooLong, ByteNotAllowed, WordTooLong, UnlistedWord, NoSuchSeat, BrokenRecord, Full, LeadsNowhere, NothingToTakeBack, NoCommand, BufferTooShort}
use Rattle.faults.specs.Faults.{Told, met}
use Rattle.grammar.specs.declared.Symbol.{Symbol}
use Rattle.grammar.specs.declared.Symbol.TheVariants.{Name, Word}
use Rattle.grammar.specs.declared.Rule.{Rule}
use Rattle.grammar.specs.declared.Alias.{Alias}
use Rattle.grammar.specs.declared.sheet.Sheet.{Sheet}
use Rattle.grammar.specs.Grammar.{right}
use Rattle.grammar.specs.Bits.{has}
use Rattle.grammar.specs.Closure.{AllFormed, LowestTreeless}
use Rattle.grammar.specs.View.{names_in, words_in, rules_of, aliases_in, fillers_in, Alike}
use Rattle.sheets.specs.Lines.{Spelled, name, word, Line, written, Well}
use Rattle.sheets.specs.Spellings.{member, names_of, words_of}
use Rattle.sheets.specs.Limits.{Production, Renaming, productions, renamings, fillers_of, Within, Second, Accepted}

-- the lines, each with its end
abbrev pub ended : List Line → List ℕ
ended [] = []
ended (ℓ ∷ ls) = written ℓ ++ (10 ∷ ended ls)

-- the text is these lines, and each is accepted after those before it
abbrev pub Ordered : List ℕ → List Line → Type 0
Ordered text ls = (text ≡ ended ls) × AllByRecursion Well ls × Accepted ls

-- numbers spelled out again
module _ (names words : List (List ℕ)) where
  abbrev pub spelled : Symbol → Spelled
  spelled (Name a) = name (slice_index_or names a [])
  spelled (Word w) = word (slice_index_or words w [])

  abbrev pub production : Rule → Production
  production p = record { weight = p.weight; left = slice_index_or names p.left []; right = map spelled (right p) }

abbrev pub renaming : List (List ℕ) → Alias → Renaming
renaming words a = record { said = slice_index_or words a.said []; meant = slice_index_or words a.meant [] }

-- the rules are those of the lines, with numbers for names and words
pub record Numbered (ls : List Line) (rules : List Rule) : Type 0 where
  pub formed : AllFormed (length (names_of ls)) (length (words_of ls)) rules
  pub spelled_out : map (production (names_of ls) (words_of ls)) rules ≡ productions ls

-- the sheet holds what the lines say
pub record Says (ls : List Line) (s : Sheet) : Type 0 where
  pub names : names_in s ≡ names_of ls
  pub words : words_in s ≡ words_of ls
  pub rules : Numbered ls (rules_of s)
  pub aliases : map (renaming (words_of ls)) (aliases_in s) ≡ renamings ls
  pub fillers : (w : ℕ) → w < length (words_of ls) → has (fillers_in s) w ≡ member (slice_index_or (words_of ls) w []) (fillers_of ls)

-- what a text means: its lines, said by the sheet
abbrev pub Loaded : List ℕ → Sheet → Type 0
Loaded text s = (length text ≤ 16384) × ((ls : List Line) × Ordered text ls × Says ls s)

-- no line stands where the lines before end
abbrev pub Misshapen : List Line → List ℕ → Type 0
Misshapen before rest = (0 < length rest) × ((ℓ : Line) (after : List ℕ) → rest ≡ written ℓ ++ (10 ∷ after) → Well ℓ → ⊥)

-- a line stands there that passes a limit
abbrev pub PassesLimit : List Line → List ℕ → Type 0
PassesLimit before rest = (ℓ : Line) × (after : List ℕ) × (rest ≡ written ℓ ++ (10 ∷ after)) × Well ℓ × (Within before ℓ → ⊥)

-- or that keeps them and is a second alias
abbrev pub AliasedTwice : List Line → List ℕ → Type 0
AliasedTwice before rest = (ℓ : Line) × (after : List ℕ) × (rest ≡ written ℓ ++ (10 ∷ after)) × Well ℓ × Within before ℓ × Second before ℓ

-- the first line that fails, by its number from 1
abbrev pub FirstFault : List ℕ → (List Line → List ℕ → Type 0) → ℕ → Type 0
FirstFault text fails n =
    (before : List Line) × (rest : List ℕ) × (text ≡ ended before ++ rest) × AllByRecursion Well before × Accepted before × fails before rest × (n ≡ suc (length before))

-- why the loader refuses a text, and the place that it tells: none, a line or a name
abbrev pub Refuses : List ℕ → Refusal → ℕ → Type 0
Refuses text SheetTooLong n = (16384 < length text) × (n ≡ 0)
Refuses text LineShape n = (length text ≤ 16384) × FirstFault text Misshapen n
Refuses text LineLimit n = (length text ≤ 16384) × FirstFault text PassesLimit n
Refuses text SecondAlias n = (length text ≤ 16384) × FirstFault text AliasedTwice n
Refuses text NoRule n = (length text ≤ 16384) × ((ls : List Line) × Ordered text ls × (productions ls ≡ [])) × (n ≡ 0)
Refuses text NoTree a =
    (length text ≤ 16384) × ((ls : List Line) × (rules : List Rule) × Ordered text ls × Numbered ls rules × LowestTreeless rules (length (names_of ls)) a)
Refuses text MessageTooLong n = ⊥
Refuses text ByteNotAllowed n = ⊥
Refuses text WordTooLong n = ⊥
Refuses text UnlistedWord n = ⊥
Refuses text NoSuchSeat n = ⊥
Refuses text BrokenRecord n = ⊥
Refuses text Full n = ⊥
Refuses text LeadsNowhere n = ⊥
Refuses text NothingToTakeBack n = ⊥
Refuses text NoCommand n = ⊥
Refuses text BufferTooShort n = ⊥

-- the text is refused, with what the fault tells
abbrev pub Refused : List ℕ → Told → Type 0
Refused text t = (refusal : Refusal) × (place : ℕ) × (t ≡ met refusal place Load) × Refuses text refusal place

-- a text means one sheet at most
abbrev pub OneSheet : Type 0
OneSheet = (text : List ℕ) (s s' : Sheet) → Loaded text s → Loaded text s' → Alike s s'

-- the refusal given is the first: there is no other, and none where the text means a sheet
abbrev pub OneAnswer : Type 0
OneAnswer =
    ((text : List ℕ) (t t' : Told) → Refused text t → Refused text t' → t ≡ t') × ((text : List ℕ) (t : Told) (s : Sheet) → Refused text t → Loaded text s → ⊥)
