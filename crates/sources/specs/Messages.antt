-- What a message means by its runs. Assumes nothing.
use Rattle.std.specs.Prelude.{ℕ, ◌+◌, Bool, true, false, cond, not, ◌||◌, List, [], ◌∷◌, map, length, take, Some, None, Ok, Err, Option, Result, ◌==◌, nat_lt}
use Rattle.std.specs.List.{prefix_len}
use Rattle.std.specs.Str.{bytes_eq}
use Rattle.faults.specs.declared.Layer.TheVariants.{Text}
use Rattle.faults.specs.declared.Refusal.TheVariants.{ByteNotAllowed, WordTooLong, UnlistedWord}
use Rattle.faults.specs.Faults.{Told, met}
use Rattle.grammar.specs.Letters.{capital, in_word}
use Rattle.sources.specs.Meanings.{Meaning, ended, faulty, saying}

abbrev pub space : ℕ → Bool
space b = b == 32

abbrev pub other : ℕ → Bool
other b = not (b == 32)

-- a stretch of bytes other than a space, as long as it goes, and the place of its first byte
pub record Run : Type 0 where
  pub place : ℕ
  pub bytes : List ℕ

-- the runs that begin from a place on, where `fresh` says that no byte of a run stands before it
abbrev pub runs : ℕ → Bool → List ℕ → List Run
runs p fresh [] = []
runs p fresh (b ∷ bs) =
    cond (space b)
    (runs (p + 1) true bs)
    (cond fresh
    ((record { place = p; bytes = take (prefix_len other (b ∷ bs)) (b ∷ bs) }) ∷ runs (p + 1) false bs)
    (runs (p + 1) false bs))

-- letters, digits and the hyphen
abbrev pub allowed : ℕ → Bool
allowed b = in_word b || capital b

-- A to Z is read as a to z
abbrev pub lower : ℕ → ℕ
lower b = cond (capital b) (b + 32) b

-- the number of a spelling, counted from k
abbrev pub numbered : ℕ → List (List ℕ) → List ℕ → Option ℕ
numbered k [] w = None
numbered k (s ∷ ss) w = cond (bytes_eq s w) (Some k) (numbered (k + 1) ss w)

abbrev pub listed : ℕ → Option ℕ → Result ℕ Told
listed p (Some w) = Ok w
listed p None = Err (met UnlistedWord p Text)

-- the word's number, or the fault: first a byte that is not allowed, then the length, then the list
abbrev pub verdict : List (List ℕ) → Run → Result ℕ Told
verdict words r =
    cond (nat_lt (prefix_len allowed r.bytes) (length r.bytes))
    (Err (met ByteNotAllowed (r.place + prefix_len allowed r.bytes) Text))
    (cond (nat_lt 15 (length r.bytes))
    (Err (met WordTooLong r.place Text))
    (listed r.place (numbered 0 words (map lower r.bytes))))

abbrev pub judged : Result ℕ Told → ℕ → Meaning → Meaning
judged (Ok w) p m = saying w p m
judged (Err f) p m = faulty f

-- the words of the runs before the first faulty one
abbrev pub worded : List (List ℕ) → List Run → Meaning
worded words [] = ended
worded words (r ∷ rs) = judged (verdict words r) r.place (worded words rs)

-- bytes from a place on, spoken on a sheet of these words
abbrev pub spoken : List (List ℕ) → ℕ → List ℕ → Meaning
spoken words p bytes = worded words (runs p true bytes)
