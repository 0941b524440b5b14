-- What is proved of messages and layers besides the calls. Assumes nothing.
use Rattle.std.specs.Prelude.{◌≡◌, ℕ, zero, suc, ◌+◌, Bool, true, ◌&&◌, ◌↔◌, List, [], ◌∷◌, map, length, take, drop, filter, slice_index_or}
use Rattle.std.specs.List.{prefix_len, AllByRecursion}
use Rattle.sources.specs.Meanings.{Meaning, no_filler, without}
use Rattle.sources.specs.Messages.{space, other, Run, runs}

-- p, p + 1, .., n of them
abbrev pub upward : ℕ → ℕ → List ℕ
upward zero p = []
upward (suc n) p = p ∷ upward n (p + 1)

-- the byte at i is no space, and the one before it is a space or none
abbrev pub begins : List ℕ → ℕ → Bool
begins m i = other (slice_index_or m i 32) && space (slice_index_or (32 ∷ m) i 32)

-- from i up to the next space
abbrev pub run_at : List ℕ → ℕ → Run
run_at m i = record { place = i; bytes = take (prefix_len other (drop i m)) (drop i m) }

-- the runs of a message are the stretches that begin after a space or at the start, in their order
abbrev pub RunsByBegins : Type 0
RunsByBegins = (m : List ℕ) → runs 0 true m ≡ map (run_at m) (filter (begins m) (upward (length m) 0))

-- leaving fillers out changes nothing exactly where no word is a filler
abbrev pub FillersOnly : Type 0
FillersOnly = (fillers : ℕ) (m : Meaning) → (without fillers m ≡ m) ↔ AllByRecursion (λ h. no_filler fillers h ≡ true) m.words
