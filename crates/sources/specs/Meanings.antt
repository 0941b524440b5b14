-- What a source means, and what a layer makes of the meaning below it. Assumes nothing.
use Rattle.std.specs.Prelude.{ℕ, Bool, cond, not, List, [], ◌∷◌, map, drop, Some, None, Ok, Err, filter, Option, Result, ◌==◌}
use Rattle.faults.specs.Faults.{Told}
use Rattle.grammar.specs.declared.Alias.{Alias}
use Rattle.grammar.specs.Bits.{has}
use Rattle.sources.specs.declared.source.Heard.{Heard}

-- the words still to come, and then the end or a fault
pub record Meaning : Type 0 where
  pub words : List Heard
  pub ending : Option Told

abbrev pub ended : Meaning
ended = record { words = []; ending = None }

abbrev pub faulty : Told → Meaning
faulty f = record { words = []; ending = Some f }

-- word w at place p, and then the rest
abbrev pub saying : ℕ → ℕ → Meaning → Meaning
saying w p m = record { words = (record { word = w; place = p }) ∷ m.words; ending = m.ending }

abbrev pub closing : Option Told → Result (Option Heard) Told
closing None = Ok None
closing (Some f) = Err f

abbrev pub opening : List Heard → Option Told → Result (Option Heard) Told
opening [] e = closing e
opening (h ∷ hs) e = Ok (Some h)

-- the first word, or the ending where no word is left
abbrev pub answered : Meaning → Result (Option Heard) Told
answered m = opening m.words m.ending

-- what is left after n words
abbrev pub past : ℕ → Meaning → Meaning
past n m = record { words = drop n m.words; ending = m.ending }

-- the word meant by a word said: that of the first alias for it, else itself
abbrev pub meant_by : List Alias → ℕ → ℕ
meant_by [] w = w
meant_by (a ∷ more) w = cond (a.said == w) a.meant (meant_by more w)

-- each word said becomes the word meant; places and ending remain
abbrev pub renamed : List Alias → Meaning → Meaning
renamed aliases m = record { words = map (λ h. record { word = meant_by aliases h.word; place = h.place }) m.words; ending = m.ending }

abbrev pub no_filler : ℕ → Heard → Bool
no_filler fillers h = not (has fillers h.word)

-- filler words are left out; places and ending remain
abbrev pub without : ℕ → Meaning → Meaning
without fillers m = record { words = filter (no_filler fillers) m.words; ending = m.ending }
