-- What is taken off leaves less. Assumes nothing.
use Rattle.std.proofs.Common.{◌≡◌, ℕ, ◌<◌, List, [], ◌∷◌, length, drop, Some, None, Ok, Option, refl, ap, arith, length-append}
use Rattle.faults.specs.Faults.{Told}
use Rattle.sources.specs.declared.source.Heard.{Heard}
use Rattle.sources.specs.Meanings.{Meaning, answered, opening, past}
use Rattle.answers.specs.inner.Taking.{Taken, with_end, without_end}

fewer_heard : (hs : List Heard) (e : Option Told) (h : Heard) → Ok (Some h) ≡ opening hs e → length (drop 1 hs) < length hs
fewer_heard [] None h is = cc
fewer_heard [] (Some t) h is = cc
fewer_heard (x ∷ hs) e h is = omega arith

-- a source that gave a word has fewer to come
pub fewer : (m m' : Meaning) (o : Option Heard) (h : Heard) → o ≡ Some h → Ok o ≡ answered m → m' ≡ past 1 m → length m'.words < length m.words
fewer m m' o h some is left = rw left (fewer_heard m.words m.ending h (rw some at is))

-- a message taken from the rest leaves a shorter rest
pub shorter : (rest message after : List ℕ) → Taken rest message after → length after < length rest
shorter rest message after (with_end u e) = omega (arith, ap length e, length-append message (10 ∷ after))
shorter rest [] after (without_end f e none) = absurd (f.1 refl)
shorter rest (b ∷ message) after (without_end f e none) = omega (arith, ap length e, ap length none)
