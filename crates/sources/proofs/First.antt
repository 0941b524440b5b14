-- What an answer tells of the meaning that it is of. Assumes nothing.
use Rattle.std.proofs.Common.{◌≡◌, ℕ, List, [], ◌∷◌, drop, IsErrAnd, Some, None, Ok, Err, Option, Result, refl, ap, ◌∙◌, arith}
use Rattle.std.proofs.lemmas.Result.{err_from_is_err_and}
use Rattle.faults.specs.declared.Fault.{Fault}
use Rattle.sources.specs.declared.source.Heard.{Heard}
use Rattle.faults.specs.Faults.{Told, told, telling}
use Rattle.sources.specs.Meanings.{Meaning, answered, opening}

abbrev meant : List Heard → Option Told → Meaning
meant hs e = record { words = hs; ending = e }

some_words : (hs : List Heard) (e : Option Told) (h : Heard) → Ok (Some h) ≡ opening hs e → hs ≡ h ∷ drop 1 hs
some_words [] None h p = let z : ◌≡◌ {A = ℕ} 0 1 = cc in absurd (omega arith)
some_words [] (Some f) h p = let z : ◌≡◌ {A = ℕ} 0 1 = cc in absurd (omega arith)
some_words (k ∷ hs) e h p = let q : k ≡ h = cc in ap (λ x. x ∷ hs) q

none_words : (hs : List Heard) (e : Option Told) → Ok None ≡ opening hs e → meant hs e ≡ meant [] None
none_words [] None p = refl
none_words [] (Some f) p = let z : ◌≡◌ {A = ℕ} 0 1 = cc in absurd (omega arith)
none_words (k ∷ hs) e p = let z : ◌≡◌ {A = ℕ} 0 1 = cc in absurd (omega arith)

fault_words : (hs : List Heard) (e : Option Told) (t : Told) → Err t ≡ opening hs e → meant hs e ≡ meant [] (Some t)
fault_words [] None t p = let z : ◌≡◌ {A = ℕ} 0 1 = cc in absurd (omega arith)
fault_words [] (Some f) t p = let q : f ≡ t = cc in ap (λ x. meant [] (Some x)) q
fault_words (k ∷ hs) e t p = let z : ◌≡◌ {A = ℕ} 0 1 = cc in absurd (omega arith)

-- a word: the list begins with it
pub at_some : (m : Meaning) (h : Heard) → Ok (Some h) ≡ answered m → m ≡ record { words = h ∷ drop 1 m.words; ending = m.ending }
at_some m h p = ap (λ hs. meant hs m.ending) (some_words m.words m.ending h p)

-- the end: nothing is left
pub at_none : (m : Meaning) → Ok None ≡ answered m → m ≡ record { words = []; ending = None }
at_none m p = none_words m.words m.ending p

-- a fault: nothing but it is left
pub at_fault : (m : Meaning) (t : Told) → Err t ≡ answered m → m ≡ record { words = []; ending = Some t }
at_fault m t p = fault_words m.words m.ending t p

-- what a `?` hands on
pub handed_on : {A : Type 0} (r : Result A Fault) (f : Fault) → IsErrAnd r (λ y. y ≡ f) → telling r ≡ Err (told f)
handed_on r f h =
    let p = err_from_is_err_and {Q = λ y. y ≡ f} r h in
    ap telling p.1 ∙ ap (λ y. Err (told y)) p.2
