-- The first line that fails is one, and fails in one way.
use Rattle.std.proofs.Common.{◌≡◌, ℕ, ◌<◌, List, [], ◌∷◌, ◌++◌, length, sym, refl, ap, ◌∙◌, subst, inl, inr, arith, length-append}
use Rattle.std.proofs.lemmas.List.{append-nil}
use Rattle.sheets.specs.Lines.{Line, written, Well}
use Rattle.sheets.specs.Limits.{Within, Second, Accepted}
use Rattle.sheets.specs.Texts.{ended, Ordered, Misshapen, PassesLimit, AliasedTwice, FirstFault}
use Rattle.sheets.proofs.Prefixes.{first_once, Longer, compared, ends_there}

-- the ways in which a line fails
pub data Failure : Type 0 where
  shape : Failure
  limit : Failure
  second : Failure

abbrev pub Fails : Failure → List Line → List ℕ → Type 0
Fails shape before rest = Misshapen before rest
Fails limit before rest = PassesLimit before rest
Fails second before rest = AliasedTwice before rest

-- what they share: something is left, and no line that is accepted begins it
abbrev Halts : List Line → List ℕ → Type 0
Halts before rest =
    (0 < length rest) × ((ℓ : Line) (after : List ℕ) → rest ≡ written ℓ ++ (10 ∷ after) → Well ℓ → Within before ℓ → (Second before ℓ → ⊥) → ⊥)

-- what a line and its end begin is not empty
some : (rest after : List ℕ) (ℓ : Line) → rest ≡ written ℓ ++ (10 ∷ after) → 0 < length rest
some rest after ℓ e = let n = ap length e in let a = length-append (written ℓ) (10 ∷ after) in omega arith

-- the line that begins the rest
same_line : (rest after after' : List ℕ) (ℓ m : Line) → rest ≡ written ℓ ++ (10 ∷ after) → Well ℓ → rest ≡ written m ++ (10 ∷ after') → Well m → ℓ ≡ m
same_line rest after after' ℓ m e h f k = (first_once ℓ m after after' h k (sym e ∙ f)).0

halts : (f : Failure) (before : List Line) (rest : List ℕ) → Fails f before rest → Halts before rest
halts shape before rest p = (p.0, λ ℓ after e h within once. p.1 ℓ after e h)
halts limit before rest (m, after', e', k, outside) =
    (some rest after' m e', λ ℓ after e h within once. outside (subst (Within before) (same_line rest after after' ℓ m e h e' k) within))
halts second before rest (m, after', e', k, within', again) =
    (some rest after' m e', λ ℓ after e h within once. once (subst (Second before) (same_line rest after' after m ℓ e' k e h) again))

-- a list of accepted lines does not go on where a line fails
stopped : (ls ms : List Line) (rest : List ℕ) → Halts ls rest → Accepted ms → Longer ls rest ms → ⊥
stopped ls ms rest halt accepted l =
    let line = accepted ls l.more l.next l.lines in
    halt.1 l.next l.after l.bytes l.well line.0 line.1

fails_once : (f g : Failure) (before : List Line) (rest : List ℕ) → Fails f before rest → Fails g before rest → f ≡ g
fails_once shape shape before rest p q = refl
fails_once shape limit before rest p (m, after, e, k, outside) = absurd (p.1 m after e k)
fails_once shape second before rest p (m, after, e, k, within, again) = absurd (p.1 m after e k)
fails_once limit shape before rest (m, after, e, k, outside) q = absurd (q.1 m after e k)
fails_once limit limit before rest p q = refl
fails_once limit second before rest (ℓ, after, e, h, outside) (m, after', e', k, within, again) =
    absurd (outside (subst (Within before) (same_line rest after' after m ℓ e' k e h) within))
fails_once second shape before rest (m, after, e, k, within, again) q = absurd (q.1 m after e k)
fails_once second limit before rest (m, after', e', k, within, again) (ℓ, after, e, h, outside) =
    absurd (outside (subst (Within before) (same_line rest after' after m ℓ e' k e h) within))
fails_once second second before rest p q = refl

-- a text has one first fault
pub fault_once : (text : List ℕ) (f g : Failure) (n m : ℕ) → FirstFault text (Fails f) n → FirstFault text (Fails g) m → (f ≡ g) × (n ≡ m)
fault_once text f g n m (ls, rest, e, wells, accepted, fails, is) (ms, rest', e', wells', accepted', fails', is') =
    elim (compared ls ms rest rest' wells wells' (sym e ∙ e')) [
      | inl p ↦
          let lines = p.0 in
          (fails_once f g ls rest fails (subst (λ r. Fails g ls r) (sym p.1) (subst (λ b. Fails g b rest') (sym lines) fails')), (cc))
      | inr (inl l) ↦ absurd (stopped ls ms rest (halts f ls rest fails) accepted' l)
      | inr (inr l) ↦ absurd (stopped ms ls rest' (halts g ms rest' fails') accepted l)
    ]

-- and none where all its lines are in order
pub fault_never : (text : List ℕ) (f : Failure) (n : ℕ) (ms : List Line) → FirstFault text (Fails f) n → Ordered text ms → ⊥
fault_never text f n ms (ls, rest, e, wells, accepted, fails, is) (e', wells', accepted') =
    let halt = halts f ls rest fails in
    elim (compared ls ms rest [] wells wells' (sym e ∙ e' ∙ sym (append-nil (ended ms)))) [
      | inl p ↦ let none = ap length p.1 in omega (arith, halt.0)
      | inr (inl l) ↦ stopped ls ms rest halt accepted' l
      | inr (inr l) ↦ ends_there ms ls [] refl l
    ]
