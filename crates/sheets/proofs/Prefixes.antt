-- A text has one list of lines: of two that begin it, one goes on from the other.
use Rattle.std.proofs.Common.{◌≡◌, ℕ, ◌⊎◌, List, [], ◌∷◌, ◌++◌, length, sym, refl, ap, ◌∙◌, inl, inr, arith, length-append}
use Rattle.std.specs.List.{AllByRecursion}
use Rattle.std.proofs.lemmas.List.{append_assoc, append-nil}
use Rattle.sheets.specs.Lines.{Line, written, Well}
use Rattle.sheets.specs.Texts.{ended, Ordered}
use Rattle.sheets.proofs.Cuts.{cut_once}
use Rattle.sheets.proofs.Ending.{unended}
use Rattle.sheets.proofs.Once.{means_once}

-- the same bytes begin with one line
pub first_once : (ℓ m : Line) (after after' : List ℕ) → Well ℓ → Well m → written ℓ ++ (10 ∷ after) ≡ written m ++ (10 ∷ after') → (ℓ ≡ m) × (after ≡ after')
first_once ℓ m after after' h k e =
    let p = cut_once 10 (written ℓ) (10 ∷ after) (written m) (10 ∷ after') e (unended ℓ h) (unended m k) refl refl in
    let rest = p.1 in
    (means_once (written ℓ) ℓ m (refl, h) (p.0, k), (cc))

-- where the first lines end, the second go on with one line and more
pub record Longer (ls : List Line) (rest : List ℕ) (ms : List Line) : Type 0 where
  pub next : Line
  pub more : List Line
  pub after : List ℕ
  pub lines : ms ≡ ls ++ (next ∷ more)
  pub bytes : rest ≡ written next ++ (10 ∷ after)
  pub well : Well next

longer_more : (ℓ m : Line) (ls ms : List Line) (rest : List ℕ) → ℓ ≡ m → Longer ls rest ms → Longer (ℓ ∷ ls) rest (m ∷ ms)
longer_more ℓ m ls ms rest e l = record {
  next = l.next;
  more = l.more;
  after = l.after;
  lines = let lines = l.lines in cc;
  bytes = l.bytes;
  well = l.well;
}

pub compared : (ls ms : List Line) (rest rest' : List ℕ) → AllByRecursion Well ls → AllByRecursion Well ms → ended ls ++ rest ≡ ended ms ++ rest'
    → ((ls ≡ ms) × (rest ≡ rest')) ⊎ (Longer ls rest ms ⊎ Longer ms rest' ls)
compared [] [] rest rest' h k e = inl (refl, e)
compared [] (m ∷ ms) rest rest' h k e =
    inr (inl (record { next = m; more = ms; after = ended ms ++ rest'; lines = refl; bytes = e ∙ append_assoc (written m) (10 ∷ ended ms) rest'; well = k.0 }))
compared (ℓ ∷ ls) [] rest rest' h k e =
    inr (inr (record { next = ℓ; more = ls; after = ended ls ++ rest; lines = refl; bytes = sym e ∙ append_assoc (written ℓ) (10 ∷ ended ls) rest; well = h.0 }))
compared (ℓ ∷ ls) (m ∷ ms) rest rest' h k e =
    let whole = sym (append_assoc (written ℓ) (10 ∷ ended ls) rest) ∙ e ∙ append_assoc (written m) (10 ∷ ended ms) rest' in
    let first = first_once ℓ m (ended ls ++ rest) (ended ms ++ rest') h.0 k.0 whole in
    let same = first.0 in
    elim (compared ls ms rest rest' h.1 k.1 first.1) [
      | inl p ↦ let tails = p.0 in inl ((cc), p.1)
      | inr (inl l) ↦ inr (inl (longer_more ℓ m ls ms rest same l))
      | inr (inr l) ↦ inr (inr (longer_more m ℓ ms ls rest' (sym same) l))
    ]

-- no line stands at the end of a text
pub ends_there : (ls ms : List Line) (rest : List ℕ) → rest ≡ [] → Longer ls rest ms → ⊥
ends_there ls ms rest e l =
    let n = ap length (sym e ∙ l.bytes) in
    let a = length-append (written l.next) (10 ∷ l.after) in
    omega arith

pub ordered_once : (text : List ℕ) (ls ms : List Line) → Ordered text ls → Ordered text ms → ls ≡ ms
ordered_once text ls ms p q =
    elim (compared ls ms [] [] p.1 q.1 (append-nil (ended ls) ∙ sym p.0 ∙ q.0 ∙ sym (append-nil (ended ms)))) [
      | inl e ↦ e.0
      | inr (inl l) ↦ absurd (ends_there ls ms [] refl l)
      | inr (inr l) ↦ absurd (ends_there ms ls [] refl l)
    ]
