-- One line more of a text.
use Rattle.std.proofs.Common.{◌≡◌, ℕ, suc, ◌<◌, ◌≤◌, ◌⊎◌, List, [], ◌∷◌, ◌++◌, length, true, Ok, Err, Result, sym, refl, ap, ◌∙◌, subst, inl, inr, arith, length-append}
use Rattle.std.specs.List.{AllByRecursion}
use Rattle.std.specs.Result.{MatchResult, is_ok}
use Rattle.std.proofs.lemmas.List.{append_assoc, append-nil}
use Rattle.sheets.specs.declared.lines.Parsed.{Parsed}
use Rattle.sheets.specs.declared.lines.Parsed.TheVariants.{Rule, Alias, Filler}
use Rattle.sheets.specs.Lines.{Line, rule, alias, filler, written, Means, Well}
use Rattle.sheets.specs.inner.Parses.{Tells}
use Rattle.sheets.specs.Limits.{Within, Second, Accepted}
use Rattle.grammar.specs.declared.draft.Draft.{Draft}
use Rattle.sheets.specs.declared.refusals.Bar.{Bar}
use Rattle.sheets.specs.declared.refusals.Bar.TheVariants.{Limit, Second as SecondBar}
use Rattle.sheets.specs.Texts.{ended, Refuses}
use Rattle.sheets.specs.inner.Drafting.{Outcome, refusal_of}

-- what is parsed tells a line
pub line_told : (p : Parsed) (line : List ℕ) → Tells p line → (ℓ : Line) × Means line ℓ
line_told (Rule w a s) line h = (rule w.now a.now h.0, h.1)
line_told (Alias s m) line h = (alias s.now m.now, h)
line_told (Filler w) line h = (filler w.now, h)

-- the last of a list, or one before it
split_push : {A : Type 0} (xs : List A) (x : A) (b : List A) (m : A) (a : List A) → xs ++ (x ∷ []) ≡ b ++ (m ∷ a)
    → ((b ≡ xs) × (m ≡ x)) ⊎ ((a' : List A) × (xs ≡ b ++ (m ∷ a')))
split_push [] x [] m a e = inl (refl, (cc))
split_push [] x (y ∷ []) m a e = let z : ◌≡◌ {A = ℕ} 0 1 = cc in absurd (omega arith)
split_push [] x (y ∷ (w ∷ b)) m a e = let z : ◌≡◌ {A = ℕ} 0 1 = cc in absurd (omega arith)
split_push (y ∷ xs) x [] m a e = inr (xs, (cc))
split_push (y ∷ xs) x (w ∷ b) m a e =
    let heads : y ≡ w = cc in
    let tails : xs ++ (x ∷ []) ≡ b ++ (m ∷ a) = cc in
    elim (split_push xs x b m a tails) [
      | inl p ↦ let q = p.0 in inl ((cc), p.1)
      | inr p ↦ let q = p.1 in inr (p.0, (cc))
    ]

pub accepted_none : Accepted []
accepted_none [] after ℓ e = let z : ◌≡◌ {A = ℕ} 0 1 = cc in absurd (omega arith)
accepted_none (m ∷ before) after ℓ e = let z : ◌≡◌ {A = ℕ} 0 1 = cc in absurd (omega arith)

pub accepted_more : (ls : List Line) (ℓ : Line) → Accepted ls → Within ls ℓ → (Second ls ℓ → ⊥) → Accepted (ls ++ (ℓ ∷ []))
accepted_more ls ℓ all within once before after m e = elim (split_push ls ℓ before m after e) [
  | inl p ↦
      let at : Line → Type 0 = λ k. Within ls k × (Second ls k → ⊥) in
      let from : List Line → Type 0 = λ b. Within b m × (Second b m → ⊥) in
      subst from (sym p.0) (subst at (sym p.1) (within, once))
  | inr p ↦ all before p.0 m p.1
]

ended_push : (ls : List Line) (ℓ : Line) (after : List ℕ) → ended (ls ++ (ℓ ∷ [])) ++ after ≡ ended ls ++ (written ℓ ++ (10 ∷ after))
ended_push [] ℓ after = append_assoc (written ℓ) (10 ∷ []) after
ended_push (m ∷ ls) ℓ after =
    append_assoc (written m) (10 ∷ ended (ls ++ (ℓ ∷ []))) after
    ∙ ap (λ t. written m ++ (10 ∷ t)) (ended_push ls ℓ after)
    ∙ sym (append_assoc (written m) (10 ∷ ended ls) (written ℓ ++ (10 ∷ after)))

pub text_more : (text rest line after : List ℕ) (ls : List Line) (ℓ : Line) → text ≡ ended ls ++ rest → rest ≡ line ++ (10 ∷ after) → Means line ℓ
    → text ≡ ended (ls ++ (ℓ ∷ [])) ++ after
text_more text rest line after ls ℓ e f m =
    e ∙ ap (λ t. ended ls ++ t) (f ∙ ap (λ t. t ++ (10 ∷ after)) m.0) ∙ sym (ended_push ls ℓ after)

pub rest_of : (rest line after : List ℕ) (ℓ : Line) → rest ≡ line ++ (10 ∷ after) → Means line ℓ → rest ≡ written ℓ ++ (10 ∷ after)
rest_of rest line after ℓ f m = f ∙ ap (λ t. t ++ (10 ∷ after)) m.0

pub shorter : (rest line after : List ℕ) → rest ≡ line ++ (10 ∷ after) → length after < length rest
shorter rest line after f = let e = ap length f in let l = length-append line (10 ∷ after) in omega arith

pub text_all : (text rest : List ℕ) (ls : List Line) → text ≡ ended ls ++ rest → rest ≡ [] → text ≡ ended ls
text_all text rest ls e f = e ∙ ap (λ t. ended ls ++ t) f ∙ append-nil (ended ls)

-- a line that is refused refuses the text
pub barred : (text rest after : List ℕ) (before : List Line) (ℓ : Line) (bar : Bar) (d : Draft) (n : ℕ) → length text ≤ 16384 → text ≡ ended before ++ rest → AllByRecursion Well before → Accepted before
    → rest ≡ written ℓ ++ (10 ∷ after) → Well ℓ → n ≡ suc (length before) → Outcome before ℓ (Err bar) d → Refuses text (refusal_of bar) n
barred text rest after before ℓ Limit d n fits e wells all f well is out = (fits, (before, rest, e, wells, all, (ℓ, after, f, well, out), is))
barred text rest after before ℓ SecondBar d n fits e wells all f well is out = (fits, (before, rest, e, wells, all, (ℓ, after, f, well, out.0, out.1), is))

-- a result whose error was made another
pub mapped_err : {D E : Type 0} (P : D → Type 0) (r : Result (Unit {0}) D) (e : E) → MatchResult r (λ x. ◌≡◌ {A = Result (Unit {0}) E} (Err e) (Ok x)) P → (d : D) × (r ≡ Err d) × P d
mapped_err P (Ok u) e cases = cc
mapped_err P (Err d) e cases = (d, refl, cases)

pub mapped_ok : {D : Type 0} (r : Result (Unit {0}) D) (u : Unit {0}) → true ≡ is_ok r → r ≡ Ok u
mapped_ok (Ok v) u e = refl
mapped_ok (Err d) u e = cc
