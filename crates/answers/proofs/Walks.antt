-- The lines of a front of the input, up to the first empty line.
use Rattle.std.proofs.Common.{◌&&◌, one-add, add-one, eqb-true, ◌≡◌, ℕ, ◌+◌, Bool, true, false, eqb, ◌⊎◌, List, [], ◌∷◌, ◌++◌, length, take, drop, slice_index, ◌<◌, sym, refl, ap, ◌∙◌, subst, inl, inr, append_assoc, append-nil, arith, eq-eqb, ne_eqb}
use Rattle.std.specs.List.{AllByRecursion, zip, position, position_or_len}
use Rattle.std.specs.Option.{unwrap_or}
use Rattle.std.proofs.lemmas.Slice.Zip.{length-zip}
use Rattle.answers.proofs.Places.{place_or_len}
use Rattle.std.proofs.lemmas.Bool.{cases_Bool}
use borrow.Author.Tests.{eqb-false}
use Rattle.std.proofs.ByRecursion.{All-push}
use Rattle.answers.proofs.Cuts.{more_not_nil}
use Rattle.answers.specs.Input.{Unended, FullLine, ended, Split, at_empty_line, without}

-- the front is full lines with their ends, and then the start of a line
pub record Walked (front : List ℕ) (fresh : Bool) : Type 0 where
  pub full : List (List ℕ)
  pub last : List ℕ
  pub all_full : AllByRecursion FullLine full
  pub unended : Unended last
  pub is : front ≡ ended full ++ last
  pub at_start : fresh ≡ true → last ≡ []
  pub inside : fresh ≡ false → last ≡ [] → ⊥

ended_push : (ls : List (List ℕ)) (l : List ℕ) → ended (ls ++ (l ∷ [])) ≡ ended ls ++ (l ++ (10 ∷ []))
ended_push [] l = refl
ended_push (k ∷ ls) l = ap (λ bs. k ++ (10 ∷ bs)) (ended_push ls l) ∙ sym (append_assoc k (10 ∷ ended ls) (l ++ (10 ∷ [])))

-- one byte more, that ends no line
walked_byte : (front : List ℕ) (fresh : Bool) (b : ℕ) → Walked front fresh → (b ≡ 10 → ⊥) → Walked (front ++ (b ∷ [])) false
walked_byte front fresh b w n = record {
  full = w.full;
  last = w.last ++ (b ∷ []);
  all_full = w.all_full;
  unended = All-push (λ c. c ≡ 10 → ⊥) w.last b w.unended n;
  is = ap (λ bs. bs ++ (b ∷ [])) w.is ∙ append_assoc (ended w.full) w.last (b ∷ []);
  at_start = λ e. absurd (grind arith);
  inside = λ _. more_not_nil w.last b [];
}

-- one byte more, that ends a full line
walked_end : (front : List ℕ) (b : ℕ) → Walked front false → b ≡ 10 → Walked (front ++ (b ∷ [])) true
walked_end front b w e = record {
  full = w.full ++ (w.last ∷ []);
  last = [];
  all_full = All-push FullLine w.full w.last w.all_full (w.unended, w.inside refl);
  unended = tt;
  is = ap (λ bs. bs ++ (b ∷ [])) w.is ∙ append_assoc (ended w.full) w.last (b ∷ []) ∙ ap (λ c. ended w.full ++ (w.last ++ (c ∷ []))) e ∙ sym (ended_push w.full w.last) ∙ sym (append-nil (ended (w.full ++ (w.last ∷ []))));
  at_start = λ _. refl;
  inside = λ f. absurd (grind arith);
}

-- one byte more, that ends no empty line
walked_more : (front : List ℕ) (fresh : Bool) (b : ℕ) → Walked front fresh → ((b ≡ 10) × (fresh ≡ false)) ⊎ (b ≡ 10 → ⊥) → Walked (front ++ (b ∷ [])) (eqb b 10)
walked_more front fresh b w (inl h) =
    subst (Walked (front ++ (b ∷ []))) (sym (eq-eqb b 10 h.0)) (walked_end front b (subst (Walked front) h.1 w) h.0)
walked_more front fresh b w (inr n) = subst (Walked (front ++ (b ∷ []))) (sym (ne_eqb b 10 n)) (walked_byte front fresh b w n)

-- both bytes of a pair are ends of lines
abbrev pub both_end : ℕ × ℕ → Bool
both_end p = eqb p.0 10 && eqb p.1 10

both_true : (b c : ℕ) → both_end (b, c) ≡ true → (eqb b 10 ≡ true) × (c ≡ 10)
both_true b c e = (grind arith, grind arith)

both_false : (b c : ℕ) → both_end (b, c) ≡ false → ((c ≡ 10) × (eqb b 10 ≡ false)) ⊎ (c ≡ 10 → ⊥)
both_false b c e = elim (cases_Bool (eqb b 10)) [
  | inl t ↦ inr (λ k. grind arith)
  | inr f ↦ elim (cases_Bool (eqb c 10)) [ inl t ↦ inl (eqb-true c 10 t, f) | inr g ↦ inr (eqb-false c 10 g) ]
]

-- the place of the first empty line in bs, where b is the byte before it
abbrev pub empty_place : ℕ → List ℕ → ℕ
empty_place b bs = position_or_len both_end (zip (b ∷ bs) bs)

-- the same split, of parts that are equal
pub split_same : (input sheet rest sheet' rest' : List ℕ) → sheet' ≡ sheet → rest' ≡ rest → Split input sheet rest → Split input sheet' rest'
split_same input sheet rest sheet' rest' e f s =
    subst (λ bs. Split input bs rest') (sym e) (subst (λ bs. Split input sheet bs) (sym f) s)

-- where an end stands at the start of a line the sheet is done, and past the last byte there was no empty line
walk : (front : List ℕ) (b : ℕ) (bs : List ℕ) → Walked front (eqb b 10) → Split (front ++ bs) (front ++ take (empty_place b bs) bs) (drop (empty_place b bs + 1) bs)
walk front b [] w = without w.full w.last w.all_full w.unended (append-nil front ∙ w.is) refl refl
walk front b (c ∷ bs) w = elim (cases_Bool (both_end (b, c))) [
  | inl e ↦
      let ends = both_true b c e in
      rw (e, append-nil) (at_empty_line w.full w.all_full (w.is ∙ ap (λ l. ended w.full ++ l) (w.at_start ends.0) ∙ append-nil (ended w.full)) (ap (λ d. front ++ (d ∷ bs)) ends.1))
  | inr e ↦
      let k = empty_place c bs in
      let on : Split ((front ++ (c ∷ [])) ++ bs) ((front ++ (c ∷ [])) ++ take k bs) (drop (k + 1) bs) = walk (front ++ (c ∷ [])) c bs (walked_more front (eqb b 10) c w (both_false b c e)) in
      rw (e, one-add, add-one) (rw add-one at (simp append_assoc at on))
]

-- before the first byte a line starts
from_start : (input : List ℕ) → Split input (take (empty_place 10 input) input) (drop (empty_place 10 input + 1) input)
from_start input = walk [] 10 input (record { full = []; last = []; all_full = tt; unended = tt; is = refl; at_start = λ _. refl; inside = λ f. absurd (grind arith) })

-- the first line is empty, or there is none
pub split_now : (input : List ℕ) → (0 < length input → slice_index input 0 ≡ 10) → Split input [] (drop 1 input)
split_now [] e = from_start []
split_now (b ∷ bs) e = subst (λ x. Split (x ∷ bs) [] bs) (sym (e (omega arith))) (from_start (10 ∷ bs))

-- else it is the place that the search over pairs of neighbours finds
pub split_later : (input rest : List ℕ) (i : ℕ) → 0 < length input → (slice_index input 0 ≡ 10 → ⊥) → rest ≡ drop 1 input → i ≡ unwrap_or (position both_end (zip input rest)) (length rest)
    → Split input (take (1 + i) input) (drop (1 + i + 1) input)
split_later [] rest i l n e at = absurd (omega (arith, l))
split_later (b ∷ bs) rest i l n e at =
    let pairs = zip (b ∷ bs) bs in
    let long : length pairs ≡ length bs = simp length-zip (omega arith) in
    let found : i ≡ unwrap_or (position both_end pairs) (length bs) = rw e at at in
    let there : i ≡ empty_place b bs = found ∙ ap (unwrap_or (position both_end pairs)) (sym long) ∙ place_or_len both_end pairs in
    let one : empty_place 10 (b ∷ bs) ≡ 1 + i = rw (ne_eqb b 10 n) (rw there refl) in
    subst (λ k. Split (b ∷ bs) (take k (b ∷ bs)) (drop (k + 1) (b ∷ bs))) one (from_start (b ∷ bs))
