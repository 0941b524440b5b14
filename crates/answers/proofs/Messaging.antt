-- The messages taken one after the other are all of them, and there is one such list.
use Rattle.std.proofs.Common.{◌≡◌, ℕ, ◌+◌, List, [], ◌∷◌, ◌++◌, length, get_or, take, drop, sym, refl, ap, ◌∙◌, subst, inl, inr, eqb, eqb-true, append_assoc, append-nil, arith}
use Rattle.std.specs.List.{position_or_len}
use Rattle.std.proofs.lemmas.List.{take_all, drop_all}
use Rattle.std.proofs.lemmas.List.Sums.{passes_at_first}
use Rattle.std.proofs.lemmas.Bool.{cases_lt}
use Rattle.answers.specs.Input.{Unended, ended, Messages, all_ended, last_open, OneList}
use Rattle.answers.proofs.Places.{unended_before}
use Rattle.answers.proofs.Cuts.{more_not_nil, parted_at, lines_once}
use Rattle.answers.specs.inner.Taking.{Taken, with_end, without_end}

-- the message is cut at its end, or is all that is left
pub taken_at : (rest message after : List ℕ) (i : ℕ) → (length rest ≡ 0 → ⊥) → i ≡ position_or_len (λ b. eqb b 10) rest → message ≡ take i rest → after ≡ drop (i + 1) rest → Taken rest message after
taken_at rest message after i some at e f =
    let first = position_or_len (λ b. eqb b 10) rest in
    let u : Unended message = subst Unended (sym (e ∙ ap (λ k. take k rest) at)) (unended_before rest) in
    elim (cases_lt first (length rest)) [
      | inl l ↦
          let found : get_or rest i 0 ≡ 10 = eqb-true (get_or rest i 0) 10 (ap (λ k. eqb (get_or rest k 0) 10) at ∙ passes_at_first (λ b. eqb b 10) rest 0 l) in
          with_end u (parted_at rest i (omega arith) found ∙ ap (λ bs. bs ++ (10 ∷ drop (i + 1) rest)) (sym e) ∙ ap (λ bs. message ++ (10 ∷ bs)) (sym f))
      | inr l ↦
          let all : message ≡ rest = e ∙ take_all i rest (omega arith) in
          let full : message ≡ [] → ⊥ = λ none. some (ap length (sym all ∙ none)) in
          without_end (u, full) (sym all) (f ∙ drop_all (i + 1) rest (omega arith))
    ]

pub messages_none : Messages [] []
messages_none = all_ended tt refl

none_from_ended : (ms : List (List ℕ)) → ended ms ≡ [] → ms ≡ []
none_from_ended [] e = refl
none_from_ended (m ∷ ms) e = absurd (more_not_nil m 10 (ended ms) e)

right_nil : (xs ys : List ℕ) → xs ++ ys ≡ [] → ys ≡ []
right_nil [] ys e = e
right_nil (x ∷ xs) ys e = let z : ◌≡◌ {A = ℕ} 0 1 = cc in absurd (omega arith)

-- a message taken stands before the messages that follow
pub messages_more : (rest m after : List ℕ) (ms : List (List ℕ)) → Messages after ms → Taken rest m after → Messages rest (m ∷ ms)
messages_more rest m after ms (all_ended all is) (with_end u e) = all_ended (u, all) (e ∙ ap (λ bs. m ++ (10 ∷ bs)) is)
messages_more rest m after ms (all_ended all is) (without_end f e none) =
    last_open [] m tt f (ap (λ ks. m ∷ ks) (none_from_ended ms (sym is ∙ none))) e
messages_more rest m after ms (last_open before last all f are is) (with_end u e) =
    last_open (m ∷ before) last (u, all) f (ap (λ ks. m ∷ ks) are)
    (e ∙ ap (λ bs. m ++ (10 ∷ bs)) is ∙ sym (append_assoc m (10 ∷ ended before) last))
messages_more rest m after ms (last_open before last all f are is) (without_end g e none) =
    absurd (f.1 (right_nil (ended before) last (sym is ∙ none)))

pub one_list : OneList
one_list rest ms ms' (all_ended all is) (all_ended all' is') =
    (lines_once ms ms' [] [] all all' tt tt (append-nil (ended ms) ∙ sym is ∙ is' ∙ sym (append-nil (ended ms')))).0
one_list rest ms ms' (all_ended all is) (last_open before last all' f are is') =
    absurd (f.1 (sym (lines_once ms before [] last all all' tt f.0 (append-nil (ended ms) ∙ sym is ∙ is')).1))
one_list rest ms ms' (last_open before last all f are is) (all_ended all' is') =
    absurd (f.1 (lines_once before ms' last [] all all' f.0 tt (sym is ∙ is' ∙ sym (append-nil (ended ms')))).1)
one_list rest ms ms' (last_open before last all f are is) (last_open before' last' all' f' are' is') =
    let same = lines_once before before' last last' all all' f.0 f'.0 (sym is ∙ is') in
    let p = same.0 in let q = same.1 in cc
