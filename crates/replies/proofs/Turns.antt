-- The lines of the messages, one turn after the other. Assumes nothing.
use Rattle.std.proofs.Common.{◌≡◌, ℕ, ◌<◌, List, [], ◌∷◌, ◌++◌, length, sym, refl, ap, ◌∙◌, subst, append_assoc, append-nil, arith, length-append}
use Rattle.grammar.specs.declared.sheet.Sheet.{Sheet}
use Rattle.answers.specs.Input.{Messages}
use Rattle.answers.specs.inner.Taking.{Taken, with_end, without_end}
use Rattle.answers.proofs.Messaging.{messages_none, messages_more}
use Rattle.replies.specs.Replies.{Reply}
use Rattle.replies.specs.inner.Answering.{Replied, Onward}

pub onward_none : (s : Sheet) (rest before : List ℕ) → Onward s rest before rest before
onward_none s rest before ms output messages lines = (ms, output, messages, lines, refl)

pub onward_more : (s : Sheet) (whole before rest written message rest' line after : List ℕ) → Onward s whole before rest written → Taken rest message rest' → Reply s message line → after ≡ written ++ line → Onward s whole before rest' after
onward_more s whole before rest written message rest' line after onward taken reply e ms output messages lines =
    let x = onward (message ∷ ms) (line ++ output) (messages_more rest message rest' ms messages taken) (line, output, reply, lines, refl) in
    (x.0, x.1, x.2, x.3, ap (λ bs. bs ++ output) e ∙ append_assoc written line output ∙ x.4)

pub onward_done : (s : Sheet) (whole before rest after : List ℕ) → rest ≡ [] → Onward s whole before rest after → Replied s whole before after
onward_done s whole before rest after none onward =
    let x = onward [] [] (subst (λ bs. Messages bs []) (sym none) messages_none) refl in
    (x.0, x.1, x.2, x.3, sym (append-nil after) ∙ x.4)

longer : (m after : List ℕ) (b : ℕ) → length after < length (m ++ (b ∷ after))
longer m after b = simp length-append (omega arith)

some_long : (m : List ℕ) → (m ≡ [] → ⊥) → 0 < length m
some_long [] some = absurd (some refl)
some_long (b ∷ m) some = omega arith

-- a message taken leaves less
pub taken_less : (rest message after : List ℕ) → Taken rest message after → length after < length rest
taken_less rest message after (with_end u e) = subst (λ bs. length after < length bs) (sym e) (longer message after 10)
taken_less rest message after (without_end f e none) =
    let k = some_long message f.1 in let p = ap length e in let q = ap length none in omega arith
