-- The words standing are one list; a word is offered or leads nowhere. Assumes nothing.
use Rattle.std.proofs.Common.{◌≡◌, ℕ, ◌-◌, ◌≢◌, ◌⊎◌, List, [], ◌∷◌, ◌++◌, length, take, sym, refl, ◌∙◌, subst, ⊎_elim, arith}
use Rattle.std.proofs.lemmas.Bool.{cases_eq}
use Rattle.faults.specs.declared.Refusal.TheVariants.{LeadsNowhere}
use Rattle.grammar.specs.declared.sheet.Sheet.{Sheet}
use Rattle.grammar.specs.View.{grammar_of}
use Rattle.tables.specs.Table.{Offered}
use Rattle.sources.specs.declared.source.Heard.{Heard}
use Rattle.seats.specs.Standing.{Call, open_all, clear_at, say_at, back_at, hear_at, Adds, Here, Spoken, SpokenAll, Step, OneList}
use Rattle.seats.specs.Answers.{Refuses, unlisted, full, leads_nowhere}
use Rattle.seats.specs.Calls.{OfferAgrees}

-- two lists that are both ws where P does not hold, and agree where it does, are one
one_way : (P : Type 0) (Q R : Type 0) (ws us vs : List ℕ) → (Q → R → us ≡ vs) → (P × Q) ⊎ ((P → ⊥) × (us ≡ ws)) → (P × R) ⊎ ((P → ⊥) × (vs ≡ ws)) → us ≡ vs
one_way P Q R ws us vs same a b =
    ⊎_elim
    (λ (x : P × Q). ⊎_elim (λ (y : P × R). same x.1 y.1) (λ (y : (P → ⊥) × (vs ≡ ws)). absurd (y.0 x.0)) b)
    (λ (x : (P → ⊥) × (us ≡ ws)). ⊎_elim (λ (y : P × R). absurd (x.0 y.0)) (λ (y : (P → ⊥) × (vs ≡ ws)). x.1 ∙ sym y.1) b)
    a

one_spoken : (s : Sheet) (ws : List ℕ) (w : ℕ) (us vs : List ℕ) → Spoken s ws w us → Spoken s ws w vs → us ≡ vs
one_spoken s ws w us vs a b = one_way (Adds s ws w) (us ≡ ws ++ (w ∷ [])) (vs ≡ ws ++ (w ∷ [])) ws us vs (λ x y. x ∙ sym y) a b

one_spoken_all : (s : Sheet) (ws : List ℕ) (hs : List Heard) (us vs : List ℕ) → SpokenAll s ws hs us → SpokenAll s ws hs vs → us ≡ vs
one_spoken_all s ws [] us vs a b = a ∙ sym b
one_spoken_all s ws (h ∷ hs) us vs a b =
    let more = ws ++ (h.word ∷ []) in
    one_way (Adds s ws h.word) (SpokenAll s more hs us) (SpokenAll s more hs vs) ws us vs (one_spoken_all s more hs us vs) a b

one_here : (t k : ℕ) (ws us vs : List ℕ) (P Q : Type 0) → (P → Q → us ≡ vs) → Here t k ws us P → Here t k ws vs Q → us ≡ vs
one_here t k ws us vs P Q same a b = ⊎_elim (λ (e : t ≡ k). same (a.0 e) (b.0 e)) (λ (ne : t ≢ k). a.1 ne ∙ sym (b.1 ne)) (cases_eq t k)

one_step : (s : Sheet) (k : ℕ) (ws : List ℕ) (c : Call) (us vs : List ℕ) → Step s k ws c us → Step s k ws c vs → us ≡ vs
one_step s k ws open_all us vs a b = a ∙ sym b
one_step s k ws (clear_at t) us vs a b = one_here t k ws us vs (us ≡ []) (vs ≡ []) (λ x y. x ∙ sym y) a b
one_step s k ws (say_at t w) us vs a b = one_here t k ws us vs (Spoken s ws w us) (Spoken s ws w vs) (one_spoken s ws w us vs) a b
one_step s k ws (back_at t) us vs a b =
    let last = take (length ws - 1) ws in
    one_here t k ws us vs (us ≡ last) (vs ≡ last) (λ x y. x ∙ sym y) a b
one_step s k ws (hear_at t m) us vs a b =
    one_here t k ws us vs (SpokenAll s [] m.words us) (SpokenAll s [] m.words vs) (one_spoken_all s [] m.words us vs) a b

pub one_list : OneList
one_list s k [] us vs a b = a ∙ sym b
one_list s k (c ∷ cs) us vs a b =
    let before : a.0 ≡ b.0 = one_list s k cs a.0 b.0 a.1 b.1 in
    one_step s k b.0 c us vs (subst (λ ws. Step s k ws c us) before a.2) b.2

refused_so : (s : Sheet) (ws : List ℕ) (w : ℕ) → Refuses s ws w LeadsNowhere → Offered (grammar_of s) ws w → ⊥
refused_so s ws w (unlisted h e) = let z : ◌≡◌ {A = ℕ} 0 1 = cc in absurd (omega arith)
refused_so s ws w (full l h e) = let z : ◌≡◌ {A = ℕ} 0 1 = cc in absurd (omega arith)
refused_so s ws w (leads_nowhere l r h e) = h

pub offer_agrees : OfferAgrees
offer_agrees s ws w l room = (refused_so s ws w, λ h. leads_nowhere l room h refl)
