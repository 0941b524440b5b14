-- A message is heard in one way at most; and how it is heard, where a command shows that words are added, and a log that one is not.
use Rattle.std.proofs.Common.{◌≡◌, ℕ, zero, suc, ◌<◌, Bool, true, false, not, ◌&&◌, eqb, ltb, List, [], ◌∷◌, ◌++◌, length, Err, Option, Result, sym, refl, ap, ◌∙◌, subst, inl, inr, append_assoc, arith}
use Rattle.std.proofs.lemmas.Bool.{and_parts, eqb-true, ltb-true, both_ways, not-true, false≢true}
use Rattle.faults.specs.declared.Refusal.{Refusal}
use Rattle.faults.specs.declared.Refusal.TheVariants.{LeadsNowhere}
use Rattle.faults.specs.Faults.{Told}
use Rattle.grammar.specs.declared.sheet.Sheet.{Sheet}
use Rattle.grammar.specs.Trees.{Command}
use Rattle.grammar.specs.View.{grammar_of, words_in}
use Rattle.tables.specs.Table.{Offered}
use Rattle.sources.specs.declared.source.Heard.{Heard}
use Rattle.sources.specs.Meanings.{Meaning}
use Rattle.seats.specs.Standing.{Adds}
use Rattle.seats.specs.Answers.{fault, counted, Refuses, unlisted, full, leads_nowhere, Hears, HeardOut}
use Rattle.worked.specs.Findings.{The, Hearing}
use Rattle.worked.proofs.Derived.{same_words, words_same}

-- ---- one way at most

module _ (s : Sheet) where
  adds_or_refuses : (ws : List ℕ) (w : ℕ) (x : Refusal) → Adds s ws w → Refuses s ws w x → ⊥
  adds_or_refuses ws w x a (unlisted h e) = h a.listed
  adds_or_refuses ws w x a (full l h e) = omega (arith, a.room)
  adds_or_refuses ws w x a (leads_nowhere l r h e) = h a.offered

  one_refusal : (ws : List ℕ) (w : ℕ) (x y : Refusal) → Refuses s ws w x → Refuses s ws w y → x ≡ y
  one_refusal ws w x y (unlisted h e) (unlisted h' e') = e ∙ sym e'
  one_refusal ws w x y (unlisted h e) (full l h' e') = absurd (h l)
  one_refusal ws w x y (unlisted h e) (leads_nowhere l r h' e') = absurd (h l)
  one_refusal ws w x y (full l h e) (unlisted h' e') = absurd (h' l)
  one_refusal ws w x y (full l h e) (full l' h' e') = e ∙ sym e'
  one_refusal ws w x y (full l h e) (leads_nowhere l' r h' e') = absurd (omega arith)
  one_refusal ws w x y (leads_nowhere l r h e) (unlisted h' e') = absurd (h' l)
  one_refusal ws w x y (leads_nowhere l r h e) (full l' h' e') = absurd (omega arith)
  one_refusal ws w x y (leads_nowhere l r h e) (leads_nowhere l' r' h' e') = e ∙ sym e'

  one_hearing : (e : Option Told) (ws : List ℕ) (hs : List Heard) (r r' : Result ℕ Told) (vs vs' : List ℕ) (rest rest' : List Heard)
      → Hears s e ws hs r vs rest → Hears s e ws hs r' vs' rest' → (r ≡ r') × (vs ≡ vs') × (rest ≡ rest')
  one_hearing e ws [] r r' vs vs' rest rest' a b = (a.0 ∙ sym b.0, a.1 ∙ sym b.1, a.2 ∙ sym b.2)
  one_hearing e ws (h ∷ hs) r r' vs vs' rest rest' (inl a) (inl b) = one_hearing e (ws ++ (h.word ∷ [])) hs r r' vs vs' rest rest' a.1 b.1
  one_hearing e ws (h ∷ hs) r r' vs vs' rest rest' (inl a) (inr b) = absurd (adds_or_refuses ws h.word b.0 a.0 b.1)
  one_hearing e ws (h ∷ hs) r r' vs vs' rest rest' (inr a) (inl b) = absurd (adds_or_refuses ws h.word a.0 b.0 a.1)
  one_hearing e ws (h ∷ hs) r r' vs vs' rest rest' (inr a) (inr b) =
      let x = one_refusal ws h.word a.0 b.0 a.1 b.1 in
      (a.2 ∙ ap (λ (y : Refusal). Err (fault y h.place)) x ∙ sym b.2, a.3 ∙ sym b.3, a.4 ∙ sym b.4)

-- ---- how it is heard

-- the first n words are added, and the next one, if there is one, leads nowhere
abbrev pub heard : ℕ → Option Told → List ℕ → List Heard → Hearing
heard n e ws [] = record { answer = counted (length ws) e; standing = ws; left = record { words = []; ending = e } }
heard zero e ws (h ∷ hs) = record { answer = Err (fault LeadsNowhere h.place); standing = ws; left = record { words = hs; ending = e } }
heard (suc n) e ws (h ∷ hs) = heard n e (ws ++ (h.word ∷ [])) hs

heard_ending : (n : ℕ) (e : Option Told) (ws : List ℕ) (hs : List Heard) → (heard n e ws hs).left.ending ≡ e
heard_ending zero e ws [] = refl
heard_ending (suc n) e ws [] = refl
heard_ending zero e ws (h ∷ hs) = refl
heard_ending (suc n) e ws (h ∷ hs) = heard_ending n e (ws ++ (h.word ∷ [])) hs

-- two hearings with the same parts
same_hearing : (a b : Hearing) → a.answer ≡ b.answer → a.standing ≡ b.standing → a.left.words ≡ b.left.words → a.left.ending ≡ b.left.ending → a ≡ b
same_hearing a b p q r t =
    let left : ◌≡◌ {A = Meaning} (record { words = a.left.words; ending = a.left.ending }) (record { words = b.left.words; ending = b.left.ending }) = cc in
    let all : ◌≡◌ {A = Hearing} (record { answer = a.answer; standing = a.standing; left = a.left }) (record { answer = b.answer; standing = b.standing; left = b.left }) = cc in
    all

abbrev listed_with_room : ℕ → List ℕ → ℕ → Bool
listed_with_room count ws w = ltb w count && ltb (length ws) 20

-- the words ws stand, c is a rest of a command, and `offer` are the words offered after vs
abbrev pub hearable : ℕ → List ℕ → (ℕ → Bool) → ℕ → List ℕ → List Heard → List ℕ → Bool
hearable count vs offer n ws [] c = true
hearable count vs offer zero ws (h ∷ hs) c = listed_with_room count ws h.word && (same_words ws vs && not (offer h.word))
hearable count vs offer (suc n) ws (h ∷ hs) [] = false
hearable count vs offer (suc n) ws (h ∷ hs) (w ∷ c) = listed_with_room count ws h.word && (eqb h.word w && hearable count vs offer n (ws ++ (h.word ∷ [])) hs c)

module _ (s : Sheet) (count : ℕ) (counts : length (words_in s) ≡ count) (vs : List ℕ) (offer : ℕ → Bool) (offers : (w : ℕ) → Offered (grammar_of s) vs w → offer w ≡ true) where
  hears : (n : ℕ) (e : Option Told) (ws : List ℕ) (hs : List Heard) (c : List ℕ) → Command (grammar_of s) (ws ++ c) → hearable count vs offer n ws hs c ≡ true
      → Hears s e ws hs (heard n e ws hs).answer (heard n e ws hs).standing (heard n e ws hs).left.words
  hears zero e ws [] c d t = (refl, refl, refl)
  hears (suc n) e ws [] c d t = (refl, refl, refl)
  hears zero e ws (h ∷ hs) c d t =
      let w = h.word in
      let one = and_parts (listed_with_room count ws w) _ t in
      let two = and_parts (ltb w count) (ltb (length ws) 20) one.0 in
      let three = and_parts (same_words ws vs) (not (offer w)) one.1 in
      let same : ws ≡ vs = words_same ws vs three.0 in
      inr (
        LeadsNowhere,
        leads_nowhere (subst (λ (m : ℕ). w < m) (sym counts) (ltb-true w count two.0)) (ltb-true (length ws) 20 two.1)
            (λ o. both_ways (offer w) (not-true (offer w) three.1) (offers w (subst (λ (us : List ℕ). Offered (grammar_of s) us w) same o))) refl,
        refl,
        refl,
        refl,
      )
  hears (suc n) e ws (h ∷ hs) [] d t = absurd (false≢true t)
  hears (suc n) e ws (h ∷ hs) (x ∷ c) d t =
      let w = h.word in
      let one = and_parts (listed_with_room count ws w) _ t in
      let two = and_parts (ltb w count) (ltb (length ws) 20) one.0 in
      let three = and_parts (eqb w x) _ one.1 in
      let next : Command (grammar_of s) (ws ++ (w ∷ c)) = subst (λ (y : ℕ). Command (grammar_of s) (ws ++ (y ∷ c))) (sym (eqb-true w x three.0)) d in
      inl (
        record { listed = subst (λ (m : ℕ). w < m) (sym counts) (ltb-true w count two.0); room = ltb-true (length ws) 20 two.1; offered = ∣ (c, next) ∣₁ },
        hears n e (ws ++ (w ∷ [])) hs c (subst (Command (grammar_of s)) (sym (append_assoc ws (w ∷ []) c)) next) three.1,
      )

  -- the one hearing of a meaning
  pub the_hearing : (n : ℕ) (m : Meaning) (c : List ℕ) → Command (grammar_of s) c → hearable count vs offer n [] m.words c ≡ true → (So : Hearing → Type 0) → So (heard n m.ending [] m.words)
      → The (λ h. HeardOut s m h.answer h.standing h.left) So
  the_hearing n m c d t So so =
      let it = heard n m.ending [] m.words in
      let ends : it.left.ending ≡ m.ending = heard_ending n m.ending [] m.words in
      let words = hears n m.ending [] m.words c d t in
      record {
        it = it;
        such = record { words = words; ending = ends };
        only =
            λ other x.
            let same = one_hearing s m.ending [] m.words other.answer it.answer other.standing it.standing other.left.words it.left.words x.words words in
            same_hearing other it same.0 same.1 same.2 (x.ending ∙ sym ends);
        so = so;
      }
