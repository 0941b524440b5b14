-- Where the first stretch of a cheapest cut ends. Assumes nothing.
use Rattle.std.proofs.Common.{◌≡◌, ℕ, suc, ◌+◌, ◌≤◌, List, ◌∷◌, Some, None, Option, sym, refl, ap, ◌∙◌, subst, add-one, arith}
use Rattle.grammar.specs.declared.Symbol.{Symbol}
use Rattle.readings.specs.Scales.{Scale, Laws}
use Rattle.readings.specs.inner.Least.{Least, cheaper, joined}
use Rattle.readings.specs.inner.Cuts.{Cuts, CutsBelow, EndsAt, Choosing}
use Rattle.readings.specs.inner.Tables.{Table, child, Chosen}
use Rattle.readings.proofs.Least.{none_some, least_one}
use Rattle.readings.proofs.Cuts.{cut_more, cut_all}

module _ {P : Type 0} (S : Scale P) (L : Laws S) (ch : Symbol → ℕ → ℕ → Option P) (x : Symbol) (s : List Symbol) (m j : ℕ) where
  ends_here : (n : ℕ) (first read : Option P) (p : P) → m ≤ n → first ≡ ch x m n → Least S (Cuts S ch s n j) read → joined S first read ≡ Some p → EndsAt S ch x s m j n p
  ends_here n None read p h e l f = absurd (none_some refl f)
  ends_here n (Some a) None p h e l f = absurd (none_some refl f)
  ends_here n (Some a) (Some b) p h e l f = record { ordered = h; head = a; tail = b; priced = sym e; least = l; joins = cc }

  pub choosing_turn : (n to : ℕ) (best first read both : Option P) → m ≤ n → first ≡ ch x m n → both ≡ joined S first read → Least S (Cuts S ch s n j) read
      → (to' : ℕ) (best' : Option P) → cheaper S best both ≡ best' → ((p : P) → best' ≡ Some p → EndsAt S ch x s m j to' p)
      → Choosing S ch x s m j n to best → Choosing S ch x s m j (n + 1) to' best'
  choosing_turn n to best first read both h e f l to' best' d k c =
      record {
        least = rw (add-one n) (subst (Least S (CutsBelow S ch x s m j (suc n))) (ap (cheaper S best) (ap (λ (z : Option P). joined S z read) (sym e) ∙ sym f) ∙ d) (cut_more S L ch x s m j n best read h c.least l));
        ends = k;
      }

  pub choosing_keep : (n to : ℕ) (best first read both : Option P) (to' : ℕ) (best' : Option P) → to' ≡ to → best' ≡ best → m ≤ n → first ≡ ch x m n → both ≡ joined S first read → Least S (Cuts S ch s n j) read
      → cheaper S best both ≡ best → Choosing S ch x s m j n to best → Choosing S ch x s m j (n + 1) to' best'
  choosing_keep n to best first read both to' best' a b h e f l d c =
      choosing_turn n to best first read both h e f l to' best' (d ∙ sym b) (λ p q. subst (λ (z : ℕ). EndsAt S ch x s m j z p) (sym a) (c.ends p (sym b ∙ q))) c

  pub choosing_take : (n to : ℕ) (best first read both : Option P) (to' : ℕ) (best' : Option P) → to' ≡ n → best' ≡ both → m ≤ n → first ≡ ch x m n → both ≡ joined S first read → Least S (Cuts S ch s n j) read
      → cheaper S best both ≡ both → Choosing S ch x s m j n to best → Choosing S ch x s m j (n + 1) to' best'
  choosing_take n to best first read both to' best' a b h e f l d c =
      choosing_turn n to best first read both h e f l to' best' (d ∙ sym b) (λ p q. subst (λ (z : ℕ). EndsAt S ch x s m j z p) (sym a) (ends_here n first read p h e l (sym f ∙ sym b ∙ q))) c

-- at the end of the loop the cut is chosen
module _ {P : Type 0} (S : Scale P) (L : Laws S) (ws : List ℕ) (t : Table P) (i j k m : ℕ) (x : Symbol) (s : List Symbol) where
  chosen_last : (to : ℕ) (best : Option P) (c : P) → Least S (Cuts S (child S ws t i j k) (x ∷ s) m j) (Some c) → Choosing S (child S ws t i j k) x s m j (suc j) to best → Chosen S ws t i j k m x s to
  chosen_last to best c l h =
      let w = cut_all S L (child S ws t i j k) x s m j best h.least in
      let e : best ≡ Some c = least_one S L _ _ _ w l in
      let z = h.ends c e in
      record { ordered = z.ordered; head = z.head; tail = z.tail; priced = z.priced; least = z.least; whole = subst (λ (q : P). Least S (Cuts S (child S ws t i j k) (x ∷ s) m j) (Some q)) z.joins l }

  pub chosen_at : (to : ℕ) (best : Option P) (c : P) → Least S (Cuts S (child S ws t i j k) (x ∷ s) m j) (Some c) → (n : ℕ) → n ≡ j → Choosing S (child S ws t i j k) x s m j (n + 1) to best → Chosen S ws t i j k m x s to
  chosen_at to best c l n q g = let f : n + 1 ≡ suc j = omega arith in chosen_last to best c l (rw f at g)
