-- Least prices: of none, of one, of two together, of joins. Assumes nothing.
use Rattle.std.proofs.Common.{◌≡◌, ℕ, Bool, true, false, cond, ◌||◌, ◌⊎◌, Some, None, Option, sym, refl, ap, ◌∙◌, ⊎_elim, arith}
use Rattle.readings.specs.Scales.{Scale, NoDearer, Laws}
use Rattle.readings.specs.inner.Least.{Lower, Reached, Least, cheaper, joined}

-- there is a price or there is none
pub none_some : {P : Type 0} {o : Option P} {c : P} → o ≡ None → o ≡ Some c → ⊥
none_some x y = let z : ◌≡◌ {A = ℕ} 0 1 = cc in omega arith

module _ {P : Type 0} (S : Scale P) (L : Laws S) where
  -- what is not no dearer is dearer
  dearer : (a b : P) → S.no_dearer a b ≡ false → NoDearer S b a
  dearer a b e = sym (ap (λ (x : Bool). x || S.no_dearer b a) e) ∙ L.total a b

  pub no_dearer_refl : (a : P) → NoDearer S a a
  no_dearer_refl a = go (S.no_dearer a a) refl
    where
      go : (b : Bool) → S.no_dearer a a ≡ b → NoDearer S a a
      go true e = e
      go false e = dearer a a e

  -- a join of cheaper parts is no dearer
  pub join_mono : (a b c d : P) → NoDearer S a c → NoDearer S b d → NoDearer S (S.join a b) (S.join c d)
  join_mono a b c d h k = L.transitive _ _ _ (L.monotone_left a c b h) (L.monotone_right b d c k)

  -- the test's answer picks the cheaper one
  pub cond_left : (a b : P) → NoDearer S (cond (S.no_dearer a b) a b) a
  cond_left a b = go (S.no_dearer a b) refl
    where
      go : (t : Bool) → S.no_dearer a b ≡ t → NoDearer S (cond t a b) a
      go true e = no_dearer_refl a
      go false e = dearer a b e

  pub cond_right : (a b : P) → NoDearer S (cond (S.no_dearer a b) a b) b
  cond_right a b = go (S.no_dearer a b) refl
    where
      go : (t : Bool) → S.no_dearer a b ≡ t → NoDearer S (cond t a b) b
      go true e = e
      go false e = no_dearer_refl b

  pub cond_either : (Q : P → Type 0) (t : Bool) (a b : P) → Q a → Q b → Q (cond t a b)
  cond_either Q true a b x y = x
  cond_either Q false a b x y = y

  -- the cheaper of two least prices is the least of both together
  pub lower_either : (Q R U : P → Type 0) (o o' : Option P) → ((q : P) → U q → Q q ⊎ R q) → Lower S Q o → Lower S R o' → Lower S U (cheaper S o o')
  lower_either Q R U None None f l l' = λ q u. ⊎_elim (l q) (l' q) (f q u)
  lower_either Q R U None (Some b) f l l' = λ q u. ⊎_elim (λ x. absurd (l q x)) (l' q) (f q u)
  lower_either Q R U (Some a) None f l l' = λ q u. ⊎_elim (l q) (λ x. absurd (l' q x)) (f q u)
  lower_either Q R U (Some a) (Some b) f l l' = λ q u. ⊎_elim (λ x. L.transitive _ _ _ (cond_left a b) (l q x)) (λ x. L.transitive _ _ _ (cond_right a b) (l' q x)) (f q u)

  pub reached_either : (Q R U : P → Type 0) (o o' : Option P) → ((q : P) → Q q → U q) → ((q : P) → R q → U q) → Reached Q o → Reached R o' → Reached U (cheaper S o o')
  reached_either Q R U None None f h l l' = tt
  reached_either Q R U None (Some b) f h l l' = h b l'
  reached_either Q R U (Some a) None f h l l' = f a l
  reached_either Q R U (Some a) (Some b) f h l l' = cond_either U (S.no_dearer a b) a b (f a l) (h b l')

  pub least_either : (Q R U : P → Type 0) (o o' : Option P) → ((q : P) → U q → Q q ⊎ R q) → ((q : P) → Q q → U q) → ((q : P) → R q → U q) → Least S Q o → Least S R o' → Least S U (cheaper S o o')
  least_either Q R U o o' c f h l l' = record { lower = lower_either Q R U o o' c l.lower l'.lower; reached = reached_either Q R U o o' f h l.reached l'.reached }

  -- nothing has the property
  pub least_none : (Q : P → Type 0) → ((q : P) → Q q → ⊥) → Least S Q None
  least_none Q f = record { lower = f; reached = tt }

  -- the same property in other words
  pub least_same : (Q R : P → Type 0) (o : Option P) → ((q : P) → Q q → R q) → ((q : P) → R q → Q q) → Least S Q o → Least S R o
  least_same Q R None f h l = record { lower = λ q x. l.lower q (h q x); reached = tt }
  least_same Q R (Some c) f h l = record { lower = λ q x. l.lower q (h q x); reached = f c l.reached }

  -- there is one least price at most
  pub least_one : (Q : P → Type 0) (o o' : Option P) → Least S Q o → Least S Q o' → o ≡ o'
  least_one Q None None l l' = refl
  least_one Q None (Some b) l l' = absurd (l.lower b l'.reached)
  least_one Q (Some a) None l l' = absurd (l'.lower a l.reached)
  least_one Q (Some a) (Some b) l l' = ap {B = Option P} (λ x. Some x) (L.antisymmetric a b (l.lower b l'.reached) (l'.lower a l.reached))

  -- the join of a price that is there and a least price
  pub least_joined : (Q U : P → Type 0) (o o' : Option P)
      → ((q : P) → U q → (a : P) × (b : P) × (o ≡ Some a) × Q b × (q ≡ S.join a b))
      → ((a b : P) → o ≡ Some a → Q b → U (S.join a b))
      → Least S Q o' → Least S U (joined S o o')
  least_joined Q U None o' f h l = record { lower = λ q u. absurd (none_some refl (f q u).2); reached = tt }
  least_joined Q U (Some a) None f h l = record { lower = λ q u. l.lower (f q u).1 (f q u).3; reached = tt }
  least_joined Q U (Some a) (Some b) f h l = record { lower = λ q u. go q (f q u); reached = h a b refl l.reached }
    where
      go : (q : P) → (x : P) × (y : P) × (◌≡◌ {A = Option P} (Some a) (Some x)) × Q y × (q ≡ S.join x y) → NoDearer S (S.join a b) q
      go q w = let e : a ≡ w.0 = cc w.2 in rw (w.4, ← e) (L.monotone_right b w.1 a (l.lower w.1 w.3))

  -- the same of a lower bound alone, with the first price given
  pub lower_joined : (Q U : P → Type 0) (a : P) (o : Option P) → ((q : P) → U q → (b : P) × Q b × (q ≡ S.join a b)) → Lower S Q o → Lower S U (joined S (Some a) o)
  lower_joined Q U a None f l = λ q u. l (f q u).0 (f q u).1
  lower_joined Q U a (Some c) f l = λ q u. rw (f q u).2 (L.monotone_right c (f q u).0 a (l (f q u).0 (f q u).1))
