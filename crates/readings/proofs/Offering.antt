-- What rules offer a cell's names: gathered, priced anew, and the cheapest of them. Assumes nothing.
use Rattle.std.proofs.Common.{◌≡◌, ℕ, suc, ◌+◌, ◌<◌, Bool, ◌⊎◌, List, [], ◌∷◌, length, get_or, Some, None, Option, sym, refl, ap, ◌∙◌, subst, inl, inr, add-one, arith, length-take, get_or-take}
use mathlib.Core.Logic.Dec
use mathlib.Core.Logic.{by_cases}
use native.Mathlib.Decide.{ℕ_discrete}
use Rattle.grammar.specs.declared.Symbol.{Symbol}
use Rattle.grammar.specs.declared.Symbol.TheVariants.{Name, Word}
use Rattle.grammar.specs.declared.Rule.{Rule}
use Rattle.grammar.specs.Grammar.{right}
use Rattle.readings.specs.Scales.{Scale, NoDearer, Laws}
use Rattle.readings.specs.Prices.{nth}
use Rattle.readings.specs.inner.Least.{Lower, Least, cheaper, joined}
use Rattle.readings.specs.inner.Cuts.{Cuts}
use Rattle.readings.specs.inner.Tables.{Table, child, Adds}
use Rattle.readings.specs.inner.Columns.{marked, Written}
use Rattle.readings.specs.declared.offers.Pick.{Pick}
use Rattle.readings.specs.inner.Cells.{Picking}
use Rattle.readings.specs.inner.Candidates.{Candidate, Offers, Leads, Best, Untouched, OfferedTo, Offered, Repriced, Within, Foremost}
use Rattle.readings.proofs.Least.{none_some, no_dearer_refl, least_same, least_either, lower_joined}
use Rattle.readings.proofs.Optimal.{child_here, Bounds, bounds_up, bounds_from, bounds_to}
use Rattle.readings.proofs.Rows.{child_off}

-- ---- offers gathered, rule after rule

module _ {P : Type 0} (rules : List Rule) (S : Scale P) (ws : List ℕ) (t : Table P) (i j k : ℕ) where
  -- one rule's offer is written
  pub offered_more : {ps ps' : List P} {bs bs' : List Bool} {o : Option P} (n : ℕ) → Written S ps bs ps' bs' n o → Offers S ws t i j k (nth rules n) o
      → OfferedTo rules S ws t i j k n (marked S ps bs) → OfferedTo rules S ws t i j k (n + 1) (marked S ps' bs')
  offered_more {ps} {ps'} {bs} {bs'} n w h f r l =
      by_cases (ℕ_discrete r n)
      (λ e. subst (λ (x : ℕ). Offers S ws t i j k (nth rules x) (marked S ps' bs' x)) (sym e) (subst (Offers S ws t i j k (nth rules n)) (sym w.here) h))
      (λ e. subst (Offers S ws t i j k (nth rules r)) (sym (w.other r e)) (f r (omega arith)))

  -- one rule is priced anew
  pub repriced_more : {ps ps' : List P} {bs bs' : List Bool} {o : Option P} (a n : ℕ) → Written S ps bs ps' bs' n o → Offers S ws t i j k (nth rules n) o
      → Repriced rules S ws t i j k a n (marked S ps bs) → Repriced rules S ws t i j k a (n + 1) (marked S ps' bs')
  repriced_more a n w h f =
      record {
        done = offered_more n w h f.done;
        left = λ r x y u. subst (Offers S ws t i j k (nth rules r)) (sym (w.other r (λ e. omega arith))) (f.left r (omega arith) y u);
      }

  -- one rule keeps its offer
  pub repriced_same : {col : ℕ → Option P} (a n : ℕ) → n < length rules → Untouched (nth rules n) a → Repriced rules S ws t i j k a n col → Repriced rules S ws t i j k a (n + 1) col
  repriced_same {col} a n l u f =
      record {
        done = λ r x. by_cases (ℕ_discrete r n)
            (λ e. subst (λ (y : ℕ). Offers S ws t i j k (nth rules y) (col y)) (sym e) (f.left n (omega arith) l u))
            (λ e. f.done r (omega arith));
        left = λ r x. f.left r (omega arith);
      }

-- ---- what a price of another name leaves

-- symbols without the name are cut as before
pub cuts_lacking : {P : Type 0} (S : Scale P) (ch ch' : Symbol → ℕ → ℕ → Option P) (a : ℕ) → ((x : Symbol) → (x ≡ Name a → ⊥) → (m n : ℕ) → ch x m n ≡ ch' x m n)
    → (s : List Symbol) → ((d : ℕ) → d < length s → get_or s d (Name 0) ≡ Name a → ⊥) → (m n : ℕ) (q : P) → Cuts S ch s m n q → Cuts S ch' s m n q
cuts_lacking S ch ch' a f [] h m n q c = c
cuts_lacking S ch ch' a f (x ∷ s) h m n q c =
    record {
      to = c.to;
      head = c.head;
      tail = c.tail;
      ordered = c.ordered;
      priced = sym (f x (h 0 (omega arith)) m c.to) ∙ c.priced;
      rest = cuts_lacking S ch ch' a f s (λ d l. h (suc d) (omega arith)) c.to n c.tail c.rest;
      joins = c.joins;
    }

-- a rule's right side, by its symbols
right_lacks : (p : Rule) (a : ℕ) → Untouched p a → (d : ℕ) → d < length (right p) → get_or (right p) d (Name 0) ≡ Name a → ⊥
right_lacks p a u d h e =
    let l : d < p.len = omega (arith, length-take p.len p.symbols) in
    u.right d l (sym (get_or-take p.len p.symbols d (Name 0) l) ∙ e)

module _ {P : Type 0} (S : Scale P) (L : Laws S) (ws : List ℕ) (t t' : Table P) (i j a : ℕ) (p : P) (k r : ℕ) (ad : Adds t t' i j a p k r)
    (ranked : (b : ℕ) (c : P) → t.at i j b ≡ Some c → t.rank i j b < k) where
  -- the price of any other symbol
  child_left : (x : Symbol) → (x ≡ Name a → ⊥) → (m n : ℕ) → child S ws t i j k x m n ≡ child S ws t' i j (k + 1) x m n
  child_left (Word v) d m n = refl
  child_left (Name b) d m n = by_cases (Dec.and (ℕ_discrete m i) (ℕ_discrete n j)) whole part
    where
      other : b ≡ a → ⊥
      other e = d (ap (λ (x : ℕ). Name x) e)

      kept : (m n : ℕ) → t.at m n b ≡ t'.at m n b
      kept m n = sym (ad.at_old m n b (λ _ _. other))

      low : (c : P) → t'.at i j b ≡ Some c → t'.rank i j b < k + 1
      low c e = let l = ranked b c (kept i j ∙ e) in let q = ad.rank_old i j b (λ _ _. other) in omega arith

      whole : (m ≡ i) × (n ≡ j) → child S ws t i j k (Name b) m n ≡ child S ws t' i j (k + 1) (Name b) m n
      whole e = rw (e.0, e.1) (child_here S ws t i j k b (ranked b) ∙ kept i j ∙ sym (child_here S ws t' i j (k + 1) b low))

      part : ¬ ((m ≡ i) × (n ≡ j)) → child S ws t i j k (Name b) m n ≡ child S ws t' i j (k + 1) (Name b) m n
      part e = child_off S ws t i j k b m n (λ x y. e (x, y)) ∙ kept m n ∙ sym (child_off S ws t' i j (k + 1) b m n (λ x y. e (x, y)))

  -- a rule that the name leaves offers what it did
  pub offers_left : (q : Rule) (o : Option P) → Untouched q a → Offers S ws t i j k q o → Offers S ws t' i j (k + 1) q o
  offers_left q o u h =
      record {
        taken = λ c e. h.taken c (sym kept ∙ e);
        free = λ e. let w = h.free (sym kept ∙ e) in record { cut = w.cut; least = least w.cut w.least; joins = w.joins };
      }
    where
      kept : t'.at i j q.left ≡ t.at i j q.left
      kept = ad.at_old i j q.left (λ _ _. u.left)

      least : (c : Option P) → Least S (Cuts S (child S ws t i j k) (right q) i j) c → Least S (Cuts S (child S ws t' i j (k + 1)) (right q) i j) c
      least c l =
          least_same S L _ _ c
          (λ x. cuts_lacking S (child S ws t i j k) (child S ws t' i j (k + 1)) a child_left (right q) (right_lacks q a u) i j x)
          (λ x. cuts_lacking S (child S ws t' i j (k + 1)) (child S ws t i j k) a (λ x d m n. sym (child_left x d m n)) (right q) (right_lacks q a u) i j x)
          l

  -- before any rule is priced anew
  pub repriced_none : (rules : List Rule) (col : ℕ → Option P) → Offered rules S ws t i j k col → Repriced rules S ws t' i j (k + 1) a 0 col
  repriced_none rules col f = record { done = λ x l. absurd (let z : ⊥ = omega arith in z); left = λ x _ l u. offers_left (nth rules x) (col x) u (f x l) }

-- ---- the cheapest offer

module _ {P : Type 0} (S : Scale P) (L : Laws S) (col : ℕ → Option P) where
  -- the one at n by itself
  least_at : (n : ℕ) (o : Option P) → col n ≡ o → Least S (λ q. col n ≡ Some q) o
  least_at n None e = record { lower = λ q f. none_some e f; reached = tt }
  least_at n (Some c) e = record { lower = λ q f. let z : c ≡ q = cc in subst (NoDearer S c) z (no_dearer_refl S L c); reached = e }

  least_more : (n : ℕ) (o f : Option P) → f ≡ col n → Least S (Within col n) o → Least S (Within col (suc n)) (cheaper S o f)
  least_more n o f e l =
      least_either S L (Within col n) (λ q. col n ≡ Some q) (Within col (suc n)) o f split (λ q w. (w.0, omega (arith, w.1), w.2)) (λ q w. (n, omega arith, w)) l (least_at n f (sym e))
    where
      split : (q : P) → Within col (suc n) q → Within col n q ⊎ (col n ≡ Some q)
      split q w = by_cases (ℕ_discrete w.0 n) (λ y. inr (subst (λ (x : ℕ). col x ≡ Some q) y w.2)) (λ y. inl (w.0, omega (arith, w.1), w.2))

  pub foremost_keep : (n r : ℕ) (o f : Option P) (r' : ℕ) (o' : Option P) → r' ≡ r → o' ≡ o → f ≡ col n → cheaper S o f ≡ o → Foremost S col n r o → Foremost S col (n + 1) r' o'
  foremost_keep n r o f r' o' x y h e b =
      rw (add-one n, x, y) (record { least = subst (Least S (Within col (suc n))) e (least_more n o f h b.least); stands = λ p q. let z = b.stands p q in (omega (arith, z.0), z.1) })

  pub foremost_take : (n r : ℕ) (o f : Option P) (r' : ℕ) (o' : Option P) → r' ≡ n → o' ≡ f → f ≡ col n → cheaper S o f ≡ f → Foremost S col n r o → Foremost S col (n + 1) r' o'
  foremost_take n r o f r' o' x y h e b =
      rw (add-one n, x, y) (record { least = subst (Least S (Within col (suc n))) e (least_more n o f h b.least); stands = λ p q. (omega arith, sym h ∙ q) })

  -- the price of a pick
  abbrev pub price_in : Option (Pick P) → Option P
  price_in None = None
  price_in (Some pick) = Some pick.price

  picking_foremost : (n : ℕ) (best : Option (Pick P)) → Picking S col n best → (r : ℕ) × Foremost S col n r (price_in best)
  picking_foremost n None h = (0, h)
  picking_foremost n (Some pick) h = (pick.rule, h)

  -- the pick stays
  pub picking_keep : (n : ℕ) (best : Option (Pick P)) (f : Option P) → f ≡ col n → cheaper S (price_in best) f ≡ price_in best → Picking S col n best → Picking S col (n + 1) best
  picking_keep n None f h e b = foremost_keep n 0 None f 0 None refl refl h e b
  picking_keep n (Some pick) f h e b = foremost_keep n pick.rule (Some pick.price) f pick.rule (Some pick.price) refl refl h e b

  -- the pick of an offer
  abbrev pub pick_of : ℕ → Option P → Option (Pick P)
  pick_of n None = None
  pick_of n (Some p) = Some (record { rule = n; price = p })

  -- the offer is picked
  pub picking_take : (n : ℕ) (best : Option (Pick P)) (f : Option P) → f ≡ col n → cheaper S (price_in best) f ≡ f → Picking S col n best → Picking S col (n + 1) (pick_of n f)
  picking_take n best None h e b =
      let w = picking_foremost n best b in
      let v = foremost_take n w.0 (price_in best) None n None refl refl h e w.1 in
      record { least = v.least; stands = λ p q. absurd (none_some refl q) }
  picking_take n best (Some p) h e b = let w = picking_foremost n best b in foremost_take n w.0 (price_in best) (Some p) n (Some p) refl refl h e w.1

module _ {P : Type 0} (rules : List Rule) (S : Scale P) (L : Laws S) (ws : List ℕ) (t : Table P) (i j k : ℕ) where
  offer_leads : (n : ℕ) (f : Option P) (p : P) → Offers S ws t i j k (nth rules n) f → f ≡ Some p → Leads rules S ws t i j k n p
  offer_leads n f p h e = go (t.at i j (nth rules n).left) refl
    where
      inner : (x : Option P) → Least S (Cuts S (child S ws t i j k) (right (nth rules n)) i j) x → t.at i j (nth rules n).left ≡ None → joined S (Some (S.weigh (nth rules n).weight)) x ≡ Some p → Leads rules S ws t i j k n p
      inner None l d q = absurd (none_some refl q)
      inner (Some c) l d q = record { free = d; cut = c; least = l; joins = cc }

      go : (a : Option P) → t.at i j (nth rules n).left ≡ a → Leads rules S ws t i j k n p
      go None d = let w = h.free d in inner w.cut w.least d (sym w.joins ∙ e)
      go (Some c) d = absurd (none_some (h.taken c d) e)

  -- a rule's offer bounds what the rule could give
  offer_lower : (n : ℕ) (f : Option P) → Offers S ws t i j k (nth rules n) f → (q : P) → Candidate rules S ws t i j k n q → Bounds S f q
  offer_lower n f h q c = bounds_from S L Here f lower q (c.cut, c.cuts, c.joins)
    where
      Here : P → Type 0
      Here x = (b : P) × Cuts S (child S ws t i j k) (right (nth rules n)) i j b × (x ≡ S.join (S.weigh (nth rules n).weight) b)

      lower : Lower S Here f
      lower = let w = h.free c.free in rw w.joins (lower_joined S L (Cuts S (child S ws t i j k) (right (nth rules n)) i j) Here (S.weigh (nth rules n).weight) w.cut (λ x u. u) w.least.lower)

  -- the cheapest offer is the best candidate
  pub foremost_best : (col : ℕ → Option P) (r : ℕ) (o : Option P) → Offered rules S ws t i j k col → Foremost S col (length rules) r o → Best rules S ws t i j k r o
  foremost_best col r o f h =
      record {
        lower = bounds_to S L _ o (λ q c. through c.0 c.1 (col c.0) refl q (offer_lower c.0 (col c.0) (f c.0 c.1) q c.2));
        leads = λ p e. let z = h.stands p e in (z.0, offer_leads r (col r) p (f r z.0) z.1);
      }
    where
      through : (x : ℕ) → x < length rules → (w : Option P) → col x ≡ w → (q : P) → Bounds S w q → Bounds S o q
      through x l None e q b = absurd b
      through x l (Some c) e q b = bounds_up S L o c q b (bounds_from S L _ o h.least.lower c (x, l, e))
