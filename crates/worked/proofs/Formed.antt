-- Bounds by points that settle the form too: a row costs no less, and where it costs just that, it is written so.
use Rattle.std.proofs.Common.{◌≡◌, ℕ, suc, ◌+◌, ◌-◌, ◌^◌, ◌<◌, ◌≤◌, Bool, true, false, cond, ◌&&◌, ◌||◌, eqb, ltb, List, [], ◌∷◌, ◌++◌, map, length, sym, refl, ap, ◌∙◌, subst, ap₂, ⊎_elim, append-nil, arith}
use Rattle.std.proofs.lemmas.Bool.{and_parts, or_cases, eqb-true, ltb-true, ltb-false}
use Rattle.grammar.specs.Grammar.{Grammar}
use Rattle.grammar.specs.Trees.{Row, end, tree, yield}
use Rattle.grammar.specs.View.{Plain, plain}
use Rattle.readings.specs.Scales.{stopped_sum, points}
use Rattle.readings.specs.Prices.{price, form}
use Rattle.readings.specs.Laws.{points_laws}
use Rattle.worked.proofs.Derived.{same_words, words_same}
use Rattle.worked.proofs.Finite.{implies, implied}
use Rattle.worked.proofs.Rules.{weight_of}
use Rattle.worked.proofs.Bounded.{Measure, Sound}
use Rattle.worked.proofs.Priced.{alone, followed}

-- a price, and, where it is sure, the form at that price
pub record Best : Type 0 where
  pub price : ℕ
  pub form : List ℕ
  pub sure : Bool

-- a sum that has not stopped
abbrev free : ℕ → ℕ → Bool
free a b = ltb (a + b) (2 ^ 32 - 1)

abbrev over : List Plain → ℕ → Bool → Best → Best
over ps r none b = record {
  price = stopped_sum (weight_of ps r) b.price;
  form = cond none (0 ∷ []) (suc r ∷ b.form);
  sure = b.sure && free (weight_of ps r) b.price;
}

abbrev after : Best → Best → Best
after a b = record { price = stopped_sum a.price b.price; form = a.form ++ b.form; sure = a.sure && (b.sure && free a.price b.price) }

-- two at one price
abbrev agreed : Best → Best → Best
agreed a b = record { price = a.price; form = a.form; sure = a.sure && (b.sure && same_words b.form a.form) }

abbrev cheaper : Best → Best → Best
cheaper a b = cond (ltb a.price b.price) a (cond (ltb b.price a.price) b (agreed a b))

abbrev pub by_form : List Plain → Measure Best
by_form ps = record {
  unit = record { price = 0; form = []; sure = true };
  atop = over ps;
  beside = after;
  either = cheaper;
  implies = λ a b. ltb a.price b.price || (eqb a.price b.price && implies a.sure (b.sure && same_words b.form a.form));
}

sum_up : (a b p q : ℕ) → a ≤ p → b ≤ q → stopped_sum a b ≤ stopped_sum p q
sum_up a b p q h k = omega arith

-- a sum of parts no cheaper that has not stopped is the same by the same parts
sum_parts : (a b p q : ℕ) → a ≤ p → b ≤ q → a + b < 2 ^ 32 - 1 → stopped_sum p q ≡ stopped_sum a b → (p ≡ a) × (q ≡ b)
sum_parts a b p q h k l e = (omega arith, omega arith)

module _ (g : Grammar) (ps : List Plain) (says : map plain g.rules ≡ ps) where
  abbrev cost : Row → ℕ
  cost row = price g.rules points row

  abbrev pub Settles : Best → Row → Type 0
  Settles b row = (b.price ≤ cost row) × (cost row ≡ b.price → b.sure ≡ true → form row ≡ b.form)

  tops : (b : Best) (r : ℕ) (under : Row) → Settles b under → Settles (over ps r (eqb (length (yield under)) 0) b) (tree r under end)
  tops b r under h =
      let w = weight_of ps r in
      let is : cost (tree r under end) ≡ stopped_sum w (cost under) = alone points points_laws g ps says r under in
      let none = eqb (length (yield under)) 0 in (
        subst (λ (n : ℕ). stopped_sum w b.price ≤ n) (sym is) (sum_up w b.price w (cost under) (omega arith) h.0),
        λ e s.
            let parts = and_parts b.sure (free w b.price) s in
            let same = sum_parts w b.price w (cost under) (omega arith) h.0 (ltb-true (w + b.price) (2 ^ 32 - 1) parts.1) (sym is ∙ e) in
            append-nil (cond none (0 ∷ []) (suc r ∷ form under)) ∙ ap (λ (f : List ℕ). cond none (0 ∷ []) (suc r ∷ f)) (h.1 same.1 parts.0),
      )

  besides : (a b : Best) (r : ℕ) (under rest : Row) → Settles a (tree r under end) → Settles b rest → Settles (after a b) (tree r under rest)
  besides a b r under rest h k =
      let is : stopped_sum (cost (tree r under end)) (cost rest) ≡ cost (tree r under rest) = followed points points_laws g ps says r under rest in
      let head = cond (eqb (length (yield under)) 0) (0 ∷ []) (suc r ∷ form under) in (
        subst (λ (n : ℕ). stopped_sum a.price b.price ≤ n) is (sum_up a.price b.price (cost (tree r under end)) (cost rest) h.0 k.0),
        λ e s.
            let one = and_parts a.sure _ s in
            let two = and_parts b.sure (free a.price b.price) one.1 in
            let same = sum_parts a.price b.price (cost (tree r under end)) (cost rest) h.0 k.0 (ltb-true (a.price + b.price) (2 ^ 32 - 1) two.1) (is ∙ e) in
            ap₂ (λ (x y : List ℕ). x ++ y) (sym (append-nil head) ∙ h.1 same.0 one.0) (k.1 same.1 two.0),
      )

  left : (a b : Best) (row : Row) → Settles a row → Settles (cheaper a b) row
  left a b row h = go (ltb a.price b.price) (ltb b.price a.price) refl
    where
      go : (t u : Bool) → ltb b.price a.price ≡ u → Settles (cond t a (cond u b (agreed a b))) row
      go true u e = h
      go false true e = let l = ltb-true b.price a.price e in (omega (arith, h.0), λ f s. absurd (omega (arith, h.0)))
      go false false e = (h.0, λ f s. h.1 f (and_parts a.sure _ s).0)

  right : (a b : Best) (row : Row) → Settles b row → Settles (cheaper a b) row
  right a b row h = go (ltb a.price b.price) (ltb b.price a.price) refl refl
    where
      go : (t u : Bool) → ltb a.price b.price ≡ t → ltb b.price a.price ≡ u → Settles (cond t a (cond u b (agreed a b))) row
      go true u d e = let l = ltb-true a.price b.price d in (omega (arith, h.0), λ f s. absurd (omega (arith, h.0)))
      go false true d e = h
      go false false d e =
          let l = ltb-false a.price b.price d in
          let m = ltb-false b.price a.price e in (
            omega (arith, h.0),
            λ f s.
                let two = and_parts b.sure (same_words b.form a.form) (and_parts a.sure _ s).1 in
                h.1 (omega arith) two.0 ∙ words_same b.form a.form two.1,
          )

  follows : (a b : Best) (row : Row) → (by_form ps).implies a b ≡ true → Settles b row → Settles a row
  follows a b row e h =
      ⊎_elim
      (λ (o : ltb a.price b.price ≡ true).
      let l = ltb-true a.price b.price o in (omega (arith, h.0), λ f s. absurd (omega (arith, h.0))))
      (λ (o : (eqb a.price b.price && implies a.sure (b.sure && same_words b.form a.form)) ≡ true).
      let one = and_parts (eqb a.price b.price) _ o in
      let same = eqb-true a.price b.price one.0 in (
        omega (arith, h.0),
        λ f s.
            let two = and_parts b.sure (same_words b.form a.form) (implied a.sure _ one.1 s) in
            h.1 (f ∙ same) two.0 ∙ words_same b.form a.form two.1,
      ))
      (or_cases (ltb a.price b.price) _ e)

  pub by_form_sound : Sound (by_form ps) Settles
  by_form_sound = record {
    ends = (omega arith, λ e s. refl);
    words = λ b w rest h. h;
    tops = tops;
    besides = besides;
    left = left;
    right = right;
    implied = follows;
  }
