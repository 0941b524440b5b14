-- A row and a table of bounds as a certificate: the row is a cheapest reading.
use Rattle.std.proofs.Common.{◌≡◌, ℕ, zero, suc, ◌-◌, Bool, true, ◌&&◌, eqb, leb, List, [], ◌∷◌, ◌++◌, map, length, take, drop, Some, sym, refl, ap, ◌∙◌, subst, append-nil, arith}
use lib.Seq.{take-length}
use Rattle.std.proofs.lemmas.Bool.{and_parts, eqb-true, leb-true, le-leb}
use Rattle.grammar.specs.declared.Symbol.TheVariants.{Name}
use Rattle.grammar.specs.declared.sheet.Sheet.{Sheet}
use Rattle.grammar.specs.Trees.{Row, yield, Fits, Derivation}
use Rattle.grammar.specs.View.{Plain, plain, rules_of, grammar_of}
use Rattle.readings.specs.Scales.{Scale, Laws, NoDearer, points}
use Rattle.readings.specs.Prices.{price, form}
use Rattle.readings.specs.inner.Stretches.{Over}
use Rattle.readings.specs.Laws.{points_laws}
use Rattle.worked.specs.Findings.{The, Reading, Read, Priced}
use Rattle.worked.proofs.Rules.{left_of, left_is}
use Rattle.worked.proofs.Derived.{same_words, words_same, fits, fits_so, cost, cost_is}
use Rattle.worked.proofs.Bounded.{Measure, Sound, Bound, cut, consistent, implied_of_all, covered, bounded}
use Rattle.worked.proofs.Priced.{by_price, Costs, by_price_sound}
use Rattle.worked.proofs.Formed.{Best, by_form, Settles, by_form_sound}

-- the row is a derivation of the words
abbrev pub derives : List Plain → List ℕ → Row → Bool
derives ps ws row = fits ps (Name (left_of ps 0) ∷ []) row && same_words (yield row) ws

-- and costs c
abbrev derives_at : Scale ℕ → List Plain → List ℕ → Row → ℕ → Bool
derives_at S ps ws row c = derives ps ws row && (eqb c (cost ps S row) && leb (length (form row)) 9984)

-- the bounds are so, and imply this one of every derivation of the words
abbrev bounds_all : {B : Type 0} → Measure B → List Plain → List ℕ → List (Bound B) → B → Bool
bounds_all M ps ws bs b = consistent M ps ws bs && implied_of_all M ps ws bs b

abbrev pub reads_by_price : Scale ℕ → List Plain → List ℕ → Row → List (Bound ℕ) → ℕ → Bool
reads_by_price S ps ws row bs c = derives_at S ps ws row c && bounds_all (by_price S ps) ps ws bs c

abbrev sure_best : List ℕ → ℕ → Best
sure_best written c = record { price = c; form = written; sure = true }

abbrev pub reads_by_form : List Plain → List ℕ → Row → List (Bound Best) → List ℕ → ℕ → Bool
reads_by_form ps ws row bs written c =
    derives_at points ps ws row c && (same_words (form row) written && bounds_all (by_form ps) ps ws bs (sure_best written c))

drop_none : (n : ℕ) → drop {A = ℕ} n [] ≡ []
drop_none zero = refl
drop_none (suc n) = refl

-- what a list that was empty holds after a form is written there
written_is : (f : List ℕ) (n : ℕ) → f ++ drop n [] ≡ f
written_is f n = ap (λ (xs : List ℕ). f ++ xs) (drop_none n) ∙ append-nil f

module _ (s : Sheet) (ps : List Plain) (says : map plain (rules_of s) ≡ ps) where
  abbrev pub derived : (ws : List ℕ) (row : Row) → derives ps ws row ≡ true → Derivation (grammar_of s) ws
  derived ws row h =
      let parts = and_parts (fits ps (Name (left_of ps 0) ∷ []) row) _ h in (
        row,
        subst (λ (a : ℕ). Fits (rules_of s) (Name a ∷ []) row) (sym (left_is (grammar_of s) ps says 0)) (fits_so (grammar_of s) ps says (Name (left_of ps 0) ∷ []) row parts.0),
        words_same (yield row) ws parts.1,
      )

  -- what consistent bounds imply is so of every derivation
  bounds_so : {B : Type 0} (M : Measure B) (Says : B → Row → Type 0) → Sound M Says → (ws : List ℕ) (bs : List (Bound B)) (b : B) → bounds_all M ps ws bs b ≡ true
      → (other : Derivation (grammar_of s) ws) → Says b other.0
  bounds_so M Says sound ws bs b h other =
      let parts = and_parts (consistent M ps ws bs) (implied_of_all M ps ws bs b) h in
      let all = Name (left_of ps 0) ∷ [] in
      let whole : length ws - 0 ≡ length ws = omega arith in
      let over : Over ws 0 (length ws) other.0 = record { ordered = omega arith; within = omega arith; yields = other.2 ∙ sym (ap (λ (n : ℕ). take n ws) whole ∙ take-length ws) } in
      let fit : Fits (rules_of s) all other.0 = subst (λ (a : ℕ). Fits (rules_of s) (Name a ∷ []) other.0) (left_is (grammar_of s) ps says 0) other.1 in
      covered M Says sound (Some b) (cut M ws bs all 0 (length ws)) other.0 parts.1 (bounded M Says sound (grammar_of s) ps says ws bs parts.0 other.0 all 0 (length ws) fit over)

  module _ (S : Scale ℕ) (L : Laws S) (ws : List ℕ) where
    -- a derivation that no other undercuts
    read : (row : Row) (c : ℕ) → derives_at S ps ws row c ≡ true → ((other : Derivation (grammar_of s) ws) → NoDearer S c (price (rules_of s) S other.0))
        → Read s S ws (record { form = form row; price = c })
    read row c h lower =
        let one = and_parts (derives ps ws row) _ h in
        let two = and_parts (eqb c (cost ps S row)) (leb (length (form row)) 9984) one.1 in
        record {
          derivation = derived ws row one.0;
          costs = eqb-true c (cost ps S row) two.0 ∙ sym (cost_is (grammar_of s) ps says S row);
          least = lower;
          long = refl;
          short = leb-true (length (form row)) 9984 two.1;
          list = sym (written_is (form row) (length (form row)));
        }

    -- cheapest readings cost the same
    one_price : (a b : Reading) → Read s S ws a → Read s S ws b → a.price ≡ b.price
    one_price a b p q =
        L.antisymmetric a.price b.price
        (subst (NoDearer S a.price) (sym q.costs) (p.least q.derivation)) (subst (NoDearer S b.price) (sym p.costs) (q.least p.derivation))

    pub the_price : (row : Row) (bs : List (Bound ℕ)) (c : ℕ) → reads_by_price S ps ws row bs c ≡ true → The (Priced s S ws) (λ p. p ≡ c)
    the_price row bs c h =
        let parts = and_parts (derives_at S ps ws row c) (bounds_all (by_price S ps) ps ws bs c) h in
        let it = read row c parts.0 (bounds_so (by_price S ps) (Costs S L (grammar_of s) ps says) (by_price_sound S L (grammar_of s) ps says) ws bs c parts.1) in
        record { it = c; such = (form row, it); only = λ p x. one_price (record { form = x.0; price = p }) (record { form = form row; price = c }) x.1 it; so = refl }

  pub the_reading : (ws : List ℕ) (row : Row) (bs : List (Bound Best)) (written : List ℕ) (c : ℕ) → reads_by_form ps ws row bs written c ≡ true
      → The (Read s points ws) (λ r. (r.form ≡ written) × (r.price ≡ c))
  the_reading ws row bs written c h =
      let one = and_parts (derives_at points ps ws row c) _ h in
      let two = and_parts (same_words (form row) written) (bounds_all (by_form ps) ps ws bs (sure_best written c)) one.1 in
      let settled = bounds_so (by_form ps) (Settles (grammar_of s) ps says) (by_form_sound (grammar_of s) ps says) ws bs (sure_best written c) two.1 in
      let it = read points points_laws ws row c one.0 (λ other. le-leb c _ (settled other).0) in
      let is : form row ≡ written = words_same (form row) written two.0 in
      record {
        it = record { form = form row; price = c };
        such = it;
        only =
            λ r x.
            let price : r.price ≡ c = one_price points points_laws ws r (record { form = form row; price = c }) x it in
            let shape : r.form ≡ form row = x.list ∙ written_is _ (length r.form) ∙ (settled x.derivation).1 (sym x.costs ∙ price) refl ∙ sym is in
            let same : ◌≡◌ {A = Reading} (record { form = r.form; price = r.price }) (record { form = form row; price = c }) = cc in
            same;
        so = (is, refl);
      }
