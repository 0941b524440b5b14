-- A row as a certificate: that it fits, and what it costs, by computing.
use Rattle.std.proofs.Common.{◌≡◌, ℕ, ◌<◌, Bool, true, false, ◌&&◌, eqb, ltb, List, [], ◌∷◌, map, length, sym, refl, ap, ◌∙◌, subst, ap₂}
use Rattle.std.proofs.lemmas.Bool.{and_parts, eqb-true, ltb-true, false≢true}
use Rattle.grammar.specs.declared.Symbol.{Symbol}
use Rattle.grammar.specs.declared.Symbol.TheVariants.{Name, Word}
use Rattle.grammar.specs.Grammar.{Grammar}
use Rattle.grammar.specs.Trees.{Row, end, word, tree, Fits}
use Rattle.grammar.specs.View.{Plain, plain}
use Rattle.readings.specs.Scales.{Scale}
use Rattle.readings.specs.Prices.{price}
use Rattle.worked.proofs.Rules.{weight_of, left_of, right_of, count_is, weight_is, left_is, right_is}

abbrev pub same_words : List ℕ → List ℕ → Bool
same_words [] [] = true
same_words [] (y ∷ ys) = false
same_words (x ∷ xs) [] = false
same_words (x ∷ xs) (y ∷ ys) = eqb x y && same_words xs ys

pub words_same : (xs ys : List ℕ) → same_words xs ys ≡ true → xs ≡ ys
words_same [] [] h = refl
words_same [] (y ∷ ys) h = absurd (false≢true h)
words_same (x ∷ xs) [] h = absurd (false≢true h)
words_same (x ∷ xs) (y ∷ ys) h =
    let parts = and_parts (eqb x y) (same_words xs ys) h in
    ap₂ (λ (a : ℕ) (l : List ℕ). a ∷ l) (eqb-true x y parts.0) (words_same xs ys parts.1)

-- the row fits the symbols
abbrev pub fits : List Plain → List Symbol → Row → Bool
fits ps [] end = true
fits ps [] (word w rest) = false
fits ps [] (tree r below rest) = false
fits ps (Name a ∷ s) end = false
fits ps (Name a ∷ s) (word w rest) = false
fits ps (Name a ∷ s) (tree r below rest) = ltb r (length ps) && (eqb (left_of ps r) a && (fits ps (right_of ps r) below && fits ps s rest))
fits ps (Word v ∷ s) end = false
fits ps (Word v ∷ s) (word w rest) = eqb w v && fits ps s rest
fits ps (Word v ∷ s) (tree r below rest) = false

abbrev pub cost : {P : Type 0} → List Plain → Scale P → Row → P
cost ps S end = S.unit
cost ps S (word w rest) = cost ps S rest
cost ps S (tree r below rest) = S.join (S.weigh (weight_of ps r)) (S.join (cost ps S below) (cost ps S rest))

module _ (g : Grammar) (ps : List Plain) (says : map plain g.rules ≡ ps) where
  pub fits_so : (s : List Symbol) (row : Row) → fits ps s row ≡ true → Fits g.rules s row
  fits_so [] end h = tt
  fits_so [] (word w rest) h = absurd (false≢true h)
  fits_so [] (tree r below rest) h = absurd (false≢true h)
  fits_so (Name a ∷ s) end h = absurd (false≢true h)
  fits_so (Name a ∷ s) (word w rest) h = absurd (false≢true h)
  fits_so (Name a ∷ s) (tree r below rest) h =
      let one = and_parts (ltb r (length ps)) _ h in
      let two = and_parts (eqb (left_of ps r) a) _ one.1 in
      let three = and_parts (fits ps (right_of ps r) below) (fits ps s rest) two.1 in (
        subst (λ (n : ℕ). r < n) (sym (count_is g ps says)) (ltb-true r (length ps) one.0),
        left_is g ps says r ∙ eqb-true (left_of ps r) a two.0,
        subst (λ (t : List Symbol). Fits g.rules t below) (sym (right_is g ps says r)) (fits_so (right_of ps r) below three.0),
        fits_so s rest three.1,
      )
  fits_so (Word v ∷ s) end h = absurd (false≢true h)
  fits_so (Word v ∷ s) (word w rest) h =
      let parts = and_parts (eqb w v) (fits ps s rest) h in (eqb-true w v parts.0, fits_so s rest parts.1)
  fits_so (Word v ∷ s) (tree r below rest) h = absurd (false≢true h)

  pub cost_is : {P : Type 0} (S : Scale P) (row : Row) → price g.rules S row ≡ cost ps S row
  cost_is S end = refl
  cost_is S (word w rest) = cost_is S rest
  cost_is S (tree r below rest) =
      ap₂ S.join (ap S.weigh (weight_is g ps says r)) (ap₂ S.join (cost_is S below) (cost_is S rest))
