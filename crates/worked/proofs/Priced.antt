-- Bounds by any scale: a row costs no less.
use Rattle.std.proofs.Common.{◌≡◌, ℕ, cond, List, map, sym, ap, ◌∙◌, subst}
use Rattle.grammar.specs.Grammar.{Grammar}
use Rattle.grammar.specs.Trees.{Row, end, tree}
use Rattle.grammar.specs.View.{Plain, plain}
use Rattle.readings.specs.Scales.{Scale, Laws, NoDearer}
use Rattle.readings.specs.Prices.{price}
use Rattle.readings.proofs.Least.{no_dearer_refl, join_mono, cond_left, cond_right}
use Rattle.worked.proofs.Rules.{weight_of, weight_is}
use Rattle.worked.proofs.Bounded.{Measure, Sound}

abbrev pub by_price : {P : Type 0} → Scale P → List Plain → Measure P
by_price S ps = record {
  unit = S.unit;
  atop = λ r none p. S.join (S.weigh (weight_of ps r)) p;
  beside = S.join;
  either = λ a b. cond (S.no_dearer a b) a b;
  implies = S.no_dearer;
}

module _ {P : Type 0} (S : Scale P) (L : Laws S) (g : Grammar) (ps : List Plain) (says : map plain g.rules ≡ ps) where
  -- the row costs c at least
  abbrev pub Costs : P → Row → Type 0
  Costs c row = NoDearer S c (price g.rules S row)

  -- what a tree with nothing after it costs, and with a row after it
  pub alone : (r : ℕ) (under : Row) → price g.rules S (tree r under end) ≡ S.join (S.weigh (weight_of ps r)) (price g.rules S under)
  alone r under =
      ap (S.join _) (L.neutral_right (price g.rules S under)) ∙ ap (λ (n : ℕ). S.join (S.weigh n) (price g.rules S under)) (weight_is g ps says r)

  pub followed : (r : ℕ) (under rest : Row) → S.join (price g.rules S (tree r under end)) (price g.rules S rest) ≡ price g.rules S (tree r under rest)
  followed r under rest =
      L.associative _ _ _ ∙ ap (S.join _) (ap (λ (p : P). S.join p (price g.rules S rest)) (L.neutral_right (price g.rules S under)))

  pub by_price_sound : Sound (by_price S ps) Costs
  by_price_sound = record {
    ends = no_dearer_refl S L S.unit;
    words = λ b w rest h. h;
    tops = λ b r under h. subst (NoDearer S (S.join (S.weigh (weight_of ps r)) b)) (sym (alone r under)) (L.monotone_right b (price g.rules S under) (S.weigh (weight_of ps r)) h);
    besides = λ a b r under rest h k. subst (NoDearer S (S.join a b)) (followed r under rest) (join_mono S L a b (price g.rules S (tree r under end)) (price g.rules S rest) h k);
    left = λ a b row h. L.transitive _ a _ (cond_left S L a b) h;
    right = λ a b row h. L.transitive _ b _ (cond_right S L a b) h;
    implied = λ a b row e h. L.transitive a b _ e h;
  }
