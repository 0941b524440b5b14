-- Trees depend on the left names and the right sides of rules alone.
use Rattle.std.proofs.Common.{◌≡◌, ℕ, ◌<◌, List, [], ◌∷◌, map, length, get_or, sym, ap, ◌∙◌, subst, inl, inr}
use mathlib.Core.Logic.{∥∥₁_map}
use Rattle.std.proofs.lemmas.List.{length-map, get_or-map}
use Rattle.std.proofs.lemmas.Bool.{cases_order}
use Rattle.grammar.specs.declared.Symbol.{Symbol}
use Rattle.grammar.specs.declared.Symbol.TheVariants.{Name, Word}
use Rattle.grammar.specs.declared.Rule.{Rule}
use Rattle.grammar.specs.Grammar.{no_rule, right}
use Rattle.grammar.specs.Trees.{Row, end, word, tree, Fits}
use Rattle.grammar.specs.Closure.{HasTree, LowestTreeless}
use Rattle.grammar.specs.View.{plain}

module _ (rules rules' : List Rule) (same : map plain rules ≡ map plain rules') where
  same_count : length rules ≡ length rules'
  same_count = sym (length-map rules plain) ∙ ap length same ∙ length-map rules' plain

  same_plain : (r : ℕ) → r < length rules → plain (get_or rules r no_rule) ≡ plain (get_or rules' r no_rule)
  same_plain r h =
      let h' : r < length rules' = subst (λ n. r < n) same_count h in
      sym (get_or-map plain rules r no_rule (plain no_rule) h) ∙ ap (λ ps. get_or ps r (plain no_rule)) same ∙ get_or-map plain rules' r no_rule (plain no_rule) h'

  pub fits_plain : (s : List Symbol) (row : Row) → Fits rules s row → Fits rules' s row
  fits_plain [] end f = tt
  fits_plain [] (word w rest) f = absurd f
  fits_plain [] (tree r below rest) f = absurd f
  fits_plain (Name a ∷ s) end f = absurd f
  fits_plain (Name a ∷ s) (word w rest) f = absurd f
  fits_plain (Name a ∷ s) (tree r below rest) f =
      let e = same_plain r f.0 in (
        subst (λ n. r < n) same_count f.0,
        ap (λ p. p.left) (sym e) ∙ f.1,
        subst (λ t. Fits rules' t below) (ap (λ p. p.right) e) (fits_plain (right (get_or rules r no_rule)) below f.2),
        fits_plain s rest f.3,
      )
  fits_plain (Word v ∷ s) end f = absurd f
  fits_plain (Word v ∷ s) (word w rest) f = (f.0, fits_plain s rest f.1)
  fits_plain (Word v ∷ s) (tree r below rest) f = absurd f

  pub tree_plain : (a : ℕ) → HasTree rules a → HasTree rules' a
  tree_plain a t = ∥∥₁_map t (λ q. (q.0, fits_plain (Name a ∷ []) q.0 q.1))

-- the lowest name without a tree is one
pub lowest_once : (rules rules' : List Rule) (n a b : ℕ) → map plain rules ≡ map plain rules' → LowestTreeless rules n a → LowestTreeless rules' n b → a ≡ b
lowest_once rules rules' n a b same p q = elim (cases_order a b) [
  | inl e ↦ e
  | inr (inl h) ↦ absurd (p.treeless (tree_plain rules' rules (sym same) a (q.lowest a h)))
  | inr (inr h) ↦ absurd (q.treeless (tree_plain rules rules' same b (p.lowest b h)))
]
