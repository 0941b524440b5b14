-- The rules of a grammar, read without the unused parts of their arrays.
use Rattle.std.proofs.Common.{◌≡◌, ℕ, zero, suc, ◌+◌, ◌<◌, List, [], ◌∷◌, map, length, get_or, Some, Option, sym, refl, ap, ◌∙◌, arith}
use Rattle.std.specs.List.{slice_get}
use Rattle.std.proofs.lemmas.List.{length-map}
use Rattle.std.proofs.lemmas.Option.{slice_get_read}
use Rattle.grammar.specs.declared.Symbol.{Symbol}
use Rattle.grammar.specs.declared.Rule.{Rule}
use Rattle.grammar.specs.Grammar.{Grammar, no_rule, rule, right}
use Rattle.grammar.specs.View.{Plain, plain}
use Rattle.tables.specs.Table.{At}
use Rattle.tables.specs.Columns.{first_place}

abbrev pub blank_rule : Plain
blank_rule = record { weight = 0; left = 0; right = [] }

abbrev pub weight_of : List Plain → ℕ → ℕ
weight_of ps r = (get_or ps r blank_rule).weight

abbrev pub left_of : List Plain → ℕ → ℕ
left_of ps r = (get_or ps r blank_rule).left

abbrev pub right_of : List Plain → ℕ → List Symbol
right_of ps r = (get_or ps r blank_rule).right

-- the symbol after the first k of rule r
abbrev pub symbol_at : List Plain → ℕ → ℕ → Option Symbol
symbol_at ps r k = slice_get (right_of ps r) k

-- the first dotted place of rule r
abbrev pub first_at : List Plain → ℕ → ℕ
first_at [] r = 0
first_at (p ∷ ps) zero = 0
first_at (p ∷ ps) (suc r) = suc (length p.right) + first_at ps r

map_at : {A B : Type 0} (f : A → B) (xs : List A) (k : ℕ) (d : A) → get_or (map f xs) k (f d) ≡ f (get_or xs k d)
map_at f [] k d = refl
map_at f (x ∷ xs) zero d = refl
map_at f (x ∷ xs) (suc k) d = map_at f xs k d

first_map : (rules : List Rule) (r : ℕ) → first_place rules r ≡ first_at (map plain rules) r
first_map [] r = refl
first_map (p ∷ ps) zero = refl
first_map (p ∷ ps) (suc r) = ap (λ (n : ℕ). suc (length (right p)) + n) (first_map ps r)

nth_at : {A : Type 0} (xs : List A) (k : ℕ) (x : A) → slice_get xs k ≡ Some x → (k < length xs) × (x ≡ get_or xs k x)
nth_at [] k x e = let z : ◌≡◌ {A = ℕ} 0 1 = cc in absurd (omega arith)
nth_at (y ∷ xs) zero x e = (omega arith, cc)
nth_at (y ∷ xs) (suc k) x e = let h = nth_at xs k x e in (omega arith, h.1)

module _ (g : Grammar) (ps : List Plain) (says : map plain g.rules ≡ ps) where
  plain_is : (r : ℕ) → plain (rule g r) ≡ get_or ps r blank_rule
  plain_is r = sym (map_at plain g.rules r no_rule) ∙ ap (λ (xs : List Plain). get_or xs r blank_rule) says

  pub count_is : length g.rules ≡ length ps
  count_is = sym (length-map g.rules plain) ∙ ap length says

  pub weight_is : (r : ℕ) → (rule g r).weight ≡ weight_of ps r
  weight_is r = ap (λ (p : Plain). p.weight) (plain_is r)

  pub left_is : (r : ℕ) → (rule g r).left ≡ left_of ps r
  left_is r = ap (λ (p : Plain). p.left) (plain_is r)

  pub right_is : (r : ℕ) → right (rule g r) ≡ right_of ps r
  right_is r = ap (λ (p : Plain). p.right) (plain_is r)

  pub first_is : (r : ℕ) → first_place g.rules r ≡ first_at ps r
  first_is r = first_map g.rules r ∙ ap (λ (xs : List Plain). first_at xs r) says

  pub length_is : (r : ℕ) → length (right (rule g r)) ≡ length (right_of ps r)
  length_is r = ap length (right_is r)

  pub at_from : (r k : ℕ) (x : Symbol) → symbol_at ps r k ≡ Some x → At (rule g r) k x
  at_from r k x e = nth_at (right (rule g r)) k x (ap (λ (s : List Symbol). slice_get s k) (right_is r) ∙ e)

  pub at_to : (r k : ℕ) (x : Symbol) → At (rule g r) k x → symbol_at ps r k ≡ Some x
  at_to r k x a = ap (λ (s : List Symbol). slice_get s k) (sym (right_is r)) ∙ slice_get_read (right (rule g r)) (length (right (rule g r))) k x refl a.0 a.1
