-- A log in which nothing due is missing: with a sound one, what it has is exactly what stands.
use Rattle.std.proofs.Common.{◌≡◌, ℕ, zero, suc, ◌+◌, ◌<◌, ◌≤◌, Bool, true, false, ◌&&◌, eqb, ltb, List, [], ◌∷◌, ◌++◌, map, length, get_or, Some, None, Option, sym, refl, ◌∙◌, subst, arith}
use mathlib.Core.Bool.{Bool-set}
use mathlib.Core.Logic.{∥∥₁_elim}
use Rattle.std.proofs.lemmas.Bool.{and_parts, and_from, eq-eqb, lt-ltb}
use Rattle.grammar.specs.declared.Symbol.{Symbol}
use Rattle.grammar.specs.declared.Symbol.TheVariants.{Name, Word}
use Rattle.grammar.specs.Grammar.{Grammar, rule, right}
use Rattle.grammar.specs.Trees.{Row, end, word, tree, yield, Fits}
use Rattle.grammar.specs.Closure.{Empties}
use Rattle.grammar.specs.View.{Plain, plain}
use Rattle.tables.specs.Table.{At}
use Rattle.tables.specs.Steps.{by_word, by_name, by_nothing, at_start, by_rule, Full, Seeded, Exact}
use Rattle.tables.specs.Theorems.{Told}
use Rattle.tables.proofs.Stated.{columns_are_exact}
use Rattle.worked.proofs.Finite.{all, any, below, implies, implied, below_at, all_any}
use Rattle.worked.proofs.Rules.{left_of, right_of, symbol_at, count_is, left_is, right_is, length_is, at_to}
use Rattle.worked.proofs.Logged.{Entry, entry, same, same_is, logged, sound, sound_so}

-- ---- names that can yield nothing, as a list

abbrev pub nothing : List ℕ → ℕ → Bool
nothing ns a = any (eqb a) ns

abbrev all_nothing : List ℕ → List Symbol → Bool
all_nothing ns [] = true
all_nothing ns (Name a ∷ s) = nothing ns a && all_nothing ns s
all_nothing ns (Word w ∷ s) = false

-- none is missing there
abbrev all_listed : List Plain → List ℕ → Bool
all_listed ps ns = below (length ps) (λ r. implies (all_nothing ns (right_of ps r)) (nothing ns (left_of ps r)))

none_both : (xs ys : List ℕ) → xs ++ ys ≡ [] → (xs ≡ []) × (ys ≡ [])
none_both [] ys e = (refl, e)
none_both (x ∷ xs) ys e = let z : ◌≡◌ {A = ℕ} 0 1 = cc in absurd (omega arith)

-- ---- what an entry asks for

-- one place further, up to j
abbrev further : List Entry → Entry → ℕ → Bool
further es e j = logged es (entry e.from j e.by (e.dot + 1))

-- the rules of the name b
abbrev opens : List Plain → List Entry → Entry → ℕ → Bool
opens ps es e b = below (length ps) (λ q. implies (eqb (left_of ps q) b) (logged es (entry e.to e.to q 0)))

abbrev skips : List ℕ → List Entry → Entry → ℕ → Bool
skips ns es e b = implies (nothing ns b) (further es e e.to)

-- the dot past the name b, where d is that name whole
abbrev crosses : List Plain → List Entry → Entry → ℕ → Entry → Bool
crosses ps es e b d = implies (eqb d.from e.to && (eqb (left_of ps d.by) b && eqb d.dot (length (right_of ps d.by)))) (further es e d.to)

abbrev asks : List Plain → List ℕ → List ℕ → List Entry → Entry → Option Symbol → Bool
asks ps ws ns es e None = true
asks ps ws ns es e (Some (Word w)) = implies (ltb e.to (length ws) && eqb w (get_or ws e.to 0)) (further es e (e.to + 1))
asks ps ws ns es e (Some (Name b)) = opens ps es e b && (skips ns es e b && all (crosses ps es e b) es)

abbrev pub closed : List Plain → ℕ → List ℕ → List ℕ → List Entry → Bool
closed ps start ws ns es =
    all_listed ps ns
    && (below (length ps) (λ q. implies (eqb (left_of ps q) start) (logged es (entry 0 0 q 0)))
    && all (λ e. asks ps ws ns es e (symbol_at ps e.by e.dot)) es)

-- what all entries pass, a logged one does
pub logged_all : (p : Entry → Bool) (es : List Entry) (e : Entry) → all p es ≡ true → logged es e ≡ true → p e ≡ true
logged_all p es e h l =
    let x = all_any p (same e) es h l in
    subst (λ (d : Entry). p d ≡ true) (sym (same_is e x.0 x.1)) x.2

module _ (g : Grammar) (ps : List Plain) (says : map plain g.rules ≡ ps) (start : ℕ) (starts : start ≡ g.start) (ws ns : List ℕ) (es : List Entry) (h : closed ps start ws ns es ≡ true) where
  none_listed : all_listed ps ns ≡ true
  none_listed = (and_parts (all_listed ps ns) _ h).0

  begun : (q : ℕ) → q < length ps → implies (eqb (left_of ps q) start) (logged es (entry 0 0 q 0)) ≡ true
  begun = below_at (length ps) _ (and_parts _ _ (and_parts (all_listed ps ns) _ h).1).0

  asked : (e : Entry) (o : Option Symbol) → logged es e ≡ true → symbol_at ps e.by e.dot ≡ o → asks ps ws ns es e o ≡ true
  asked e o l x =
      subst (λ (y : Option Symbol). asks ps ws ns es e y ≡ true) x
      (logged_all (λ d. asks ps ws ns es d (symbol_at ps d.by d.dot)) es e (and_parts _ _ (and_parts (all_listed ps ns) _ h).1).1 l)

  -- a row without words is of listed names alone
  null_row : (s : List Symbol) (row : Row) → Fits g.rules s row → yield row ≡ [] → all_nothing ns s ≡ true
  null_row [] end f e = refl
  null_row [] (word w rest) f e = absurd f
  null_row [] (tree r under rest) f e = absurd f
  null_row (Name a ∷ s) end f e = absurd f
  null_row (Name a ∷ s) (word w rest) f e = absurd f
  null_row (Name a ∷ s) (tree r under rest) f e =
      let parts = none_both (yield under) (yield rest) e in
      let low : r < length ps = subst (λ (n : ℕ). r < n) (count_is g ps says) f.0 in
      let below : all_nothing ns (right_of ps r) ≡ true = subst (λ (t : List Symbol). all_nothing ns t ≡ true) (right_is g ps says r) (null_row (right (rule g r)) under f.2 parts.0) in
      let left : nothing ns (left_of ps r) ≡ true = implied (all_nothing ns (right_of ps r)) _ (below_at (length ps) _ none_listed r low) below in
      and_from (nothing ns a) (all_nothing ns s) (subst (λ (n : ℕ). nothing ns n ≡ true) (sym (left_is g ps says r) ∙ f.1) left) (null_row s rest f.3 parts.1)
  null_row (Word v ∷ s) end f e = absurd f
  null_row (Word v ∷ s) (word w rest) f e = let z : ◌≡◌ {A = ℕ} 0 1 = cc in absurd (omega arith)
  null_row (Word v ∷ s) (tree r under rest) f e = absurd f

  empties_nothing : (b : ℕ) → Empties g.rules b → nothing ns b ≡ true
  empties_nothing b t = ∥∥₁_elim t (Bool-set (nothing ns b) true) (λ m. (and_parts (nothing ns b) true (null_row (Name b ∷ []) m.0 m.1 m.2)).0)

  -- the cells that the log tells
  abbrev test : ℕ → ℕ → ℕ → ℕ → Bool
  test i j r k = logged es (entry i j r k)

  named : (i j r k b : ℕ) → test i j r k ≡ true → At (rule g r) k (Name b)
      → (opens ps es (entry i j r k) b ≡ true) × (skips ns es (entry i j r k) b ≡ true) × (all (crosses ps es (entry i j r k) b) es ≡ true)
  named i j r k b c at =
      let e = entry i j r k in
      let one = and_parts (opens ps es e b) _ (asked e (Some (Name b)) c (at_to g ps says r k (Name b) at)) in
      let two = and_parts (skips ns es e b) _ one.1 in
      (one.0, two.0, two.1)

  is_full : (i j : ℕ) → j ≤ length ws → Full g ws (Told test) i j
  is_full i j short r k l (by_word m e o c at) =
      let w = get_or ws m 0 in
      let a = asked (entry i m r k) (Some (Word w)) c (at_to g ps says r k (Word w) at) in
      let here : (ltb m (length ws) && eqb w w) ≡ true = and_from _ _ (lt-ltb m (length ws) (omega arith)) (eq-eqb w w refl) in
      subst (λ (n : ℕ). test i n r (k + 1) ≡ true) (sym e) (implied _ _ a here)
  is_full i j short r k l (by_name m b q o n c at lq e d) =
      let here : (eqb m m && (eqb (left_of ps q) b && eqb (length (right (rule g q))) (length (right_of ps q)))) ≡ true =
      and_from _ _ (eq-eqb m m refl) (and_from _ _ (eq-eqb (left_of ps q) b (sym (left_is g ps says q) ∙ e)) (eq-eqb _ _ (length_is g ps says q))) in
      implied _ _ (logged_all (crosses ps es (entry i m r k) b) es (entry m j q (length (right (rule g q)))) (named i m r k b c at).2 d) here
  is_full i j short r k l (by_nothing b c at n) = implied _ _ (named i j r k b c at).1 (empties_nothing b n)

  is_seeded : (j : ℕ) → Seeded g (Told test) j
  is_seeded j q l (at_start e o) =
      let low : q < length ps = subst (λ (n : ℕ). q < n) (count_is g ps says) l in
      subst (λ (n : ℕ). test n n q 0 ≡ true) (sym e) (implied _ _ (begun q low) (eq-eqb (left_of ps q) start (sym (left_is g ps says q) ∙ o ∙ sym starts)))
  is_seeded j q l (by_rule i r k b o lr c at e) =
      let low : q < length ps = subst (λ (n : ℕ). q < n) (count_is g ps says) l in
      implied _ _ (below_at (length ps) _ (named i j r k b c at).0 q low) (eq-eqb (left_of ps q) b (sym (left_is g ps says q) ∙ e))

  module _ (s : sound ps start ws es ≡ true) where
    exact_below : (n j : ℕ) → j < n → j ≤ length ws → Exact g ws (Told test) j
    exact_below zero j l short = absurd (omega arith)
    exact_below (suc n) j l short =
        columns_are_exact g ws test j short (λ m o. exact_below n m (omega arith) (omega arith))
        (λ i r k o lr lk t. sound_so g ps says ws start starts es s (entry i j r k) t)
        (λ i o. is_full i j short) (is_seeded j)

    pub exact : (j : ℕ) → j ≤ length ws → Exact g ws (Told test) j
    exact j short = exact_below (suc j) j (omega arith) short
