-- The masks of a grammar's rules mark its dotted places by rule and dot.
use Rattle.std.proofs.Common.{◌≡◌, ℕ, zero, suc, ◌+◌, ◌<◌, ◌≤◌, true, List, [], ◌∷◌, length, get_or, take, drop, Some, None, Option, sym, refl, ap, ◌∙◌, ⊎_elim, arith, drop-cons, eq-eqb, eqb-true}
use borrow.Author.Tests.{clash}
use Rattle.std.proofs.lemmas.List.{drop_all}
use Rattle.std.proofs.lemmas.Bool.{cases_lt}
use Rattle.grammar.specs.declared.Symbol.{Symbol}
use Rattle.grammar.specs.declared.Symbol.TheVariants.{Name, Word}
use Rattle.grammar.specs.declared.Rule.{Rule}
use Rattle.grammar.specs.declared.masks.Masks.{Masks}
use Rattle.grammar.specs.Grammar.{Grammar, rule, right}
use Rattle.grammar.specs.Bits.{has}
use Rattle.grammar.specs.Closure.{Nullables}
use Rattle.grammar.specs.Dotted.{dotted, leading_name, leading_word, where_none, next_name, next_word, first_of, last_of, is, among}
use Rattle.grammar.specs.Masked.{Masked}
use Rattle.grammar.specs.inner.Marking.{spot}
use Rattle.tables.specs.Table.{At}
use Rattle.tables.specs.Columns.{first_place}
use Rattle.tables.specs.inner.Sets.{Spot, Marked}
use Rattle.tables.proofs.Dotting.{length_dotted, Found, key_in, key_of}

-- ---- what a key says

no_key : (a : ℕ) → None ≡ Some a → ⊥
no_key a e = let z : ◌≡◌ {A = ℕ} 0 1 = cc in omega arith

is_same : (a : ℕ) → is a (Some a) ≡ true
is_same a = eq-eqb a a refl

is_true : (a : ℕ) (o : Option ℕ) → is a o ≡ true → o ≡ Some a
is_true a None e = absurd (clash e)
is_true a (Some b) e = ap Some (sym (eqb-true a b e))

among_true : (set : ℕ) (o : Option ℕ) → among set o ≡ true → (a : ℕ) × (o ≡ Some a) × (has set a ≡ true)
among_true set None e = absurd (clash e)
among_true set (Some a) e = (a, refl, e)

-- ---- the symbol after the dot

at_name : (p : Rule) (k a : ℕ) → At p k (Name a) → next_name (spot p k) ≡ Some a
at_name p k a (l, e) =
    ap leading_name (drop-cons (right p) k (Name a) l) ∙ ap (λ s. leading_name (s ∷ drop (suc k) (right p))) (sym e)

at_word : (p : Rule) (k w : ℕ) → At p k (Word w) → next_word (spot p k) ≡ Some w
at_word p k w (l, e) =
    ap leading_word (drop-cons (right p) k (Word w) l) ∙ ap (λ s. leading_word (s ∷ drop (suc k) (right p))) (sym e)

lead_name : (s : Symbol) (rest : List Symbol) (a : ℕ) → leading_name (s ∷ rest) ≡ Some a → Name a ≡ s
lead_name (Name b) rest a e = cc
lead_name (Word b) rest a e = absurd (no_key a e)

lead_word : (s : Symbol) (rest : List Symbol) (w : ℕ) → leading_word (s ∷ rest) ≡ Some w → Word w ≡ s
lead_word (Name b) rest w e = absurd (no_key w e)
lead_word (Word b) rest w e = cc

name_at : (p : Rule) (k a : ℕ) → next_name (spot p k) ≡ Some a → At p k (Name a)
name_at p k a e =
    ⊎_elim
    (λ (l : k < length (right p)). (l, lead_name (get_or (right p) k (Name a)) (drop (suc k) (right p)) a (sym (ap leading_name (drop-cons (right p) k (Name a) l)) ∙ e)))
    (λ (l : length (right p) ≤ k). absurd (no_key a (sym (ap leading_name (drop_all k (right p) l)) ∙ e)))
    (cases_lt k (length (right p)))

word_at : (p : Rule) (k w : ℕ) → next_word (spot p k) ≡ Some w → At p k (Word w)
word_at p k w e =
    ⊎_elim
    (λ (l : k < length (right p)). (l, lead_word (get_or (right p) k (Word w)) (drop (suc k) (right p)) w (sym (ap leading_word (drop-cons (right p) k (Word w) l)) ∙ e)))
    (λ (l : length (right p) ≤ k). absurd (no_key w (sym (ap leading_word (drop_all k (right p) l)) ∙ e)))
    (cases_lt k (length (right p)))

-- ---- the dot at an end

front_at : (b a : ℕ) (s : List Symbol) (k : ℕ) → k ≤ length s → where_none b (take k s) ≡ Some a → (b ≡ a) × (k ≡ 0)
front_at b a s zero h e = ((cc), refl)
front_at b a [] (suc k) h e = absurd (omega arith)
front_at b a (x ∷ s) (suc k) h e = absurd (no_key a e)

back_at : (b a : ℕ) (s : List Symbol) (k : ℕ) → k ≤ length s → where_none b (drop k s) ≡ Some a → (b ≡ a) × (k ≡ length s)
back_at b a [] zero h e = ((cc), refl)
back_at b a [] (suc k) h e = absurd (omega arith)
back_at b a (x ∷ s) zero h e = absurd (no_key a e)
back_at b a (x ∷ s) (suc k) h e = let p = back_at b a s k (omega arith) e in (p.0, omega (arith, p.1))

at_back : (p : Rule) → last_of (spot p (length (right p))) ≡ Some p.left
at_back p = ap (where_none p.left) (drop_all (length (right p)) (right p) (omega arith))

-- ---- all masks

pub marked : (g : Grammar) (set : ℕ) (m : Masks) → length (dotted g.rules) ≤ 256 → Nullables g.rules set → Masked g.rules set m → Marked g m
marked g set m fit nulls h = record {
  fitting = omega (arith, length_dotted g.rules);
  name_in = λ r k a l at. h.names a _ ∙ ap (is a) (key_in next_name g.rules r k l (omega (arith, at.0)) ∙ at_name (rule g r) k a at) ∙ is_same a;
  name_of = λ a d e.
      let f = key_of next_name g.rules (is a) refl d (sym (h.names a d) ∙ e) in
      spot_of f.0 (Name a) (name_at (rule g f.0.by) f.0.dot a (is_true a _ f.1));
  word_in = λ r k w l at. h.words w _ ∙ ap (is w) (key_in next_word g.rules r k l (omega (arith, at.0)) ∙ at_word (rule g r) k w at) ∙ is_same w;
  word_of = λ w d e.
      let f = key_of next_word g.rules (is w) refl d (sym (h.words w d) ∙ e) in
      spot_of f.0 (Word w) (word_at (rule g f.0.by) f.0.dot w (is_true w _ f.1));
  first_in = λ r l. h.first (rule g r).left _ ∙ ap (is (rule g r).left) (key_in first_of g.rules r 0 l (omega arith)) ∙ is_same (rule g r).left;
  first_of = λ a d e.
      let f = key_of first_of g.rules (is a) refl d (sym (h.first a d) ∙ e) in
      let p = front_at (rule g f.0.by).left a (right (rule g f.0.by)) f.0.dot f.0.within (is_true a _ f.1) in
      record { by = f.0.by; listed = f.0.listed; left = p.0; is = f.0.is ∙ ap (λ (k : ℕ). first_place g.rules f.0.by + k) p.1 };
  last_in = λ r l. h.last (rule g r).left _ ∙ ap (is (rule g r).left) (key_in last_of g.rules r (length (right (rule g r))) l (omega arith) ∙ at_back (rule g r)) ∙ is_same (rule g r).left;
  last_of = λ a d e.
      let f = key_of last_of g.rules (is a) refl d (sym (h.last a d) ∙ e) in
      let p = back_at (rule g f.0.by).left a (right (rule g f.0.by)) f.0.dot f.0.within (is_true a _ f.1) in
      record { by = f.0.by; listed = f.0.listed; left = p.0; is = f.0.is ∙ ap (λ (k : ℕ). first_place g.rules f.0.by + k) p.1 };
  skip_in = λ r k b l at n. h.nullable _ ∙ ap (among set) (key_in next_name g.rules r k l (omega (arith, at.0)) ∙ at_name (rule g r) k b at) ∙ (nulls b).1 n;
  skip_of = λ d e.
      let f = key_of next_name g.rules (among set) refl d (sym (h.nullable d) ∙ e) in
      let p = among_true set _ f.1 in
      record { name = p.0; nullable = (nulls p.0).0 p.2; spot = spot_of f.0 (Name p.0) (name_at (rule g f.0.by) f.0.dot p.0 p.1) };
}
  where
    spot_of : {d : ℕ} (f : Found g.rules d) (x : Symbol) → At (rule g f.by) f.dot x → Spot g x d
    spot_of f x at = record { by = f.by; dot = f.dot; listed = f.listed; is = f.is; at = at }
