-- Masks that take in one dotted place after the other.
use Rattle.std.proofs.Common.{◌≡◌, ℕ, zero, suc, ◌%◌, ◌^◌, ◌<◌, ◌≤◌, Bool, true, false, ◌&&◌, ◌||◌, eqb, List, [], ◌∷◌, ◌++◌, map, length, get_or, take, drop, replicate, Some, None, Option, sym, refl, ap, ◌∙◌, subst, arith}
use native.Mathlib.Nat.{zero-div}
use lib.Dec.{eqb-suc-suc, eqb-suc-zero, eqb-zero-suc}
use Rattle.std.proofs.lemmas.List.{drop_all}
use Rattle.items.specs.Members.{member}
use Rattle.std.proofs.Math.Bool.{or-false}
use Rattle.items.specs.declared.Items.{Items}
use Rattle.grammar.specs.declared.Symbol.{Symbol}
use Rattle.grammar.specs.declared.Symbol.TheVariants.{Name, Word}
use Rattle.grammar.specs.declared.Rule.{Rule}
use Rattle.grammar.specs.declared.masks.Masks.{Masks}
use Rattle.grammar.specs.Grammar.{right}
use Rattle.grammar.specs.Dotted.{Place, next_name, next_word, first_of, last_of, leading_name, leading_word, where_none, is, among, no_items}
use Rattle.grammar.specs.inner.Marking.{Holds, Keyed, Held, Joins, Marked, Grown, spot}
use Rattle.grammar.proofs.Closures.{drop_take_cons}

-- ---- no places

no_member : (d : ℕ) → member [] d ≡ false
unfolding member
no_member d = ap (λ n. eqb (n % 2) 1) (zero-div (2 ^ (d % 64)))

keyed_none : (n : ℕ) (x : Items) → ((d : ℕ) → member x.words d ≡ false) → Keyed [] (replicate n x)
keyed_none zero x none a d = no_member d
keyed_none (suc n) x none zero d = none d
keyed_none (suc n) x none (suc a) d = keyed_none n x none a d

pub held_none : (x : Items) → ((d : ℕ) → member x.words d ≡ false) → (set : ℕ)
    → Held [] set (record { before_name = replicate 32 x; before_word = replicate 64 x; first = replicate 32 x; last = replicate 32 x; before_nullable = x })
held_none x none set = record {
  names = keyed_none 32 x none;
  words = keyed_none 64 x none;
  first = keyed_none 32 x none;
  last = keyed_none 32 x none;
  nullable = none;
}

-- ---- one place more

or_none : (a b c : Bool) → c ≡ false → (a || (b && c)) ≡ a
or_none a true c e = ap (λ x. a || x) e ∙ or-false a
or_none true false c e = refl
or_none false false c e = refl

or_one : (a b : Bool) → a ≡ false → (a || (b && true)) ≡ b
or_one a true e = ap (λ x. x || true) e
or_one a false e = ap (λ x. x || false) e

module _ (key : Place → Option ℕ) (test : Option ℕ → Bool) (none : test None ≡ false) (p : Place) where
  pushed : (ps : List Place) (d : ℕ) → (test (get_or (map key ps) d None) || (test (key p) && eqb d (length ps))) ≡ test (get_or (map key (ps ++ (p ∷ []))) d None)
  pushed [] zero = or_one _ _ none
  pushed [] (suc d) = or_none _ _ _ (eqb-suc-zero d)
  pushed (q ∷ ps) zero = or_none _ _ _ (eqb-zero-suc (length ps))
  pushed (q ∷ ps) (suc d) = ap (λ b. test (get_or (map key ps) d None) || (test (key p) && b)) (eqb-suc-suc d (length ps)) ∙ pushed ps d

  holds_more : (ps : List Place) (x y : Items) → Holds test (map key ps) x → Joins (test (key p)) (length ps) x y → Holds test (map key (ps ++ (p ∷ []))) y
  holds_more ps x y h j d = j d ∙ ap (λ b. b || (test (key p) && eqb d (length ps))) (h d) ∙ pushed ps d

pub held_more : (ps : List Place) (p : Place) (set : ℕ) (m n : Masks) → Held ps set m → Grown p (length ps) set m n → Held (ps ++ (p ∷ [])) set n
held_more ps p set m n h g = record {
  names = λ a. holds_more next_name (is a) refl p ps _ _ (h.names a) (g.names a);
  words = λ a. holds_more next_word (is a) refl p ps _ _ (h.words a) (g.words a);
  first = λ a. holds_more first_of (is a) refl p ps _ _ (h.first a) (g.first a);
  last = λ a. holds_more last_of (is a) refl p ps _ _ (h.last a) (g.last a);
  nullable = holds_more next_name (among set) refl p ps _ _ h.nullable g.nullable;
}

-- ---- the place after k symbols

unjoined : (at : ℕ) (x : Items) → Joins false at x x
unjoined at x d = sym (or_none (member x.words d) true false refl)

unmarked : (at : ℕ) (xs : List Items) → Marked None at xs xs
unmarked at xs a = unjoined at (get_or xs a no_items)

abbrev pub with_first : Masks → List Items → Masks
with_first m sets = record { before_name = m.before_name; before_word = m.before_word; first = sets; last = m.last; before_nullable = m.before_nullable }

abbrev pub with_last : Masks → List Items → Masks
with_last m sets = record { before_name = m.before_name; before_word = m.before_word; first = m.first; last = sets; before_nullable = m.before_nullable }

-- only the sets of first places have changed, by this place
abbrev pub Opened : Rule → ℕ → ℕ → Masks → Masks → Type 0
Opened p k at m n = (sets : List Items) × (n ≡ with_first m sets) × Marked (first_of (spot p k)) at m.first sets

pub opened_first : (p : Rule) (k at : ℕ) (m n : Masks) (sets : List Items) → k ≡ 0 → Marked (Some p.left) at m.first sets → n ≡ with_first m sets → Opened p k at m n
opened_first p k at m n sets z h e =
    (sets, e, subst (λ j. Marked (where_none p.left (take j (right p))) at m.first sets) (sym z) h)

pub opened_later : (p : Rule) (k at : ℕ) (m n : Masks) → 0 < k → k ≤ length (right p) → n ≡ m → Opened p k at m n
opened_later p k at m n z h e =
    (m.first, e, subst (λ o. Marked o at m.first m.first) (sym (later (right p) k z h)) (unmarked at m.first))
  where
    later : (s : List Symbol) (k : ℕ) → 0 < k → k ≤ length s → where_none p.left (take k s) ≡ None
    later s zero z h = absurd (omega arith)
    later [] (suc k) z h = absurd (omega arith)
    later (x ∷ s) (suc k) z h = refl

pub grown_last : (p : Rule) (k at set : ℕ) (m n : Masks) (sets : List Items) → Opened p k at m n → length (right p) ≤ k → Marked (Some p.left) at n.last sets
    → Grown (spot p k) at set m (with_last n sets)
grown_last p k at set m n sets (f, e, h) l = subst Goal (sym e) (λ g. record {
  names = subst (λ s. Marked (leading_name s) at m.before_name m.before_name) (sym empty) (unmarked at m.before_name);
  words = subst (λ s. Marked (leading_word s) at m.before_word m.before_word) (sym empty) (unmarked at m.before_word);
  first = h;
  last = subst (λ s. Marked (where_none p.left s) at m.last sets) (sym empty) g;
  nullable = subst (λ s. Joins (among set (leading_name s)) at m.before_nullable m.before_nullable) (sym empty) (unjoined at m.before_nullable);
})
  where
    Goal : Masks → Type 0
    Goal o = Marked (Some p.left) at o.last sets → Grown (spot p k) at set m (with_last o sets)

    empty : drop k (right p) ≡ []
    empty = drop_all k (right p) l

-- what stands first does not hang on what follows
name_alone : (s : Symbol) (rest : List Symbol) → leading_name (s ∷ rest) ≡ leading_name (s ∷ [])
name_alone (Name a) rest = refl
name_alone (Word w) rest = refl

word_alone : (s : Symbol) (rest : List Symbol) → leading_word (s ∷ rest) ≡ leading_word (s ∷ [])
word_alone (Name a) rest = refl
word_alone (Word w) rest = refl

module _ (p : Rule) (k at set : ℕ) (m n o : Masks) (within : k < p.len) (room : p.len ≤ length p.symbols) where
  pub grown_before : Opened p k at m n
      → Marked (leading_name (get_or p.symbols k (Name 0) ∷ [])) at n.before_name o.before_name
      → Marked (leading_word (get_or p.symbols k (Name 0) ∷ [])) at n.before_word o.before_word
      → Joins (among set (leading_name (get_or p.symbols k (Name 0) ∷ []))) at n.before_nullable o.before_nullable
      → o.first ≡ n.first → o.last ≡ n.last → Grown (spot p k) at set m o
  grown_before (f, e, h) names words nullable first last =
      let s = get_or p.symbols k (Name 0) in
      let rest = drop (suc k) (right p) in
      let cut : drop k (right p) ≡ s ∷ rest = drop_take_cons p.symbols p.len k (Name 0) within room in
      let name : next_name (spot p k) ≡ leading_name (s ∷ []) = ap leading_name cut ∙ name_alone s rest in
      let word : next_word (spot p k) ≡ leading_word (s ∷ []) = ap leading_word cut ∙ word_alone s rest in
      record {
        names = subst (λ x. Marked x at m.before_name o.before_name) (sym name) (subst (λ (x : Masks). Marked (leading_name (s ∷ [])) at x.before_name o.before_name) e names);
        words = subst (λ x. Marked x at m.before_word o.before_word) (sym word) (subst (λ (x : Masks). Marked (leading_word (s ∷ [])) at x.before_word o.before_word) e words);
        first = subst (λ x. Marked (first_of (spot p k)) at m.first x) (sym (first ∙ ap (λ (x : Masks). x.first) e)) h;
        last = subst (λ x. Marked (where_none p.left x) at m.last o.last) (sym cut) (subst (λ x. Marked None at m.last x) (sym (last ∙ ap (λ (x : Masks). x.last) e)) (unmarked at m.last));
        nullable = subst (λ x. Joins (among set x) at m.before_nullable o.before_nullable) (sym name) (subst (λ (x : Masks). Joins (among set (leading_name (s ∷ []))) at x.before_nullable o.before_nullable) e nullable);
      }
