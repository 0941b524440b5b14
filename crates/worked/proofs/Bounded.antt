-- A table of bounds on trees that is consistent rule by rule bounds every row.
use Rattle.std.proofs.Common.{◌≡◌, ℕ, zero, suc, ◌+◌, ◌-◌, ◌<◌, ◌≤◌, Bool, true, false, cond, ◌&&◌, eqb, ltb, List, [], ◌∷◌, map, length, get_or, Some, None, Option, sym, ap, ◌∙◌, subst, ⊎_elim, arith}
use Rattle.std.proofs.lemmas.Bool.{and_from, eq-eqb, lt-ltb, cond-true, cases_lt, false≢true}
use Rattle.std.proofs.lemmas.Bool.Decides.{nat_tests}
use Rattle.grammar.specs.declared.Symbol.{Symbol}
use Rattle.grammar.specs.declared.Symbol.TheVariants.{Name, Word}
use Rattle.grammar.specs.Grammar.{Grammar, rule, right}
use Rattle.grammar.specs.Trees.{Row, end, word, tree, yield, Fits}
use Rattle.grammar.specs.View.{Plain, plain}
use Rattle.readings.specs.inner.Stretches.{Over}
use Rattle.readings.proofs.Stretches.{length_stretch, end_over, word_over, tree_over}
use Rattle.worked.proofs.Finite.{below, below_at}
use Rattle.worked.proofs.Rules.{left_of, right_of, count_is, left_is, right_is}

-- how bounds are made: of no row, of a rule over a row that yields nothing or not, of a row after a tree, and of two together; and when one implies another
pub record Measure (B : Type 0) : Type 0 where
  pub unit : B
  pub atop : ℕ → Bool → B → B
  pub beside : B → B → B
  pub either : B → B → B
  pub implies : B → B → Bool

-- what they say of rows is so
pub record Sound {B : Type 0} (M : Measure B) (Says : B → Row → Type 0) : Type 0 where
  pub ends : Says M.unit end
  pub words : (b : B) (w : ℕ) (rest : Row) → Says b rest → Says b (word w rest)
  pub tops : (b : B) (r : ℕ) (under : Row) → Says b under → Says (M.atop r (eqb (length (yield under)) 0) b) (tree r under end)
  pub besides : (a b : B) (r : ℕ) (under rest : Row) → Says a (tree r under end) → Says b rest → Says (M.beside a b) (tree r under rest)
  pub left : (a b : B) (row : Row) → Says a row → Says (M.either a b) row
  pub right : (a b : B) (row : Row) → Says b row → Says (M.either a b) row
  pub implied : (a b : B) (row : Row) → M.implies a b ≡ true → Says b row → Says a row

-- a bound on the trees for the name over words from + 1 to `to`
pub record Bound (B : Type 0) : Type 0 where
  pub from : ℕ
  pub to : ℕ
  pub name : ℕ
  pub bound : B

-- the bound listed; none where there is no tree
abbrev bound_at : {B : Type 0} → List (Bound B) → ℕ → ℕ → ℕ → Option B
bound_at [] i j a = None
bound_at (b ∷ bs) i j a = cond (eqb b.from i && (eqb b.to j && eqb b.name a)) (Some b.bound) (bound_at bs i j a)

module _ {B : Type 0} (M : Measure B) where
  abbrev together : Option B → Option B → Option B
  together None o = o
  together (Some a) None = Some a
  together (Some a) (Some b) = Some (M.either a b)

  abbrev in_turn : Option B → Option B → Option B
  in_turn None o = None
  in_turn (Some a) None = None
  in_turn (Some a) (Some b) = Some (M.beside a b)

  abbrev covers : Option B → Option B → Bool
  covers o None = true
  covers None (Some b) = false
  covers (Some a) (Some b) = M.implies a b

  abbrev under_rule : ℕ → Bool → Option B → Option B
  under_rule r none None = None
  under_rule r none (Some b) = Some (M.atop r none b)

  -- n of them together, from i on
  abbrev gathered : (ℕ → Option B) → ℕ → ℕ → Option B
  gathered f zero i = None
  gathered f (suc n) i = together (f i) (gathered f n (i + 1))

  -- the bound on rows for the symbols over words i + 1 to j, whichever way they are cut
  abbrev pub cut : List ℕ → List (Bound B) → List Symbol → ℕ → ℕ → Option B
  cut ws bs [] i j = cond (eqb i j) (Some M.unit) None
  cut ws bs (Word v ∷ s) i j = cond (ltb i j && eqb (get_or ws i 0) v) (cut ws bs s (suc i) j) None
  cut ws bs (Name b ∷ s) i j = gathered (λ m. in_turn (bound_at bs i m b) (cut ws bs s m j)) (suc (j - i)) i

  -- each rule over each stretch keeps the bound of its name
  abbrev keeps : List Plain → List ℕ → List (Bound B) → ℕ → ℕ → ℕ → Bool
  keeps ps ws bs j i r = covers (bound_at bs i j (left_of ps r)) (under_rule r (eqb i j) (cut ws bs (right_of ps r) i j))

  abbrev keep_over : List Plain → List ℕ → List (Bound B) → ℕ → ℕ → Bool
  keep_over ps ws bs j i = below (length ps) (keeps ps ws bs j i)

  abbrev keep_up_to : List Plain → List ℕ → List (Bound B) → ℕ → Bool
  keep_up_to ps ws bs j = below (suc j) (keep_over ps ws bs j)

  abbrev pub consistent : List Plain → List ℕ → List (Bound B) → Bool
  consistent ps ws bs = below (suc (length ws)) (keep_up_to ps ws bs)

  -- the bounds imply this one of derivations of the words
  abbrev pub implied_of_all : List Plain → List ℕ → List (Bound B) → B → Bool
  implied_of_all ps ws bs b = covers (Some b) (cut ws bs (Name (left_of ps 0) ∷ []) 0 (length ws))

-- a stretch is empty exactly where its row yields nothing
none_over : (ws : List ℕ) (i j : ℕ) (row : Row) → Over ws i j row → eqb (length (yield row)) 0 ≡ eqb i j
none_over ws i j row v =
    let long : length (yield row) ≡ j - i = ap length v.yields ∙ length_stretch ws i j v.ordered v.within in
    let ordered = v.ordered in
    grind (arith, nat_tests)

module _ {B : Type 0} (M : Measure B) (Says : B → Row → Type 0) (sound : Sound M Says) where
  -- without a bound there is no row
  abbrev pub Bounds : Option B → Row → Type 0
  Bounds None row = ⊥
  Bounds (Some b) row = Says b row

  pub covered : (o o' : Option B) (row : Row) → covers M o o' ≡ true → Bounds o' row → Bounds o row
  covered o None row h b = absurd b
  covered None (Some c) row h b = absurd (false≢true h)
  covered (Some a) (Some c) row h b = sound.implied a c row h b

  in_turn_so : (o o' : Option B) (r : ℕ) (under rest : Row) → Bounds o (tree r under end) → Bounds o' rest → Bounds (in_turn M o o') (tree r under rest)
  in_turn_so None o' r under rest a b = absurd a
  in_turn_so (Some c) None r under rest a b = absurd b
  in_turn_so (Some c) (Some d) r under rest a b = sound.besides c d r under rest a b

  together_left : (o o' : Option B) (row : Row) → Bounds o row → Bounds (together M o o') row
  together_left None o' row b = absurd b
  together_left (Some c) None row b = b
  together_left (Some c) (Some d) row b = sound.left c d row b

  together_right : (o o' : Option B) (row : Row) → Bounds o' row → Bounds (together M o o') row
  together_right None o' row b = b
  together_right (Some c) None row b = absurd b
  together_right (Some c) (Some d) row b = sound.right c d row b

  past_word : (w : ℕ) (rest : Row) (o : Option B) → Bounds o rest → Bounds o (word w rest)
  past_word w rest None b = absurd b
  past_word w rest (Some c) b = sound.words c w rest b

  under_rule_so : (o : Option B) (r : ℕ) (none : Bool) (under : Row) → eqb (length (yield under)) 0 ≡ none → Bounds o under → Bounds (under_rule M r none o) (tree r under end)
  under_rule_so None r none under e b = absurd b
  under_rule_so (Some c) r none under e b = subst (λ (t : Bool). Says (M.atop r t c) (tree r under end)) e (sound.tops c r under b)

  gathered_so : (f : ℕ → Option B) (n i m : ℕ) (row : Row) → i ≤ m → m < i + n → Bounds (f m) row → Bounds (gathered M f n i) row
  gathered_so f zero i m row a l b = absurd (omega arith)
  gathered_so f (suc n) i m row a l b =
      ⊎_elim
      (λ (o : i < m). together_right (f i) (gathered M f n (i + 1)) row (gathered_so f n (i + 1) m row (omega arith) (omega arith) b))
      (λ (o : m ≤ i). let e : m ≡ i = omega arith in together_left (f i) (gathered M f n (i + 1)) row (subst (λ (k : ℕ). Bounds (f k) row) e b))
      (cases_lt i m)

  module _ (g : Grammar) (ps : List Plain) (says : map plain g.rules ≡ ps) (ws : List ℕ) (bs : List (Bound B)) (h : consistent M ps ws bs ≡ true) where
    kept : (i j r : ℕ) → i ≤ j → j ≤ length ws → r < length g.rules → keeps M ps ws bs j i r ≡ true
    kept i j r a b l =
        below_at (length ps) (keeps M ps ws bs j i)
        (below_at (suc j) (keep_over M ps ws bs j) (below_at (suc (length ws)) (keep_up_to M ps ws bs) h j (omega arith)) i (omega arith))
        r (subst (λ (n : ℕ). r < n) (count_is g ps says) l)

    pub bounded : (row : Row) (s : List Symbol) (i j : ℕ) → Fits g.rules s row → Over ws i j row → Bounds (cut M ws bs s i j) row
    bounded end [] i j f v =
        subst (λ (o : Option B). Bounds o end) (sym (cond-true (eqb i j) (Some M.unit) None (eq-eqb i j (end_over ws i j v)))) sound.ends
    bounded end (Name a ∷ s) i j f v = absurd f
    bounded end (Word x ∷ s) i j f v = absurd f
    bounded (word w rest) [] i j f v = absurd f
    bounded (word w rest) (Name a ∷ s) i j f v = absurd f
    bounded (word w rest) (Word x ∷ s) i j f v =
        let u = word_over ws i j w rest v in
        let here : (ltb i j && eqb (get_or ws i 0) x) ≡ true = and_from _ _ (lt-ltb i j u.before) (eq-eqb (get_or ws i 0) x (u.is ∙ f.0)) in
        subst (λ (o : Option B). Bounds o (word w rest)) (sym (cond-true (ltb i j && eqb (get_or ws i 0) x) (cut M ws bs s (suc i) j) None here))
        (past_word w rest (cut M ws bs s (suc i) j) (bounded rest s (suc i) j f.1 u.after))
    bounded (tree r under rest) [] i j f v = absurd f
    bounded (tree r under rest) (Word x ∷ s) i j f v = absurd f
    bounded (tree r under rest) (Name a ∷ s) i j f v =
        let u = tree_over ws i j r under rest v in
        let m : ℕ = u.to in
        let inside : Bounds (cut M ws bs (right_of ps r) i m) under =
        subst (λ (t : List Symbol). Bounds (cut M ws bs t i m) under) (right_is g ps says r) (bounded under (right (rule g r)) i m f.2 u.down) in
        let top : Bounds (bound_at bs i m (left_of ps r)) (tree r under end) =
        covered (bound_at bs i m (left_of ps r)) (under_rule M r (eqb i m) (cut M ws bs (right_of ps r) i m)) (tree r under end) (kept i m r u.down.ordered u.down.within f.0)
        (under_rule_so (cut M ws bs (right_of ps r) i m) r (eqb i m) under (none_over ws i m under u.down) inside) in
        let named : Bounds (bound_at bs i m a) (tree r under end) = subst (λ (b : ℕ). Bounds (bound_at bs i m b) (tree r under end)) (sym (left_is g ps says r) ∙ f.1) top in
        gathered_so (λ k. in_turn M (bound_at bs i k a) (cut M ws bs s k j)) (suc (j - i)) i m (tree r under rest) u.down.ordered (omega (arith, u.after.ordered))
        (in_turn_so (bound_at bs i m a) (cut M ws bs s m j) r under rest named (bounded rest s m j f.3 u.after))
