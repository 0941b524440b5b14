-- The cheapest cut, symbol by symbol from the right and stretch by stretch. Assumes nothing.
use Rattle.std.proofs.Common.{◌≡◌, ℕ, suc, ◌+◌, ◌-◌, ◌<◌, ◌≤◌, Bool, ◌⊎◌, List, [], ◌∷◌, length, get_or, take, drop, Some, Option, sym, refl, ◌∙◌, subst, inl, inr, add-one, arith, length-take, get_or-take, get_or-drop}
use mathlib.Core.Logic.{by_cases}
use native.Mathlib.Decide.{dec_lt, ℕ_discrete}
use Rattle.grammar.specs.declared.Symbol.{Symbol}
use Rattle.grammar.specs.declared.Rule.{Rule}
use Rattle.grammar.specs.declared.Symbol.TheVariants.{Name}
use Rattle.grammar.specs.Grammar.{right, Counted, Formed}
use Rattle.readings.specs.Scales.{Scale, Laws}
use Rattle.readings.specs.inner.Least.{Least, cheaper, joined}
use Rattle.readings.specs.inner.Cuts.{Cuts, CutsBelow}
use Rattle.readings.specs.inner.Columns.{marked, Written}
use Rattle.readings.specs.inner.Cells.{AllCounted}
use Rattle.readings.proofs.Least.{least_same, least_either, least_joined}

module _ {P : Type 0} (S : Scale P) (child : Symbol → ℕ → ℕ → Option P) where
  -- a cut goes from left to right
  pub cuts_ordered : (s : List Symbol) (m n : ℕ) (q : P) → Cuts S child s m n q → m ≤ n
  cuts_ordered [] m n q c = omega (arith, c.0)
  cuts_ordered (x ∷ s) m n q c = let h = cuts_ordered s c.to n c.tail c.rest in omega (arith, c.ordered)

module _ {P : Type 0} (S : Scale P) (L : Laws S) (child : Symbol → ℕ → ℕ → Option P) where
  -- one more end of the first stretch
  pub cut_more : (x : Symbol) (s : List Symbol) (m n k : ℕ) (o o' : Option P) → m ≤ k
      → Least S (CutsBelow S child x s m n k) o → Least S (Cuts S child s k n) o'
      → Least S (CutsBelow S child x s m n (suc k)) (cheaper S o (joined S (child x m k) o'))
  cut_more x s m n k o o' h l l' =
      least_either S L (CutsBelow S child x s m n k) Here (CutsBelow S child x s m n (suc k)) o (joined S (child x m k) o') split (λ q c. (c.0, omega (arith, c.1))) (λ q c. (record { to = k; head = c.0; tail = c.1; ordered = h; priced = c.2; rest = c.3; joins = c.4 }, omega arith)) l
      (least_joined S L (Cuts S child s k n) Here (child x m k) o' (λ q c. c) (λ a b e c. (a, b, e, c, refl)) l')
    where
      Here : P → Type 0
      Here q = (a : P) × (b : P) × (child x m k ≡ Some a) × Cuts S child s k n b × (q ≡ S.join a b)

      split : (q : P) → CutsBelow S child x s m n (suc k) q → CutsBelow S child x s m n k q ⊎ Here q
      split q (c, b) = by_cases (dec_lt c.to k) (λ y. inl (c, y)) (λ z. let e : c.to ≡ k = omega arith in inr (c.head, c.tail, rw e at c.priced, rw e at c.rest, c.joins))

  -- the same as a turn of the loop has it
  pub cut_turn : (x : Symbol) (s : List Symbol) (m n k : ℕ) (best first read both next : Option P) → m ≤ k
      → first ≡ child x m k → both ≡ joined S first read → next ≡ cheaper S best both
      → Least S (CutsBelow S child x s m n k) best → Least S (Cuts S child s k n) read → Least S (CutsBelow S child x s m n (k + 1)) next
  cut_turn x s m n k best first read both next h e f d l l' = rw (add-one k, d, f, e) (cut_more x s m n k best read h l l')

  -- every end of the first stretch
  pub cut_all : (x : Symbol) (s : List Symbol) (m n : ℕ) (o : Option P)
      → Least S (CutsBelow S child x s m n (suc n)) o → Least S (Cuts S child (x ∷ s) m n) o
  cut_all x s m n o l = least_same S L _ _ o (λ q c. c.0) (λ q c. (c, omega (arith, cuts_ordered S child s c.to n c.tail c.rest))) l

  -- the last turn of the loop
  pub cut_last : (x : Symbol) (s : List Symbol) (m n k : ℕ) (best first read both next : Option P) → k ≡ n → m ≤ k
      → first ≡ child x m k → both ≡ joined S first read → next ≡ cheaper S best both
      → Least S (CutsBelow S child x s m n k) best → Least S (Cuts S child s k n) read → Least S (Cuts S child (x ∷ s) m n) next
  cut_last x s m n k best first read both next q h e f d l l' =
      let w : k + 1 ≡ suc n = omega arith in
      cut_all x s m n next (subst (λ (z : ℕ). Least S (CutsBelow S child x s m n z) next) w (cut_turn x s m n k best first read both next h e f d l l'))

-- the symbols of a rule's right side are counted, and so are those from the d-th on
counted : (p : Rule) → Formed 32 64 p → (d : ℕ) → d < length (right p) → Counted 32 64 (get_or (right p) d (Name 0))
counted p f d h =
    let l : d < p.len = omega (arith, length-take p.len p.symbols) in
    rw (get_or-take p.len p.symbols d (Name 0) l) (f.2 d l)

pub counted_from : (p : Rule) → Formed 32 64 p → (d : ℕ) → AllCounted (take (length (right p) - d) (drop d (right p)))
counted_from p f d x h =
    let l : x < length (right p) - d = omega (arith, length-take (length (right p) - d) (drop d (right p))) in
    rw (get_or-take (length (right p) - d) (drop d (right p)) x (Name 0) l, get_or-drop d (right p) x (Name 0)) (counted p f (d + x) (omega arith))

-- a name of the rule is one of 32
pub named : (p : Rule) → Formed 32 64 p → (d b : ℕ) → d < length (right p) → get_or (right p) d (Name 0) ≡ Name b → b < 32
named p f d b h e = subst (Counted 32 64) e (counted p f d h)

-- one element of a column more
pub column_turn : {P : Type 0} {S : Scale P} {Q R : ℕ → P → Type 0} {ps ps' : List P} {bs bs' : List Bool} {best : Option P} (i j m : ℕ) → Written S ps bs ps' bs' m best
    → ((n : ℕ) → m ≤ n → n ≤ j → Least S (Q n) (marked S ps bs n)) × ((n : ℕ) → i ≤ n → n < m → Least S (R n) (marked S ps bs n)) → Least S (R m) best
    → ((n : ℕ) → m + 1 ≤ n → n ≤ j → Least S (Q n) (marked S ps' bs' n)) × ((n : ℕ) → i ≤ n → n < m + 1 → Least S (R n) (marked S ps' bs' n))
column_turn {S} {Q} {R} {ps} {ps'} {bs} {bs'} {best} i j m w f l = (
  (λ n x y. subst (Least S (Q n)) (sym (w.other n (λ e. omega arith))) (f.0 n (omega arith) y)),
  (λ n x y. by_cases (ℕ_discrete n m)
      (λ e. subst (λ (z : ℕ). Least S (R z) (marked S ps' bs' z)) (sym e) (subst (Least S (R m)) (sym w.here) l))
      (λ e. subst (Least S (R n)) (sym (w.other n e)) (f.1 n x (omega arith)))),
)

-- the same in the last turn
pub column_last : {P : Type 0} {S : Scale P} {Q R : ℕ → P → Type 0} {ps ps' : List P} {bs bs' : List Bool} {best : Option P} (i j m : ℕ) → m ≡ j → Written S ps bs ps' bs' m best
    → ((n : ℕ) → m ≤ n → n ≤ j → Least S (Q n) (marked S ps bs n)) × ((n : ℕ) → i ≤ n → n < m → Least S (R n) (marked S ps bs n)) → Least S (R m) best
    → (n : ℕ) → i ≤ n → n ≤ j → Least S (R n) (marked S ps' bs' n)
column_last i j m e w f l n x y = (column_turn i j m w f l).1 n x (omega arith)

-- one element of a column more, by a function of its index
pub column_more : {P : Type 0} {S : Scale P} {f : ℕ → Option P} {ps ps' : List P} {bs bs' : List Bool} {p : Option P} (i n : ℕ) → Written S ps bs ps' bs' n p → p ≡ f n
    → ((m : ℕ) → i ≤ m → m < n → marked S ps bs m ≡ f m) → (m : ℕ) → i ≤ m → m < n + 1 → marked S ps' bs' m ≡ f m
column_more {S} {f} {ps} {ps'} {bs} {bs'} i n w e old m x y =
    by_cases (ℕ_discrete m n) (λ z. subst (λ (z : ℕ). marked S ps' bs' z ≡ f z) (sym z) (w.here ∙ e)) (λ z. w.other m z ∙ old m x (omega arith))
