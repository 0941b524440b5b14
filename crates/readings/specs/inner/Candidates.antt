-- Which rules could give a name its price, and which of them is the cheapest. Assumes nothing.
use Rattle.std.specs.Prelude.{◌≡◌, ℕ, ◌<◌, ◌≤◌, List, length, Some, None, Option, ◌≢◌, slice_index_or}
use Rattle.grammar.specs.declared.Symbol.TheVariants.{Name}
use Rattle.grammar.specs.declared.Rule.{Rule}
use Rattle.grammar.specs.Grammar.{right}
use Rattle.readings.specs.Scales.{Scale}
use Rattle.readings.specs.Prices.{nth}
use Rattle.readings.specs.inner.Least.{Lower, Least, joined}
use Rattle.readings.specs.inner.Cuts.{Cuts}
use Rattle.readings.specs.inner.Tables.{Table, child}

-- the rule r could give its left name, which has no price over (i, j) yet, the price q
pub record Candidate {P : Type 0} (rules : List Rule) (S : Scale P) (ws : List ℕ) (t : Table P) (i j k r : ℕ) (q : P) : Type 0 where
  pub free : t.at i j (nth rules r).left ≡ None
  pub cut : P
  pub cuts : Cuts S (child S ws t i j k) (right (nth rules r)) i j cut
  pub joins : q ≡ S.join (S.weigh (nth rules r).weight) cut

-- one of the rules could
abbrev pub AnyCandidate : {P : Type 0} → List Rule → Scale P → List ℕ → Table P → ℕ → ℕ → ℕ → P → Type 0
AnyCandidate rules S ws t i j k q = (r : ℕ) × (r < length rules) × Candidate rules S ws t i j k r q

-- the rule p's weight joined with its cheapest cut over (i, j)
pub record Weighed {P : Type 0} (S : Scale P) (ws : List ℕ) (t : Table P) (i j k : ℕ) (p : Rule) (o : Option P) : Type 0 where
  pub cut : Option P
  pub least : Least S (Cuts S (child S ws t i j k) (right p) i j) cut
  pub joins : o ≡ joined S (Some (S.weigh p.weight)) cut

-- what the rule p offers its left name over (i, j): nothing where the name has a price, else its weight joined with the cheapest cut
pub record Offers {P : Type 0} (S : Scale P) (ws : List ℕ) (t : Table P) (i j k : ℕ) (p : Rule) (o : Option P) : Type 0 where
  pub taken : (c : P) → t.at i j p.left ≡ Some c → o ≡ None
  pub free : t.at i j p.left ≡ None → Weighed S ws t i j k p o

-- the rule r is a candidate at the price p, by its cheapest cut
pub record Leads {P : Type 0} (rules : List Rule) (S : Scale P) (ws : List ℕ) (t : Table P) (i j k r : ℕ) (p : P) : Type 0 where
  pub free : t.at i j (nth rules r).left ≡ None
  pub cut : P
  pub least : Least S (Cuts S (child S ws t i j k) (right (nth rules r)) i j) (Some cut)
  pub joins : p ≡ S.join (S.weigh (nth rules r).weight) cut

-- no rule is a cheaper candidate than o, which is the rule r's price if there is one
pub record Best {P : Type 0} (rules : List Rule) (S : Scale P) (ws : List ℕ) (t : Table P) (i j k r : ℕ) (o : Option P) : Type 0 where
  pub lower : Lower S (AnyCandidate rules S ws t i j k) o
  pub leads : (p : P) → o ≡ Some p → (r < length rules) × Leads rules S ws t i j k r p

-- the rule r at the price p is a cheapest candidate
pub record Picked {P : Type 0} (rules : List Rule) (S : Scale P) (ws : List ℕ) (t : Table P) (i j k r : ℕ) (p : P) : Type 0 where
  pub listed : r < length rules
  pub free : t.at i j (nth rules r).left ≡ None
  pub cut : P
  pub least : Least S (Cuts S (child S ws t i j k) (right (nth rules r)) i j) (Some cut)
  pub joins : p ≡ S.join (S.weigh (nth rules r).weight) cut
  pub lower : Lower S (AnyCandidate rules S ws t i j k) (Some p)

-- a price of the name a leaves what the rule offers: the name stands on neither side of it
pub record Untouched (p : Rule) (a : ℕ) : Type 0 where
  pub left : p.left ≡ a → ⊥
  pub right : (d : ℕ) → d < p.len → slice_index_or p.symbols d (Name 0) ≢ Name a

-- the column has what each of the first n rules offers
abbrev pub OfferedTo : {P : Type 0} → List Rule → Scale P → List ℕ → Table P → ℕ → ℕ → ℕ → ℕ → (ℕ → Option P) → Type 0
OfferedTo rules S ws t i j k n col = (r : ℕ) → r < n → Offers S ws t i j k (nth rules r) (col r)

abbrev pub Offered : {P : Type 0} → List Rule → Scale P → List ℕ → Table P → ℕ → ℕ → ℕ → (ℕ → Option P) → Type 0
Offered rules S ws t i j k col = OfferedTo rules S ws t i j k (length rules) col

-- the column has what each of the first n rules offers, and of the others what those offer that the name a leaves
pub record Repriced {P : Type 0} (rules : List Rule) (S : Scale P) (ws : List ℕ) (t : Table P) (i j k a n : ℕ) (col : ℕ → Option P) : Type 0 where
  pub done : OfferedTo rules S ws t i j k n col
  pub left : (r : ℕ) → n ≤ r → r < length rules → Untouched (nth rules r) a → Offers S ws t i j k (nth rules r) (col r)

-- one of the first n of the column is q
abbrev pub Within : {P : Type 0} → (ℕ → Option P) → ℕ → P → Type 0
Within col n q = (r : ℕ) × (r < n) × (col r ≡ Some q)

-- of the first n of the column the cheapest is o, which stands at r if it is there
pub record Foremost {P : Type 0} (S : Scale P) (col : ℕ → Option P) (n r : ℕ) (o : Option P) : Type 0 where
  pub least : Least S (Within col n) o
  pub stands : (p : P) → o ≡ Some p → (r < n) × (col r ≡ Some p)
