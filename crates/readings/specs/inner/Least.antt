-- Least prices: of those that satisfy a property, the cheapest, if there is one. Assumes nothing.
use Rattle.std.specs.Prelude.{cond, Some, None, Option}
use Rattle.readings.specs.Scales.{Scale, NoDearer}

-- nothing with the property is cheaper; without a price, nothing has the property
abbrev pub Lower : {P : Type 0} → Scale P → (P → Type 0) → Option P → Type 0
Lower S Q None = (q : _) → Q q → ⊥
Lower S Q (Some c) = (q : _) → Q q → NoDearer S c q

-- the price, where there is one, has the property
abbrev pub Reached : {P : Type 0} → (P → Type 0) → Option P → Type 0
Reached Q None = Unit {0}
Reached Q (Some c) = Q c

pub record Least {P : Type 0} (S : Scale P) (Q : P → Type 0) (o : Option P) : Type 0 where
  pub lower : Lower S Q o
  pub reached : Reached Q o

-- the cheaper of two prices, the first where they are alike
abbrev pub cheaper : {P : Type 0} → Scale P → Option P → Option P → Option P
cheaper S None o = o
cheaper S (Some a) None = Some a
cheaper S (Some a) (Some b) = Some (cond (S.no_dearer a b) a b)

-- the join of two prices, where both are there
abbrev pub joined : {P : Type 0} → Scale P → Option P → Option P → Option P
joined S None o = None
joined S (Some a) None = None
joined S (Some a) (Some b) = Some (S.join a b)
