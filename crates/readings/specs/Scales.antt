-- Scales of prices: what they mean, the laws that they keep, and points, worst and plain. Assumes nothing.
use Rattle.std.specs.Prelude.{◌≡◌, ℕ, ◌+◌, ◌-◌, ◌^◌, min, max, Bool, true, ◌||◌, nat_le}
use Rattle.readings.specs.declared.scale.One.{One}

-- the unit, the price of each weight, the join, and the test "no dearer"
pub record Scale (P : Type 0) : Type 0 where
  pub unit : P
  pub weigh : ℕ → P
  pub join : P → P → P
  pub no_dearer : P → P → Bool

-- the first price is no dearer than the second
abbrev pub NoDearer : {P : Type 0} → Scale P → P → P → Type 0
NoDearer S a b = S.no_dearer a b ≡ true

pub record Laws {P : Type 0} (S : Scale P) : Type 0 where
  pub total : (a b : P) → (S.no_dearer a b || S.no_dearer b a) ≡ true
  pub transitive : (a b c : P) → NoDearer S a b → NoDearer S b c → NoDearer S a c
  pub antisymmetric : (a b : P) → NoDearer S a b → NoDearer S b a → a ≡ b
  pub associative : (a b c : P) → S.join (S.join a b) c ≡ S.join a (S.join b c)
  pub neutral_left : (a : P) → S.join S.unit a ≡ a
  pub neutral_right : (a : P) → S.join a S.unit ≡ a
  pub at_least_left : (a b : P) → NoDearer S a (S.join a b)
  pub at_least_right : (a b : P) → NoDearer S b (S.join a b)
  pub monotone_left : (a b c : P) → NoDearer S a b → NoDearer S (S.join a c) (S.join b c)
  pub monotone_right : (a b c : P) → NoDearer S a b → NoDearer S (S.join c a) (S.join c b)
  pub weightless : S.weigh 0 ≡ S.unit

-- the sum, stopped at 4,294,967,295; beyond that number, where no price of 32 bits is, the greater, so that the laws hold of every number
abbrev pub stopped_sum : ℕ → ℕ → ℕ
stopped_sum a b = max (max a b) (min (a + b) (2 ^ 32 - 1))

-- the weights, summed
abbrev pub points : Scale ℕ
points = record { unit = 0; weigh = λ w. w; join = stopped_sum; no_dearer = nat_le }

-- the greatest of the weights
abbrev pub worst : Scale ℕ
worst = record { unit = 0; weigh = λ w. w; join = max; no_dearer = nat_le }

abbrev pub one : One
one = record {}

-- every price is the same
abbrev pub plain : Scale One
plain = record { unit = one; weigh = λ w. one; join = λ a b. one; no_dearer = λ a b. true }
