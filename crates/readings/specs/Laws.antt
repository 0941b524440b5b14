-- Points, worst and plain keep the laws of a scale. Assumes nothing.
use Rattle.std.specs.Prelude.{◌≡◌, ℕ, max, true, ◌||◌, nat_le, refl}
use Rattle.std.proofs.Common.{arith}
use Rattle.std.proofs.lemmas.Bool.{leb-true, le-leb}
use Rattle.std.proofs.lemmas.Bool.Decides.{nat_tests}
use Rattle.readings.specs.Scales.{Laws, stopped_sum, points, worst, plain}

leb_total : (a b : ℕ) → (nat_le a b || nat_le b a) ≡ true
leb_total a b = grind (arith, nat_tests)

leb_transitive : (a b c : ℕ) → nat_le a b ≡ true → nat_le b c ≡ true → nat_le a c ≡ true
leb_transitive a b c p q = le-leb a c (omega (arith, leb-true a b p, leb-true b c q))

leb_antisymmetric : (a b : ℕ) → nat_le a b ≡ true → nat_le b a ≡ true → a ≡ b
leb_antisymmetric a b p q = omega (arith, leb-true a b p, leb-true b a q)

sum_associative : (a b c : ℕ) → stopped_sum (stopped_sum a b) c ≡ stopped_sum a (stopped_sum b c)
sum_associative a b c = grind arith

pub points_laws : Laws points
points_laws =
    record {
      total = leb_total;
      transitive = leb_transitive;
      antisymmetric = leb_antisymmetric;
      associative = sum_associative;
      neutral_left = λ a. omega arith;
      neutral_right = λ a. omega arith;
      at_least_left = λ a b. le-leb a (stopped_sum a b) (omega arith);
      at_least_right = λ a b. le-leb b (stopped_sum a b) (omega arith);
      monotone_left = λ a b c p. le-leb (stopped_sum a c) (stopped_sum b c) (omega (arith, leb-true a b p));
      monotone_right = λ a b c p. le-leb (stopped_sum c a) (stopped_sum c b) (omega (arith, leb-true a b p));
      weightless = refl;
    }

pub worst_laws : Laws worst
worst_laws =
    record {
      total = leb_total;
      transitive = leb_transitive;
      antisymmetric = leb_antisymmetric;
      associative = λ a b c. omega arith;
      neutral_left = λ a. omega arith;
      neutral_right = λ a. omega arith;
      at_least_left = λ a b. le-leb a (max a b) (omega arith);
      at_least_right = λ a b. le-leb b (max a b) (omega arith);
      monotone_left = λ a b c p. le-leb (max a c) (max b c) (omega (arith, leb-true a b p));
      monotone_right = λ a b c p. le-leb (max c a) (max c b) (omega (arith, leb-true a b p));
      weightless = refl;
    }

pub plain_laws : Laws plain
plain_laws =
    record {
      total = λ a b. refl;
      transitive = λ a b c p q. refl;
      antisymmetric = λ a b p q. refl;
      associative = λ a b c. refl;
      neutral_left = λ a. refl;
      neutral_right = λ a. refl;
      at_least_left = λ a b. refl;
      at_least_right = λ a b. refl;
      monotone_left = λ a b c p. refl;
      monotone_right = λ a b c p. refl;
      weightless = refl;
    }
