-- Places of the table are apart, and a write adds one price. Assumes nothing.
use Rattle.std.proofs.Common.{◌≡◌, ℕ, zero, suc, ◌+◌, ◌-◌, ◌*◌, ◌/◌, ◌%◌, ◌<◌, ◌≤◌, Bool, true, false, cond, eqb, List, ◌∷◌, length, get_or, drop, set, Some, None, refl, ap, ◌∙◌, suc-mul, mul-suc, arith, get_or-set_other, get_or-set_same}
use mathlib.Core.Logic.{by_cases}
use native.Mathlib.Decide.{dec_lt, ℕ_discrete}
use Rattle.std.proofs.lemmas.Bool.Decides.{nat_tests}
use Rattle.grammar.specs.declared.Rule.{Rule}
use Rattle.grammar.specs.Grammar.{right}
use Rattle.readings.specs.Scales.{Scale}
use Rattle.readings.specs.Prices.{nth}
use Rattle.readings.specs.inner.Tables.{Table, Adds}
use Rattle.readings.specs.inner.Places.{place, placed, tabled, table, packed, unpacked, frames, Sound}

-- j (j + 1) / 2, step by step
pub half_suc : (j : ℕ) → suc j * (suc j + 1) / 2 ≡ j * (j + 1) / 2 + suc j
half_suc j = omega (arith, product)
  where
    inner : suc j + 1 ≡ suc (j + 1)
    inner = omega arith

    product : suc j * (suc j + 1) ≡ j * (j + 1) + 2 * suc j
    product = suc-mul j (suc j + 1) ∙ (rw (inner, mul-suc j (j + 1)) (omega arith))

half_le : (j n : ℕ) → j < n → j * (j + 1) / 2 + suc j ≤ n * (n + 1) / 2
half_le j zero h = absurd (let z : ⊥ = omega arith in z)
half_le j (suc n) h =
    by_cases (ℕ_discrete j n)
    (λ e. rw e (omega (arith, half_suc n)))
    (λ e. omega (arith, half_suc n, half_le j n (omega arith)))

-- the places end at 7,392
pub place_lt : (i j a : ℕ) → i ≤ j → j ≤ 20 → a < 32 → place i j a < 7392
unfolding place
place_lt i j a h k l =
    by_cases (ℕ_discrete j 20) (λ e. let z = ap (λ (n : ℕ). n * (n + 1) / 2) e in omega arith) (λ e. omega (arith, half_le j 20 (omega arith)))

-- a place is one name over one stretch
pub place_one : (i j a m n b : ℕ) → i ≤ j → a < 32 → m ≤ n → b < 32 → place m n b ≡ place i j a → (m ≡ i) × ((n ≡ j) × (b ≡ a))
unfolding place
place_one i j a m n b h k l o e =
    by_cases (dec_lt j n) (λ d. absurd (let z = half_le j n d in let w : ⊥ = omega arith in w))
    (λ d. by_cases (dec_lt n j) (λ d'. absurd (let z = half_le n j d' in let w : ⊥ = omega arith in w))
    (λ d'. let q : n ≡ j = omega arith in let z = ap (λ (x : ℕ). x * (x + 1) / 2) q in (omega arith, (q, omega arith))))

module _ {P : Type 0} (S : Scale P) (ps : List P) (ns : List ℕ) where
  tabled_new : (i j a v : ℕ) → i ≤ j → j ≤ 20 → a < 32 → 7392 ≤ length ns → tabled (set ns (place i j a) v) i j a ≡ v
  tabled_new i j a v h k l b =
      let e : placed i j a ≡ true = grind (arith, nat_tests) in
      rw e (get_or-set_same ns (place i j a) v 0 (omega (arith, place_lt i j a h k l)))

  tabled_old : (i j a v m n b : ℕ) → i ≤ j → a < 32 → (m ≡ i → n ≡ j → b ≡ a → ⊥) → tabled (set ns (place i j a) v) m n b ≡ tabled ns m n b
  tabled_old i j a v m n b h l d = go (placed m n b) refl
    where
      go : (x : Bool) → placed m n b ≡ x → cond x (get_or (set ns (place i j a) v) (place m n b) 0) 0 ≡ cond x (get_or ns (place m n b) 0) 0
      go false e = refl
      go true e =
          let y : m ≤ n = grind (arith, nat_tests) in
          let z : b < 32 = grind (arith, nat_tests) in
          get_or-set_other ns (place i j a) (place m n b) v 0 (λ q. let w = place_one i j a m n b h l y z q in d w.0 w.1.0 w.1.1)

  at_some : (i j a : ℕ) → (tabled ns i j a ≡ 0 → ⊥) → (table S ps ns).at i j a ≡ Some (get_or ps (place i j a) S.unit)
  at_some i j a d = let e : eqb (tabled ns i j a) 0 ≡ false = grind (arith, nat_tests) in rw e

-- a price written with its number adds it to the table
pub table_adds : {P : Type 0} (S : Scale P) (ps : List P) (ns : List ℕ) (i j a : ℕ) (p : P) (k r : ℕ) → i ≤ j → j ≤ 20 → a < 32 → r < 128 → 7392 ≤ length ps → 7392 ≤ length ns
    → Adds (table S ps ns) (table S (set ps (place i j a) p) (set ns (place i j a) (256 * k + suc r))) i j a p k r
table_adds {P} S ps ns i j a p k r h l b c x y =
    record {
      at_new = at_some S ps' ns' i j a (λ e. omega (arith, new)) ∙ ap (λ q. Some q) (get_or-set_same ps (place i j a) p S.unit (omega (arith, place_lt i j a h l b)));
      rank_new = rw new (omega arith);
      by_new = rw new (omega arith);
      at_old = λ m n b' d. rw (old m n b' d) (at_old m n b' d);
      rank_old = λ m n b' d. ap (λ (v : ℕ). v / 256) (old m n b' d);
      by_old = λ m n b' d. ap (λ (v : ℕ). v % 256 - 1) (old m n b' d);
    }
  where
    ps' : List P
    ps' = set ps (place i j a) p

    ns' : List ℕ
    ns' = set ns (place i j a) (256 * k + suc r)

    new : tabled ns' i j a ≡ 256 * k + suc r
    new = tabled_new S ps ns i j a (256 * k + suc r) h l b y

    old : (m n b' : ℕ) → (m ≡ i → n ≡ j → b' ≡ a → ⊥) → tabled ns' m n b' ≡ tabled ns m n b'
    old m n b' d = tabled_old S ps ns i j a (256 * k + suc r) m n b' h b d

    at_old : (m n b' : ℕ) → (m ≡ i → n ≡ j → b' ≡ a → ⊥)
        → cond (eqb (tabled ns m n b') 0) None (Some (get_or ps' (place m n b') S.unit)) ≡ cond (eqb (tabled ns m n b') 0) None (Some (get_or ps (place m n b') S.unit))
    at_old m n b' d = go (placed m n b') refl
      where
        go : (z : Bool) → placed m n b' ≡ z
            → cond (eqb (cond z (get_or ns (place m n b') 0) 0) 0) None (Some (get_or ps' (place m n b') S.unit)) ≡ cond (eqb (cond z (get_or ns (place m n b') 0) 0) 0) None (Some (get_or ps (place m n b') S.unit))
        go false e = refl
        go true e =
            let u : m ≤ n = grind (arith, nat_tests) in
            let v : b' < 32 = grind (arith, nat_tests) in
            rw (get_or-set_other ps (place i j a) (place m n b') p S.unit (λ q. let w = place_one i j a m n b' h b u v q in d w.0 w.1.0 w.1.1))

-- numbers that are all 0 are an empty table
pub table_none : {P : Type 0} (S : Scale P) (ps : List P) (ns : List ℕ) → ((x : ℕ) → x < 7392 → get_or ns x 0 ≡ 0) → (i j a : ℕ) → (table S ps ns).at i j a ≡ None
table_none S ps ns f i j a = go (placed i j a) refl
  where
    go : (z : Bool) → placed i j a ≡ z → cond (eqb (cond z (get_or ns (place i j a) 0) 0) 0) None (Some (get_or ps (place i j a) S.unit)) ≡ None
    go false e = refl
    go true e =
        let u : i ≤ j = grind (arith, nat_tests) in
        let v : j ≤ 20 = grind (arith, nat_tests) in
        let w : a < 32 = grind (arith, nat_tests) in
        rw (f (place i j a) (place_lt i j a u v w))

-- ---- the stack

pub unpacked_packed : {P : Type 0} (rules : List Rule) (t : Table P) (i j a d m : ℕ) → j < 32 → a < 32 → d < 32 → m < 32
    → unpacked rules t (packed i j a d m) ≡ record { i = i; j = j; k = t.rank i j a; m = m; rest = drop d (right (nth rules (t.by i j a))) }
unfolding packed
unpacked_packed rules t i j a d m h k l o =
    let v : ℕ = (((i * 32 + j) * 32 + a) * 32 + d) * 32 + m in
    let e₁ : v / 1048576 ≡ i = omega arith in
    let e₂ : v / 32768 % 32 ≡ j = omega arith in
    let e₃ : v / 1024 % 32 ≡ a = omega arith in
    let e₄ : v / 32 % 32 ≡ d = omega arith in
    let e₅ : v % 32 ≡ m = omega arith in
    rw (e₁, e₂, e₃, e₄, e₅)

-- a write above the frames leaves them
pub frames_set : {P : Type 0} (rules : List Rule) (t : Table P) (st : List ℕ) (h x v : ℕ) → h ≤ x → frames rules t (set st x v) h ≡ frames rules t st h
frames_set rules t st zero x v l = refl
frames_set rules t st (suc h) x v l = rw (get_or-set_other st x h v 0 (λ e. omega arith), frames_set rules t st h x v (omega arith))

-- one frame more, or another in place of the last
pub frames_push : {P : Type 0} (rules : List Rule) (t : Table P) (st : List ℕ) (h v : ℕ) → h < length st → frames rules t (set st h v) (suc h) ≡ unpacked rules t v ∷ frames rules t st h
frames_push rules t st h v l = rw (get_or-set_same st h v 0 l, frames_set rules t st h h v (omega arith))

-- the same of its rule
pub sound_set : {P : Type 0} (rules : List Rule) (t : Table P) (st : List ℕ) (h i j a d m : ℕ) → j < 32 → a < 32 → d < 32 → m < 32 → h < length st → t.by i j a < length rules
    → Sound rules t st h → Sound rules t (set st h (packed i j a d m)) (h + 1)
unfolding packed
sound_set rules t st h i j a d m b₁ b₂ b₃ b₄ l r s x y =
    by_cases (ℕ_discrete x h)
    (λ e.
    let v : ℕ = (((i * 32 + j) * 32 + a) * 32 + d) * 32 + m in
    let e₁ : v / 1048576 ≡ i = omega arith in
    let e₂ : v / 32768 % 32 ≡ j = omega arith in
    let e₃ : v / 1024 % 32 ≡ a = omega arith in
    rw (e, get_or-set_same st h v 0 l, e₁, e₂, e₃) r)
    (λ e. rw (get_or-set_other st h x _ 0 e) (s x (omega arith)))
