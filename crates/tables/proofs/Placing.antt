-- No two dotted places share a number, and no two cells.
use Rattle.std.proofs.Common.{◌≡◌, ℕ, zero, suc, ◌+◌, ◌*◌, ◌<◌, ◌≤◌, List, [], ◌∷◌, length, get_or, sym, refl, ap, ◌∙◌, inl, inr, ⊎_elim, arith}
use Rattle.std.proofs.lemmas.Bool.{cases_lt, cases_order}
use Rattle.grammar.specs.declared.Rule.{Rule}
use Rattle.grammar.specs.Grammar.{right, no_rule}
use Rattle.tables.specs.Columns.{first_place, cell}

-- ---- dotted places

-- the dots of a rule end before those of a later one begin
places_apart : (ps : List Rule) (q r : ℕ) → q < r → r ≤ length ps → first_place ps q + suc (length (right (get_or ps q no_rule))) ≤ first_place ps r
places_apart [] q r a l = absurd (omega arith)
places_apart (p ∷ ps) zero (suc r) a l = omega arith
places_apart (p ∷ ps) (suc q) (suc r) a l = let rest = places_apart ps q r (omega arith) (omega arith) in omega arith
places_apart (p ∷ ps) zero zero a l = absurd (omega arith)
places_apart (p ∷ ps) (suc q) zero a l = absurd (omega arith)

-- a place comes before the end
pub place_below : (ps : List Rule) (r k : ℕ) → r < length ps → k ≤ length (right (get_or ps r no_rule)) → first_place ps r + k < first_place ps (length ps)
place_below ps r k l d = let h = places_apart ps r (length ps) l (omega arith) in omega arith

-- one place has one rule and one dot
pub place_once : (ps : List Rule) (r k q l : ℕ) → r < length ps → q < length ps → k ≤ length (right (get_or ps r no_rule)) → l ≤ length (right (get_or ps q no_rule)) → first_place ps r + k ≡ first_place ps q + l → (r ≡ q) × (k ≡ l)
place_once ps r k q l a b c d e = elim (cases_order r q) [
  | inl s ↦ (s, (let t = ap (λ (n : ℕ). first_place ps n) s in omega arith))
  | inr (inl o) ↦ (let h = places_apart ps r q o (omega arith) in absurd (omega arith))
  | inr (inr o) ↦ (let h = places_apart ps q r o (omega arith) in absurd (omega arith))
]

-- ---- cells

triangle : ℕ → ℕ
triangle zero = 0
triangle (suc j) = suc j + triangle j

triangle_is : (j : ℕ) → 2 * triangle j ≡ j * (j + 1)
unfolding triangle
triangle_is zero = refl
triangle_is (suc j) = let rest = triangle_is j in omega arith

triangle_less : (j b : ℕ) → j < b → triangle j + j < triangle b
unfolding triangle
triangle_less j zero l = absurd (omega arith)
triangle_less j (suc b) l =
    ⊎_elim
    (λ (o : j < b). let rest = triangle_less j b o in omega arith)
    (λ (o : b ≤ j). let e : triangle j ≡ triangle b = ap triangle (omega arith) in omega arith)
    (cases_lt j b)

cell_is : (i j : ℕ) → cell i j ≡ triangle j + i
cell_is i j = let e = triangle_is j in omega arith

pub cells_apart : (i j a b : ℕ) → i ≤ j → j < b → cell i j < cell a b
cells_apart i j a b o l =
    let p : cell i j ≡ triangle j + i = cell_is i j in
    let q : cell a b ≡ triangle b + a = cell_is a b in
    let h : triangle j + j < triangle b = triangle_less j b l in
    omega arith

pub cells_same : (i j a b : ℕ) → i ≤ j → a ≤ b → cell i j ≡ cell a b → (i ≡ a) × (j ≡ b)
cells_same i j a b o p e =
    let same : j ≡ b =
    ⊎_elim
    (λ (l : j < b). let h = cells_apart i j a b o l in absurd (omega arith))
    (λ (l : b ≤ j). ⊎_elim (λ (m : b < j). let h = cells_apart a b i j p m in absurd (omega arith)) (λ (m : j ≤ b). omega arith) (cases_lt b j))
    (cases_lt j b) in
    let q : cell i j ≡ cell a j = e ∙ ap (λ (t : ℕ). cell a t) (sym same) in
    (omega (arith, q), same)
