-- The columns of a table of which one is filled or cleared.
use Rattle.std.proofs.Common.{◌≡◌, ℕ, zero, suc, ◌+◌, ◌-◌, ◌*◌, ◌/◌, ◌%◌, ◌<◌, ◌≤◌, true, false, ◌≢◌, ◌⊎◌, List, [], ◌∷◌, ◌++◌, length, get_or, take, replicate, sym, refl, ap, ◌∙◌, subst, inl, inr, arith}
use Rattle.std.proofs.lemmas.List.{get_or_push, length_push, length-take-le, take-append-le, take-take}
use Rattle.std.proofs.lemmas.Bool.{cases_order}
use Rattle.items.specs.Members.{bit, member}
use Rattle.grammar.specs.Grammar.{Grammar}
use Rattle.grammar.proofs.BitSets.{has_none}
use Rattle.tables.specs.Columns.{cell, cell_of, Has, Sure, Column, Next, Beside}
use Rattle.seats.specs.inner.Cleared.{InColumn, Cleared}
use Rattle.tables.proofs.Placing.{cells_apart}
use Rattle.tables.proofs.Filled.{column_agrees}

-- ---- one cell

-- position p is one of cell (i, j)
abbrev InCell : ℕ → ℕ → ℕ → Type 0
InCell i j p = (4 * cell i j ≤ p) × (p < 4 * cell i j + 4)

cell_by : (old new : List ℕ) (i j : ℕ) → ((p : ℕ) → InCell i j p → get_or new p 0 ≡ get_or old p 0) → cell_of new i j ≡ cell_of old i j
unfolding cell_of
cell_by old new i j h =
    let a = h (4 * cell i j) (omega arith, omega arith) in
    let b = h (4 * cell i j + 1) (omega arith, omega arith) in
    let c = h (4 * cell i j + 2) (omega arith, omega arith) in
    let d = h (4 * cell i j + 3) (omega arith, omega arith) in
    cc

-- a cell of another column
beside_cell : (old new : List ℕ) (j : ℕ) → Beside old new j → (i m : ℕ) → i ≤ m → m ≢ j → cell_of new i m ≡ cell_of old i m
beside_cell old new j b i m o n = cell_by old new i m (λ p h. b.others p (aside p h))
  where
    aside : (p : ℕ) → InCell i m p → (p < 4 * cell 0 j) ⊎ (4 * cell 0 j + 4 * (j + 1) ≤ p)
    aside p h = elim (cases_order m j) [
      | inl e ↦ absurd (n e)
      | inr (inl l) ↦ inl (let c = cells_apart i m 0 j o l in omega arith)
      | inr (inr l) ↦ inr (let c = cells_apart j j i m (omega arith) l in omega arith)
    ]

pub getD_zeros : (n p : ℕ) → get_or (replicate {A = ℕ} n 0) p 0 ≡ 0
getD_zeros zero p = refl
getD_zeros (suc n) zero = refl
getD_zeros (suc n) (suc p) = getD_zeros n p

none_member : (d : ℕ) → member (replicate 4 0) d ≡ false
unfolding member
none_member d = ap (λ (n : ℕ). bit n (d % 64)) (getD_zeros 4 (d / 64)) ∙ has_none (d % 64)

clear_cell : (table : List ℕ) (i j : ℕ) → ((p : ℕ) → InCell i j p → get_or table p 0 ≡ 0) → cell_of table i j ≡ replicate 4 0
unfolding cell_of
clear_cell table i j h =
    let a = h (4 * cell i j) (omega arith, omega arith) in
    let b = h (4 * cell i j + 1) (omega arith, omega arith) in
    let c = h (4 * cell i j + 2) (omega arith, omega arith) in
    let d = h (4 * cell i j + 3) (omega arith, omega arith) in
    cc

-- ---- one column

column_same : (g : Grammar) (ws old new : List ℕ) (j : ℕ) → ((i : ℕ) → i ≤ j → cell_of new i j ≡ cell_of old i j) → Column g ws old j → Column g ws new j
column_same g ws old new j e c = record {
  only = λ i o. subst (λ (v : List ℕ). Sure g ws i j v) (sym (e i o)) (c.only i o);
  holds = λ i r k s. subst (λ (v : List ℕ). Has g v r k) (sym (e i s.ordered)) (c.holds i r k s);
}

-- a column past the last word has no bit set, so it is one past the last of other words
column_past : (g : Grammar) (ws vs table : List ℕ) (j : ℕ) → length ws < j → length vs < j → Column g ws table j → Column g vs table j
column_past g ws vs table j a b c = record {
  only = λ i o d l m. absurd (let s = c.only i o d l m in omega (arith, s.stands.within));
  holds = λ i r k s. absurd (omega (arith, s.within));
}

column_clear : (g : Grammar) (vs table : List ℕ) (j : ℕ) → length vs < j → ((p : ℕ) → InColumn j p → get_or table p 0 ≡ 0) → Column g vs table j
column_clear g vs table j a h = record {
  only = λ i o d l m.
      let e : cell_of table i j ≡ replicate 4 0 = clear_cell table i j (λ p x. h p (omega arith, omega arith)) in
      let f : false ≡ true = sym (none_member d) ∙ ap (λ (v : List ℕ). member v d) (sym e) ∙ m in
      let z : ◌≡◌ {A = ℕ} 0 1 = cc in absurd (omega arith);
  holds = λ i r k s. absurd (omega (arith, s.within));
}

-- ---- the columns of a table

pub columns_empty : (g : Grammar) (old new : List ℕ) → ((p : ℕ) → get_or old p 0 ≡ 0) → Column g [] new 0 → Beside old new 0 → (j : ℕ) → Column g [] new j
columns_empty g old new z c b j = elim (cases_order j 0) [
  | inl e ↦ subst (λ (n : ℕ). Column g [] new n) (sym e) c
  | inr (inl l) ↦ absurd (omega arith)
  | inr (inr l) ↦ column_same g [] old new j (λ i o. beside_cell old new 0 b i j o (λ e. omega arith)) (column_clear g [] old j l (λ p h. z p))
]

module _ (g : Grammar) (ws old : List ℕ) (n : ℕ) (long : length ws ≡ n) (c : (j : ℕ) → j ≤ 20 → Column g ws old j) where
  -- before the fill of the column of one more word
  pub columns_next : (w : ℕ) → n < 20 → Next g (ws ++ (w ∷ [])) old (n + 1) w
  columns_next w room = record {
    within = omega (arith, length_push ws w);
    word = λ m e. get_or_push ws w 0 m (omega arith);
    columns = λ m l. column_agrees g ws (ws ++ (w ∷ [])) old m (omega (arith, length_push ws w)) (sym (take-append-le m ws (w ∷ []) (omega arith))) (c m (omega arith));
  }

  pub columns_added : (w : ℕ) (new : List ℕ) → ((m : ℕ) → m ≤ n + 1 → Column g (ws ++ (w ∷ [])) new m) → Beside old new (n + 1) → (j : ℕ) → j ≤ 20 → Column g (ws ++ (w ∷ [])) new j
  columns_added w new f b j l = elim (cases_order j (n + 1)) [
    | inl e ↦ f j (omega arith)
    | inr (inl o) ↦ f j (omega arith)
    | inr (inr o) ↦
        column_same g (ws ++ (w ∷ [])) old new j (λ i h. beside_cell old new (n + 1) b i j h (λ e. omega arith))
        (column_past g ws (ws ++ (w ∷ [])) old j (omega arith) (omega (arith, length_push ws w)) (c j l))
  ]

  pub columns_taken : (new : List ℕ) → 0 < n → Cleared old new n → (j : ℕ) → j ≤ 20 → Column g (take (n - 1) ws) new j
  columns_taken new some z j l =
      let is : length (take (n - 1) ws) ≡ n - 1 = length-take-le (n - 1) ws (omega arith) in
      elim (cases_order j n) [
        | inl e ↦ subst (λ (m : ℕ). Column g (take (n - 1) ws) new m) (sym e) (column_clear g (take (n - 1) ws) new n (omega arith) z.clear)
        | inr (inl o) ↦
            column_same g (take (n - 1) ws) old new j (λ i h. beside_cell old new n z.beside i j h (λ e. omega arith))
            (column_agrees g ws (take (n - 1) ws) old j (omega arith) (sym (take-take j (n - 1) ws (omega arith))) (c j l))
        | inr (inr o) ↦
            column_same g (take (n - 1) ws) old new j (λ i h. beside_cell old new n z.beside i j h (λ e. omega arith))
            (column_past g ws (take (n - 1) ws) old j (omega arith) (omega arith) (c j l))
      ]
