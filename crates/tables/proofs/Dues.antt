-- A column filled cell by cell: what is due in a cell, and that cells with nothing missing close the column.
use Rattle.std.proofs.Common.{ℕ, ◌+◌, ◌<◌, ◌≤◌, ◌↔◌, List, length, subst, arith}
use Rattle.grammar.specs.Grammar.{Grammar, rule, right}
use Rattle.tables.specs.Steps.{Cells, Exact, Sound, Due, by_word, by_name, by_nothing, at_start, by_rule, Full, Seeded}
use Rattle.tables.proofs.Closing.{Closed, exact_next}

full_closed : (g : Grammar) (ws : List ℕ) (In : Cells) (j : ℕ) → ((i : ℕ) → i ≤ j → Full g ws In i j) → Seeded g In j → Closed g ws In j
full_closed g ws In j f s = record {
  starts = λ r e l o. subst (λ (t : ℕ). In t t r 0) e (s r l (at_start e o));
  scans = λ i m r k e a l c at. f i (omega arith) r k l (by_word m e a c at);
  advances = λ i m r k b q a o l c at lq e d. f i (omega arith) r k l (by_name m b q a o c at lq e d);
  skips = λ i r k b a l c at n. f i a r k l (by_nothing b c at n);
  predicts = λ i r k b q a l c at lq e. s q lq (by_rule i r k b a l c at e);
}

-- a full cell stays full while the cells that it looks at keep what they hold
pub full_agrees : (g : Grammar) (ws : List ℕ) (In Out : Cells) (i j : ℕ) → i ≤ j → ((m r k : ℕ) → i ≤ m → m ≤ j → r < length g.rules → k ≤ length (right (rule g r)) → In i m r k ↔ Out i m r k) → ((m r k : ℕ) → i ≤ m → m < j → r < length g.rules → k ≤ length (right (rule g r)) → In m j r k ↔ Out m j r k) → Full g ws In i j → Full g ws Out i j
full_agrees g ws In Out i j o row col f r k l d = go d
  where
    put : (k < length (right (rule g r))) → Due g ws In i j r k → Out i j r (k + 1)
    put b e = (row j r (k + 1) o (omega arith) l (omega arith)).0 (f r k l e)

    go : Due g ws Out i j r k → Out i j r (k + 1)
    go (by_word m e a c at) = put at.0 (by_word m e a ((row m r k a (omega arith) l (omega (arith, at.0))).1 c) at)
    go (by_name m b q a n c at lq e t) =
        put at.0 (by_name m b q a n ((row m r k a (omega arith) l (omega (arith, at.0))).1 c) at lq e ((col m q (length (right (rule g q))) a n lq (omega arith)).1 t))
    go (by_nothing b c at n) = put at.0 (by_nothing b ((row j r k o (omega arith) l (omega (arith, at.0))).1 c) at n)

-- after exact columns, a sound column of full cells is exact
pub column_exact : (g : Grammar) (ws : List ℕ) (In : Cells) (j : ℕ) → ((i m r k : ℕ) → IsProp (In i m r k)) → j ≤ length ws → ((m : ℕ) → m < j → Exact g ws In m) → Sound g ws In j → ((i : ℕ) → i ≤ j → Full g ws In i j) → Seeded g In j → Exact g ws In j
column_exact g ws In j prop h x s f d = exact_next g ws In j prop h x s (full_closed g ws In j f d)
