-- What comes to a cell by the last word, by names that begin within it, and by names that begin with it.
use Rattle.std.proofs.Common.{◌≡◌, ℕ, ◌+◌, ◌-◌, ◌<◌, ◌≤◌, List, length, get_or, sym, subst, ⊎_elim, arith}
use Rattle.std.proofs.lemmas.Bool.{cases_lt}
use Rattle.grammar.specs.declared.Symbol.TheVariants.{Word}
use Rattle.grammar.specs.Grammar.{Grammar, rule, right}
use Rattle.tables.specs.Columns.{first_place, Has, Standing, Sure, cell_of, Held}
use Rattle.grammar.specs.declared.masks.Masks.{Masks}
use Rattle.tables.specs.inner.Sets.{Fitting, Spot, Marked, Chained, set_at}
use Rattle.tables.specs.inner.Cells.{Ready, Gathered, Made}
use Rattle.items.specs.declared.Items.{Items}
use Rattle.tables.proofs.Spots.{place_low, next_word}
use Rattle.tables.specs.inner.Growth.{Union, Into, From}
use Rattle.tables.proofs.Closures.{left_in, right_in, has_next, sure_union, sure_over, over_has}

sure_word : (g : Grammar) (ws : List ℕ) (m : Masks) → Marked g m → (i n w : ℕ) (base ys : List ℕ) → n < length ws → get_or ws n 0 ≡ w → Sure g ws i n base → From base (set_at m.before_word w) ys → Sure g ws i (n + 1) ys
sure_word g ws m t i n w base ys l e s f d h b =
    let p = f d h b in
    subst (λ (x : ℕ). Standing g ws i (n + 1) x) (sym p.next)
    (next_word g ws i n p.from l (s p.from (omega (arith, p.next)) p.one)
    (subst (λ (x : ℕ). Spot g (Word x) p.from) (sym e) (t.word_of w p.from p.two)))

pub gather_start : (g : Grammar) (ws : List ℕ) (m : Masks) → Marked g m → (table : List ℕ) (overs : List Items) (i j w : ℕ) → Ready g ws table overs i j w → i < j → (base ys : List ℕ) → base ≡ cell_of table i (j - 1) → Into base (set_at m.before_word w) ys → From base (set_at m.before_word w) ys → Gathered g ws table i j (i + 1) ys
gather_start g ws m t table overs i j w h o base ys e a b =
    let n : ℕ = j - 1 in
    let s : j ≡ n + 1 = omega arith in
    record {
      scans = λ x r k q l at held.
          let same : x ≡ n = omega (arith, q) in
          has_next g t.fitting base (set_at m.before_word w) ys a r k l at.0
          (subst (λ (v : List ℕ). Has g v r k) (sym e) (subst (λ (y : ℕ). Held g table i y r k) same held))
          (subst (λ (y : ℕ). Has g (set_at m.before_word y) r k) (h.word x q) (t.word_in r k (get_or ws x 0) l at));
      products = λ x r k q u v c l lq at hr hq. absurd (omega (arith, u, v));
      only = subst (λ (y : ℕ). Sure g ws i y ys) (sym s)
          (sure_word g ws m t i n w base ys (omega (arith, h.within)) (h.word n s) (subst (λ (v : List ℕ). Sure g ws i n v) (sym e) ((h.filling.columns n (omega arith)).only i (omega arith))) b);
    }

pub gather_more : (g : Grammar) → Fitting g → (ws table : List ℕ) (overs : List Items) (i j w : ℕ) → Ready g ws table overs i j w → (n : ℕ) → i < n → n < j → (xs base ys zs : List ℕ) → Gathered g ws table i j n xs → base ≡ cell_of table i n → Into base (set_at overs n) ys → From base (set_at overs n) ys → Union xs ys zs → Gathered g ws table i j (n + 1) zs
gather_more g f ws table overs i j w h n o l xs base ys zs c e a b u =
    let old : (r k : ℕ) → r < length g.rules → k < length (right (rule g r)) → Has g xs r (k + 1) → Has g zs r (k + 1) = λ r k lr lk p. left_in xs ys zs u (first_place g.rules r + (k + 1)) (place_low g f r (k + 1) lr (omega arith)) p in
    record {
      scans = λ x r k q lr at held. old r k lr at.0 (c.scans x r k q lr at held);
      products = λ x r k q ox lx jx lr lq at hr hq.
          ⊎_elim
          (λ (p : x < n). old r k lr at.0 (c.products x r k q ox p jx lr lq at hr hq))
          (λ (p : n ≤ x).
          let same : x ≡ n = omega (arith, lx) in
          right_in xs ys zs u (first_place g.rules r + (k + 1)) (place_low g f r (k + 1) lr (omega (arith, at.0)))
          (has_next g f base (set_at overs n) ys a r k lr at.0
          (subst (λ (v : List ℕ). Has g v r k) (sym e) (subst (λ (y : ℕ). Held g table i y r k) same hr))
          (over_has g f (cell_of table n j) (set_at overs n) (h.filling.over n (omega arith) l) r k q lr lq at (subst (λ (y : ℕ). Held g table y j q (length (right (rule g q)))) same hq))))
          (cases_lt x n);
      only =
          sure_union g ws i j xs ys zs u c.only
          (sure_over g f ws i n j base (cell_of table n j) (set_at overs n) ys (h.filling.over n (omega arith) l) b (subst (λ (v : List ℕ). Sure g ws i n v) (sym e) ((h.filling.columns n l).only i (omega arith))) (h.filling.only n (omega arith) l));
    }

pub gather_all : (g : Grammar) (ws table : List ℕ) (i j n : ℕ) (xs : List ℕ) → j ≤ n → Gathered g ws table i j n xs → Gathered g ws table i j j xs
gather_all g ws table i j n xs l c = record { scans = c.scans; products = λ x r k q o lx jx. c.products x r k q o (omega (arith, jx)) jx; only = c.only }

pub made : (g : Grammar) → Fitting g → (ws table : List ℕ) (overs : List Items) (i j w : ℕ) → Ready g ws table overs i j w → i < j → (base xs ys : List ℕ) → base ≡ cell_of table i i → Gathered g ws table i j j xs → Chained g base xs ys → Made g ws table i j ys
made g f ws table overs i j w h o base xs ys e c s =
    let old : (r k : ℕ) → r < length g.rules → k < length (right (rule g r)) → Has g xs r (k + 1) → Has g ys r (k + 1) = λ r k lr lk p. s.keeps (first_place g.rules r + (k + 1)) (place_low g f r (k + 1) lr (omega arith)) p in
    record {
      gathered = record {
        scans = λ x r k q lr at held. old r k lr at.0 (c.scans x r k q lr at held);
        products = λ x r k q ox lx jx lr lq at hr hq. old r k lr at.0 (c.products x r k q ox lx jx lr lq at hr hq);
        only = s.sound ws i j (subst (λ (v : List ℕ). Sure g ws i i v) (sym e) ((h.filling.columns i o).only i (omega arith))) c.only;
      };
      skips = s.closed;
      chains = λ r k q lr lq at hr hq. s.chains r k q lr lq at (subst (λ (v : List ℕ). Has g v r k) (sym e) hr) hq;
    }
