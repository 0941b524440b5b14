-- A column filled cell by cell, from the last to the first, and then its own cell.
use Rattle.std.proofs.Common.{◌≡◌, ℕ, ◌+◌, ◌*◌, ◌<◌, ◌≤◌, true, ◌⊎◌, List, length, take, set, sym, refl, ap, ◌∙◌, subst, inl, inr, ⊎_elim, arith, length-take}
use mathlib.Core.Bool.{Bool-set}
use Rattle.std.proofs.lemmas.Bool.{cases_lt}
use Rattle.std.proofs.lemmas.List.{get_or-set_same, get_or-set_other}
use Rattle.grammar.specs.declared.Symbol.TheVariants.{Name}
use Rattle.grammar.specs.Grammar.{Grammar, rule, right}
use Rattle.tables.specs.Table.{Stands, At}
use Rattle.tables.specs.Steps.{Exact, Sound, Due, by_word, by_name, by_nothing, at_start, by_rule, Full, Seeded}
use Rattle.tables.specs.Columns.{first_place, cell, Has, Sure, cell_of, Held, Column, Next, Beside}
use Rattle.grammar.specs.declared.masks.Masks.{Masks}
use Rattle.tables.specs.inner.Sets.{Fitting, Marked, Over, Asks, Opened, set_at}
use Rattle.grammar.specs.Dotted.{no_items}
use Rattle.tables.specs.inner.Cells.{Stored, Filling, Ready, Made, Wanting}
use Rattle.tables.proofs.Closing.{stands_start, stands_agrees}
use Rattle.tables.proofs.Dues.{full_agrees, column_exact}
use Rattle.items.specs.Members.{member}
use Rattle.items.specs.declared.Items.{Items}
use Rattle.tables.proofs.Spots.{place_low, has_stands}
use Rattle.tables.specs.inner.Growth.{Union}
use Rattle.tables.proofs.Closures.{left_in, right_in, sure_union, sure_asked, asked_has}
use Rattle.tables.proofs.Storing.{cell_kept}

-- ---- one cell

name_of : (g : Grammar) (r k b q : ℕ) → (rule g q).left ≡ b → At (rule g r) k (Name b) → At (rule g r) k (Name (rule g q).left)
name_of g r k b q e at = subst (λ (x : ℕ). At (rule g r) k (Name x)) (sym e) at

-- what a cell that was not written holds
back : (g : Grammar) (old new : List ℕ) (i j : ℕ) (xs : List ℕ) → Stored old new i j xs → i ≤ j → (a b : ℕ) → a ≤ b → ((a ≡ i) × (b ≡ j) → ⊥) → (r k : ℕ) → Held g new a b r k → Held g old a b r k
back g old new i j xs s o a b p n r k h = subst (λ (v : List ℕ). Has g v r k) (cell_kept old new i j xs s a b o p n) h

forth : (g : Grammar) (old new : List ℕ) (i j : ℕ) (xs : List ℕ) → Stored old new i j xs → i ≤ j → (a b : ℕ) → a ≤ b → ((a ≡ i) × (b ≡ j) → ⊥) → (r k : ℕ) → Held g old a b r k → Held g new a b r k
forth g old new i j xs s o a b p n r k h = subst (λ (v : List ℕ). Has g v r k) (sym (cell_kept old new i j xs s a b o p n)) h

made_full : (g : Grammar) (ws old new : List ℕ) (i j : ℕ) (xs : List ℕ) → i < j → Made g ws old i j xs → Stored old new i j xs → Full g ws (Held g new) i j
made_full g ws old new i j xs o m s r k l d = subst (λ (v : List ℕ). Has g v r (k + 1)) (sym s.here) (go d)
  where
    own : (q n : ℕ) → Held g new i j q n → Has g xs q n
    own q n h = subst (λ (v : List ℕ). Has g v q n) s.here h

    row : (x q n : ℕ) → i ≤ x → x < j → Held g new i x q n → Held g old i x q n
    row x q n a b h = back g old new i j xs s (omega arith) i x a (λ p. omega (arith, p.1)) q n h

    go : Due g ws (Held g new) i j r k → Has g xs r (k + 1)
    go (by_word x e a c at) = m.gathered.scans x r k e l at (row x r k a (omega arith) c)
    go (by_name x b q a y c at lq e t) =
        ⊎_elim
        (λ (p : i < x).
        m.gathered.products x r k q p y y l lq (name_of g r k b q e at) (row x r k a y c)
        (back g old new i j xs s (omega arith) x j (omega arith) (λ z. omega (arith, z.0)) q (length (right (rule g q))) t))
        (λ (p : x ≤ i).
        let same : x ≡ i = omega arith in
        m.chains r k q l lq (name_of g r k b q e at) (row i r k (omega arith) o (subst (λ (z : ℕ). Held g new i z r k) same c))
        (own q (length (right (rule g q))) (subst (λ (z : ℕ). Held g new z j q (length (right (rule g q)))) same t)))
        (cases_lt i x)
    go (by_nothing b c at n) = m.skips r k b l at n (own r k c)

-- a column before the one that is written
column_kept : (g : Grammar) (ws old new : List ℕ) (i j : ℕ) (xs : List ℕ) → Stored old new i j xs → i ≤ j → (m : ℕ) → m < j → Column g ws old m → Column g ws new m
column_kept g ws old new i j xs s o m l c = record {
  only = λ a p. subst (λ (v : List ℕ). Sure g ws a m v) (sym (cell_kept old new i j xs s a m o p (λ z. omega (arith, z.1)))) (c.only a p);
  holds = λ a r k h. forth g old new i j xs s o a m h.ordered (λ z. omega (arith, z.1)) r k (c.holds a r k h);
}

-- a full cell after the one that is written
full_kept : (g : Grammar) (ws old new : List ℕ) (i j : ℕ) (xs : List ℕ) → Stored old new i j xs → i ≤ j → (a : ℕ) → a < j → (i < a) ⊎ (i ≡ j) → Full g ws (Held g old) a j → Full g ws (Held g new) a j
full_kept g ws old new i j xs s o a l w f =
    full_agrees g ws (Held g old) (Held g new) a j (omega arith)
    (λ m r k u v lr d. (forth g old new i j xs s o a m u (λ z. apart a l w z.0) r k, back g old new i j xs s o a m u (λ z. apart a l w z.0) r k))
    (λ m r k u v lr d. (forth g old new i j xs s o m j (omega arith) (λ z. apart m v (later m u) z.0) r k, back g old new i j xs s o m j (omega arith) (λ z. apart m v (later m u) z.0) r k))
    f
  where
    apart : (b : ℕ) → b < j → (i < b) ⊎ (i ≡ j) → b ≡ i → ⊥
    apart b h x e = ⊎_elim (λ (y : i < b). omega arith) (λ (y : i ≡ j). omega arith) x

    later : (m : ℕ) → a ≤ m → (i < m) ⊎ (i ≡ j)
    later m u = ⊎_elim (λ (y : i < a). inl (omega arith)) (λ (y : i ≡ j). inr y) w

set_same : (overs : List Items) (i : ℕ) (it : Items) → i < length overs → set_at (set overs i it) i ≡ it.words
set_same overs i it l = ap {B = List ℕ} (λ (v : Items). v.words) (get_or-set_same overs i it no_items l)

set_other : (overs : List Items) (i a : ℕ) (it : Items) → (a ≡ i → ⊥) → set_at (set overs i it) a ≡ set_at overs a
set_other overs i a it n = ap {B = List ℕ} (λ (v : Items). v.words) (get_or-set_other overs i a it no_items n)

pub filling_row : (g : Grammar) (ws old new : List ℕ) (overs : List Items) (i j w : ℕ) (xs : List ℕ) (ov : Items) → i < j → i < length overs → Ready g ws old overs i j w → Made g ws old i j xs → Stored old new i j xs → Over g xs ov.words → Filling g ws new (set overs i ov) j i
filling_row g ws old new overs i j w xs ov o lo h c s v = record {
  columns = λ n l. column_kept g ws old new i j xs s (omega arith) n l (h.filling.columns n l);
  only = λ a p l. ⊎_elim
      (λ (y : i < a). subst (λ (z : List ℕ). Sure g ws a j z) (sym (cell_kept old new i j xs s a j (omega arith) (omega arith) (λ z. omega (arith, z.0)))) (h.filling.only a (omega arith) l))
      (λ (y : a ≤ i). subst (λ (b : ℕ). Sure g ws b j (cell_of new b j)) (eq a p y) (subst (λ (z : List ℕ). Sure g ws i j z) (sym s.here) c.gathered.only))
      (cases_lt i a);
  full = λ a p l. ⊎_elim
      (λ (y : i < a). full_kept g ws old new i j xs s (omega arith) a l (inl y) (h.filling.full a (omega arith) l))
      (λ (y : a ≤ i). subst (λ (b : ℕ). Full g ws (Held g new) b j) (eq a p y) (made_full g ws old new i j xs o c s))
      (cases_lt i a);
  over = λ a p l. ⊎_elim
      (λ (y : i < a).
      subst (λ (z : List ℕ). Over g z (set_at (set overs i ov) a)) (sym (cell_kept old new i j xs s a j (omega arith) (omega arith) (λ z. omega (arith, z.0))))
      (subst (λ (z : List ℕ). Over g (cell_of old a j) z) (sym (set_other overs i a ov (λ z. omega arith))) (h.filling.over a (omega arith) l)))
      (λ (y : a ≤ i). subst (λ (b : ℕ). Over g (cell_of new b j) (set_at (set overs i ov) b)) (eq a p y)
      (subst (λ (z : List ℕ). Over g z (set_at (set overs i ov) i)) (sym s.here) (subst (λ (z : List ℕ). Over g xs z) (sym (set_same overs i ov lo)) v)))
      (cases_lt i a);
}
  where
    eq : (a : ℕ) → i ≤ a → a ≤ i → i ≡ a
    eq a p y = omega arith

pub wanting_row : (g : Grammar) → Fitting g → (ws old new : List ℕ) (i j : ℕ) (xs wants asked more : List ℕ) → i < j → Wanting g ws old j (i + 1) wants → Sure g ws i j xs → Stored old new i j xs → Asks g xs asked → Union wants asked more → Wanting g ws new j i more
wanting_row g t ws old new i j xs wants asked more o c s d a u = record {
  starts = λ q e l b. left_in wants asked more u (first_place g.rules q + 0) (low q l) (c.starts q e l b);
  asks = λ b r k q p l lr lq at h. ⊎_elim
      (λ (y : i < b). left_in wants asked more u (first_place g.rules q + 0) (low q lq) (c.asks b r k q (omega arith) l lr lq at (back g old new i j xs d (omega arith) b j (omega arith) (λ z. omega (arith, z.0)) r k h)))
      (λ (y : b ≤ i).
      let same : b ≡ i = omega arith in
      right_in wants asked more u (first_place g.rules q + 0) (low q lq)
      (asked_has g t xs asked a r k q lr lq at (subst (λ (v : List ℕ). Has g v r k) d.here (subst (λ (z : ℕ). Held g new z j r k) same h))))
      (cases_lt i b);
  only = sure_union g ws j j wants asked more u c.only (sure_asked g ws i j xs asked a s);
}
  where
    low : (q : ℕ) → q < length g.rules → first_place g.rules q + 0 < 256
    low q l = place_low g t q 0 l (omega arith)

-- ---- before the first cell

pub filling_start : (g : Grammar) (ws table : List ℕ) (overs : List Items) (j : ℕ) → ((m : ℕ) → m < j → Column g ws table m) → Filling g ws table overs j j
filling_start g ws table overs j c = record { columns = c; only = λ a p l. absurd (omega arith); full = λ a p l. absurd (omega arith); over = λ a p l. absurd (omega arith) }

pub wanting_start : (g : Grammar) (ws : List ℕ) (m : Masks) → Marked g m → (table : List ℕ) (start j : ℕ) → g.start ≡ start → j ≡ 0 → Wanting g ws table j j (set_at m.first start)
wanting_start g ws m t table start j e z = record {
  starts = λ q x lq b. subst (λ (a : ℕ). Has g (set_at m.first a) q 0) (b ∙ e) (t.first_in q lq);
  asks = λ b r k q p o. absurd (omega arith);
  only = λ d h b.
      let p = t.first_of start d b in
      record { by = p.by; dot = 0; is = p.is; stands = subst (λ (n : ℕ). Stands g ws n n p.by 0) (sym z) (stands_start g ws p.by p.listed (p.left ∙ sym e)) };
}

-- ---- after the last cell

column_sound : (g : Grammar) → Fitting g → (ws table : List ℕ) (j : ℕ) → ((i : ℕ) → i ≤ j → Sure g ws i j (cell_of table i j)) → Sound g ws (Held g table) j
column_sound g t ws table j s i r k o l d h = has_stands g t ws i j (cell_of table i j) (s i o) r k l d h

column_is_exact : (g : Grammar) → Fitting g → (ws table : List ℕ) (j : ℕ) → Column g ws table j → Exact g ws (Held g table) j
column_is_exact g t ws table j c i r k o l d = (column_sound g t ws table j c.only i r k o l d, λ s. c.holds i r k s)

column_last : (g : Grammar) → Fitting g → (ws old new : List ℕ) (overs : List Items) (j : ℕ) (wants ys : List ℕ) → j ≤ length ws → Filling g ws old overs j 0 → Wanting g ws old j 0 wants → Opened g wants ys → Stored old new j j ys → Column g ws new j
column_last g t ws old new overs j wants ys h f c o s = record {
  only = only;
  holds = λ i r k st. (column_exact g ws (Held g new) j (λ a b q n. Bool-set (member (cell_of new a b) (first_place g.rules q + n)) true) h
      (λ n l. column_is_exact g t ws new n (column_kept g ws old new j j ys s (omega arith) n l (f.columns n l)))
      (column_sound g t ws new j only) full seeded i r k st.ordered st.listed st.dot).1 st;
}
  where
    own : (r k : ℕ) → Has g ys r k → Held g new j j r k
    own r k x = subst (λ (v : List ℕ). Has g v r k) (sym s.here) x

    here : (i r k : ℕ) → j ≤ i → i ≤ j → Held g new i j r k → Has g ys r k
    here i r k a b x = let e : i ≡ j = omega arith in subst (λ (v : List ℕ). Has g v r k) s.here (subst (λ (z : ℕ). Held g new z j r k) e x)

    only : (i : ℕ) → i ≤ j → Sure g ws i j (cell_of new i j)
    only i l = ⊎_elim
        (λ (y : i < j). subst (λ (z : List ℕ). Sure g ws i j z) (sym (cell_kept old new j j ys s i j (omega arith) l (λ z. omega (arith, z.0)))) (f.only i (omega arith) y))
        (λ (y : j ≤ i). let e : j ≡ i = omega arith in subst (λ (z : ℕ). Sure g ws z j (cell_of new z j)) e (subst (λ (z : List ℕ). Sure g ws j j z) (sym s.here) (o.sound ws j c.only)))
        (cases_lt i j)

    diagonal : Full g ws (Held g new) j j
    diagonal r k l (by_word x e a d at) = absurd (omega arith)
    diagonal r k l (by_name x b q a y d at lq e u) = absurd (omega arith)
    diagonal r k l (by_nothing b d at n) = own r (k + 1) (o.closed r k b l at n (here j r k (omega arith) (omega arith) d))

    full : (i : ℕ) → i ≤ j → Full g ws (Held g new) i j
    full i l = ⊎_elim
        (λ (y : i < j). full_kept g ws old new j j ys s (omega arith) i y (inr refl) (f.full i (omega arith) y))
        (λ (y : j ≤ i). let e : j ≡ i = omega arith in subst (λ (z : ℕ). Full g ws (Held g new) z j) e diagonal)
        (cases_lt i j)

    low : (q : ℕ) → q < length g.rules → first_place g.rules q + 0 < 256
    low q l = place_low g t q 0 l (omega arith)

    seeded : Seeded g (Held g new) j
    seeded q l (at_start e b) = own q 0 (o.keeps (first_place g.rules q + 0) (low q l) (c.starts q e l b))
    seeded q l (by_rule i r k b a lr d at e) = own q 0 (⊎_elim
        (λ (y : i < j). o.keeps (first_place g.rules q + 0) (low q l) (c.asks i r k q (omega arith) y lr l (name_of g r k b q e at) (back g old new j j ys s (omega arith) i j a (λ z. omega (arith, z.0)) r k d)))
        (λ (y : j ≤ i). o.opens r k q lr l (name_of g r k b q e at) (here i r k y a d))
        (cases_lt i j))

pub column_done : (g : Grammar) → Fitting g → (ws old new : List ℕ) (overs : List Items) (j : ℕ) (wants ys : List ℕ) → j ≤ length ws → Filling g ws old overs j 0 → Wanting g ws old j 0 wants → Opened g wants ys → Stored old new j j ys → (n : ℕ) → n ≤ j → Column g ws new n
column_done g t ws old new overs j wants ys h f c o s n l =
    ⊎_elim
    (λ (y : n < j). column_kept g ws old new j j ys s (omega arith) n y (f.columns n y))
    (λ (y : j ≤ n). let e : j ≡ n = omega arith in subst (λ (z : ℕ). Column g ws new z) e (column_last g t ws old new overs j wants ys h f c o s))
    (cases_lt n j)

-- ---- what stays

pub stored_beside : (old new : List ℕ) (i j : ℕ) (xs : List ℕ) → i ≤ j → Stored old new i j xs → Beside old new j
stored_beside old new i j xs o s = record {
  others = λ p h. s.others p (⊎_elim (λ (a : p < 4 * cell 0 j). inl (omega arith)) (λ (a : 4 * cell 0 j + 4 * (j + 1) ≤ p). inr (omega arith)) h);
  size = s.size;
}

pub beside_same : (old : List ℕ) (j : ℕ) → Beside old old j
beside_same old j = record { others = λ p h. refl; size = refl }

pub beside_then : (old mid new : List ℕ) (j : ℕ) → Beside old mid j → Beside mid new j → Beside old new j
beside_then old mid new j a b = record { others = λ p h. b.others p h ∙ a.others p h; size = b.size ∙ a.size }

pub ready_from : (g : Grammar) (ws first table : List ℕ) (overs : List Items) (i j w n : ℕ) → n ≡ i + 1 → Next g ws first j w → Filling g ws table overs j n → Ready g ws table overs i j w
ready_from g ws first table overs i j w n e x f = record { within = x.within; word = x.word; filling = subst (λ (z : ℕ). Filling g ws table overs j z) e f }

-- ---- other words after a column

pub column_agrees : (g : Grammar) (ws vs table : List ℕ) (m : ℕ) → m ≤ length vs → take m ws ≡ take m vs → Column g ws table m → Column g vs table m
column_agrees g ws vs table m h e c = record {
  only = λ i o d l b.
      let s = c.only i o d l b in
      record { by = s.by; dot = s.dot; is = s.is; stands = stands_agrees g ws vs i m s.by s.dot h e s.stands };
  holds = λ i r k s. c.holds i r k (stands_agrees g vs ws i m r k (omega (arith, length-take m ws, length-take m vs, ap length e)) (sym e) s);
}
