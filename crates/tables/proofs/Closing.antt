-- The steps by which a column of the table is filled: each is sound, and a column closed under them is complete.
use Rattle.std.proofs.Common.{◌≡◌, ℕ, suc, ◌+◌, ◌<◌, ◌≤◌, List, [], ◌∷◌, ◌++◌, length, get_or, take, drop, sym, refl, ap, ◌∙◌, subst, subst₂, ⊎_elim, append_assoc, append-nil, zero-add, arith, length-append, take-append-drop, length-take-le}
use mathlib.Core.Logic.{∥∥₁_map, ∥∥₁_map₂, ∥∥₁_elim}
use lib.Seq.{take-length}
use Rattle.std.proofs.lemmas.Bool.{cases_lt}
use Rattle.grammar.specs.declared.Symbol.{Symbol}
use Rattle.grammar.specs.declared.Symbol.TheVariants.{Name, Word}
use Rattle.grammar.specs.Grammar.{Grammar, rule, right}
use Rattle.grammar.specs.Trees.{Row, end, word, tree, yield, Fits, Matches, Command, Follows}
use Rattle.tables.specs.Table.{stretch, Stands, At}
use Rattle.grammar.specs.Closure.{Empties}
use Rattle.tables.specs.Steps.{Cells, Exact, Sound, Complete}
use Rattle.tables.specs.Contexts.{Reached, first, next}
use Rattle.tables.proofs.Rows.{at_from_split, none_matches, word_matches, name_matches, take_stretch, stretch_none, stretch_more, stretch_front, stretch_agrees, take_agrees, take_split, stretch_word, stretch_empty, stretch_split, stretch_more_matches}
use Rattle.tables.proofs.Contexts.{follows_reached, reached_follows}
use Rattle.tables.proofs.Offering.{command_whole}

-- ---- each step is sound

-- the dot moves over a symbol that matches words m + 1 to j
stands_over : (g : Grammar) (ws : List ℕ) (i m j r k : ℕ) (x : Symbol) → Stands g ws i m r k → m ≤ j → j ≤ length ws → At (rule g r) k x → ∥ Matches g.rules (x ∷ []) (stretch m j ws) ∥₁ → Stands g ws i j r (k + 1)
stands_over g ws i m j r k x s l h a n = record {
  ordered = omega (arith, s.ordered);
  within = h;
  listed = s.listed;
  dot = omega (arith, a.0);
  follows = s.follows;
  matches =
      ∥∥₁_map₂ s.matches n (λ p q. stretch_more_matches g (rule g r) k x ws i j a (record { place = m; after = s.ordered; before = l; first = p; last = q }));
}

pub stands_start : (g : Grammar) (ws : List ℕ) (r : ℕ) → r < length g.rules → (rule g r).left ≡ g.start → Stands g ws 0 0 r 0
stands_start g ws r l e = record {
  ordered = omega arith;
  within = omega arith;
  listed = l;
  dot = omega arith;
  follows = ∣ reached_follows g [] (rule g r).left (first refl e) ∣₁;
  matches = ∣ subst (λ (t : List ℕ). Matches g.rules [] t) (sym (stretch_none 0 ws)) (none_matches g) ∣₁;
}

pub stands_scan : (g : Grammar) (ws : List ℕ) (i m r k : ℕ) → Stands g ws i m r k → m < length ws → At (rule g r) k (Word (get_or ws m 0)) → Stands g ws i (m + 1) r (k + 1)
stands_scan g ws i m r k s h a =
    stands_over g ws i m (m + 1) r k (Word (get_or ws m 0)) s (omega arith) (omega arith) a
    ∣ subst (λ (t : List ℕ). Matches g.rules (Word (get_or ws m 0) ∷ []) t) (sym (stretch_more m ws h)) (word_matches g (get_or ws m 0)) ∣₁

pub stands_advance : (g : Grammar) (ws : List ℕ) (i m j r k b q : ℕ) → Stands g ws i m r k → At (rule g r) k (Name b) → (rule g q).left ≡ b → Stands g ws m j q (length (right (rule g q))) → Stands g ws i j r (k + 1)
stands_advance g ws i m j r k b q s a e t =
    stands_over g ws i m j r k (Name b) s t.ordered t.within a
    (∥∥₁_map t.matches (λ n. subst (λ (c : ℕ). Matches g.rules (Name c ∷ []) (stretch m j ws)) e (name_matches g q (stretch m j ws) t.listed (subst (λ (y : List Symbol). Matches g.rules y (stretch m j ws)) (take-length (right (rule g q))) n))))

pub stands_skip : (g : Grammar) (ws : List ℕ) (i j r k b : ℕ) → Stands g ws i j r k → At (rule g r) k (Name b) → Empties g.rules b → Stands g ws i j r (k + 1)
stands_skip g ws i j r k b s a n =
    stands_over g ws i j j r k (Name b) s (omega arith) s.within a
    (∥∥₁_map n (λ m. subst (λ (t : List ℕ). Matches g.rules (Name b ∷ []) t) (sym (stretch_none j ws)) m))

pub stands_predict : (g : Grammar) (ws : List ℕ) (i j r k b q : ℕ) → Stands g ws i j r k → At (rule g r) k (Name b) → q < length g.rules → (rule g q).left ≡ b → Stands g ws j j q 0
stands_predict g ws i j r k b q s a l e = record {
  ordered = omega arith;
  within = s.within;
  listed = l;
  dot = omega arith;
  follows =
      ∥∥₁_map₂ s.follows s.matches
      (λ f m. reached_follows g (take j ws) (rule g q).left (next (take i ws) (stretch i j ws) r k (follows_reached g (take i ws) (rule g r).left f) s.listed (subst (λ (c : ℕ). At (rule g r) k (Name c)) (sym e) a) m (sym (take_stretch i j ws s.ordered))));
  matches = ∣ subst (λ (t : List ℕ). Matches g.rules [] t) (sym (stretch_none j ws)) (none_matches g) ∣₁;
}

-- ---- a closed column is complete

-- what it takes for column j to be closed: In i j r k says that rule r with its dot after k symbols is in cell (i, j)
pub record Closed (g : Grammar) (ws : List ℕ) (In : Cells) (j : ℕ) : Type 0 where
  pub starts : (r : ℕ) → j ≡ 0 → r < length g.rules → (rule g r).left ≡ g.start → In 0 0 r 0
  pub scans : (i m r k : ℕ) → j ≡ m + 1 → i ≤ m → r < length g.rules → In i m r k → At (rule g r) k (Word (get_or ws m 0)) → In i j r (k + 1)
  pub advances : (i m r k b q : ℕ) → i ≤ m → m < j → r < length g.rules → In i m r k → At (rule g r) k (Name b) → q < length g.rules → (rule g q).left ≡ b → In m j q (length (right (rule g q))) → In i j r (k + 1)
  pub skips : (i r k b : ℕ) → i ≤ j → r < length g.rules → In i j r k → At (rule g r) k (Name b) → Empties g.rules b → In i j r (k + 1)
  pub predicts : (i r k b q : ℕ) → i ≤ j → r < length g.rules → In i j r k → At (rule g r) k (Name b) → q < length g.rules → (rule g q).left ≡ b → In j j q 0

module _ (g : Grammar) (ws : List ℕ) (In : Cells) (n : ℕ) (short : n ≤ length ws) (closed : (j : ℕ) → j ≤ n → Closed g ws In j) where
  -- the dot moves over one symbol and then over the others
  onward : (i m j r : ℕ) (x : List Symbol) (c : Symbol) (s : List Symbol) → In i m r (length x + 1) → (In i m r (length (x ++ c ∷ [])) → In i j r (length (x ++ c ∷ []) + length s)) → In i j r (length x + suc (length s))
  onward i m j r x c s h k =
      let e : length (x ++ c ∷ []) ≡ length x + 1 = length-append x (c ∷ []) in
      subst (λ (t : ℕ). In i j r t) (omega arith) (k (subst (λ (t : ℕ). In i m r t) (sym e) h))

  -- over a name whose tree is in the table up to its end
  over : (i m p r q d : ℕ) (x : List Symbol) (u : List ℕ) → i ≤ m → m ≤ p → p ≤ n → r < length g.rules → q < length g.rules → At (rule g r) (length x) (Name d) → (rule g q).left ≡ d → Matches g.rules (right (rule g q)) u → u ≡ stretch m p ws → In m p q (length (right (rule g q))) → In i m r (length x) → In i p r (length x + 1)
  over i m p r q d x u a b h l lq at e k y t c =
      ⊎_elim
      (λ (o : m < p). (closed p h).advances i m r (length x) d q a o l c at lq e t)
      (λ (o : p ≤ m).
      let same : m ≡ p = omega arith in
      let none : u ≡ [] = y ∙ ap (λ (v : ℕ). stretch m v ws) (sym same) ∙ stretch_none m ws in
      (closed p h).skips i r (length x) d (omega arith) l (subst (λ (v : ℕ). In i v r (length x)) same c) at ∣ subst₂ (λ (v : ℕ) (w : List ℕ). Matches g.rules (Name v ∷ []) w) e none (name_matches g q u lq k) ∣₁)
      (cases_lt m p)

  -- the dot moves over all the symbols that a row fits
  walk : (s : List Symbol) (row : Row) → Fits g.rules s row → (i m j r : ℕ) (x z : List Symbol) → i ≤ m → m ≤ j → j ≤ n → r < length g.rules → right (rule g r) ≡ x ++ (s ++ z) → yield row ≡ stretch m j ws → In i m r (length x) → In i j r (length x + length s)
  walk [] end f i m j r x z a b h l e y c =
      subst₂ (λ (v t : ℕ). In i v r t) (stretch_empty m j ws b (omega arith) y) (omega arith) c
  walk [] (word w rest) f i m j r x z a b h l e y c = absurd f
  walk [] (tree q under rest) f i m j r x z a b h l e y c = absurd f
  walk (Name d ∷ s) end f i m j r x z a b h l e y c = absurd f
  walk (Name d ∷ s) (word w rest) f i m j r x z a b h l e y c = absurd f
  walk (Name d ∷ s) (tree q under rest) f i m j r x z a b h l e y c =
      let sp = stretch_split m j ws (yield under) (yield rest) b (omega arith) y in
      let p : ℕ = sp.0 in
      let at : At (rule g r) (length x) (Name d) = (at_from_split (rule g r) x (Name d) (s ++ z) e).0 in
      let seed : In m m q 0 = (closed m (omega arith)).predicts i r (length x) d q a l c at f.0 f.1 in
      let done : In m p q (0 + length (right (rule g q))) = walk (right (rule g q)) under f.2 m m p q [] [] (omega arith) sp.1 (omega (arith, sp.1, sp.2)) f.0 (sym (append-nil (right (rule g q)))) sp.3 seed in
      onward i p j r x (Name d) s (over i m p r q d x (yield under) a sp.1 (omega (arith, sp.1, sp.2)) l f.0 at f.1 (under, f.2, refl) sp.3 (subst (λ (t : ℕ). In m p q t) (omega arith) done) c)
      (walk s rest f.3 i p j r (x ++ Name d ∷ []) z (omega (arith, sp.1, sp.2)) sp.2 h l (e ∙ sym (append_assoc x (Name d ∷ []) (s ++ z))) sp.4)
  walk (Word v ∷ s) end f i m j r x z a b h l e y c = absurd f
  walk (Word v ∷ s) (word w rest) f i m j r x z a b h l e y c =
      let q = stretch_word m j ws w (yield rest) b (omega arith) y in
      let at : At (rule g r) (length x) (Word v) = (at_from_split (rule g r) x (Word v) (s ++ z) e).0 in
      let next : In i (m + 1) r (length x + 1) = (closed (m + 1) (omega (arith, q.0))).scans i m r (length x) refl a l c (subst (λ (t : ℕ). At (rule g r) (length x) (Word t)) (sym f.0 ∙ q.1) at) in
      onward i (m + 1) j r x (Word v) s next (walk s rest f.1 i (m + 1) j r (x ++ Word v ∷ []) z (omega arith) (omega (arith, q.0)) h l (e ∙ sym (append_assoc x (Word v ∷ []) (s ++ z))) q.2)
  walk (Word v ∷ s) (tree q under rest) f i m j r x z a b h l e y c = absurd f

  -- the dot moves over the first k symbols
  fronts : (i j r k : ℕ) → i ≤ j → j ≤ n → r < length g.rules → k ≤ length (right (rule g r)) → Matches g.rules (take k (right (rule g r))) (stretch i j ws) → In i i r 0 → In i j r k
  fronts i j r k a h l d m c =
      let s = right (rule g r) in
      subst (λ (t : ℕ). In i j r t) (zero-add (length (take k s)) ∙ length-take-le k s d) (walk (take k s) m.0 m.1 i i j r [] (drop k s) (omega arith) a h l (sym (take-append-drop k s)) m.2 c)

  -- each rule of a name that is reached is in its cell with its dot at the front
  seeded : (u : List ℕ) (a : ℕ) → Reached g u a → (i r : ℕ) → i ≤ n → u ≡ take i ws → r < length g.rules → (rule g r).left ≡ a → In i i r 0
  seeded u a (first e q) i r h f l o =
      let none : i ≡ 0 = sym (length-take-le i ws (omega arith)) ∙ ap length (sym f ∙ e) in
      subst (λ (t : ℕ). In t t r 0) (sym none) ((closed 0 (omega arith)).starts r refl l (o ∙ q))
  seeded u a (next v w r₁ k c l₁ at m e) i r h f l o =
      let p = take_split i ws v w (omega arith) (sym e ∙ f) in
      (closed i h).predicts p.0 r₁ k a r p.1 l₁
      (fronts p.0 i r₁ k p.1 h l₁ (omega (arith, at.0)) (subst (λ (t : List ℕ). Matches g.rules (take k (right (rule g r₁))) t) p.3 m) (seeded v (rule g r₁).left c p.0 r₁ (omega (arith, p.1)) p.2 l₁ refl))
      at l o

  -- closed columns hold every dotted rule that stands there
  closed_complete : ((i j r k : ℕ) → IsProp (In i j r k)) → (i j r k : ℕ) → j ≤ n → Stands g ws i j r k → In i j r k
  closed_complete prop i j r k h s =
      ∥∥₁_elim s.follows (prop i j r k)
      (λ f. ∥∥₁_elim s.matches (prop i j r k)
      (λ m. fronts i j r k s.ordered h s.listed s.dot m (seeded (take i ws) (rule g r).left (follows_reached g (take i ws) (rule g r).left f) i r (omega (arith, s.ordered)) refl s.listed refl)))

-- ---- one column after another

exact_closed : (g : Grammar) (ws : List ℕ) (In : Cells) (j : ℕ) → j ≤ length ws → ((m : ℕ) → m ≤ j → Exact g ws In m) → Closed g ws In j
exact_closed g ws In j h x = record {
  starts = λ r e l o. (x 0 (omega arith) 0 r 0 (omega arith) l (omega arith)).1 (stands_start g ws r l o);
  scans =
      λ i m r k e a l c at.
      (x j (omega arith) i r (k + 1) (omega arith) l (omega (arith, at.0))).1
      (subst (λ (t : ℕ). Stands g ws i t r (k + 1)) (sym e) (stands_scan g ws i m r k ((x m (omega arith) i r k a l (omega (arith, at.0))).0 c) (omega arith) at));
  advances =
      λ i m r k b q a o l c at lq e d.
      (x j (omega arith) i r (k + 1) (omega arith) l (omega (arith, at.0))).1
      (stands_advance g ws i m j r k b q ((x m (omega arith) i r k a l (omega (arith, at.0))).0 c) at e ((x j (omega arith) m q (length (right (rule g q))) (omega arith) lq (omega arith)).0 d));
  skips =
      λ i r k b a l c at n.
      (x j (omega arith) i r (k + 1) a l (omega (arith, at.0))).1
      (stands_skip g ws i j r k b ((x j (omega arith) i r k a l (omega (arith, at.0))).0 c) at n);
  predicts =
      λ i r k b q a l c at lq e.
      (x j (omega arith) j q 0 (omega arith) lq (omega arith)).1
      (stands_predict g ws i j r k b q ((x j (omega arith) i r k a l (omega (arith, at.0))).0 c) at lq e);
}

-- after exact columns, a column that is sound and closed is exact
pub exact_next : (g : Grammar) (ws : List ℕ) (In : Cells) (j : ℕ) → ((i m r k : ℕ) → IsProp (In i m r k)) → j ≤ length ws → ((m : ℕ) → m < j → Exact g ws In m) → Sound g ws In j → Closed g ws In j → Exact g ws In j
exact_next g ws In j prop h x s c i r k a l d = (s i r k a l d, closed_complete g ws In j h all prop i j r k (omega arith))
  where
    all : (m : ℕ) → m ≤ j → Closed g ws In m
    all m b =
        ⊎_elim
        (λ (o : m < j). exact_closed g ws In m (omega arith) (λ p q. x p (omega arith)))
        (λ (o : j ≤ m). subst (λ (t : ℕ). Closed g ws In t) (omega arith) c)
        (cases_lt m j)

-- ---- the words after a cell do not matter

pub stands_agrees : (g : Grammar) (ws vs : List ℕ) (i j r k : ℕ) → j ≤ length vs → take j ws ≡ take j vs → Stands g ws i j r k → Stands g vs i j r k
stands_agrees g ws vs i j r k h e s = record {
  ordered = s.ordered;
  within = h;
  listed = s.listed;
  dot = s.dot;
  follows = subst (λ (t : List ℕ). ∥ Follows g t (rule g r).left ∥₁) (take_agrees i j ws vs s.ordered e) s.follows;
  matches = subst (λ (t : List ℕ). ∥ Matches g.rules (take k (right (rule g r))) t ∥₁) (stretch_agrees i j ws vs s.ordered e) s.matches;
}

-- ---- commands in the table

pub command_complete : (g : Grammar) (ws : List ℕ) → Command g ws → ∥ Complete g ws ∥₁
command_complete g ws c =
    ∥∥₁_map ((command_whole g ws).0 c)
    (λ h. record {
      by = h.by;
      left = h.left;
      stands = record {
        ordered = omega arith;
        within = omega arith;
        listed = h.listed;
        dot = omega arith;
        follows = ∣ reached_follows g [] (rule g h.by).left (first refl h.left) ∣₁;
        matches = ∣ subst₂ (λ (s : List Symbol) (t : List ℕ). Matches g.rules s t) (sym (take-length (right (rule g h.by)))) (sym (stretch_front (length ws) ws ∙ take-length ws)) h.matches ∣₁;
      };
    })

pub complete_command : (g : Grammar) (ws : List ℕ) → Complete g ws → Command g ws
complete_command g ws c =
    (command_whole g ws).1
    (∥∥₁_map c.stands.matches
    (λ m. record {
      by = c.by;
      listed = c.stands.listed;
      left = c.left;
      matches = subst₂ (λ (s : List Symbol) (t : List ℕ). Matches g.rules s t) (take-length (right (rule g c.by))) (stretch_front (length ws) ws ∙ take-length ws) m;
    }))
