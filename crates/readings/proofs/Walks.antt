-- The turns of the walk that writes a cheapest reading. Assumes nothing.
use Rattle.std.proofs.Common.{◌≡◌, ℕ, suc, ◌+◌, ◌-◌, ◌*◌, ◌<◌, ◌≤◌, true, false, eqb, List, [], ◌∷◌, ◌++◌, length, Some, Option, sym, refl, ap, ◌∙◌, subst, subst₂, append_assoc, append-nil, arith, length-append}
use mathlib.Core.Logic.{by_cases}
use native.Mathlib.Decide.{dec_lt, ℕ_discrete}
use Rattle.std.proofs.lemmas.Bool.Decides.{Decides-eqb, nat_tests}
use Rattle.grammar.specs.declared.Symbol.{Symbol}
use Rattle.grammar.specs.declared.Symbol.TheVariants.{Name, Word}
use Rattle.grammar.specs.declared.Rule.{Rule}
use Rattle.grammar.specs.Grammar.{right}
use Rattle.grammar.specs.Trees.{Row, end, word, tree, yield, Fits}
use Rattle.readings.specs.Scales.{Scale, Laws}
use Rattle.readings.specs.Prices.{nth, price, form}
use Rattle.readings.specs.inner.Least.{Least}
use Rattle.readings.specs.inner.Stretches.{Over}
use Rattle.readings.specs.inner.Cuts.{Cuts}
use Rattle.readings.specs.inner.Tables.{Table, child, Chosen, Recorded}
use Rattle.readings.specs.inner.Walks.{Frame, Open, Rest, Completes, nodes, left, turns, Walk}
use Rattle.readings.proofs.Least.{least_one}
use Rattle.readings.proofs.Stretches.{over_end, over_word, over_tree, length_stretch}
use Rattle.readings.proofs.Cuts.{cuts_ordered}
use Rattle.readings.proofs.Rows.{word_child, name_child, kid_lower, below_of}

-- ---- the bound on trees to be opened

eqb_yes : (m n : ℕ) → m ≡ n → eqb m n ≡ true
eqb_yes m n e = (Decides-eqb m n).1 e

eqb_no : (m n : ℕ) → (m ≡ n → ⊥) → eqb m n ≡ false
eqb_no m n d = grind (arith, nat_tests)

left_none : (m j : ℕ) → m ≡ j → left m j ≡ 0
unfolding left
left_none m j e = rw (eqb_yes m j e)

left_some : (m j : ℕ) → m < j → left m j ≡ 1
unfolding left
left_some m j h = rw (eqb_no m j (λ e. omega arith))

nodes_end : (i j k m : ℕ) → m ≡ j → nodes i j k m ≡ 0
unfolding nodes
nodes_end i j k m e = rw (eqb_yes m j e)

nodes_start : (i j k m : ℕ) → i < j → m ≡ i → nodes i j k m ≡ k + 32 * (2 * (j - i) - 2)
unfolding nodes
nodes_start i j k m h e = rw (eqb_no m j (λ e'. omega arith), eqb_yes m i e)

nodes_mid : (i j k m : ℕ) → i < m → m < j → nodes i j k m ≡ 32 * (2 * (j - m) - 1)
unfolding nodes
nodes_mid i j k m h l = rw (eqb_no m j (λ e. omega arith), eqb_no m i (λ e. omega arith))

-- a tree opened over (m, to), and what is left behind it
pub nodes_child : (i j k m to k' : ℕ) → i < j → i ≤ m → m < to → to ≤ j → k' < 32 → (m ≡ i → to ≡ j → k' < k) → suc (nodes m to k' m) + nodes i j k to ≤ nodes i j k m
nodes_child i j k m to k' a b c d l h =
    let x = nodes_start m to k' m c refl in
    by_cases (ℕ_discrete m i)
    (λ e. let y = nodes_start i j k m a e in by_cases (ℕ_discrete to j)
    (λ e'. let r = h e e' in let z = nodes_end i j k to e' in omega arith)
    (λ e'. let z = nodes_mid i j k to (omega arith) (omega arith) in omega arith))
    (λ e. let y = nodes_mid i j k m (omega arith) (omega arith) in by_cases (ℕ_discrete to j)
    (λ e'. let z = nodes_end i j k to e' in omega arith)
    (λ e'. let z = nodes_mid i j k to (omega arith) (omega arith) in omega arith))

pub nodes_word : (i j k m : ℕ) → i < j → i ≤ m → m < j → nodes i j k (suc m) ≤ nodes i j k m
nodes_word i j k m a b c =
    by_cases (ℕ_discrete (suc m) j)
    (λ e. let z = nodes_end i j k (suc m) e in omega arith)
    (λ e. let z = nodes_mid i j k (suc m) (omega arith) (omega arith) in by_cases (ℕ_discrete m i)
    (λ e'. let y = nodes_start i j k m a e' in omega arith)
    (λ e'. let y = nodes_mid i j k m (omega arith) (omega arith) in omega arith))

-- ---- what is written

abbrev pub frame : ℕ → ℕ → ℕ → ℕ → List Symbol → Frame
frame i j k m s = record { i = i; j = j; k = k; m = m; rest = s }

pub length_over : (ws : List ℕ) (m n : ℕ) (row : Row) → Over ws m n row → length (yield row) ≡ n - m
length_over ws m n row o = ap length o.yields ∙ length_stretch ws m n o.ordered o.within

module _ {P : Type 0} (rules : List Rule) (S : Scale P) (L : Laws S) (ws : List ℕ) (t : Table P) (goal : List ℕ → Type 0) where
  -- nothing is left of the frame
  completes_leave : (i j k m : ℕ) (fs : List Frame) (out : List ℕ) → Open S ws t (frame i j k m []) → Completes rules S ws t goal (frame i j k m [] ∷ fs) out → Completes rules S ws t goal fs out
  completes_leave i j k m fs out o c =
      subst (Completes rules S ws t goal fs) (append-nil out)
      (c end (record { least = subst (λ (q : P). Least S (Cuts S (child S ws t i j k) [] m j) (Some q)) o.least.reached.1 o.least; fits = tt; over = subst (λ (n : ℕ). Over ws n j end) (sym o.least.reached.0) (over_end ws j o.within) }))

  -- the chosen cut's price, with a row behind
  chosen_price : (i j k m to : ℕ) (x : Symbol) (s : List Symbol) (row : Row) (h : Chosen S ws t i j k m x s to) → Rest rules S ws t (frame i j k to s) row
      → Least S (Cuts S (child S ws t i j k) (x ∷ s) m j) (Some (S.join h.head (price rules S row)))
  chosen_price i j k m to x s row h z = let e = least_one S L _ _ _ h.least z.least in let f : h.tail ≡ price rules S row = cc in rw (← f) h.whole

  rest_word : (i j k m to v : ℕ) (s : List Symbol) (row : Row) → j ≤ length ws → Chosen S ws t i j k m (Word v) s to → Rest rules S ws t (frame i j k to s) row → Rest rules S ws t (frame i j k m (Word v ∷ s)) (word v row)
  rest_word i j k m to v s row b h z =
      let w = word_child S ws t i j k v m to h.head h.priced in
      record {
        least = subst (λ (q : P). Least S (Cuts S (child S ws t i j k) (Word v ∷ s) m j) (Some q)) (rw w.2 (L.neutral_left (price rules S row))) (chosen_price i j k m to (Word v) s row h z);
        fits = (refl, z.fits);
        over = let o = subst (λ (n : ℕ). Over ws n j row) w.0 z.over in over_word ws m j v row (omega (arith, o.ordered)) w.1 o;
      }

  rest_tree : (i j k m to b r : ℕ) (s : List Symbol) (below row : Row) (h : Chosen S ws t i j k m (Name b) s to) → r < length rules → (nth rules r).left ≡ b
      → Fits rules (right (nth rules r)) below → Over ws m to below → S.join (S.weigh (nth rules r).weight) (price rules S below) ≡ h.head
      → Rest rules S ws t (frame i j k to s) row → Rest rules S ws t (frame i j k m (Name b ∷ s)) (tree r below row)
  rest_tree i j k m to b r s below row h lt e f o d z =
      record {
        least = subst (λ (q : P). Least S (Cuts S (child S ws t i j k) (Name b ∷ s) m j) (Some q)) (rw (← d) (L.associative _ _ _)) (chosen_price i j k m to (Name b) s row h z);
        fits = (lt, e, f, z.fits);
        over = over_tree ws m to j r below row o z.over;
      }

  -- forms of trees, with words and without
  form_some : (r m n : ℕ) (below row : Row) → m < n → Over ws m n below → form (tree r below row) ≡ suc r ∷ (form below ++ form row)
  form_some r m n below row h o = rw (eqb_no (length (yield below)) 0 (λ e. omega (arith, length_over ws m n below o)))

  form_none : (r m : ℕ) (below row : Row) → Over ws m m below → form (tree r below row) ≡ 0 ∷ form row
  form_none r m below row o = rw (eqb_yes (length (yield below)) 0 (length_over ws m m below o ∙ (let z : m - m ≡ 0 = omega arith in z)))

  completes_word : (i j k m to v : ℕ) (s : List Symbol) (fs : List Frame) (out : List ℕ) → j ≤ length ws → Chosen S ws t i j k m (Word v) s to
      → Completes rules S ws t goal (frame i j k m (Word v ∷ s) ∷ fs) out → Completes rules S ws t goal (frame i j k to s ∷ fs) out
  completes_word i j k m to v s fs out b h c = λ row z. c (word v row) (rest_word i j k m to v s row b h z)

  module _ (R : Recorded rules S ws t) where
    -- a tree without words
    completes_none : (i j k m b : ℕ) (s : List Symbol) (fs : List Frame) (out : List ℕ) → Chosen S ws t i j k m (Name b) s m
        → Completes rules S ws t goal (frame i j k m (Name b ∷ s) ∷ fs) out → Completes rules S ws t goal (frame i j k m s ∷ fs) (out ++ (0 ∷ []))
    completes_none i j k m b s fs out h c = λ row z.
        let e = (name_child S ws t i j k b m m h.head h.priced).0 in
        let en = R m m b h.head e in
        let d = below_of rules S L ws t R m m b h.head e in
        subst (Completes rules S ws t goal fs) (ap (λ (l : List ℕ). out ++ l) (form_none (t.by m m b) m d.row row d.over) ∙ sym (append_assoc out (0 ∷ []) (form row)))
        (c (tree (t.by m m b) d.row row)
        (rest_tree i j k m m b (t.by m m b) s d.row row h en.listed en.left d.fits d.over (ap (S.join (S.weigh (nth rules (t.by m m b)).weight)) d.is ∙ sym en.joins) z))

    -- a tree with words is opened
    completes_some : (i j k m to b : ℕ) (s : List Symbol) (fs : List Frame) (out : List ℕ) → m < to → Chosen S ws t i j k m (Name b) s to
        → Completes rules S ws t goal (frame i j k m (Name b ∷ s) ∷ fs) out
        → Completes rules S ws t goal (frame m to (t.rank m to b) m (right (nth rules (t.by m to b))) ∷ (frame i j k to s ∷ fs)) (out ++ (suc (t.by m to b) ∷ []))
    completes_some i j k m to b s fs out lt h c = λ below y row z.
        let e = (name_child S ws t i j k b m to h.head h.priced).0 in
        let en = R m to b h.head e in
        let q = least_one S L _ _ _ en.least y.least in
        let f : en.cut ≡ price rules S below = cc in
        subst (Completes rules S ws t goal fs) (ap (λ (l : List ℕ). out ++ l) (form_some (t.by m to b) m to below row lt y.over) ∙ simp append_assoc)
        (c (tree (t.by m to b) below row)
        (rest_tree i j k m to b (t.by m to b) s below row h en.listed en.left y.fits y.over (ap (S.join (S.weigh (nth rules (t.by m to b)).weight)) (sym f) ∙ sym en.joins) z))

-- ---- the turns

module _ {P : Type 0} (S : Scale P) (ws : List ℕ) (t : Table P) where
  pub chosen_upto : (i j k m to : ℕ) (x : Symbol) (s : List Symbol) → Chosen S ws t i j k m x s to → to ≤ j
  chosen_upto i j k m to x s h = cuts_ordered S (child S ws t i j k) s to j h.tail h.least.reached

  -- the frame behind the first symbol
  open_next : (i j k m to : ℕ) (x : Symbol) (s : List Symbol) → Chosen S ws t i j k m x s to → Open S ws t (frame i j k m (x ∷ s)) → Open S ws t (frame i j k to s)
  open_next i j k m to x s h o =
      record { before = o.before; from = omega (arith, o.from, h.ordered); upto = chosen_upto i j k m to x s h; within = o.within; cut = h.tail; least = h.least }

  -- words are left, so symbols are
  some_left : (ch : Symbol → ℕ → ℕ → Option P) (s : List Symbol) (m j : ℕ) (q : P) → m < j → Cuts S ch s m j q → 0 < length s
  some_left ch [] m j q h c = omega (arith, c.0)
  some_left ch (x ∷ s) m j q h c = omega arith

module _ {P : Type 0} (rules : List Rule) (S : Scale P) (L : Laws S) (ws : List ℕ) (t : Table P) (R : Recorded rules S ws t) (goal : List ℕ → Type 0) (i j k m : ℕ) (fs : List Frame) (out : List ℕ) where
  -- nothing is left of the frame
  pub walk_leave : Walk rules S ws t goal (frame i j k m [] ∷ fs) out → Walk rules S ws t goal fs out
  walk_leave w = record { opened = w.opened.1; completes = completes_leave rules S L ws t goal i j k m fs out w.opened.0 w.completes; fits = omega (arith, w.fits); deep = w.deep.1 }

  pub turns_leave : turns fs < turns (frame i j k m [] ∷ fs)
  turns_leave = omega arith

  pub walk_word : (to v : ℕ) (s : List Symbol) → Chosen S ws t i j k m (Word v) s to → Walk rules S ws t goal (frame i j k m (Word v ∷ s) ∷ fs) out → Walk rules S ws t goal (frame i j k to s ∷ fs) out
  walk_word to v s h w =
      let o = w.opened.0 in
      let e = (word_child S ws t i j k v m to h.head h.priced).0 in
      let u = chosen_upto S ws t i j k m to (Word v) s h in
      let n = subst (λ (n : ℕ). nodes i j k n ≤ nodes i j k m) (sym e) (nodes_word i j k m o.before o.from (omega arith)) in
      let l = left_some m j (omega arith) in
      record {
        opened = (open_next S ws t i j k m to (Word v) s h w.opened.0, w.opened.1);
        completes = completes_word rules S L ws t goal i j k m to v s fs out w.opened.0.within h w.completes;
        fits = omega (arith, w.fits);
        deep = w.deep;
      }

  pub walk_none : (b : ℕ) (s : List Symbol) → Chosen S ws t i j k m (Name b) s m → Walk rules S ws t goal (frame i j k m (Name b ∷ s) ∷ fs) out → Walk rules S ws t goal (frame i j k m s ∷ fs) (out ++ (0 ∷ []))
  walk_none b s h w =
      record {
        opened = (open_next S ws t i j k m m (Name b) s h w.opened.0, w.opened.1);
        completes = completes_none rules S L ws t goal R i j k m b s fs out h w.completes;
        fits = rw (length-append out (0 ∷ [])) (by_cases (dec_lt m j)
            (λ d. let l = left_some m j d in let z = some_left S ws t (child S ws t i j k) s m j h.tail d h.least.reached in omega (arith, w.fits))
            (λ d. let l = left_none m j (omega (arith, w.opened.0.upto)) in omega (arith, w.fits)));
        deep = w.deep;
      }

  pub walk_some : (to b : ℕ) (s : List Symbol) → m < to → length (right (nth rules (t.by m to b))) ≤ 8 → Chosen S ws t i j k m (Name b) s to → Walk rules S ws t goal (frame i j k m (Name b ∷ s) ∷ fs) out
      → Walk rules S ws t goal (frame m to (t.rank m to b) m (right (nth rules (t.by m to b))) ∷ (frame i j k to s ∷ fs)) (out ++ (suc (t.by m to b) ∷ []))
  walk_some to b s lt e h w =
      let o = w.opened.0 in
      let c = name_child S ws t i j k b m to h.head h.priced in
      let en = R m to b h.head c.0 in
      let u = chosen_upto S ws t i j k m to (Name b) s h in
      let n = nodes_child i j k m to (t.rank m to b) o.before o.from lt u en.low (λ e₁ e₂. subst₂ (λ (x y : ℕ). t.rank x y b < k) (sym e₁) (sym e₂) (c.1 e₁ e₂)) in
      let l = left_some m j (omega arith) in
      let l' = left_some m to lt in
      let d = kid_lower rules S L ws t R i j k b m to h.head o.from h.ordered u h.priced in
      record {
        opened = (record { before = lt; from = omega arith; upto = omega arith; within = en.within; cut = en.cut; least = en.least }, (open_next S ws t i j k m to (Name b) s h w.opened.0, w.opened.1));
        completes = completes_some rules S L ws t goal R i j k m to b s fs out lt h w.completes;
        fits = rw (length-append out (suc (t.by m to b) ∷ [])) (omega (arith, w.fits));
        deep = (omega (arith, w.deep.0), w.deep);
      }

  pub turns_word : (to v : ℕ) (s : List Symbol) → Chosen S ws t i j k m (Word v) s to → Walk rules S ws t goal (frame i j k m (Word v ∷ s) ∷ fs) out
      → turns (frame i j k to s ∷ fs) < turns (frame i j k m (Word v ∷ s) ∷ fs)
  turns_word to v s h w =
      let o = w.opened.0 in
      let e = (word_child S ws t i j k v m to h.head h.priced).0 in
      let u = chosen_upto S ws t i j k m to (Word v) s h in
      let n = subst (λ (n : ℕ). nodes i j k n ≤ nodes i j k m) (sym e) (nodes_word i j k m o.before o.from (omega arith)) in
      omega arith

  pub turns_none : (b : ℕ) (s : List Symbol) → turns (frame i j k m s ∷ fs) < turns (frame i j k m (Name b ∷ s) ∷ fs)
  turns_none b s = omega arith

  pub turns_some : (to b : ℕ) (s : List Symbol) → m < to → length (right (nth rules (t.by m to b))) ≤ 8 → Chosen S ws t i j k m (Name b) s to → Walk rules S ws t goal (frame i j k m (Name b ∷ s) ∷ fs) out
      → turns (frame m to (t.rank m to b) m (right (nth rules (t.by m to b))) ∷ (frame i j k to s ∷ fs)) < turns (frame i j k m (Name b ∷ s) ∷ fs)
  turns_some to b s lt e h w =
      let o = w.opened.0 in
      let c = name_child S ws t i j k b m to h.head h.priced in
      let en = R m to b h.head c.0 in
      let u = chosen_upto S ws t i j k m to (Name b) s h in
      let n = nodes_child i j k m to (t.rank m to b) o.before o.from lt u en.low (λ e₁ e₂. subst₂ (λ (x y : ℕ). t.rank x y b < k) (sym e₁) (sym e₂) (c.1 e₁ e₂)) in
      omega arith

-- ---- the first frame

module _ {P : Type 0} (rules : List Rule) (S : Scale P) (L : Laws S) (ws : List ℕ) (t : Table P) (R : Recorded rules S ws t) (goal : List ℕ → Type 0) (i j a : ℕ) (c : P) (e : t.at i j a ≡ Some c)
    (whole : (row : Row) → Fits rules (Name a ∷ []) row → Over ws i j row → price rules S row ≡ c → goal (form row)) where
  root_whole : (below : Row) → Fits rules (right (nth rules (t.by i j a))) below → Over ws i j below → price rules S below ≡ (R i j a c e).cut → goal (form (tree (t.by i j a) below end))
  root_whole below f o d =
      let en = R i j a c e in
      whole (tree (t.by i j a) below end) (en.listed, en.left, f, tt) (over_tree ws i j j (t.by i j a) below end o (over_end ws j o.within))
      (ap (S.join (S.weigh (nth rules (t.by i j a)).weight)) (L.neutral_right (price rules S below) ∙ d) ∙ sym en.joins)

  open_whole : i < j → (row : Row) → Rest rules S ws t (frame i j (t.rank i j a) i (right (nth rules (t.by i j a)))) row → goal (suc (t.by i j a) ∷ form row)
  open_whole lt row z =
      let en = R i j a c e in
      let q = least_one S L _ _ _ en.least z.least in
      let d : price rules S row ≡ en.cut = cc in
      subst goal (form_some rules S L ws t goal (t.by i j a) i j row end lt z.over ∙ ap (λ (l : List ℕ). suc (t.by i j a) ∷ l) (append-nil (form row))) (root_whole row z.fits z.over d)

  -- a tree with words
  pub walk_start : i < j → j - i ≤ 20 → length (right (nth rules (t.by i j a))) ≤ 8
      → Walk rules S ws t goal (frame i j (t.rank i j a) i (right (nth rules (t.by i j a))) ∷ []) (suc (t.by i j a) ∷ [])
  walk_start lt l h =
      let en = R i j a c e in
      let n = nodes_start i j (t.rank i j a) i lt refl in
      let f = left_some i j lt in
      record {
        opened = (record { before = lt; from = omega arith; upto = omega arith; within = en.within; cut = en.cut; least = en.least }, tt);
        completes = open_whole lt;
        fits = omega (arith, en.low);
        deep = (omega (arith, en.low), tt);
      }

  -- a tree without words is the single 0
  pub walk_single : i ≡ j → goal (0 ∷ [])
  walk_single h =
      let d = below_of rules S L ws t R i j a c e in
      subst goal (form_none rules S L ws t goal (t.by i j a) i d.row end (subst (λ (n : ℕ). Over ws i n d.row) (sym h) d.over)) (root_whole d.row d.fits d.over d.is)
