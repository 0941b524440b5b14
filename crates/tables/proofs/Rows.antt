-- Rows of trees joined and split, and what lists of symbols match.
use Rattle.std.proofs.Common.{◌≡◌, ℕ, suc, ◌+◌, ◌-◌, ◌<◌, ◌≤◌, min, List, [], ◌∷◌, ◌++◌, length, get_or, take, drop, sym, refl, ap, ◌∙◌, subst, ap₂, append_assoc, append-nil, arith, length-append, length-drop, length-take, length-take-le, take_all, drop-cons, get_or-take, take-suc, take-take, drop-drop, take_at, take-add, drop_at}
use mathlib.Core.List.{head-eq_of_cons-eq, tail-eq_of_cons-eq}
use lib.Seq.{take-append_seam, drop-append_seam, split_at, get_or-append_seam}
use Rattle.std.proofs.lemmas.List.{drop-take, get_or_default}
use Rattle.grammar.specs.declared.Symbol.{Symbol}
use Rattle.grammar.specs.declared.Symbol.TheVariants.{Name, Word}
use Rattle.grammar.specs.declared.Rule.{Rule}
use Rattle.grammar.specs.Grammar.{Grammar, rule, right}
use Rattle.grammar.specs.Trees.{Row, end, word, tree, yield, Fits, Matches}
use Rattle.tables.specs.Table.{stretch, At}

-- ---- rows

-- the trees of one row and then those of another
abbrev beside : Row → Row → Row
beside end t = t
beside (word w rest) t = word w (beside rest t)
beside (tree r below rest) t = tree r below (beside rest t)

yield_beside : (a b : Row) → yield (beside a b) ≡ yield a ++ yield b
yield_beside end b = refl
yield_beside (word w rest) b = ap {B = List ℕ} (λ x. w ∷ x) (yield_beside rest b)
yield_beside (tree r below rest) b = ap {B = List ℕ} (λ x. yield below ++ x) (yield_beside rest b) ∙ sym (append_assoc (yield below) (yield rest) (yield b))

fits_beside : (g : Grammar) (s t : List Symbol) (a b : Row) → Fits g.rules s a → Fits g.rules t b → Fits g.rules (s ++ t) (beside a b)
fits_beside g [] t end b f h = h
fits_beside g [] t (word w rest) b f h = absurd f
fits_beside g [] t (tree r below rest) b f h = absurd f
fits_beside g (Name n ∷ s) t end b f h = absurd f
fits_beside g (Name n ∷ s) t (word w rest) b f h = absurd f
fits_beside g (Name n ∷ s) t (tree r below rest) b f h = (f.0, f.1, f.2, fits_beside g s t rest b f.3 h)
fits_beside g (Word v ∷ s) t end b f h = absurd f
fits_beside g (Word v ∷ s) t (word w rest) b f h = (f.0, fits_beside g s t rest b f.1 h)
fits_beside g (Word v ∷ s) t (tree r below rest) b f h = absurd f

record Parted (g : Grammar) (s t : List Symbol) (c : Row) : Type 0 where
  pub left : Row
  pub right : Row
  pub fits_left : Fits g.rules s left
  pub fits_right : Fits g.rules t right
  pub joined : beside left right ≡ c

fits_parted : (g : Grammar) (s t : List Symbol) (c : Row) → Fits g.rules (s ++ t) c → Parted g s t c
fits_parted g [] t c f = record { left = end; right = c; fits_left = tt; fits_right = f; joined = refl }
fits_parted g (Name n ∷ s) t end f = absurd f
fits_parted g (Name n ∷ s) t (word w rest) f = absurd f
fits_parted g (Name n ∷ s) t (tree r below rest) f =
    let p = fits_parted g s t rest f.3 in
    record {
      left = tree r below p.left;
      right = p.right;
      fits_left = (f.0, f.1, f.2, p.fits_left);
      fits_right = p.fits_right;
      joined = ap {B = Row} (λ x. tree r below x) p.joined;
    }
fits_parted g (Word v ∷ s) t end f = absurd f
fits_parted g (Word v ∷ s) t (word w rest) f =
    let p = fits_parted g s t rest f.1 in
    record {
      left = word w p.left;
      right = p.right;
      fits_left = (f.0, p.fits_left);
      fits_right = p.fits_right;
      joined = ap {B = Row} (λ x. word w x) p.joined;
    }
fits_parted g (Word v ∷ s) t (tree r below rest) f = absurd f

-- ---- what a list of symbols matches

pub matches_join : (g : Grammar) (s t : List Symbol) (u v : List ℕ) → Matches g.rules s u → Matches g.rules t v → Matches g.rules (s ++ t) (u ++ v)
matches_join g s t u v a b =
    (beside a.0 b.0, fits_beside g s t a.0 b.0 a.1 b.1, yield_beside a.0 b.0 ∙ ap₂ {C = List ℕ} (λ x y. x ++ y) a.2 b.2)

pub matches_split : (g : Grammar) (s t : List Symbol) (w : List ℕ) → Matches g.rules (s ++ t) w → (u : List ℕ) × (v : List ℕ) × Matches g.rules s u × Matches g.rules t v × (u ++ v ≡ w)
matches_split g s t w m =
    let p = fits_parted g s t m.0 m.1 in (
      yield p.left,
      yield p.right,
      (p.left, p.fits_left, refl),
      (p.right, p.fits_right, refl),
      sym (yield_beside p.left p.right) ∙ ap yield p.joined ∙ m.2,
    )

pub matches_none : (g : Grammar) (v : List ℕ) → Matches g.rules [] v → v ≡ []
matches_none g v (end, f, e) = sym e
matches_none g v (word w rest, f, e) = absurd f
matches_none g v (tree r below rest, f, e) = absurd f

pub none_matches : (g : Grammar) → Matches g.rules [] []
none_matches g = (end, tt, refl)

pub word_matches : (g : Grammar) (w : ℕ) → Matches g.rules (Word w ∷ []) (w ∷ [])
word_matches g w = (word w end, (refl, tt), refl)

pub name_matches : (g : Grammar) (r : ℕ) (v : List ℕ) → r < length g.rules → Matches g.rules (right (rule g r)) v → Matches g.rules (Name (rule g r).left ∷ []) v
name_matches g r v l m = (tree r m.0 end, (l, refl, m.1, tt), append-nil (yield m.0) ∙ m.2)

-- the rule at the top of a tree
pub record Rooted (g : Grammar) (a : ℕ) (v : List ℕ) : Type 0 where
  pub by : ℕ
  pub listed : by < length g.rules
  pub left : (rule g by).left ≡ a
  pub matches : Matches g.rules (right (rule g by)) v

pub name_matched : (g : Grammar) (a : ℕ) (v : List ℕ) → Matches g.rules (Name a ∷ []) v → Rooted g a v
name_matched g a v (end, f, e) = absurd f
name_matched g a v (word w rest, f, e) = absurd f
name_matched g a v (tree r below end, f, e) = record { by = r; listed = f.0; left = f.1; matches = (below, f.2, sym (append-nil (yield below)) ∙ e) }
name_matched g a v (tree r below (word w rest), f, e) = absurd f.3
name_matched g a v (tree r below (tree q under rest), f, e) = absurd f.3

-- ---- one symbol of a rule

pub at_split : (p : Rule) (k : ℕ) (x : Symbol) → At p k x → right p ≡ take k (right p) ++ x ∷ drop (suc k) (right p)
at_split p k x a = split_at (right p) k x a.0 ∙ ap {B = List Symbol} (λ y. take k (right p) ++ y ∷ drop (suc k) (right p)) (sym a.1)

take_by : {A : Type 0} (n m : ℕ) (l : List A) → n ≡ m → take n l ≡ take m l
take_by n m l e = ap (λ (k : ℕ). take k l) e

-- what a read of the rule's own array gives
pub at_read : (p : Rule) (k : ℕ) (d : Symbol) → k < length (right p) → At p k (get_or p.symbols k d)
at_read p k d l =
    let h : length (right p) ≡ min p.len (length p.symbols) = length-take p.len p.symbols in
    let x : Symbol = get_or p.symbols k d in
    (l, get_or_default p.symbols k d x (omega arith) ∙ sym (get_or-take p.len p.symbols k x (omega arith)))

pub at_same : (p : Rule) (k : ℕ) (x y : Symbol) → At p k x → At p k y → x ≡ y
at_same p k x y a b = a.1 ∙ get_or_default (right p) k x y a.0 ∙ sym b.1

at_more : (p : Rule) (k : ℕ) (x : Symbol) → At p k x → take (k + 1) (right p) ≡ take k (right p) ++ x ∷ []
at_more p k x a =
    take_by (k + 1) (suc k) (right p) (omega arith) ∙ take-suc (right p) k x a.0
    ∙ ap {B = List Symbol} (λ y. take k (right p) ++ y ∷ []) (sym a.1)

pub at_from_split : (p : Rule) (s : List Symbol) (x : Symbol) (t : List Symbol) → right p ≡ s ++ x ∷ t → At p (length s) x × (take (length s) (right p) ≡ s)
at_from_split p s x t e = (
  (
    subst (λ (l : List Symbol). length s < length l) (sym e) (subst (λ (n : ℕ). length s < n) (sym (length-append s (x ∷ t))) (omega arith)),
    sym (ap (λ (l : List Symbol). get_or l (length s) x) e ∙ get_or-append_seam s x t x),
  ),
  ap (λ (l : List Symbol). take (length s) l) e ∙ take-append_seam s (x ∷ t),
)

matches_more : (g : Grammar) (p : Rule) (k : ℕ) (x : Symbol) (u v : List ℕ) → At p k x → Matches g.rules (take k (right p)) u → Matches g.rules (x ∷ []) v → Matches g.rules (take (k + 1) (right p)) (u ++ v)
matches_more g p k x u v a m n = subst (λ (s : List Symbol). Matches g.rules s (u ++ v)) (sym (at_more p k x a)) (matches_join g (take k (right p)) (x ∷ []) u v m n)

-- ---- stretches of words

pub stretch_none : (i : ℕ) (ws : List ℕ) → stretch i i ws ≡ []
stretch_none i ws = take_by (i - i) 0 (drop i ws) (omega arith)

stretch_join : (i m j : ℕ) (ws : List ℕ) → i ≤ m → m ≤ j → stretch i m ws ++ stretch m j ws ≡ stretch i j ws
stretch_join i m j ws a b =
    ap {B = List ℕ} (λ x. take (m - i) (drop i ws) ++ take (j - m) x) (ap (λ (n : ℕ). drop n ws) (omega arith) ∙ sym (drop-drop (m - i) i ws))
    ∙ sym (take-add (m - i) (j - m) (drop i ws))
    ∙ ap (λ (n : ℕ). take n (drop i ws)) (omega arith)

-- the words before a stretch, and then the stretch
pub take_stretch : (i j : ℕ) (ws : List ℕ) → i ≤ j → take i ws ++ stretch i j ws ≡ take j ws
take_stretch i j ws a = sym (take-add i (j - i) ws) ∙ ap (λ (n : ℕ). take n ws) (omega arith)

length_stretch : (i j : ℕ) (ws : List ℕ) → i ≤ j → j ≤ length ws → length (stretch i j ws) ≡ j - i
length_stretch i j ws a b = length-take-le (j - i) (drop i ws) (subst (λ (n : ℕ). j - i ≤ n) (sym (length-drop i ws)) (omega arith))

pub stretch_more : (m : ℕ) (ws : List ℕ) → m < length ws → stretch m (m + 1) ws ≡ get_or ws m 0 ∷ []
stretch_more m ws a = take_by (m + 1 - m) 1 (drop m ws) (omega arith) ∙ ap (λ (l : List ℕ). take 1 l) (drop-cons ws m 0 a)

append_parts : (s t u v : List ℕ) → s ++ t ≡ u ++ v → length s ≡ length u → (s ≡ u) × (t ≡ v)
append_parts s t u v e l = (
  sym (take-append_seam s t) ∙ ap (λ (x : List ℕ). take (length s) x) e ∙ take_at u v (length s) (sym l),
  sym (drop-append_seam s t) ∙ ap (λ (x : List ℕ). drop (length s) x) e ∙ drop_at u v (length s) (sym l),
)

-- the first part of a stretch ends where its length says
pub stretch_split : (i j : ℕ) (ws u v : List ℕ) → i ≤ j → j ≤ length ws → u ++ v ≡ stretch i j ws → (m : ℕ) × (i ≤ m) × (m ≤ j) × (u ≡ stretch i m ws) × (v ≡ stretch m j ws)
stretch_split i j ws u v a b e =
    let total : length u + length v ≡ j - i = sym (length-append u v) ∙ ap length e ∙ length_stretch i j ws a b in
    let m = i + length u in
    let parts = append_parts u v (stretch i m ws) (stretch m j ws) (e ∙ sym (stretch_join i m j ws (omega arith) (omega arith))) (sym (length_stretch i m ws (omega arith) (omega arith) ∙ omega arith)) in
    (m, omega arith, omega arith, parts.0, parts.1)

-- a stretch that begins with a word
pub stretch_word : (m j : ℕ) (ws : List ℕ) (w : ℕ) (t : List ℕ) → m ≤ j → j ≤ length ws → w ∷ t ≡ stretch m j ws → (m < j) × (w ≡ get_or ws m 0) × (t ≡ stretch (m + 1) j ws)
stretch_word m j ws w t a b e =
    let total : suc (length t) ≡ j - m = ap length e ∙ length_stretch m j ws a b in
    let q : w ∷ t ≡ get_or ws m 0 ∷ stretch (m + 1) j ws = e ∙ sym (stretch_join m (m + 1) j ws (omega arith) (omega arith)) ∙ ap {B = List ℕ} (λ x. x ++ stretch (m + 1) j ws) (stretch_more m ws (omega arith)) in
    (omega arith, head-eq_of_cons-eq q, tail-eq_of_cons-eq q)

pub stretch_empty : (m j : ℕ) (ws : List ℕ) → m ≤ j → j ≤ length ws → [] ≡ stretch m j ws → m ≡ j
stretch_empty m j ws a b e =
    let total : 0 ≡ j - m = ap length e ∙ length_stretch m j ws a b in
    omega arith

pub stretch_front : (i : ℕ) (ws : List ℕ) → stretch 0 i ws ≡ take i ws
stretch_front i ws = take_by (i - 0) i ws (omega arith)

-- the first part of a front ends where its length says
pub take_split : (i : ℕ) (ws u v : List ℕ) → i ≤ length ws → u ++ v ≡ take i ws → (m : ℕ) × (m ≤ i) × (u ≡ take m ws) × (v ≡ stretch m i ws)
take_split i ws u v a e =
    let c = stretch_split 0 i ws u v (omega arith) a (e ∙ sym (stretch_front i ws)) in
    (c.0, c.2, c.3 ∙ stretch_front c.0 ws, c.4)

-- words that agree up to j have the same stretches up to j
pub stretch_agrees : (i j : ℕ) (ws vs : List ℕ) → i ≤ j → take j ws ≡ take j vs → stretch i j ws ≡ stretch i j vs
stretch_agrees i j ws vs a e =
    let at : (l : List ℕ) → stretch i j l ≡ drop i (take j l) = λ l. sym (drop-take i (j - i) l) ∙ ap (λ (x : List ℕ). drop i x) (take_by (i + (j - i)) j l (omega arith)) in
    at ws ∙ ap (λ (x : List ℕ). drop i x) e ∙ sym (at vs)

pub take_agrees : (i j : ℕ) (ws vs : List ℕ) → i ≤ j → take j ws ≡ take j vs → take i ws ≡ take i vs
take_agrees i j ws vs a e = sym (take-take i j ws a) ∙ ap (λ (x : List ℕ). take i x) e ∙ take-take i j vs a

pub stretch_seam : (u v ws : List ℕ) → ws ≡ u ++ v → stretch (length u) (length ws) ws ≡ v
stretch_seam u v ws e =
    let total : length ws ≡ length u + length v = ap length e ∙ length-append u v in
    ap (λ (x : List ℕ). take (length ws - length u) x) (ap (λ (x : List ℕ). drop (length u) x) e ∙ drop-append_seam u v)
    ∙ take_all (length ws - length u) v (omega arith)

-- a place that parts the stretch into what the list matches and what the symbol matches
pub record Met (g : Grammar) (s : List Symbol) (x : Symbol) (ws : List ℕ) (i j : ℕ) : Type 0 where
  pub place : ℕ
  pub after : i ≤ place
  pub before : place ≤ j
  pub first : Matches g.rules s (stretch i place ws)
  pub last : Matches g.rules (x ∷ []) (stretch place j ws)

pub stretch_more_matches : (g : Grammar) (p : Rule) (k : ℕ) (x : Symbol) (ws : List ℕ) (i j : ℕ) → At p k x → Met g (take k (right p)) x ws i j → Matches g.rules (take (k + 1) (right p)) (stretch i j ws)
stretch_more_matches g p k x ws i j a m =
    subst (λ (w : List ℕ). Matches g.rules (take (k + 1) (right p)) w) (stretch_join i m.place j ws m.after m.before)
    (matches_more g p k x (stretch i m.place ws) (stretch m.place j ws) a m.first m.last)
