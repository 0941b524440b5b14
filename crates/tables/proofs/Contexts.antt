-- The left context in which a symbol stands, by the rules above it, and that it is what follows.
use Rattle.std.proofs.Common.{◌≡◌, ℕ, suc, ◌<◌, ◌⊎◌, List, [], ◌∷◌, ◌++◌, map, length, take, drop, sym, refl, ap, ◌∙◌, subst, ap₂, inl, inr, append_assoc}
use mathlib.Core.List.{head-eq_of_cons-eq, tail-eq_of_cons-eq, cons-ne-nil}
use Rattle.std.proofs.lemmas.List.{map-append}
use Rattle.grammar.specs.declared.Symbol.{Symbol}
use Rattle.grammar.specs.declared.Symbol.TheVariants.{Name, Word}
use Rattle.grammar.specs.Grammar.{Grammar, rule, right}
use Rattle.grammar.specs.Trees.{Row, end, word, tree, yield, Fits, Matches, Replaced, Becomes, same, then, Follows}
use Rattle.tables.specs.Table.{At}
use Rattle.tables.specs.Contexts.{Reached, first, next}
use Rattle.tables.proofs.Rows.{matches_join, matches_split, none_matches, matches_none, word_matches, name_matches, at_split, at_from_split}

-- ---- where a symbol of a joined list stands

pub data Side {A : Type 0} (x : List A) (c : A) (z b w : List A) : Type 0 where
  in_left : (y : List A) → b ≡ x ++ c ∷ y → z ≡ y ++ w → Side x c z b w
  in_right : (y : List A) → x ≡ b ++ y → w ≡ y ++ c ∷ z → Side x c z b w

pub side : {A : Type 0} (x : List A) (c : A) (z b w : List A) → x ++ c ∷ z ≡ b ++ w → Side x c z b w
side x c z [] w e = in_right x refl (sym e)
side [] c z (b ∷ bs) w e = in_left bs (ap₂ {C = List _} (λ h t. h ∷ t) (sym (head-eq_of_cons-eq e)) refl) (tail-eq_of_cons-eq e)
side (x ∷ xs) c z (b ∷ bs) w e = more (side xs c z bs w (tail-eq_of_cons-eq e))
  where
    more : Side xs c z bs w → Side (x ∷ xs) c z (b ∷ bs) w
    more (in_left y p q) = in_left y (ap₂ {C = List _} (λ h t. h ∷ t) (sym (head-eq_of_cons-eq e)) p) q
    more (in_right y p q) = in_right y (ap₂ {C = List _} (λ h t. h ∷ t) (head-eq_of_cons-eq e) p) q

-- ---- contexts

-- the symbol y can stand after the words u in what the symbols s become
pub data Left (g : Grammar) : List Symbol → List ℕ → Symbol → Type 0 where
  here : {s : List Symbol} {u : List ℕ} {y : Symbol} (x z : List Symbol) → s ≡ x ++ y ∷ z → Matches g.rules x u → Left g s u y
  below : {s : List Symbol} {u : List ℕ} {y : Symbol} (x z : List Symbol) (v w : List ℕ) (r : ℕ) → s ≡ x ++ Name (rule g r).left ∷ z → r < length g.rules → Matches g.rules x v → u ≡ v ++ w → Left g (right (rule g r)) w y → Left g s u y

-- the symbol y stands after the words u, in a rule that is reached
pub record Site (g : Grammar) (u : List ℕ) (y : Symbol) : Type 0 where
  pub before : List ℕ
  pub inside : List ℕ
  pub by : ℕ
  pub dot : ℕ
  pub reached : Reached g before (rule g by).left
  pub listed : by < length g.rules
  pub at : At (rule g by) dot y
  pub matches : Matches g.rules (take dot (right (rule g by))) inside
  pub whole : u ≡ before ++ inside

site_reached : (g : Grammar) (u : List ℕ) (a : ℕ) → Site g u (Name a) → Reached g u a
site_reached g u a s = next s.before s.inside s.by s.dot s.reached s.listed s.at s.matches s.whole

site_of : (g : Grammar) (v u : List ℕ) (y : Symbol) (r : ℕ) (x z : List Symbol) → Reached g v (rule g r).left → r < length g.rules → right (rule g r) ≡ x ++ y ∷ z → Matches g.rules x u → Site g (v ++ u) y
site_of g v u y r x z h l e m =
    let a = at_from_split (rule g r) x y z e in
    record {
      before = v;
      inside = u;
      by = r;
      dot = length x;
      reached = h;
      listed = l;
      at = a.0;
      matches = subst (λ (s : List Symbol). Matches g.rules s u) (sym a.1) m;
      whole = refl;
    }

left_site : (g : Grammar) (s : List Symbol) (u : List ℕ) (y : Symbol) (v : List ℕ) (r : ℕ) → Left g s u y → s ≡ right (rule g r) → Reached g v (rule g r).left → r < length g.rules → Site g (v ++ u) y
left_site g s u y v r (here x z e m) q h l = site_of g v u y r x z h l (sym q ∙ e) m
left_site g s u y v r (below x z v₁ w r₁ e l₁ m f c) q h l =
    subst (λ (t : List ℕ). Site g t y) (append_assoc v v₁ w ∙ ap {B = List ℕ} (λ t. v ++ t) (sym f))
    (left_site g (right (rule g r₁)) w y (v ++ v₁) r₁ c refl (site_reached g (v ++ v₁) (rule g r₁).left (site_of g v v₁ (Name (rule g r₁).left) r x z h l (sym q ∙ e) m)) l₁)

pub no_split : {A : Type 0} (x : List A) (y : A) (z : List A) → [] ≡ x ++ y ∷ z → ⊥
no_split [] y z e = cons-ne-nil y z (sym e)
no_split (c ∷ x) y z e = cons-ne-nil c (x ++ y ∷ z) (sym e)

one_split : {A : Type 0} (a : A) (x : List A) (y : A) (z : List A) → a ∷ [] ≡ x ++ y ∷ z → (x ≡ []) × (y ≡ a)
one_split a [] y z e = (refl, sym (head-eq_of_cons-eq e))
one_split a (c ∷ x) y z e = absurd (no_split x y z (tail-eq_of_cons-eq e))

name_same : (a b : ℕ) → Name a ≡ Name b → a ≡ b
name_same a b e = cc

IsName : Symbol → Type 0
IsName (Name a) = Unit {0}
IsName (Word w) = ⊥

pub name_word : (a w : ℕ) → Name a ≡ Word w → ⊥
unfolding IsName
name_word a w e = subst IsName e tt

-- what stands after the start alone
pub start_site : (g : Grammar) (u : List ℕ) (y : Symbol) → Left g (Name g.start ∷ []) u y → Site g u y ⊎ ((u ≡ []) × (y ≡ Name g.start))
start_site g u y (here x z e m) =
    let o = one_split (Name g.start) x y z e in
    inr (matches_none g u (subst (λ (s : List Symbol). Matches g.rules s u) o.0 m), o.1)
start_site g u y (below x z v w r e l m f c) =
    let o = one_split (Name g.start) x (Name (rule g r).left) z e in
    let none = matches_none g v (subst (λ (s : List Symbol). Matches g.rules s v) o.0 m) in
    inl
    (subst (λ (t : List ℕ). Site g t y) (ap {B = List ℕ} (λ t. t ++ w) (sym none) ∙ sym f)
    (left_site g (right (rule g r)) w y [] r c refl (first refl (name_same (rule g r).left g.start o.1)) l))

start_reached : (g : Grammar) (u : List ℕ) (a : ℕ) → Left g (Name g.start ∷ []) u (Name a) → Reached g u a
start_reached g u a c = go (start_site g u (Name a) c)
  where
    go : Site g u (Name a) ⊎ ((u ≡ []) × (Name a ≡ Name g.start)) → Reached g u a
    go (inl s) = site_reached g u a s
    go (inr p) = first p.0 (name_same a g.start p.1)

-- ---- from replacements to contexts

words_match : (g : Grammar) (u : List ℕ) → Matches g.rules (map Word u) u
words_match g [] = none_matches g
words_match g (w ∷ u) = matches_join g (Word w ∷ []) (map Word u) (w ∷ []) u (word_matches g w) (words_match g u)

left_under : (g : Grammar) (s : List Symbol) (v : List ℕ) (n : Symbol) (w : List ℕ) (y : Symbol) (r : ℕ) → Left g s v n → n ≡ Name (rule g r).left → r < length g.rules → Left g (right (rule g r)) w y → Left g s (v ++ w) y
left_under g s v n w y r (here x z e m) q l c = below x z v w r (e ∙ ap {B = List Symbol} (λ a. x ++ a ∷ z) q) l m refl c
left_under g s v n w y r (below x z v₁ w₁ r₁ e l₁ m f d) q l c =
    below x z v₁ (w₁ ++ w) r₁ e l₁ m (ap {B = List ℕ} (λ t. t ++ w) f ∙ append_assoc v₁ w₁ w) (left_under g (right (rule g r₁)) w₁ n w y r d q l c)

-- a name in place of what its rule's right side matches
folded : (g : Grammar) (b : List Symbol) (r : ℕ) (y : List Symbol) (v : List ℕ) → r < length g.rules → Matches g.rules (b ++ (right (rule g r) ++ y)) v → Matches g.rules (b ++ Name (rule g r).left ∷ y) v
folded g b r y v l m =
    let p = matches_split g b (right (rule g r) ++ y) v m in
    let q = matches_split g (right (rule g r)) y p.1 p.3 in
    subst (λ (t : List ℕ). Matches g.rules (b ++ Name (rule g r).left ∷ y) t) (ap {B = List ℕ} (λ t. p.0 ++ t) q.4 ∙ p.4)
    (matches_join g b (Name (rule g r).left ∷ y) p.0 (q.0 ++ q.1) p.2 (matches_join g (Name (rule g r).left ∷ []) y q.0 q.1 (name_matches g r q.0 l q.2) q.3))

-- before a replacement a symbol has the context that it has after it
placed : (g : Grammar) (s t : List Symbol) (v : List ℕ) (c : Symbol) (x z : List Symbol) → Replaced g s t → t ≡ x ++ c ∷ z → Matches g.rules x v → Left g s v c
placed g s t v c x z p e m = outer (side x c z b (right (rule g r) ++ d) (sym e ∙ p.to))
  where
    b : List Symbol
    b = p.before

    d : List Symbol
    d = p.after

    r : ℕ
    r = p.by

    n : Symbol
    n = Name (rule g r).left

    inner : (y : List Symbol) → x ≡ b ++ y → Side y c z (right (rule g r)) d → Left g s v c
    inner y q (in_left y₁ q₁ q₂) =
        let h = matches_split g b y v (subst (λ (a : List Symbol). Matches g.rules a v) q m) in
        below b d h.0 h.1 r p.from p.listed h.2 (sym h.4) (here y y₁ q₁ h.3)
    inner y q (in_right y₁ q₁ q₂) =
        here (b ++ n ∷ y₁) z (p.from ∙ ap {B = List Symbol} (λ a. b ++ n ∷ a) q₂ ∙ sym (append_assoc b (n ∷ y₁) (c ∷ z)))
        (folded g b r y₁ v p.listed (subst (λ (a : List Symbol). Matches g.rules a v) (q ∙ ap {B = List Symbol} (λ a. b ++ a) q₁) m))

    outer : Side x c z b (right (rule g r) ++ d) → Left g s v c
    outer (in_left y q₁ q₂) = here x (y ++ n ∷ d) (p.from ∙ ap {B = List Symbol} (λ a. a ++ n ∷ d) q₁ ∙ append_assoc x (c ∷ y) (n ∷ d)) m
    outer (in_right y q₁ q₂) = inner y q₁ (side y c z (right (rule g r)) d (sym q₂))

left_replaced : (g : Grammar) (s t : List Symbol) (u : List ℕ) (y : Symbol) → Replaced g s t → Left g t u y → Left g s u y
left_replaced g s t u y p (here x z e m) = placed g s t u y x z p e m
left_replaced g s t u y p (below x z v w r e l m f c) =
    subst (λ (a : List ℕ). Left g s a y) (sym f) (left_under g s v (Name (rule g r).left) w y r (placed g s t v (Name (rule g r).left) x z p e m) refl l c)

becomes_left : (g : Grammar) (s t : List Symbol) (u : List ℕ) (y : Symbol) (rest : List Symbol) → Becomes g s t → t ≡ map Word u ++ y ∷ rest → Left g s u y
becomes_left g s t u y rest same e = here (map Word u) rest e (words_match g u)
becomes_left g s t u y rest (then {t = q} p b) e = left_replaced g s q u y p (becomes_left g q t u y rest b e)

pub follows_reached : (g : Grammar) (u : List ℕ) (a : ℕ) → Follows g u a → Reached g u a
follows_reached g u a h = start_reached g u a (becomes_left g (Name g.start ∷ []) (map Word u ++ Name a ∷ h.0) u (Name a) h.0 h.1 refl)

-- ---- from contexts to replacements

becomes_then : (g : Grammar) (s t u : List Symbol) → Becomes g s t → Becomes g t u → Becomes g s u
becomes_then g s t u same b = b
becomes_then g s t u (then {t = q} p a) b = then p (becomes_then g q t u a b)

replaced_after : (g : Grammar) (x s t : List Symbol) → Replaced g s t → Replaced g (x ++ s) (x ++ t)
replaced_after g x s t p = record {
  before = x ++ p.before;
  after = p.after;
  by = p.by;
  listed = p.listed;
  from = ap {B = List Symbol} (λ a. x ++ a) p.from ∙ sym (append_assoc x p.before (Name (rule g p.by).left ∷ p.after));
  to = ap {B = List Symbol} (λ a. x ++ a) p.to ∙ sym (append_assoc x p.before (right (rule g p.by) ++ p.after));
}

replaced_before : (g : Grammar) (s t z : List Symbol) → Replaced g s t → Replaced g (s ++ z) (t ++ z)
replaced_before g s t z p = record {
  before = p.before;
  after = p.after ++ z;
  by = p.by;
  listed = p.listed;
  from = ap {B = List Symbol} (λ a. a ++ z) p.from ∙ append_assoc p.before (Name (rule g p.by).left ∷ p.after) z;
  to =
      ap {B = List Symbol} (λ a. a ++ z) p.to ∙ append_assoc p.before (right (rule g p.by) ++ p.after) z
      ∙ ap {B = List Symbol} (λ a. p.before ++ a) (append_assoc (right (rule g p.by)) p.after z);
}

becomes_after : (g : Grammar) (x s t : List Symbol) → Becomes g s t → Becomes g (x ++ s) (x ++ t)
becomes_after g x s t same = same
becomes_after g x s t (then {t = q} p b) = then (replaced_after g x s q p) (becomes_after g x q t b)

becomes_before : (g : Grammar) (s t z : List Symbol) → Becomes g s t → Becomes g (s ++ z) (t ++ z)
becomes_before g s t z same = same
becomes_before g s t z (then {t = q} p b) = then (replaced_before g s q z p) (becomes_before g q t z b)

becomes_to : (g : Grammar) (s t u : List Symbol) → Becomes g s t → t ≡ u → Becomes g s u
becomes_to g s t u b e = subst (λ (a : List Symbol). Becomes g s a) e b

-- symbols become the words that they match
fits_becomes : (g : Grammar) (s : List Symbol) (row : Row) → Fits g.rules s row → Becomes g s (map Word (yield row))
fits_becomes g [] end f = same
fits_becomes g [] (word w rest) f = absurd f
fits_becomes g [] (tree r under rest) f = absurd f
fits_becomes g (Name n ∷ s) end f = absurd f
fits_becomes g (Name n ∷ s) (word w rest) f = absurd f
fits_becomes g (Name n ∷ s) (tree r under rest) f =
    then
    (record { before = []; after = s; by = r; listed = f.0; from = ap {B = List Symbol} (λ a. Name a ∷ s) (sym f.1); to = refl })
    (becomes_then g (right (rule g r) ++ s) (map Word (yield under) ++ s) (map Word (yield under ++ yield rest)) (becomes_before g (right (rule g r)) (map Word (yield under)) s (fits_becomes g (right (rule g r)) under f.2)) (becomes_to g (map Word (yield under) ++ s) (map Word (yield under) ++ map Word (yield rest)) (map Word (yield under ++ yield rest)) (becomes_after g (map Word (yield under)) s (map Word (yield rest)) (fits_becomes g s rest f.3)) (sym (map-append Word (yield under) (yield rest)))))
fits_becomes g (Word v ∷ s) end f = absurd f
fits_becomes g (Word v ∷ s) (word w rest) f =
    becomes_to g (Word v ∷ s) (Word v ∷ map Word (yield rest)) (Word w ∷ map Word (yield rest))
    (becomes_after g (Word v ∷ []) s (map Word (yield rest)) (fits_becomes g s rest f.1))
    (ap {B = List Symbol} (λ a. Word a ∷ map Word (yield rest)) (sym f.0))
fits_becomes g (Word v ∷ s) (tree r under rest) f = absurd f

matches_becomes : (g : Grammar) (s : List Symbol) (u : List ℕ) → Matches g.rules s u → Becomes g s (map Word u)
matches_becomes g s u m = becomes_to g s (map Word (yield m.0)) (map Word u) (fits_becomes g s m.0 m.1) (ap {B = List Symbol} (λ a. map Word a) m.2)

follows_next : (g : Grammar) (u : List ℕ) (a : ℕ) (v w : List ℕ) (r k : ℕ) → Follows g v (rule g r).left → r < length g.rules → At (rule g r) k (Name a) → Matches g.rules (take k (right (rule g r))) w → u ≡ v ++ w → Follows g u a
follows_next g u a v w r k (rest, b) l at m e = (tail ++ rest, becomes_then g (Name g.start ∷ []) (map Word v ++ Name (rule g r).left ∷ rest) (map Word u ++ Name a ∷ (tail ++ rest)) b (then step (becomes_to g (map Word v ++ (right (rule g r) ++ rest)) (map Word v ++ ((map Word w ++ Name a ∷ tail) ++ rest)) (map Word u ++ Name a ∷ (tail ++ rest)) (becomes_after g (map Word v) (right (rule g r) ++ rest) ((map Word w ++ Name a ∷ tail) ++ rest) (becomes_before g (right (rule g r)) (map Word w ++ Name a ∷ tail) rest inside)) joined)))
  where
    tail : List Symbol
    tail = drop (suc k) (right (rule g r))

    step : Replaced g (map Word v ++ Name (rule g r).left ∷ rest) (map Word v ++ (right (rule g r) ++ rest))
    step = record { before = map Word v; after = rest; by = r; listed = l; from = refl; to = refl }

    inside : Becomes g (right (rule g r)) (map Word w ++ Name a ∷ tail)
    inside =
        subst (λ (s : List Symbol). Becomes g s (map Word w ++ Name a ∷ tail)) (sym (at_split (rule g r) k (Name a) at))
        (becomes_before g (take k (right (rule g r))) (map Word w) (Name a ∷ tail) (matches_becomes g (take k (right (rule g r))) w m))

    joined : map Word v ++ ((map Word w ++ Name a ∷ tail) ++ rest) ≡ map Word u ++ Name a ∷ (tail ++ rest)
    joined =
        ap {B = List Symbol} (λ s. map Word v ++ s) (append_assoc (map Word w) (Name a ∷ tail) rest)
        ∙ sym (append_assoc (map Word v) (map Word w) (Name a ∷ (tail ++ rest)))
        ∙ ap {B = List Symbol} (λ s. s ++ Name a ∷ (tail ++ rest)) (sym (map-append Word v w) ∙ ap {B = List Symbol} (λ t. map Word t) (sym e))

pub reached_follows : (g : Grammar) (u : List ℕ) (a : ℕ) → Reached g u a → Follows g u a
reached_follows g u a (first e q) = ([], becomes_to g (Name g.start ∷ []) (Name g.start ∷ []) (map Word u ++ Name a ∷ []) same (ap₂ {C = List Symbol} (λ t n. map Word t ++ Name n ∷ []) (sym e) (sym q)))
reached_follows g u a (next v w r k h l at m e) = follows_next g u a v w r k (reached_follows g v (rule g r).left h) l at m e
