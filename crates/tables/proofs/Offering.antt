-- Commands, the words that can come next, and the table's cells that show them.
use Rattle.std.proofs.Common.{◌≡◌, ℕ, suc, ◌+◌, ◌<◌, ◌⊎◌, ◌↔◌, List, [], ◌∷◌, ◌++◌, length, take, drop, sym, refl, ap, ◌∙◌, subst, subst₂, inl, inr, append_assoc, append-nil, arith, length-append}
use mathlib.Core.Logic.{∥∥₁_map, ∥∥₁_elim, ∥∥₁_prop}
use mathlib.Core.List.{head-eq_of_cons-eq, tail-eq_of_cons-eq}
use lib.Seq.{take-length, take-append_seam}
use Rattle.grammar.specs.declared.Symbol.{Symbol}
use Rattle.grammar.specs.declared.Symbol.TheVariants.{Name, Word}
use Rattle.grammar.specs.Grammar.{Grammar, rule, right}
use Rattle.grammar.specs.Trees.{Row, end, word, tree, yield, Fits, Matches, Derivation, Command, Follows}
use Rattle.tables.specs.Table.{stretch, Offered, At}
use Rattle.tables.specs.Steps.{Productive, Shown}
use Rattle.tables.specs.Contexts.{Reached, first, next}
use Rattle.tables.proofs.Rows.{matches_join, none_matches, word_matches, name_matches, name_matched, Rooted, at_split, at_from_split, take_stretch, stretch_seam}
use Rattle.tables.proofs.Contexts.{Side, in_left, in_right, side, Left, here, below, Site, start_site, name_word, follows_reached, reached_follows, no_split}

-- ---- a command is what a rule of the start matches

abbrev Whole : Grammar → List ℕ → Type 0
Whole g ws = Rooted g g.start ws

whole_derived : (g : Grammar) (ws : List ℕ) → Whole g ws → Derivation g ws
whole_derived g ws h = subst (λ (a : ℕ). Matches g.rules (Name a ∷ []) ws) h.left (name_matches g h.by ws h.listed h.matches)

pub command_whole : (g : Grammar) (ws : List ℕ) → Command g ws ↔ ∥ Whole g ws ∥₁
command_whole g ws = (
  λ c. ∥∥₁_map c (name_matched g g.start ws),
  λ c. ∥∥₁_map c (whole_derived g ws),
)

-- ---- the symbol that makes a given word

cons_left : (g : Grammar) (c : Symbol) (s : List Symbol) (v u : List ℕ) (y : Symbol) → Matches g.rules (c ∷ []) v → Left g s u y → Left g (c ∷ s) (v ++ u) y
cons_left g c s v u y n (here x z e m) = here (c ∷ x) z (ap {B = List Symbol} (λ a. c ∷ a) e) (matches_join g (c ∷ []) x v u n m)
cons_left g c s v u y n (below x z v₁ w r e l m f d) =
    below (c ∷ x) z (v ++ v₁) w r (ap {B = List Symbol} (λ a. c ∷ a) e) l (matches_join g (c ∷ []) x v v₁ n m) (ap {B = List ℕ} (λ a. v ++ a) f ∙ sym (append_assoc v v₁ w)) d

-- each word of a row's yield stands there by a symbol
leaf : (g : Grammar) (s : List Symbol) (row : Row) → Fits g.rules s row → (u : List ℕ) (w : ℕ) (more : List ℕ) → yield row ≡ u ++ w ∷ more → Left g s u (Word w)
leaf g [] end f u w more e = absurd (no_split u w more e)
leaf g [] (word x rest) f u w more e = absurd f
leaf g [] (tree r under rest) f u w more e = absurd f
leaf g (Name n ∷ s) end f u w more e = absurd f
leaf g (Name n ∷ s) (word x rest) f u w more e = absurd f
leaf g (Name n ∷ s) (tree r under rest) f u w more e = go (leaf g (right (rule g r)) under f.2) (leaf g s rest f.3) (side u w more (yield under) (yield rest) (sym e))
  where
    go : ((u₁ : List ℕ) (w₁ : ℕ) (more₁ : List ℕ) → yield under ≡ u₁ ++ w₁ ∷ more₁ → Left g (right (rule g r)) u₁ (Word w₁)) → ((u₁ : List ℕ) (w₁ : ℕ) (more₁ : List ℕ) → yield rest ≡ u₁ ++ w₁ ∷ more₁ → Left g s u₁ (Word w₁)) → Side u w more (yield under) (yield rest) → Left g (Name n ∷ s) u (Word w)
    go a b (in_left y p q) = below [] s [] u r (ap {B = List Symbol} (λ c. Name c ∷ s) (sym f.1)) f.0 (none_matches g) refl (a u w y p)
    go a b (in_right y p q) =
        subst (λ (t : List ℕ). Left g (Name n ∷ s) t (Word w)) (sym p)
        (cons_left g (Name n) s (yield under) y (Word w) (tree r under end, (f.0, f.1, f.2, tt), append-nil (yield under)) (b y w more q))
leaf g (Word v ∷ s) end f u w more e = absurd f
leaf g (Word v ∷ s) (word x rest) f [] w more e = here [] s (ap {B = List Symbol} (λ a. Word a ∷ s) (sym f.0 ∙ head-eq_of_cons-eq e)) (none_matches g)
leaf g (Word v ∷ s) (word x rest) f (c ∷ u) w more e =
    cons_left g (Word v) s (c ∷ []) u (Word w) (subst (λ (a : ℕ). Matches g.rules (Word v ∷ []) (a ∷ [])) (sym f.0 ∙ head-eq_of_cons-eq e) (word_matches g v))
    (leaf g s rest f.1 u w more (tail-eq_of_cons-eq e))
leaf g (Word v ∷ s) (tree r under rest) f u w more e = absurd f

-- the symbol that makes the first word after the given ones
site_of_derivation : (g : Grammar) (ws : List ℕ) (w : ℕ) (more : List ℕ) → Derivation g (ws ++ w ∷ more) → Site g ws (Word w)
site_of_derivation g ws w more d = go (start_site g ws (Word w) (leaf g (Name g.start ∷ []) d.0 d.1 ws w more d.2))
  where
    go : Site g ws (Word w) ⊎ ((ws ≡ []) × (Word w ≡ Name g.start)) → Site g ws (Word w)
    go (inl s) = s
    go (inr p) = absurd (name_word g.start w (sym p.1))

-- ---- sites and cells

site_shown : (g : Grammar) (ws : List ℕ) (y : Symbol) → Site g ws y → Shown g ws y
site_shown g ws y s =
    let total : length ws ≡ length s.before + length s.inside = ap length s.whole ∙ length-append s.before s.inside in
    record {
      from = length s.before;
      by = s.by;
      dot = s.dot;
      stands = record {
        ordered = omega arith;
        within = omega arith;
        listed = s.listed;
        dot = omega (arith, s.at.0);
        follows =
            ∣ subst (λ (t : List ℕ). Follows g t (rule g s.by).left) (sym (ap (λ (x : List ℕ). take (length s.before) x) s.whole ∙ take-append_seam s.before s.inside)) (reached_follows g s.before (rule g s.by).left s.reached) ∣₁;
        matches = ∣ subst (λ (t : List ℕ). Matches g.rules (take s.dot (right (rule g s.by))) t) (sym (stretch_seam s.before s.inside ws s.whole)) s.matches ∣₁;
      };
      at = s.at;
    }

-- every word offered is shown by a cell of the last column
pub offered_shown : (g : Grammar) (ws : List ℕ) (w : ℕ) → Offered g ws w → ∥ Shown g ws (Word w) ∥₁
offered_shown g ws w o = ∥∥₁_elim o ∥∥₁_prop (λ d. ∥∥₁_map d.1 (λ c. site_shown g ws (Word w) (site_of_derivation g ws w d.0 c)))

-- ---- the other way, where each name has a tree

tail_matches : (g : Grammar) → Productive g → (r : ℕ) → r < length g.rules → (x s : List Symbol) → right (rule g r) ≡ x ++ s → ∥ ((v : List ℕ) × Matches g.rules s v) ∥₁
tail_matches g h r l x [] e = ∣ ([], none_matches g) ∣₁
tail_matches g h r l x (Name b ∷ s) e =
    ∥∥₁_elim (h r (length x) b l (at_from_split (rule g r) x (Name b) s e).0) ∥∥₁_prop
    (λ t. ∥∥₁_map {B = (v : List ℕ) × Matches g.rules (Name b ∷ s) v} (tail_matches g h r l (x ++ Name b ∷ []) s (e ∙ sym (append_assoc x (Name b ∷ []) s))) (λ n. (yield t.0 ++ n.0, matches_join g (Name b ∷ []) s (yield t.0) n.0 (t.0, t.1, refl) n.1)))
tail_matches g h r l x (Word w ∷ s) e =
    ∥∥₁_map {B = (v : List ℕ) × Matches g.rules (Word w ∷ s) v} (tail_matches g h r l (x ++ Word w ∷ []) s (e ∙ sym (append_assoc x (Word w ∷ []) s)))
    (λ n. (w ∷ n.0, matches_join g (Word w ∷ []) s (w ∷ []) n.0 (word_matches g w) n.1))

-- the words before a symbol, and then its own, begin what its rule matches
inside : (g : Grammar) → Productive g → (r k : ℕ) (y : Symbol) (v w : List ℕ) → r < length g.rules → At (rule g r) k y → Matches g.rules (take k (right (rule g r))) v → Matches g.rules (y ∷ []) w → ∥ ((more : List ℕ) × Matches g.rules (right (rule g r)) (v ++ (w ++ more))) ∥₁
inside g h r k y v w l at m n =
    let s = right (rule g r) in
    let e : s ≡ take k s ++ y ∷ drop (suc k) s = at_split (rule g r) k y at in
    ∥∥₁_map {B = (more : List ℕ) × Matches g.rules s (v ++ (w ++ more))} (tail_matches g h r l (take k s ++ y ∷ []) (drop (suc k) s) (e ∙ sym (append_assoc (take k s) (y ∷ []) (drop (suc k) s))))
    (λ z. (z.0, subst (λ (a : List Symbol). Matches g.rules a (v ++ (w ++ z.0))) (sym e) (matches_join g (take k s) (y ∷ drop (suc k) s) v (w ++ z.0) m (matches_join g (y ∷ []) (drop (suc k) s) w z.0 n z.1))))

-- the words after those before a name can be made a command, whatever the name matches
abbrev Opens : Grammar → List ℕ → ℕ → Type 0
Opens g u a = (w : List ℕ) → Matches g.rules (Name a ∷ []) w → ∥ ((more : List ℕ) × Derivation g (u ++ (w ++ more))) ∥₁

regroup : (v x w z t : List ℕ) → v ++ ((x ++ (w ++ z)) ++ t) ≡ v ++ x ++ (w ++ (z ++ t))
regroup v x w z t =
    ap {B = List ℕ} (λ a. v ++ a) (append_assoc x (w ++ z) t ∙ ap {B = List ℕ} (λ a. x ++ a) (append_assoc w z t)) ∙ sym (append_assoc v x (w ++ (z ++ t)))

opens_symbol : (g : Grammar) → Productive g → (v : List ℕ) (r k : ℕ) (y : Symbol) (x w : List ℕ) → Opens g v (rule g r).left → r < length g.rules → At (rule g r) k y → Matches g.rules (take k (right (rule g r))) x → Matches g.rules (y ∷ []) w → ∥ ((more : List ℕ) × Derivation g (v ++ x ++ (w ++ more))) ∥₁
opens_symbol g h v r k y x w o l at n m =
    ∥∥₁_elim (inside g h r k y x w l at n m) ∥∥₁_prop
    (λ z. ∥∥₁_map {B = (more : List ℕ) × Derivation g (v ++ x ++ (w ++ more))} (o (x ++ (w ++ z.0)) (name_matches g r (x ++ (w ++ z.0)) l z.1))
    (λ t. (z.0 ++ t.0, subst (λ (a : List ℕ). Derivation g a) (regroup v x w z.0 t.0) t.1)))

reached_opens : (g : Grammar) → Productive g → (u : List ℕ) (a : ℕ) → Reached g u a → Opens g u a
reached_opens g h u a (first e q) w m =
    ∣ ([], subst₂ (λ (b : ℕ) (t : List ℕ). Matches g.rules (Name b ∷ []) t) q (sym (append-nil w) ∙ ap {B = List ℕ} (λ t. t ++ (w ++ [])) (sym e)) m) ∣₁
reached_opens g h u a (next v x r k c l at n e) w m =
    subst (λ (t : List ℕ). ∥ ((more : List ℕ) × Derivation g (t ++ (w ++ more))) ∥₁) (sym e) (opens_symbol g h v r k (Name a) x w (reached_opens g h v (rule g r).left c) l at n m)

-- every word that a cell of the last column shows is offered
pub shown_offered : (g : Grammar) → Productive g → (ws : List ℕ) (w : ℕ) → Shown g ws (Word w) → Offered g ws w
shown_offered g h ws w s =
    ∥∥₁_elim s.stands.follows ∥∥₁_prop
    (λ f. ∥∥₁_elim s.stands.matches ∥∥₁_prop
    (λ m. ∥∥₁_map {B = (more : List ℕ) × Command g (ws ++ (w ∷ more))} (opens_symbol g h (take i ws) s.by s.dot (Word w) (stretch i (length ws) ws) (w ∷ []) (reached_opens g h (take i ws) (rule g s.by).left (follows_reached g (take i ws) (rule g s.by).left f)) s.stands.listed s.at m (word_matches g w))
    (λ t. (t.0, ∣ subst (λ (a : List ℕ). Derivation g (a ++ (w ∷ t.0))) (take_stretch i (length ws) ws s.stands.ordered ∙ take-length ws) t.1 ∣₁))))
  where
    i : ℕ
    i = s.from
