-- What grammars that are alike mean: left names and right sides decide it. Assumes nothing.
use Rattle.std.proofs.Common.{◌≡◌, ℕ, zero, suc, ◌+◌, ◌<◌, ◌≤◌, true, List, [], ◌∷◌, ◌++◌, map, length, get_or, take, sym, refl, ap, ◌∙◌, subst}
use mathlib.Core.Logic.{∥∥₁_map}
use lib.ListN.{get_or-map}
use Rattle.std.proofs.lemmas.List.{length-map}
use Rattle.items.specs.Members.{member}
use Rattle.grammar.specs.declared.Symbol.{Symbol}
use Rattle.grammar.specs.declared.Symbol.TheVariants.{Name, Word}
use Rattle.grammar.specs.declared.Rule.{Rule}
use Rattle.grammar.specs.Grammar.{Grammar, no_rule, rule, right}
use Rattle.grammar.specs.Trees.{Matches, Command, Replaced, Becomes, same, then, Follows}
use Rattle.grammar.specs.View.{Plain, plain}
use Rattle.grammar.proofs.Plains.{fits_plain}
use Rattle.tables.specs.Table.{stretch, Stands, Offered}
use Rattle.tables.specs.Columns.{first_place, cell_of, Column}

-- first places, by plain rules
firsts : List Plain → ℕ → ℕ
firsts [] r = 0
firsts (p ∷ ps) zero = 0
firsts (p ∷ ps) (suc r) = suc (length p.right) + firsts ps r

by_plain : (ps : List Rule) (r : ℕ) → first_place ps r ≡ firsts (map plain ps) r
unfolding firsts
by_plain [] r = refl
by_plain (p ∷ ps) zero = refl
by_plain (p ∷ ps) (suc r) = ap (λ n. suc (length (right p)) + n) (by_plain ps r)

module _ (g h : Grammar) (rules : map plain g.rules ≡ map plain h.rules) where
  pub count : length g.rules ≡ length h.rules
  count = sym (length-map g.rules plain) ∙ ap length rules ∙ length-map h.rules plain

  pub at : (r : ℕ) → plain (rule g r) ≡ plain (rule h r)
  at r = sym (get_or-map plain g.rules r no_rule) ∙ ap (λ ps. get_or ps r (plain no_rule)) rules ∙ get_or-map plain h.rules r no_rule

  pub first_at : (r : ℕ) → first_place g.rules r ≡ first_place h.rules r
  first_at r = by_plain g.rules r ∙ ap (λ ps. firsts ps r) rules ∙ sym (by_plain h.rules r)

  replaced : (x y : List Symbol) → Replaced g x y → Replaced h x y
  replaced x y p = record {
    before = p.before;
    after = p.after;
    by = p.by;
    listed = subst (λ n. p.by < n) count p.listed;
    from = p.from ∙ ap (λ a. p.before ++ (Name a.left ∷ p.after)) (at p.by);
    to = p.to ∙ ap (λ a. p.before ++ (a.right ++ p.after)) (at p.by);
  }

  becomes : {x y : List Symbol} → Becomes g x y → Becomes h x y
  becomes same = same
  becomes (then p q) = then (replaced _ _ p) (becomes q)

  matches : (zs : List Symbol) (ws : List ℕ) → Matches g.rules zs ws → Matches h.rules zs ws
  matches zs ws m = (m.0, fits_plain g.rules h.rules rules zs m.0 m.1, m.2)

module _ (g h : Grammar) (rules : map plain g.rules ≡ map plain h.rules) (start : g.start ≡ h.start) where
  follows : (ws : List ℕ) (a : ℕ) → Follows g ws a → Follows h ws a
  follows ws a f = (f.0, subst (λ n. Becomes h (Name n ∷ []) (map Word ws ++ (Name a ∷ f.0))) start (becomes g h rules f.1))

  command : (ws : List ℕ) → Command g ws → Command h ws
  command ws c = ∥∥₁_map c (λ d. subst (λ n. Matches h.rules (Name n ∷ []) ws) start (matches g h rules (Name g.start ∷ []) ws d))

  pub offered_alike : (ws : List ℕ) (w : ℕ) → Offered g ws w → Offered h ws w
  offered_alike ws w o = ∥∥₁_map o (λ x. (x.0, command (ws ++ (w ∷ x.0)) x.1))

  pub stands_alike : (ws : List ℕ) (i j r k : ℕ) → Stands g ws i j r k → Stands h ws i j r k
  stands_alike ws i j r k p = record {
    ordered = p.ordered;
    within = p.within;
    listed = subst (λ n. r < n) (count g h rules) p.listed;
    dot = subst (λ (q : Plain). k ≤ length q.right) (at g h rules r) p.dot;
    follows = ∥∥₁_map p.follows (λ f. subst (λ (q : Plain). Follows h (take i ws) q.left) (at g h rules r) (follows (take i ws) (rule g r).left f));
    matches = ∥∥₁_map p.matches
        (λ m. subst (λ (q : Plain). Matches h.rules (take k q.right) (stretch i j ws)) (at g h rules r) (matches g h rules (take k (right (rule g r))) (stretch i j ws) m));
  }

pub column_alike : (g h : Grammar) → map plain g.rules ≡ map plain h.rules → g.start ≡ h.start → (ws table : List ℕ) (m : ℕ) → Column g ws table m → Column h ws table m
column_alike g h rules start ws table m c = record {
  only = λ i low d few has. let p = c.only i low d few has in record {
    by = p.by;
    dot = p.dot;
    is = p.is ∙ ap (λ n. n + p.dot) (first_at g h rules p.by);
    stands = stands_alike g h rules start ws i m p.by p.dot p.stands;
  };
  holds = λ i r k stands.
      subst (λ n. member (cell_of table i m) (n + k) ≡ true) (first_at g h rules r)
      (c.holds i r k (stands_alike h g (sym rules) (sym start) ws i m r k stands));
}
