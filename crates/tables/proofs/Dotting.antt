-- A dotted place by its rule and its dot, and by its position among all.
use Rattle.std.proofs.Common.{◌≡◌, ℕ, zero, suc, ◌+◌, ◌-◌, ◌<◌, ◌≤◌, Bool, true, false, List, [], ◌∷◌, ◌++◌, map, length, get_or, take, drop, None, Option, sym, refl, ap, ◌∙◌, subst, ⊎_elim, zero-add, arith, length-append}
use lib.ListN.{length-map}
use borrow.Author.Tests.{clash}
use Rattle.std.proofs.lemmas.List.{append-nil, append_assoc, get_or_append_left, get_or-append-add, get_or-map, get_or_past}
use Rattle.std.proofs.lemmas.Bool.{cases_lt}
use Rattle.grammar.specs.declared.Symbol.{Symbol}
use Rattle.grammar.specs.declared.Rule.{Rule}
use Rattle.grammar.specs.Grammar.{no_rule, right}
use Rattle.grammar.specs.Dotted.{Place, dots, dotted, key_at}
use Rattle.grammar.specs.inner.Marking.{spot}
use Rattle.grammar.proofs.Dots.{length_dots}
use Rattle.tables.specs.Columns.{first_place}
use Rattle.tables.proofs.Placing.{place_below}

dots_at : (a : ℕ) (before s : List Symbol) (k : ℕ) (o : Place) → k ≤ length s → get_or (dots a before s) k o ≡ record { left = a; before = before ++ take k s; after = drop k s }
dots_at a before [] zero o h = ap {B = Place} (λ b. record { left = a; before = b; after = [] }) (sym (append-nil before))
dots_at a before [] (suc k) o h = absurd (omega arith)
dots_at a before (x ∷ s) zero o h = ap {B = Place} (λ b. record { left = a; before = b; after = x ∷ s }) (sym (append-nil before))
dots_at a before (x ∷ s) (suc k) o h =
    dots_at a (before ++ (x ∷ [])) s k o (omega arith)
    ∙ ap {B = Place} (λ b. record { left = a; before = b; after = drop k s }) (append_assoc before (x ∷ []) (take k s))

-- the place of rule r after k symbols
dotted_at : (rules : List Rule) (r k : ℕ) (o : Place) → r < length rules → k ≤ length (right (get_or rules r no_rule)) → get_or (dotted rules) (first_place rules r + k) o ≡ spot (get_or rules r no_rule) k
dotted_at [] r k o h l = absurd (omega arith)
dotted_at (p ∷ ps) zero k o h l =
    let ds = dots p.left [] (right p) in
    ap (λ n. get_or (ds ++ dotted ps) n o) (zero-add k)
    ∙ get_or_append_left ds (dotted ps) o k (omega (arith, length_dots p.left [] (right p)))
    ∙ dots_at p.left [] (right p) k o l
dotted_at (p ∷ ps) (suc r) k o h l =
    let ds = dots p.left [] (right p) in
    let long = length_dots p.left [] (right p) in
    let e : suc (length (right p)) + first_place ps r + k ≡ length ds + (first_place ps r + k) = omega arith in
    ap (λ n. get_or (ds ++ dotted ps) n o) e ∙ get_or-append-add ds (dotted ps) (first_place ps r + k) o ∙ dotted_at ps r k o (omega arith) l

-- there are as many places as the rules have
pub length_dotted : (rules : List Rule) → length (dotted rules) ≡ first_place rules (length rules)
length_dotted [] = refl
length_dotted (p ∷ ps) =
    let rest = length_dotted ps in
    let long = length_dots p.left [] (right p) in
    length-append (dots p.left [] (right p)) (dotted ps) ∙ (omega arith)

-- the rule and the dot of place d
pub record Found (rules : List Rule) (d : ℕ) : Type 0 where
  pub by : ℕ
  pub dot : ℕ
  pub listed : by < length rules
  pub within : dot ≤ length (right (get_or rules by no_rule))
  pub is : d ≡ first_place rules by + dot

found : (rules : List Rule) (d : ℕ) → d < first_place rules (length rules) → Found rules d
found [] d h = absurd (omega arith)
found (p ∷ ps) d h =
    ⊎_elim
    (λ (l : d < suc (length (right p))). record { by = 0; dot = d; listed = omega arith; within = omega arith; is = omega arith })
    (λ (l : suc (length (right p)) ≤ d).
    let f = found ps (d - suc (length (right p))) (omega arith) in
    record { by = suc f.by; dot = f.dot; listed = omega (arith, f.listed); within = f.within; is = omega (arith, f.is) })
    (cases_lt d (suc (length (right p))))

module _ (key : Place → Option ℕ) (rules : List Rule) where
  -- what the key is at the place of rule r after k symbols
  pub key_in : (r k : ℕ) → r < length rules → k ≤ length (right (get_or rules r no_rule)) → key_at key rules (first_place rules r + k) ≡ key (spot (get_or rules r no_rule) k)
  key_in r k h l =
      let o = spot no_rule 0 in
      let low : first_place rules r + k < length (dotted rules) = omega (arith, length_dotted rules, place_below rules r k h l) in
      get_or-map key (dotted rules) (first_place rules r + k) o None low ∙ ap key (dotted_at rules r k o h l)

  -- a place whose key passes a test is that of some rule and dot, and so their key does
  pub key_of : (test : Option ℕ → Bool) → test None ≡ false → (d : ℕ) → test (key_at key rules d) ≡ true → (f : Found rules d) × (test (key (spot (get_or rules f.by no_rule) f.dot)) ≡ true)
  key_of test none d e =
      ⊎_elim
      (λ (l : d < first_place rules (length rules)).
      let f = found rules d l in
      (f, ap test (sym (key_in f.by f.dot f.listed f.within)) ∙ subst (λ (n : ℕ). test (key_at key rules n) ≡ true) f.is e))
      (λ (l : first_place rules (length rules) ≤ d).
      let past : length (map key (dotted rules)) ≤ d = omega (arith, length-map (dotted rules) key, length_dotted rules) in
      absurd (clash (sym none ∙ ap test (sym (get_or_past (map key (dotted rules)) d None past)) ∙ e)))
      (cases_lt d (first_place rules (length rules)))
