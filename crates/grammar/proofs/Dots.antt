-- The dotted places of one rule, and of one rule more.
use Rattle.std.proofs.Common.{◌≡◌, ℕ, zero, suc, ◌+◌, ◌<◌, ◌≤◌, List, [], ◌∷◌, ◌++◌, length, get_or, take, drop, sym, refl, ap, ◌∙◌, subst, ap₂, add-one, arith, length-append, length-take}
use Rattle.std.proofs.lemmas.List.{append-nil, append_assoc, take_all, take_more}
use Rattle.grammar.specs.declared.Symbol.{Symbol}
use Rattle.grammar.specs.declared.Rule.{Rule}
use Rattle.grammar.specs.declared.masks.Masks.{Masks}
use Rattle.grammar.specs.Grammar.{no_rule, right, places}
use Rattle.grammar.specs.Dotted.{Place, dots, dotted}
use Rattle.grammar.specs.Masked.{Masked}
use Rattle.grammar.specs.inner.Marking.{Held, Grown, spot}
use Rattle.grammar.proofs.Places.{places_more, places_front}
use Rattle.grammar.proofs.Masking.{held_more}

pub length_dots : (a : ℕ) (before s : List Symbol) → length (dots a before s) ≡ suc (length s)
length_dots a before [] = refl
length_dots a before (x ∷ s) = ap suc (length_dots a (before ++ (x ∷ [])) s)

placed : ℕ → List Symbol → List Symbol → Place
placed a before after = record { left = a; before = before; after = after }

-- one place more of a rule
dots_more : (a : ℕ) (before s : List Symbol) (k : ℕ) → k ≤ length s
    → take (suc k) (dots a before s) ≡ take k (dots a before s) ++ (record { left = a; before = before ++ take k s; after = drop k s } ∷ [])
unfolding placed
dots_more a before [] zero h = ap (λ b. placed a b [] ∷ []) (sym (append-nil before))
dots_more a before [] (suc k) h = absurd (omega arith)
dots_more a before (x ∷ s) zero h = ap (λ b. placed a b (x ∷ s) ∷ []) (sym (append-nil before))
dots_more a before (x ∷ s) (suc k) h =
    ap (λ ps. placed a before (x ∷ s) ∷ ps)
    (dots_more a (before ++ (x ∷ [])) s k (omega arith)
    ∙ ap (λ b. take k (dots a (before ++ (x ∷ [])) s) ++ (placed a b (drop k s) ∷ [])) (append_assoc before (x ∷ []) (take k s)))

module _ (p : Rule) (before : List Place) (set : ℕ) where
  -- the first k places of the rule, after those before it
  abbrev pub upto : ℕ → List Place
  upto k = before ++ take k (dots p.left [] (right p))

  pub upto_none : (m : Masks) → Held before set m → Held (upto 0) set m
  upto_none m h = subst (λ ps. Held ps set m) (sym (append-nil before)) h

  pub upto_more : (start k : ℕ) (m n : Masks) → length before ≡ start → k ≤ length (right p) → Held (upto k) set m → Grown (spot p k) (start + k) set m n → Held (upto (k + 1)) set n
  upto_more start k m n l h held grown =
      let long = length_dots p.left [] (right p) in
      let sum : start + k ≡ length (upto k) = sym (length-append before (take k (dots p.left [] (right p))) ∙ ap₂ ◌+◌ l (simp length-take (omega arith))) in
      let one : upto (k + 1) ≡ upto k ++ (spot p k ∷ []) =
      rw add-one (ap (λ ps. before ++ ps) (dots_more p.left [] (right p) k h) ∙ sym (append_assoc before (take k (dots p.left [] (right p))) (spot p k ∷ []))) in
      subst (λ ps. Held ps set n) (sym one) (held_more (upto k) (spot p k) set m n held (subst (λ at. Grown (spot p k) at set m n) sum grown))

  pub upto_all : (k : ℕ) (m : Masks) → length (right p) < k → Held (upto k) set m → Held (before ++ dots p.left [] (right p)) set m
  upto_all k m h held =
      let long = length_dots p.left [] (right p) in
      subst (λ ps. Held (before ++ ps) set m) (take_all k (dots p.left [] (right p)) (omega arith)) held

-- the places of one rule more
dotted_append : (xs ys : List Rule) → dotted (xs ++ ys) ≡ dotted xs ++ dotted ys
dotted_append [] ys = refl
dotted_append (x ∷ xs) ys =
    ap (λ ps. dots x.left [] (right x) ++ ps) (dotted_append xs ys) ∙ sym (append_assoc (dots x.left [] (right x)) (dotted xs) (dotted ys))

module _ (rules : List Rule) (i : ℕ) (listed : i < length rules) where
  dotted_more : dotted (take (i + 1) rules) ≡ dotted (take i rules) ++ dots (get_or rules i no_rule).left [] (right (get_or rules i no_rule))
  dotted_more =
      ap dotted (take_more rules i no_rule listed)
      ∙ dotted_append (take i rules) (get_or rules i no_rule ∷ [])
      ∙ ap (λ ps. dotted (take i rules) ++ ps) (append-nil (dots (get_or rules i no_rule).left [] (right (get_or rules i no_rule))))

  pub held_rule : (set : ℕ) (m : Masks) → Held (dotted (take i rules) ++ dots (get_or rules i no_rule).left [] (right (get_or rules i no_rule))) set m → Held (dotted (take (i + 1) rules)) set m
  held_rule set m h = subst (λ ps. Held ps set m) (sym dotted_more) h

  pub length_rule : (start : ℕ) → length (dotted (take i rules)) ≡ start → length (right (get_or rules i no_rule)) ≡ (get_or rules i no_rule).len
      → length (dotted (take (i + 1) rules)) ≡ start + ((get_or rules i no_rule).len + 1)
  length_rule start e w =
      let long = length_dots (get_or rules i no_rule).left [] (right (get_or rules i no_rule)) in
      ap length dotted_more ∙ length-append (dotted (take i rules)) (dots (get_or rules i no_rule).left [] (right (get_or rules i no_rule))) ∙ (omega arith)

  pub places_rule : (start : ℕ) → places (take i rules) ≡ start → places (take (i + 1) rules) ≡ start + ((get_or rules i no_rule).len + 1)
  places_rule start e = rw (add-one i) (let f = places_more rules i listed in omega arith)

  pub room_rule : (start : ℕ) → places (take i rules) ≡ start → places rules ≤ 256 → start + (get_or rules i no_rule).len < 256
  room_rule start e l = omega (arith, places_more rules i listed, places_front rules (suc i))

-- once every rule is in, there are as many places as the rules say
pub fitting : (rules : List Rule) (i start : ℕ) → length rules ≤ i → places (take i rules) ≡ start → length (dotted (take i rules)) ≡ start → places rules ≤ 256 → length (dotted rules) ≤ 256
fitting rules i start h p d l =
    let all = take_all i rules h in
    let e = ap places all in
    let f = ap (λ rs. length (dotted rs)) all in
    omega arith

pub masked : (rules : List Rule) (i set : ℕ) (m : Masks) → length rules ≤ i → Held (dotted (take i rules)) set m → Masked rules set m
masked rules i set m h held =
    let all = subst (λ rs. Held (dotted rs) set m) (take_all i rules h) held in
    record { names = all.names; words = all.words; first = all.first; last = all.last; nullable = all.nullable }
