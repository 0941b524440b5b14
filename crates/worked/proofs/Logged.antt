-- A log of dotted rules, each justified by those logged before it: all of them stand.
use Rattle.std.proofs.Common.{◌≡◌, ℕ, zero, suc, ◌<◌, Bool, true, false, ◌&&◌, ◌||◌, eqb, ltb, List, [], ◌∷◌, map, length, get_or, Some, None, Option, sym, refl, ap, ◌∙◌, subst, subst₂, ⊎_elim, arith}
use Rattle.std.proofs.lemmas.Bool.{and_parts, or_cases, or_left, or_right, eqb-true, eq-eqb, and_from, ltb-true, false≢true}
use Rattle.grammar.specs.declared.Symbol.{Symbol}
use Rattle.grammar.specs.declared.Symbol.TheVariants.{Name, Word}
use Rattle.grammar.specs.Grammar.{Grammar, rule, right}
use Rattle.grammar.specs.View.{Plain, plain}
use Rattle.tables.specs.Table.{At, Stands}
use Rattle.tables.proofs.Closing.{stands_start, stands_scan, stands_advance, stands_predict}
use Rattle.worked.proofs.Finite.{any}
use Rattle.worked.proofs.Rules.{left_of, right_of, symbol_at, count_is, left_is, length_is, at_from}

-- rule `by` with its dot after `dot` symbols, in cell (from, to)
pub record Entry : Type 0 where
  pub from : ℕ
  pub to : ℕ
  pub by : ℕ
  pub dot : ℕ

abbrev pub entry : ℕ → ℕ → ℕ → ℕ → Entry
entry i j r k = record { from = i; to = j; by = r; dot = k }

abbrev pub same : Entry → Entry → Bool
same a b = eqb a.from b.from && (eqb a.to b.to && (eqb a.by b.by && eqb a.dot b.dot))

pub same_is : (a b : Entry) → same a b ≡ true → a ≡ b
same_is a b h =
    let one = and_parts (eqb a.from b.from) _ h in
    let two = and_parts (eqb a.to b.to) _ one.1 in
    let three = and_parts (eqb a.by b.by) _ two.1 in
    let e₁ = eqb-true a.from b.from one.0 in
    let e₂ = eqb-true a.to b.to two.0 in
    let e₃ = eqb-true a.by b.by three.0 in
    let e₄ = eqb-true a.dot b.dot three.1 in
    let p : entry a.from a.to a.by a.dot ≡ entry b.from b.to b.by b.dot = cc in
    p

pub same_itself : (a : Entry) → same a a ≡ true
same_itself a =
    let itself : (n : ℕ) → eqb n n ≡ true = λ n. eq-eqb n n refl in
    and_from _ _ (itself a.from) (and_from _ _ (itself a.to) (and_from _ _ (itself a.by) (itself a.dot)))

abbrev pub logged : List Entry → Entry → Bool
logged es e = any (same e) es

-- where some entry passes a test, one that does
pub among : (q : Entry → Bool) (es : List Entry) → any q es ≡ true → (e : Entry) × (q e ≡ true) × (logged es e ≡ true)
among q [] h = absurd (false≢true h)
among q (x ∷ es) h =
    ⊎_elim
    (λ (o : q x ≡ true). (x, o, or_left (same x x) (logged es x) (same_itself x)))
    (λ (o : any q es ≡ true). let f = among q es o in (f.0, f.1, or_right (same f.0 x) (logged es f.0) f.2))
    (or_cases (q x) (any q es) h)

-- and where one does, some entry does
pub some : (q : Entry → Bool) (es : List Entry) (e : Entry) → logged es e ≡ true → q e ≡ true → any q es ≡ true
some q [] e l h = absurd (false≢true l)
some q (x ∷ es) e l h =
    ⊎_elim
    (λ (o : same e x ≡ true). or_left (q x) (any q es) (subst (λ (d : Entry). q d ≡ true) (same_is e x o) h))
    (λ (o : logged es e ≡ true). or_right (q x) (any q es) (some q es e o h))
    (or_cases (same e x) (logged es e) l)

-- the symbol is the name b
abbrev pub is_name : Option Symbol → ℕ → Bool
is_name None b = false
is_name (Some (Name a)) b = eqb a b
is_name (Some (Word w)) b = false

pub name_is : (o : Option Symbol) (b : ℕ) → is_name o b ≡ true → o ≡ Some (Name b)
name_is None b h = absurd (false≢true h)
name_is (Some (Name a)) b h = ap (λ (n : ℕ). Some (Name n)) (eqb-true a b h)
name_is (Some (Word w)) b h = absurd (false≢true h)

-- the entry ends at j, and its dot stands before the name b
abbrev pub awaits : List Plain → ℕ → ℕ → Entry → Bool
awaits ps j b e = eqb e.to j && is_name (symbol_at ps e.by e.dot) b

-- the entry ends at j, and is the name b whole
abbrev pub finishes : List Plain → ℕ → ℕ → Entry → Bool
finishes ps j b e = eqb e.to j && (eqb (left_of ps e.by) b && eqb e.dot (length (right_of ps e.by)))

-- the dot may pass the symbol, as the log has it
abbrev pub passes : List Plain → List ℕ → List Entry → ℕ → ℕ → ℕ → ℕ → Option Symbol → Bool
passes ps ws es i j r k None = false
passes ps ws es i zero r k (Some (Word w)) = false
passes ps ws es i (suc m) r k (Some (Word w)) = ltb m (length ws) && (eqb w (get_or ws m 0) && logged es (entry i m r k))
passes ps ws es i j r k (Some (Name b)) = any (λ e. finishes ps j b e && logged es (entry i e.from r k)) es

-- rule r may begin at j
abbrev pub begins : List Plain → ℕ → List Entry → ℕ → ℕ → Bool
begins ps start es j r = ltb r (length ps) && ((eqb j 0 && eqb (left_of ps r) start) || any (awaits ps j (left_of ps r)) es)

abbrev pub justified : List Plain → ℕ → List ℕ → List Entry → ℕ → ℕ → ℕ → ℕ → Bool
justified ps start ws es i j r zero = eqb i j && begins ps start es j r
justified ps start ws es i j r (suc k) = passes ps ws es i j r k (symbol_at ps r k)

-- the newest entry first
abbrev pub sound : List Plain → ℕ → List ℕ → List Entry → Bool
sound ps start ws [] = true
sound ps start ws (e ∷ es) = justified ps start ws es e.from e.to e.by e.dot && sound ps start ws es

module _ (g : Grammar) (ps : List Plain) (says : map plain g.rules ≡ ps) (ws : List ℕ) where
  -- the entry stands in the table of the words
  abbrev pub Up : Entry → Type 0
  Up e = Stands g ws e.from e.to e.by e.dot

  module _ (es : List Entry) (up : (e : Entry) → logged es e ≡ true → Up e) where
    over : (i j r k b : ℕ) → symbol_at ps r k ≡ Some (Name b) → any (λ e. finishes ps j b e && logged es (entry i e.from r k)) es ≡ true → Stands g ws i j r (suc k)
    over i j r k b e h =
        let x = among (λ e. finishes ps j b e && logged es (entry i e.from r k)) es h in
        let d : Entry = x.0 in
        let one = and_parts (finishes ps j b d) _ x.1 in
        let two = and_parts (eqb d.to j) _ one.0 in
        let three = and_parts (eqb (left_of ps d.by) b) _ two.1 in
        let whole : d.dot ≡ length (right (rule g d.by)) = eqb-true d.dot _ three.1 ∙ sym (length_is g ps says d.by) in
        let done : Stands g ws d.from j d.by (length (right (rule g d.by))) = subst₂ (λ (a c : ℕ). Stands g ws d.from a d.by c) (eqb-true d.to j two.0) whole (up d x.2) in
        let s = stands_advance g ws i d.from j r k b d.by (up (entry i d.from r k) one.1) (at_from g ps says r k (Name b) e) (left_is g ps says d.by ∙ eqb-true (left_of ps d.by) b three.0) done in
        subst (λ (c : ℕ). Stands g ws i j r c) (omega arith) s

    passes_so : (i j r k : ℕ) (o : Option Symbol) → symbol_at ps r k ≡ o → passes ps ws es i j r k o ≡ true → Stands g ws i j r (suc k)
    passes_so i j r k None e h = absurd (false≢true h)
    passes_so i zero r k (Some (Word w)) e h = absurd (false≢true h)
    passes_so i (suc m) r k (Some (Word w)) e h =
        let one = and_parts (ltb m (length ws)) _ h in
        let two = and_parts (eqb w (get_or ws m 0)) _ one.1 in
        let at : At (rule g r) k (Word w) = at_from g ps says r k (Word w) e in
        let s = stands_scan g ws i m r k (up (entry i m r k) two.1) (ltb-true m (length ws) one.0) (subst (λ (v : ℕ). At (rule g r) k (Word v)) (eqb-true w (get_or ws m 0) two.0) at) in
        subst₂ (λ (a b : ℕ). Stands g ws i a r b) (omega arith) (omega arith) s
    passes_so i zero r k (Some (Name b)) e h = over i zero r k b e h
    passes_so i (suc m) r k (Some (Name b)) e h = over i (suc m) r k b e h

    begins_so : (start j r : ℕ) → start ≡ g.start → begins ps start es j r ≡ true → Stands g ws j j r 0
    begins_so start j r is h =
        let one = and_parts (ltb r (length ps)) _ h in
        let low : r < length g.rules = subst (λ (n : ℕ). r < n) (sym (count_is g ps says)) (ltb-true r (length ps) one.0) in
        ⊎_elim
        (λ (o : (eqb j 0 && eqb (left_of ps r) start) ≡ true).
        let two = and_parts (eqb j 0) (eqb (left_of ps r) start) o in
        subst (λ (n : ℕ). Stands g ws n n r 0) (sym (eqb-true j 0 two.0)) (stands_start g ws r low (left_is g ps says r ∙ eqb-true (left_of ps r) start two.1 ∙ is)))
        (λ (o : any (awaits ps j (left_of ps r)) es ≡ true).
        let x = among (awaits ps j (left_of ps r)) es o in
        let d : Entry = x.0 in
        let two = and_parts (eqb d.to j) _ x.1 in
        subst (λ (n : ℕ). Stands g ws n n r 0) (eqb-true d.to j two.0)
        (stands_predict g ws d.from d.to d.by d.dot (left_of ps r) r (up d x.2) (at_from g ps says d.by d.dot (Name (left_of ps r)) (name_is _ _ two.1)) low (left_is g ps says r)))
        (or_cases (eqb j 0 && eqb (left_of ps r) start) _ one.1)

    justified_so : (start i j r k : ℕ) → start ≡ g.start → justified ps start ws es i j r k ≡ true → Stands g ws i j r k
    justified_so start i j r zero is h =
        let one = and_parts (eqb i j) _ h in
        subst (λ (n : ℕ). Stands g ws n j r 0) (sym (eqb-true i j one.0)) (begins_so start j r is one.1)
    justified_so start i j r (suc k) is h = passes_so i j r k (symbol_at ps r k) refl h

  pub sound_so : (start : ℕ) → start ≡ g.start → (es : List Entry) → sound ps start ws es ≡ true → (e : Entry) → logged es e ≡ true → Up e
  sound_so start is [] h e l = absurd (false≢true l)
  sound_so start is (x ∷ es) h e l =
      let parts = and_parts (justified ps start ws es x.from x.to x.by x.dot) (sound ps start ws es) h in
      let up = sound_so start is es parts.1 in
      ⊎_elim
      (λ (o : same e x ≡ true). subst Up (sym (same_is e x o)) (justified_so es up start x.from x.to x.by x.dot is parts.0))
      (λ (o : logged es e ≡ true). up e o)
      (or_cases (same e x) (logged es e) l)
