-- Bytes mean one line at most.
use Rattle.std.proofs.Common.{◌≡◌, ℕ, true, eqb, leb, List, [], ◌∷◌, ◌++◌, map, sym, refl, ap, ◌∙◌, subst, inl, inr, arith, eqb-true}
use borrow.Author.Tests.{clash}
use Rattle.std.specs.List.{AllByRecursion}
use Rattle.std.proofs.lemmas.Bool.{and_parts, or_cases, leb-true}
use Rattle.grammar.specs.Letters.{digit, small, capital, in_name, in_word, every, name_spelled, word_spelled}
use Rattle.sheets.specs.Lines.{Spelled, name, word, Line, rule, alias, filler, spelling, tabbed, kind, fields, OneMeaning, well, Well}
use Rattle.sheets.specs.inner.Fields.{other}
use Rattle.sheets.proofs.Cuts.{cut_once}
use Rattle.sheets.proofs.Reading.{no_tab_weight, no_tab_name, no_tab_word, no_tab_symbol, opens_tabbed, kind_free}

abbrev Untabbed : List ℕ → Type 0
Untabbed cs = every (other 9) cs ≡ true

untabbed_symbols : (ss : List Spelled) → AllByRecursion (λ s. well s ≡ true) ss → AllByRecursion Untabbed (map spelling ss)
untabbed_symbols [] h = tt
untabbed_symbols (s ∷ ss) h = (no_tab_symbol s h.0, untabbed_symbols ss h.1)

untabbed_fields : (ℓ : Line) → Well ℓ → AllByRecursion Untabbed (fields ℓ)
untabbed_fields (rule w a ss) h = (no_tab_weight w h.0, (no_tab_name a h.1, untabbed_symbols ss h.2))
untabbed_fields (alias s m) h = (no_tab_word s h.0, (no_tab_word m h.1, tt))
untabbed_fields (filler w) h = (no_tab_word w h, tt)

tabbed_once : (fs gs : List (List ℕ)) → AllByRecursion Untabbed fs → AllByRecursion Untabbed gs → tabbed fs ≡ tabbed gs → fs ≡ gs
tabbed_once [] [] h k e = refl
tabbed_once [] (g ∷ gs) h k e = let z : ◌≡◌ {A = ℕ} 0 1 = cc in absurd (omega arith)
tabbed_once (f ∷ fs) [] h k e = let z : ◌≡◌ {A = ℕ} 0 1 = cc in absurd (omega arith)
tabbed_once (f ∷ fs) (g ∷ gs) h k e =
    let same : f ++ tabbed fs ≡ g ++ tabbed gs = cc in
    let p = cut_once 9 f (tabbed fs) g (tabbed gs) same h.0 k.0 (opens_tabbed fs) (opens_tabbed gs) in
    let first = p.0 in
    let rest = tabbed_once fs gs h.1 k.1 p.1 in
    cc

-- a capital is in no word
capital_apart : (c : ℕ) → capital c ≡ true → in_word c ≡ true → ⊥
capital_apart c h k =
    let low = leb-true 65 c (and_parts (leb 65 c) (leb c 90) h).0 in
    let high = leb-true c 90 (and_parts (leb 65 c) (leb c 90) h).1 in
    elim (or_cases (in_name c) (eqb c 45) k) [
      | inl n ↦ elim (or_cases (small c) (digit c) n) [
        | inl s ↦ let a = leb-true 97 c (and_parts (leb 97 c) (leb c 122) s).0 in omega arith
        | inr d ↦ let a = leb-true c 57 (and_parts (leb 48 c) (leb c 57) d).1 in omega arith
      ]
      | inr e ↦ let a = eqb-true c 45 e in omega arith
    ]

pub name_no_word : (s : List ℕ) → name_spelled s ≡ true → word_spelled s ≡ true → ⊥
name_no_word [] h k = clash h
name_no_word (c ∷ cs) h k =
    capital_apart c (and_parts (capital c) (every in_name cs) h).0 (and_parts (in_word c) (every in_word cs) (and_parts true (every in_word (c ∷ cs)) k).1).0

symbol_once : (s t : Spelled) → well s ≡ true → well t ≡ true → spelling s ≡ spelling t → s ≡ t
symbol_once (name s) (name t) h k e = ap name e
symbol_once (name s) (word t) h k e = absurd (name_no_word s h (subst (λ x. word_spelled x ≡ true) (sym e) k))
symbol_once (word s) (name t) h k e = absurd (name_no_word t k (subst (λ x. word_spelled x ≡ true) e h))
symbol_once (word s) (word t) h k e = ap word e

symbols_once : (ss ts : List Spelled) → AllByRecursion (λ s. well s ≡ true) ss → AllByRecursion (λ s. well s ≡ true) ts → map spelling ss ≡ map spelling ts → ss ≡ ts
symbols_once [] [] h k e = refl
symbols_once [] (t ∷ ts) h k e = let z : ◌≡◌ {A = ℕ} 0 1 = cc in absurd (omega arith)
symbols_once (s ∷ ss) [] h k e = let z : ◌≡◌ {A = ℕ} 0 1 = cc in absurd (omega arith)
symbols_once (s ∷ ss) (t ∷ ts) h k e =
    let heads : spelling s ≡ spelling t = cc in
    let tails : map spelling ss ≡ map spelling ts = cc in
    let a = symbol_once s t h.0 k.0 heads in
    let b = symbols_once ss ts h.1 k.1 tails in
    cc

line_once : (ℓ ℓ' : Line) → Well ℓ → Well ℓ' → kind ℓ ≡ kind ℓ' → fields ℓ ≡ fields ℓ' → ℓ ≡ ℓ'
line_once (rule w a ss) (rule v b ts) h k e f =
    let ws : w ≡ v = cc in
    let lefts : a ≡ b = cc in
    let rest : map spelling ss ≡ map spelling ts = cc in
    let same = symbols_once ss ts h.2 k.2 rest in
    cc
line_once (rule w a ss) (alias s m) h k e f = let z : ◌≡◌ {A = ℕ} 114 97 = cc in absurd (omega arith)
line_once (rule w a ss) (filler v) h k e f = let z : ◌≡◌ {A = ℕ} 114 102 = cc in absurd (omega arith)
line_once (alias s m) (rule w a ss) h k e f = let z : ◌≡◌ {A = ℕ} 97 114 = cc in absurd (omega arith)
line_once (alias s m) (alias s' m') h k e f = let a : s ≡ s' = cc in let b : m ≡ m' = cc in cc
line_once (alias s m) (filler w) h k e f = let z : ◌≡◌ {A = ℕ} 97 102 = cc in absurd (omega arith)
line_once (filler v) (rule w a ss) h k e f = let z : ◌≡◌ {A = ℕ} 102 114 = cc in absurd (omega arith)
line_once (filler w) (alias s m) h k e f = let z : ◌≡◌ {A = ℕ} 102 97 = cc in absurd (omega arith)
line_once (filler v) (filler w) h k e f = let a : v ≡ w = cc in cc

pub means_once : OneMeaning
means_once bytes ℓ ℓ' m n =
    let p = cut_once 9 (kind ℓ) (tabbed (fields ℓ)) (kind ℓ') (tabbed (fields ℓ')) (sym m.0 ∙ n.0) (kind_free ℓ) (kind_free ℓ') (opens_tabbed (fields ℓ)) (opens_tabbed (fields ℓ')) in
    line_once ℓ ℓ' m.1 n.1 p.0 (tabbed_once (fields ℓ) (fields ℓ') (untabbed_fields ℓ m.1) (untabbed_fields ℓ' n.1) p.1)
