-- The fields of a line are found by cutting it at its tabs.
use Rattle.std.proofs.Common.{◌≡◌, ℕ, suc, Bool, true, false, not, ◌&&◌, eqb, List, [], ◌∷◌, ◌++◌, map, length, sym, refl, ap, ◌∙◌, subst, inl, inr, arith, eqb-true}
use borrow.Author.Tests.{clash}
use Rattle.std.proofs.lemmas.Bool.{and_parts, and_from, or_cases, or_left, or_right, cases_Bool, cond-true, cond-false}
use Rattle.grammar.specs.Letters.{digit, capital, in_name, in_word, every, empty, name_spelled, word_spelled}
use Rattle.sheets.specs.Lines.{Spelled, name, word, Line, rule, alias, filler, spelling, tabbed, kind, fields, Means, weight_spelled, well}
use Rattle.sheets.specs.inner.Fields.{other, Opens, Cut, Field, Fieldless, Holds, symbol_spelled, Symbols}
use Rattle.sheets.proofs.Cuts.{cut_once, other_from}

-- no field has a tab
pub every_weaker : (p q : ℕ → Bool) → ((c : ℕ) → p c ≡ true → q c ≡ true) → (cs : List ℕ) → every p cs ≡ true → every q cs ≡ true
every_weaker p q h [] k = refl
every_weaker p q h (c ∷ cs) k =
    let e = and_parts (p c) (every p cs) k in and_from (q c) (every q cs) (h c e.0) (every_weaker p q h cs e.1)

-- a byte that passes no test of the characters, as a tab or an end of line
module _ (b : ℕ) (no_word : in_word b ≡ false) (no-capital : capital b ≡ false) where
  pub apart : (p : ℕ → Bool) → p b ≡ false → (c : ℕ) → p c ≡ true → other b c ≡ true
  apart p n c h = other_from b c (λ e. clash (sym n ∙ subst (λ x. p x ≡ true) e h))

  in_name_apart : in_name b ≡ false
  in_name_apart = elim (cases_Bool (in_name b)) [
    | inl h ↦ absurd (clash (sym no_word ∙ or_left (in_name b) (eqb b 45) h))
    | inr h ↦ h
  ]

  pub free_word : (cs : List ℕ) → word_spelled cs ≡ true → every (other b) cs ≡ true
  free_word cs h = every_weaker in_word (other b) (apart in_word no_word) cs (and_parts (not (empty cs)) (every in_word cs) h).1

  pub free_name : (cs : List ℕ) → name_spelled cs ≡ true → every (other b) cs ≡ true
  free_name [] h = refl
  free_name (c ∷ cs) h =
      let e = and_parts (capital c) (every in_name cs) h in
      and_from (other b c) (every (other b) cs) (apart capital no-capital c e.0) (every_weaker in_name (other b) (apart in_name in_name_apart) cs e.1)

  pub free_symbol : (s : Spelled) → well s ≡ true → every (other b) (spelling s) ≡ true
  free_symbol (name s) h = free_name s h
  free_symbol (word s) h = free_word s h

lone_zero : (c : ℕ) (cs : List ℕ) → c ≡ 48 → empty cs ≡ true → every digit (c ∷ cs) ≡ true
lone_zero c [] e k = subst (λ x. every digit (x ∷ []) ≡ true) (sym e) refl
lone_zero c (d ∷ cs) e k = absurd (clash k)

pub digits_of : (cs : List ℕ) → weight_spelled cs ≡ true → every digit cs ≡ true
digits_of [] h = refl
digits_of (c ∷ cs) h = elim (cases_Bool (eqb c 48)) [
  | inl e ↦ lone_zero c cs (eqb-true c 48 e) (sym (cond-true (eqb c 48) (empty cs) (digit c && every digit cs) e) ∙ h)
  | inr e ↦ sym (cond-false (eqb c 48) (empty cs) (digit c && every digit cs) e) ∙ h
]

pub no_tab_word : (cs : List ℕ) → word_spelled cs ≡ true → every (other 9) cs ≡ true
no_tab_word = free_word 9 refl refl

pub no_tab_name : (cs : List ℕ) → name_spelled cs ≡ true → every (other 9) cs ≡ true
no_tab_name = free_name 9 refl refl

pub no_tab_symbol : (s : Spelled) → well s ≡ true → every (other 9) (spelling s) ≡ true
no_tab_symbol = free_symbol 9 refl refl

pub no_tab_weight : (cs : List ℕ) → weight_spelled cs ≡ true → every (other 9) cs ≡ true
no_tab_weight cs h = every_weaker digit (other 9) (apart 9 refl refl digit refl) cs (digits_of cs h)

pub opens_tabbed : (fs : List (List ℕ)) → Opens 9 (tabbed fs)
opens_tabbed [] = tt
opens_tabbed (f ∷ fs) = refl

-- the field that is found is the first one written
pub field_first : (bytes f r g : List ℕ) (gs : List (List ℕ)) → Field bytes f r → bytes ≡ tabbed (g ∷ gs) → every (other 9) g ≡ true → (f ≡ g) × (r ≡ tabbed gs)
field_first bytes f r g gs found e free =
    let whole = found.0 in
    let same : f ++ r ≡ g ++ tabbed gs = cc in
    cut_once 9 f r g (tabbed gs) same found.1 free found.2 (opens_tabbed gs)

pub field_none : (bytes g : List ℕ) (gs : List (List ℕ)) → Fieldless bytes → bytes ≡ tabbed (g ∷ gs) → ⊥
field_none [] g gs none e = let z : ◌≡◌ {A = ℕ} 0 1 = cc in omega arith
field_none (c ∷ bytes) g gs none e = let h : c ≡ 9 = cc in let n = none h in let z : ◌≡◌ {A = ℕ} 0 1 = cc in omega arith

pub empty_from : (xs : List ℕ) → eqb (length xs) 0 ≡ true → xs ≡ []
empty_from [] h = refl
empty_from (x ∷ xs) h = let e = eqb-true (suc (length xs)) 0 h in absurd (omega arith)

pub empty_to : (xs : List ℕ) → xs ≡ [] → eqb (length xs) 0 ≡ true
empty_to xs e = ap (λ ys. eqb (length ys) 0) e

-- symbols
pub symbols_none : (bytes : List ℕ) → Fieldless bytes → Symbols bytes → bytes ≡ []
symbols_none bytes none h = let o : Opens 9 bytes = subst (Opens 9) (sym h.1) (opens_tabbed (map spelling h.0)) in none o

pub symbols_empty : (bytes : List ℕ) → bytes ≡ [] → Symbols bytes
symbols_empty bytes e = ([], e, tt)

symbol_of : (f : List ℕ) → symbol_spelled f ≡ true → (s : Spelled) × (spelling s ≡ f) × (well s ≡ true)
symbol_of f h = elim (or_cases (name_spelled f) (word_spelled f) h) [
  | inl e ↦ (name f, refl, e)
  | inr e ↦ (word f, refl, e)
]

spelled_symbol : (s : Spelled) → well s ≡ true → symbol_spelled (spelling s) ≡ true
spelled_symbol (name s) h = or_left (name_spelled s) (word_spelled s) h
spelled_symbol (word s) h = or_right (name_spelled s) (word_spelled s) h

pub symbols_more : (bytes f r : List ℕ) → Field bytes f r → symbol_spelled f ≡ true → Symbols r → Symbols bytes
symbols_more bytes f r found h below =
    let s = symbol_of f h in
    let whole = found.0 in
    let e = s.1 in
    let b = below.1 in
    (s.0 ∷ below.0, (cc), (s.2, below.2))

pub symbols_cut : (bytes f r : List ℕ) → Field bytes f r → Symbols bytes → (symbol_spelled f ≡ true) × Symbols r
symbols_cut bytes f r found ([], e, all) = let whole = found.0 in let z : ◌≡◌ {A = ℕ} 0 1 = cc in absurd (omega arith)
symbols_cut bytes f r found (s ∷ ss, e, all) =
    let h = field_first bytes f r (spelling s) (map spelling ss) found e (no_tab_symbol s all.0) in
    (subst (λ x. symbol_spelled x ≡ true) (sym h.0) (spelled_symbol s all.0), (ss, h.1, all.1))

-- a filler line
pub filler_word : (bytes f r w : List ℕ) → Field bytes f r → Holds bytes (filler w) → (word_spelled f ≡ true) × (r ≡ [])
filler_word bytes f r w found h =
    let e = field_first bytes f r w [] found h.0 (no_tab_word w h.1) in
    (subst (λ x. word_spelled x ≡ true) (sym e.0) h.1, e.1)

-- an alias line
pub alias_parts : (bytes f r s m : List ℕ) → Field bytes f r → Holds bytes (alias s m) → (word_spelled f ≡ true) × Holds r (filler m)
alias_parts bytes f r s m found h =
    let e = field_first bytes f r s (m ∷ []) found h.0 (no_tab_word s h.1.0) in
    (subst (λ x. word_spelled x ≡ true) (sym e.0) h.1.0, (e.1, h.1.1))

-- a rule line
pub rule_weight : (bytes f r w a : List ℕ) (ss : List Spelled) → Field bytes f r → Holds bytes (rule w a ss) → (weight_spelled f ≡ true) × (r ≡ tabbed (a ∷ map spelling ss))
rule_weight bytes f r w a ss found h =
    let e = field_first bytes f r w (a ∷ map spelling ss) found h.0 (no_tab_weight w h.1.0) in
    (subst (λ x. weight_spelled x ≡ true) (sym e.0) h.1.0, e.1)

module _ (bytes f r w a : List ℕ) (ss : List Spelled) (found : Field bytes f r) (h : Holds bytes (rule w a ss)) where
  pub rule_short : Fieldless r → ⊥
  rule_short none = field_none r a (map spelling ss) none (rule_weight bytes f r w a ss found h).1

  pub rule_left : (g q : List ℕ) → Field r g q → (name_spelled g ≡ true) × Symbols q
  rule_left g q next =
      let e = field_first r g q a (map spelling ss) next (rule_weight bytes f r w a ss found h).1 (no_tab_name a h.1.1) in
      (subst (λ x. name_spelled x ≡ true) (sym e.0) h.1.1, (ss, e.1, h.1.2))

-- a line: its kind and its fields
pub kind_free : (ℓ : Line) → every (other 9) (kind ℓ) ≡ true
kind_free (rule w a ss) = refl
kind_free (alias s m) = refl
kind_free (filler w) = refl

pub line_parts : (bytes first rest : List ℕ) (ℓ : Line) → Cut 9 bytes first rest → Means bytes ℓ → (first ≡ kind ℓ) × Holds rest ℓ
line_parts bytes first rest ℓ cut means =
    let e = cut_once 9 first rest (kind ℓ) (tabbed (fields ℓ)) (sym cut.0 ∙ means.0) cut.1 (kind_free ℓ) cut.2 (opens_tabbed (fields ℓ)) in
    (e.0, (e.1, means.1))
