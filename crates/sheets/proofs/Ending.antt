-- A line ends at the first end of line.
use Rattle.std.proofs.Common.{◌≡◌, ℕ, ◌<◌, true, List, [], ◌∷◌, ◌++◌, map, length, sym, refl, ap, ◌∙◌, subst, arith}
use Rattle.std.specs.List.{AllByRecursion}
use Rattle.grammar.specs.Letters.{digit, every}
use Rattle.sheets.specs.Lines.{Spelled, Line, rule, alias, filler, spelling, tabbed, kind, fields, written, Means, weight_spelled, well, Well}
use Rattle.sheets.specs.inner.Fields.{other, Opens, Cut}
use Rattle.sheets.proofs.Cuts.{every_append, cut_once}
use Rattle.sheets.proofs.Reading.{every_weaker, apart, digits_of, free_word, free_name, free_symbol}

abbrev Unended : List ℕ → Type 0
Unended cs = every (other 10) cs ≡ true

unended_tabbed : (fs : List (List ℕ)) → AllByRecursion Unended fs → Unended (tabbed fs)
unended_tabbed [] h = refl
unended_tabbed (f ∷ fs) h = every_append (other 10) f (tabbed fs) h.0 (unended_tabbed fs h.1)

unended_symbols : (ss : List Spelled) → AllByRecursion (λ s. well s ≡ true) ss → AllByRecursion Unended (map spelling ss)
unended_symbols [] h = tt
unended_symbols (s ∷ ss) h = (free_symbol 10 refl refl s h.0, unended_symbols ss h.1)

unended_weight : (cs : List ℕ) → weight_spelled cs ≡ true → Unended cs
unended_weight cs h = every_weaker digit (other 10) (apart 10 refl refl digit refl) cs (digits_of cs h)

unended_fields : (ℓ : Line) → Well ℓ → AllByRecursion Unended (fields ℓ)
unended_fields (rule w a ss) h = (unended_weight w h.0, (free_name 10 refl refl a h.1, unended_symbols ss h.2))
unended_fields (alias s m) h = (free_word 10 refl refl s h.0, (free_word 10 refl refl m h.1, tt))
unended_fields (filler w) h = (free_word 10 refl refl w h, tt)

unended_kind : (ℓ : Line) → Unended (kind ℓ)
unended_kind (rule w a ss) = refl
unended_kind (alias s m) = refl
unended_kind (filler w) = refl

pub unended : (ℓ : Line) → Well ℓ → Unended (written ℓ)
unended ℓ h = every_append (other 10) (kind ℓ) (tabbed (fields ℓ)) (unended_kind ℓ) (unended_tabbed (fields ℓ) (unended_fields ℓ h))

-- the bytes before the first end are the line
pub line_end : (text line rest : List ℕ) (ℓ : Line) (after : List ℕ) → Cut 10 text line rest → text ≡ written ℓ ++ (10 ∷ after) → Well ℓ → (Means line ℓ) × (rest ≡ 10 ∷ after)
line_end text line rest ℓ after cut e h =
    let p = cut_once 10 line rest (written ℓ) (10 ∷ after) (sym cut.0 ∙ e) cut.1 (unended ℓ h) cut.2 refl in
    ((p.0, h), p.1)

pub no_end : (text line rest : List ℕ) (ℓ : Line) (after : List ℕ) → Cut 10 text line rest → length rest < 1 → text ≡ written ℓ ++ (10 ∷ after) → Well ℓ → ⊥
no_end text line rest ℓ after cut short e h = let p = ap length (line_end text line rest ℓ after cut e h).1 in omega arith

pub line_and_rest : (text line rest : List ℕ) (b : ℕ) (after : List ℕ) → Cut 10 text line rest → rest ≡ b ∷ after → text ≡ line ++ (10 ∷ after)
line_and_rest text line rest b after cut e = cut.0 ∙ ap (λ r. line ++ r) (e ∙ ap (λ x. x ∷ after) (subst (Opens 10) e cut.2))
