-- What lines say, with one line more.
use Rattle.std.proofs.Common.{◌≡◌, ℕ, ◌+◌, ◌≤◌, List, [], ◌∷◌, ◌++◌, length, refl, ap, ◌∙◌, subst, arith, length-append}
use Rattle.grammar.specs.Limits.{Apart}
use Rattle.sheets.specs.Lines.{Line, rule, alias, filler}
use Rattle.sheets.specs.Spellings.{names_on, words_on, with_all, names_after, words_after, names_of, words_of}
use Rattle.sheets.specs.Limits.{productions, renamings, fillers_of, places_of, Room}
use Rattle.sheets.proofs.Apartness.{apart_all}

names_after_push : (seen : List (List ℕ)) (ls : List Line) (ℓ : Line) → names_after seen (ls ++ (ℓ ∷ [])) ≡ with_all (names_after seen ls) (names_on ℓ)
names_after_push seen [] ℓ = refl
names_after_push seen (m ∷ ls) ℓ = names_after_push (with_all seen (names_on m)) ls ℓ

words_after_push : (seen : List (List ℕ)) (ls : List Line) (ℓ : Line) → words_after seen (ls ++ (ℓ ∷ [])) ≡ with_all (words_after seen ls) (words_on ℓ)
words_after_push seen [] ℓ = refl
words_after_push seen (m ∷ ls) ℓ = words_after_push (with_all seen (words_on m)) ls ℓ

pub names_push : (ls : List Line) (ℓ : Line) → names_of (ls ++ (ℓ ∷ [])) ≡ with_all (names_of ls) (names_on ℓ)
names_push ls ℓ = names_after_push [] ls ℓ

pub words_push : (ls : List Line) (ℓ : Line) → words_of (ls ++ (ℓ ∷ [])) ≡ with_all (words_of ls) (words_on ℓ)
words_push ls ℓ = words_after_push [] ls ℓ

pub rules_push : (ls ms : List Line) → productions (ls ++ ms) ≡ productions ls ++ productions ms
rules_push [] ms = refl
rules_push (rule w a ss ∷ ls) ms = let e = rules_push ls ms in cc
rules_push (alias s m ∷ ls) ms = rules_push ls ms
rules_push (filler w ∷ ls) ms = rules_push ls ms

pub aliases_push : (ls ms : List Line) → renamings (ls ++ ms) ≡ renamings ls ++ renamings ms
aliases_push [] ms = refl
aliases_push (rule w a ss ∷ ls) ms = aliases_push ls ms
aliases_push (alias s m ∷ ls) ms = let e = aliases_push ls ms in cc
aliases_push (filler w ∷ ls) ms = aliases_push ls ms

pub fillers_push : (ls ms : List Line) → fillers_of (ls ++ ms) ≡ fillers_of ls ++ fillers_of ms
fillers_push [] ms = refl
fillers_push (rule w a ss ∷ ls) ms = fillers_push ls ms
fillers_push (alias s m ∷ ls) ms = fillers_push ls ms
fillers_push (filler w ∷ ls) ms = ap (λ ps. w ∷ ps) (fillers_push ls ms)

pub places_push : (ls ms : List Line) → places_of (ls ++ ms) ≡ places_of ls + places_of ms
places_push [] ms = omega arith
places_push (rule w a ss ∷ ls) ms = let e = places_push ls ms in omega arith
places_push (alias s m ∷ ls) ms = places_push ls ms
places_push (filler w ∷ ls) ms = places_push ls ms

apart_words_after : (seen : List (List ℕ)) (ls : List Line) → Apart seen → Apart (words_after seen ls)
apart_words_after seen [] h = h
apart_words_after seen (ℓ ∷ ls) h = apart_words_after (with_all seen (words_on ℓ)) ls (apart_all seen (words_on ℓ) h)

pub apart_words : (ls : List Line) → Apart (words_of ls)
apart_words ls = apart_words_after [] ls (λ i j h k e. absurd (omega arith))

apart_names_after : (seen : List (List ℕ)) (ls : List Line) → Apart seen → Apart (names_after seen ls)
apart_names_after seen [] h = h
apart_names_after seen (ℓ ∷ ls) h = apart_names_after (with_all seen (names_on ℓ)) ls (apart_all seen (names_on ℓ) h)

pub apart_names : (ls : List Line) → Apart (names_of ls)
apart_names ls = apart_names_after [] ls (λ i j h k e. absurd (omega arith))

pub rules_count : (ls ms : List Line) → length (productions (ls ++ ms)) ≡ length (productions ls) + length (productions ms)
rules_count ls ms = ap length (rules_push ls ms) ∙ length-append (productions ls) (productions ms)

pub aliases_count : (ls ms : List Line) → length (renamings (ls ++ ms)) ≡ length (renamings ls) + length (renamings ms)
aliases_count ls ms = ap length (aliases_push ls ms) ∙ length-append (renamings ls) (renamings ms)

-- the line's names and words keep the limits after those before it
pub names_fit : (before : List Line) (ℓ : Line) → Room (before ++ (ℓ ∷ [])) → length (with_all (names_of before) (names_on ℓ)) ≤ 32
names_fit before ℓ room = subst (λ ts. length ts ≤ 32) (names_push before ℓ) room.0

pub words_fit : (before : List Line) (ℓ : Line) → Room (before ++ (ℓ ∷ [])) → length (with_all (words_of before) (words_on ℓ)) ≤ 64
words_fit before ℓ room = subst (λ ts. length ts ≤ 64) (words_push before ℓ) room.1
