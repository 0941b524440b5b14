-- What a sheet's arrays hold, by what the sheet means.
use Rattle.std.proofs.Common.{◌≡◌, ℕ, ◌+◌, ◌-◌, ◌<◌, ◌≤◌, List, length, get_or, take, sym, ap, ◌∙◌, arith, length-take, get_or-take, take-take}
use mathlib.Core.Logic.{∥∥₁_elim}
use native.Mathlib.Nat.{ℕ_set}
use Rattle.std.proofs.lemmas.List.{length-map, length-take-le}
use Rattle.grammar.specs.declared.sheet.Sheet.{Sheet}
use Rattle.grammar.specs.declared.draft.Draft.{Draft}
use Rattle.grammar.specs.Grammar.{places}
use Rattle.grammar.specs.Closure.{AllFormed}
use Rattle.grammar.specs.Limits.{text, Apart}
use Rattle.grammar.specs.View.{rules_of, names_in, words_in}
use Rattle.grammar.proofs.Fronts.{take_sub_zero, formed_among_more}
use Rattle.grammar.proofs.Places.{starts_are}

-- the starts that are used are the sums of the places before
pub first_place_at : (s : Sheet) (k : ℕ) → k ≤ length (rules_of s) → get_or (take (s.draft.rules.len + 1 - 0) s.draft.starts) k 0 ≡ places (take k (rules_of s))
first_place_at s k h =
    let d = s.draft in
    let n = d.rules.len in
    let within : k ≤ n = omega (arith, length-take n d.rules.items) in
    let room : n ≤ length d.rules.items = omega (arith, d.rules.whole, length-take n d.rules.items) in
    let low : k < n + 1 = omega arith in
    ap (λ l. get_or l k 0) (take_sub_zero (n + 1) d.starts) ∙ get_or-take (n + 1) d.starts k 0 low
    ∙ starts_are d.rules.items n d.starts room d.placed k within ∙ ap places (sym (take-take k n d.rules.items within))

-- and there is one more of them than rules
pub first_places_count : (s : Sheet) → length s.draft.starts ≡ 129 → length (take (s.draft.rules.len + 1 - 0) s.draft.starts) ≡ length (rules_of s) + 1
first_places_count s long =
    let d = s.draft in
    let n = d.rules.len in
    let fits : n + 1 ≤ length d.starts = omega (arith, d.rules.fits) in
    ap length (take_sub_zero (n + 1) d.starts) ∙ length-take-le (n + 1) d.starts fits ∙ ap (λ m. m + 1) (sym d.rules.whole)

-- equal numbers are a proposition, so the fact comes out of its truncation
pub apart_out : (ts : List (List ℕ)) → ∥ Apart ts ∥₁ → Apart ts
apart_out ts t i j h k e = ∥∥₁_elim t (ℕ_set i j) (λ apart. apart i j h k e)

-- no two names of a sheet are alike, and no two words
pub names_apart : (s : Sheet) → Apart (names_in s)
names_apart s = apart_out (names_in s) s.draft.apart_names

pub words_apart : (s : Sheet) → Apart (words_in s)
words_apart s = apart_out (words_in s) s.draft.apart_words

-- the names and words of a sheet are as many as it counts
pub names_whole : (s : Sheet) → length (names_in s) ≡ s.draft.names.len
names_whole s = length-map (take s.draft.names.len s.draft.names.items) text ∙ s.draft.names.whole

pub words_whole : (s : Sheet) → length (words_in s) ≡ s.draft.words.len
words_whole s = length-map (take s.draft.words.len s.draft.words.items) text ∙ s.draft.words.whole

-- the rules of a draft and of a sheet keep the limits
pub draft_formed : (d : Draft) → AllFormed 32 64 (take d.rules.len d.rules.items)
draft_formed d = formed_among_more d.names.len d.words.len 32 64 d.names.fits d.words.fits _ d.formed

pub rules_formed : (s : Sheet) → AllFormed 32 64 (rules_of s)
rules_formed s = draft_formed s.draft
