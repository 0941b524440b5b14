use Rattle.std.proofs.Common.{◌^◌, ◌<◌, [], ◌∷◌, ◌++◌, sym, refl, ap, ◌∙◌, add-zero, rules}
use lib.Bits.{bit_or}
use Rattle.std.proofs.lemmas.List.{append-nil}
use Rattle.std.proofs.lemmas.Result.{err_from_is_err_and}
use Rattle.grammar.specs.Bits.{has}
use Rattle.grammar.proofs.BitSets.{with_below}
use Rattle.sheets.specs.Lines.{filler}
use Rattle.sheets.specs.Spellings.{names_of, words_of, with_one}
use Rattle.sheets.specs.Limits.{productions, renamings, places_of, fillers_of}
use Rattle.grammar.specs.Limits.{Apart}
use Rattle.sheets.proofs.Apartness.{apart_all}
use Rattle.sheets.proofs.Pushing.{apart_words, words_fit}
use Rattle.sheets.proofs.Held.{worded, word_at, no_word, room, more}
use Rattle.sheets.proofs.FillerLines.{filler_known, filler_set}
use Rattle.sheets.proofs.adding.add_filler.Goals as goal

pub returns-in_err-number : goal.returns-in_err-number
returns-in_err-number c =
    let p = err_from_is_err_and c.from_residual.result c.from_residual.ensures.1 in
    rw (p.1, p.2) (λ before drafted within. let s = c.args.word.now in no_word before _ _ _ drafted s [] c.in_err-number.ensures within.0 (words_fit before (filler s) within.1))

pub invariant_of-draft : goal.invariant_of-draft
invariant_of-draft c =
    let d = c.word_number.new.draft in
    let below : bit_or d.fillers (2 ^ c.in_ok-number.number) < 2 ^ d.words.len = with_below d.words.len d.fillers c.in_ok-number.number d.filled c.in_ok-number.ensures.0.counted in
    search rules

pub returns : goal.returns
returns c before drafted =
    let s = c.args.word.now in
    let k = c.in_ok-number.number in
    let e = c.word_number.new.draft in
    let w = c.in_ok-number.ensures.0 in
    let W = with_one (words_of before) s in
    let held = worded before (names_of before) (words_of before) c.args.draft.now drafted s k e w in
    let at = word_at before (names_of before) W s k c.args.draft.now e w held in
    let apart : Apart W = apart_all (words_of before) (s ∷ []) (apart_words before) in
    let done = more before (filler s) e _ held refl refl (sym (add-zero e.rules.len)) (sym (add-zero e.aliases.len))
    (held.rules ∙ sym (append-nil (productions before))) (held.aliases ∙ sym (append-nil (renamings before))) (held.places ∙ sym (add-zero (places_of before)))
    (λ v l. ap (λ set. has set v) c.with-draft.ensures ∙ filler_set W (fillers_of before) s k at.0 at.1 e.fillers apart held.fillers v l)
    (filler_known W (fillers_of before) s k at.0 at.1) in
    (done, (c.in_ok-number.ensures.1, room (before ++ (filler s ∷ [])) _ done), λ z. z)
