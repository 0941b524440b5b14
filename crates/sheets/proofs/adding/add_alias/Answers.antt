use Rattle.std.proofs.Common.{true, false, [], ◌∷◌, sym, ap, ◌∙◌}
use borrow.Author.Tests.{clash}
use Rattle.std.proofs.lemmas.Result.{err_from_is_err_and}
use Rattle.sheets.specs.Lines.{alias}
use Rattle.sheets.specs.inner.Interns.{said_among}
use Rattle.sheets.proofs.Pushing.{words_fit}
use Rattle.sheets.proofs.Held.{worded, no_word}
use Rattle.sheets.proofs.AliasLines.{alias_line, full}
use Rattle.sheets.proofs.adding.add_alias.Goals as goal

pub returns-in_err-from : goal.returns-in_err-from
returns-in_err-from c =
    let s = c.args.said.now in
    let m = c.args.meant.now in
    let p = err_from_is_err_and c.from_residual.result c.from_residual.ensures.1 in
    rw (p.1, p.2) (λ before drafted within. no_word before _ _ _ drafted s (m ∷ []) c.in_err-from.ensures within.0.0 (words_fit before (alias s m) within.1))

pub returns-in_err-to : goal.returns-in_err-to
returns-in_err-to c =
    let s = c.args.said.now in
    let m = c.args.meant.now in
    let p = err_from_is_err_and c.from_residual-in_err-to.result c.from_residual-in_err-to.ensures.1 in
    rw (p.1, p.2) (λ before drafted within.
    let held = worded before _ _ _ drafted s c.in_ok-from.from c.word_number.new.draft c.in_ok-from.ensures.0 in
    no_word before _ _ _ held m [] c.in_err-to.ensures within.0.1 (words_fit before (alias s m) within.1))

pub returns-in_err-push_alias : goal.returns-in_err-push_alias
returns-in_err-push_alias c =
    let p = err_from_is_err_and c.from_residual-in_err-push_alias.result c.from_residual-in_err-push_alias.ensures.1 in
    rw (p.1, p.2) (λ before drafted within.
    full before c.args.said.now c.args.meant.now c.in_ok-from.from c.in_ok-to.to c.args.draft.now c.word_number.new.draft c.word_number-2.new.draft
    drafted c.in_ok-from.ensures.0 c.in_ok-to.ensures.0 c.in_err-push_alias.ensures.0 within.1)

pub returns-then-again : goal.returns-then-again
returns-then-again c before drafted =
    let line = alias_line before c.args.said.now c.args.meant.now c.in_ok-from.from c.in_ok-to.to c.args.draft.now c.word_number.new.draft c.word_number-2.new.draft
    drafted c.in_ok-from.ensures.0 c.in_ok-to.ensures.0 true c.push_alias.new.self (c.if-again.ensures ∙ ap (said_among c.in_ok-from.from) c.as_slice.ensures) c.in_ok-push_alias.ensures c.in_ok-from.ensures.1 c.in_ok-to.ensures.1 in
    (line.1, sym line.2)

pub returns : goal.returns
returns c before drafted =
    let line = alias_line before c.args.said.now c.args.meant.now c.in_ok-from.from c.in_ok-to.to c.args.draft.now c.word_number.new.draft c.word_number-2.new.draft
    drafted c.in_ok-from.ensures.0 c.in_ok-to.ensures.0 false c.push_alias.new.self (c.if-again.ensures ∙ ap (said_among c.in_ok-from.from) c.as_slice.ensures) c.in_ok-push_alias.ensures c.in_ok-from.ensures.1 c.in_ok-to.ensures.1 in
    (line.0, line.1, λ q. clash (line.2 ∙ q))
