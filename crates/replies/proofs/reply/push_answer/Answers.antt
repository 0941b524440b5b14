use Rattle.std.proofs.Common.{lit<, refl, rules}
use Rattle.std.proofs.lemmas.Result.{err_from_is_err_and}
use Rattle.replies.proofs.Wordings.{answer_reply, stopped_reply, made_so}
use Rattle.replies.proofs.reply.push_answer.Goals as goal

pub read_both-requires-clause-seated : goal.read_both-requires-clause-seated
read_both-requires-clause-seated c =
    let x = c.in_ok-hear.ensures.made.exact (search rules, lit< tt) in
    (x.0, x.2)

pub returns-in_err-hear : goal.returns-in_err-hear
returns-in_err-hear c =
    let x = c.in_err-hear.ensures.made.exact (search rules, lit< tt) in
    let p = err_from_is_err_and c.from_residual-in_err-hear.result c.from_residual-in_err-hear.ensures.1 in
    rw (p.1, p.2) (stopped_reply c.args.sheet.now c.args.message.now _ c.in_ok-pile.ensures c.in_err-hear.field-0.0 x.0 x.1.0 x.1.1, refl)

pub returns-in_err-answer : goal.returns-in_err-answer
returns-in_err-answer c =
    let x = c.in_ok-hear.ensures.made.exact (search rules, lit< tt) in
    let p = err_from_is_err_and c.from_residual-in_err-answer.result c.from_residual-in_err-answer.ensures.1 in
    rw (p.1, p.2) (answer_reply c.args.sheet.now c.args.message.now _ c.in_ok-pile.ensures _ c.in_ok-hear.field-0 x.0 x.1.0 x.1.1 (c.in_err-answer.ensures x.0 x.2), refl)

pub returns : goal.returns
returns c =
    let x = c.in_ok-hear.ensures.made.exact (search rules, lit< tt) in
    made_so c.push_read.result _ _
    (λ _ e. (_, answer_reply c.args.sheet.now c.args.message.now _ c.in_ok-pile.ensures _ c.in_ok-hear.field-0 x.0 x.1.0 x.1.1 (c.in_ok-answer.ensures x.0 x.2), e))
    c.push_read.ensures
