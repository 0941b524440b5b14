use Rattle.std.proofs.Common.{◌≤◌, eqb, length, sym, subst}
use borrow.Author.Tests.{eqb-false}
use Rattle.answers.proofs.Messaging.{taken_at}
use Rattle.answers.proofs.Places.{place_within}
use Rattle.answers.proofs.input.next_message.Goals as goal

pub cut-requires : goal.cut-requires
cut-requires c = subst (λ n. n ≤ length c.args.rest.now) (sym c.find_end-end.ensures) (place_within (λ b. eqb b 10) c.args.rest.now)

pub returns : goal.returns
returns c =
    taken_at c.args.rest.now _ _ c.find_end-end.result (eqb-false _ 0 (sym c.if-is_empty.ensures)) c.find_end-end.ensures c.cut.ensures.before c.cut.ensures.after
