use Rattle.replies.proofs.Wordings.{made_so}
use Rattle.replies.proofs.reply.reply.Goals as goal

pub returns-in-Ok : goal.returns-in-Ok
returns-in-Ok c = c.in-Ok.ensures

pub returns-in-Err : goal.returns-in-Err
returns-in-Err c = made_so c.push_fault.result _ _ (λ _ e. (_, c.in-Err.ensures.0, rw c.in-Err.ensures.1 at e)) c.push_fault.ensures
