use Rattle.std.proofs.Common.{refl}
use Rattle.faults.specs.Faults.{told}
use Rattle.replies.specs.Replies.{refused_sheet, replies}
use Rattle.replies.proofs.Wordings.{made_so}
use Rattle.replies.proofs.run.run.Goals as goal

pub returns-in-Ok : goal.returns-in-Ok
returns-in-Ok c =
    made_so c.push_replies.result _ _
    (λ _ x. (x.1, replies c.if-input-gt-LONGEST.false _ _ _ x.0 c.split_input.ensures c.in-Ok.ensures x.2 x.3, x.4))
    c.push_replies.ensures

pub returns-in-Err : goal.returns-in-Err
returns-in-Err c =
    made_so c.push_fault.result _ _
    (λ _ e. (_, refused_sheet c.if-input-gt-LONGEST.false _ _ (told c.in-Err.fault) c.split_input.ensures c.in-Err.ensures.0 refl, e))
    c.push_fault.ensures
