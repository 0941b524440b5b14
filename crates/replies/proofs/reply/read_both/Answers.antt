use Rattle.replies.proofs.Wordings.{reading_answer}
use Rattle.replies.proofs.reply.read_both.Goals as goal

pub invariant_of-result : goal.invariant_of-result
invariant_of-result c = let best = c.in_ok-points.ensures c.requires.seated.0 c.requires.seated.1 in record { short = best.short }

pub returns : goal.returns
returns c = λ ws seated.
    reading_answer c.args.sheet.now ws c.read_by-2.new.list c.read_by.new.list c.in_ok-worst.worst c.in_ok-points.points (c.in_ok-worst.ensures ws seated) (c.in_ok-points.ensures ws seated)
