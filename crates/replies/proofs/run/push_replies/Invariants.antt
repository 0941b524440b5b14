use Rattle.std.proofs.Common.{length, vec_items}
use Rattle.replies.specs.inner.Answering.{Onward}
use Rattle.replies.proofs.run.push_replies.Given as goal

abbrev pub invariant-loop-message : goal.invariant-loop-message
invariant-loop-message l = Onward l.sheet l.messages (vec_items l.initial.out) l.rest (vec_items l.out)

abbrev pub decreases-loop-message : goal.decreases-loop-message
decreases-loop-message l = length l.rest
