use Rattle.std.proofs.Common.{length}
use Rattle.tour.proofs.messages.show_messages.Given as goal

abbrev pub decreases-loop-message : goal.decreases-loop-message
decreases-loop-message g l = length l.rest
