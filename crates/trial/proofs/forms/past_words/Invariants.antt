use Rattle.std.proofs.Common.{length}
use Rattle.trial.proofs.forms.past_words.Given as goal

abbrev pub decreases-loop-word : goal.decreases-loop-word
decreases-loop-word l = length l.rest
