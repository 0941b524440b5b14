use Rattle.std.proofs.Output.{has_written_append, has_written_of_eq}
use Rattle.answers.proofs.Spacing.{spaced_all}
use Rattle.answers.proofs.lines.FormDisplay.fmt.Goals as goal

pub returns-clause-writes : goal.returns-clause-writes
returns-clause-writes g c = λ plain ok.
    let first = c.in_ok-write.ensures.writes plain ok in
    has_written_of_eq _ _ _ _ _
    (spaced_all c.args.self.now.0.now c.loop-number.number-index c.in-len1-up.len_at_least c.loop-number-test.false)
    (has_written_append _ _ _ _ _ _ first (c.loop-number.invariant first.plain))
