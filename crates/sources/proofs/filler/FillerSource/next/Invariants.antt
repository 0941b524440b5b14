use Rattle.std.proofs.Common.{◌≡◌, length}
use Rattle.sources.specs.Meanings.{without}
use Rattle.sources.proofs.filler.FillerSource.next.Given as goal

-- what was passed over so far is left out
abbrev pub invariant-loop-heard : goal.invariant-loop-heard
invariant-loop-heard g l =
    let means = g.S.Source.meaning in
    without l.self.fillers (means l.self.below) ≡ without l.initial.self.fillers (means l.initial.self.below)

abbrev pub decreases-loop-heard : goal.decreases-loop-heard
decreases-loop-heard g l = length (g.S.Source.meaning l.self.below).words
