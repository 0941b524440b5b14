use Rattle.std.proofs.Common.{length}
use Rattle.seats.proofs.Listening.{Listening}
use Rattle.seats.proofs.hearing.listen.Given as goal

abbrev pub invariant-loop-heard : goal.invariant-loop-heard
invariant-loop-heard g l =
    let means = g.S.Source.meaning in
    Listening l.sheet (means l.initial.source) (means l.source) l.n l.seat

abbrev pub decreases-loop-heard : goal.decreases-loop-heard
decreases-loop-heard g l = length (g.S.Source.meaning l.source).words
