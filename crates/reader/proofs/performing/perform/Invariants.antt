use Rattle.reader.proofs.Turns.{SoFar}
use Rattle.reader.proofs.performing.perform.Given as goal

abbrev pub invariant-loop-turn : goal.invariant-loop-turn
invariant-loop-turn g l = SoFar g.T.Source.meaning l.sheet l.initial.turns l.turn-index l.turns l.hall
