use Rattle.seats.proofs.SeatLent.{Emptied}
use Rattle.seats.proofs.calls.open.Given as goal

abbrev pub invariant-loop-k : goal.invariant-loop-k
invariant-loop-k l = Emptied l.sheet l.k l.hall
