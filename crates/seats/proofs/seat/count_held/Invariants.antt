use Rattle.std.proofs.Common.{◌≡◌, ◌+◌, ◌*◌, ◌≤◌, drop}
use Rattle.seats.specs.Calls.{ones_of}
use Rattle.seats.proofs.seat.count_held.Given as goal

abbrev pub invariant-loop-number : goal.invariant-loop-number
invariant-loop-number l = (l.held + ones_of (drop l.number-index l.number-items) ≡ ones_of (drop 21 l.seat)) × (l.held ≤ 64 * l.number-index)
