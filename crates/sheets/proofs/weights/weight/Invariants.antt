use Rattle.std.proofs.Common.{◌≡◌, ◌≤◌, drop}
use Rattle.sheets.specs.Limits.{number, number_after}
use Rattle.sheets.proofs.weights.weight.Given as goal

abbrev pub invariant-loop-c : goal.invariant-loop-c
invariant-loop-c l = (l.n ≤ 65535) × (number l.digits ≡ number_after l.n (drop l.c-index l.digits))
