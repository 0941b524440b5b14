-- What a sheet's invariant says of its rules. Assumes nothing.
use Rattle.std.proofs.Common.{◌<◌, length, arith}
use Rattle.grammar.specs.declared.sheet.Sheet.{Sheet}
use Rattle.grammar.specs.View.{rules_of}

pub rules_some : (s : Sheet) → 0 < length (rules_of s)
rules_some s = omega (arith, s.draft.rules.whole, s.some)
