use Rattle.std.proofs.Common.{length}
use Rattle.sheets.specs.inner.Fields.{Symbols}
use Rattle.sheets.proofs.lines.are_symbols.Given as goal

-- the fields are symbols where those that are left are
abbrev pub invariant-loop-field : goal.invariant-loop-field
invariant-loop-field l = (Symbols l.rest → Symbols l.fields) × (Symbols l.fields → Symbols l.rest)

abbrev pub decreases-loop-field : goal.decreases-loop-field
decreases-loop-field l = length l.rest
