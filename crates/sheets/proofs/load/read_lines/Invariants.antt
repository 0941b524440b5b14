use Rattle.std.proofs.Common.{◌≡◌, ◌+◌, ◌≤◌, List, ◌++◌, length}
use Rattle.std.specs.List.{AllByRecursion}
use Rattle.sheets.specs.Lines.{Line, Well}
use Rattle.sheets.specs.Limits.{Accepted}
use Rattle.sheets.specs.Texts.{ended}
use Rattle.sheets.specs.inner.Drafting.{Drafted}
use Rattle.sheets.proofs.load.read_lines.Given as goal

-- the lines before the rest are in order, and the draft holds them
abbrev pub invariant-loop-rest : goal.invariant-loop-rest
invariant-loop-rest l =
    (before : List Line) × (l.text ≡ ended before ++ l.rest) × AllByRecursion Well before × Accepted before × Drafted before l.draft
    × (l.number ≡ length before) × (l.number + length l.rest ≤ length l.text)

abbrev pub decreases-loop-rest : goal.decreases-loop-rest
decreases-loop-rest l = length l.rest
