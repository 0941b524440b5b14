-- One turn of a run. Assumes nothing.
use Rattle.std.specs.Prelude.{ℕ, List, ◌∷◌}
use Rattle.faults.specs.Faults.{telling}
use Rattle.grammar.specs.declared.sheet.Sheet.{Sheet}
use Rattle.sources.specs.Meanings.{Meaning}
use Rattle.seats.specs.Standing.{Kept}
use Rattle.seats.specs.Standing as standing
use Rattle.seats.specs.Answers.{Answered}
use Rattle.reader.specs.declared.performing.Turn.{Turn}
use Rattle.reader.specs.Runs.{called}

-- a turn after the calls cs: its answer and its source as the rules say, and the hall kept
pub record Turned {T : Type 0} (means : T → Meaning) (s : Sheet) (cs : List standing.Call) (turn turn' : Turn T) (hall' : List ℕ) : Type 0 where
  pub answer : Answered s cs (called means turn.call) (telling turn'.answer) (called means turn'.call)
  pub kept : Kept s (called means turn.call ∷ cs) hall'
