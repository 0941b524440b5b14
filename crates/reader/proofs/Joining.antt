-- A run and a source heard after it, joined. Assumes nothing.
use Rattle.std.proofs.Common.{ℕ, List, length, Result, sym, ap, ◌∙◌}
use Rattle.faults.specs.Faults.{Told}
use Rattle.grammar.specs.declared.sheet.Sheet.{Sheet}
use Rattle.sources.specs.Meanings.{Meaning}
use Rattle.seats.specs.Standing.{hear_at, open_all, clear_at, say_at, back_at}
use Rattle.seats.specs.Standing as standing
use Rattle.seats.specs.Calls.{Anew, Keeps}
use Rattle.readings.specs.declared.read.Reading.{Reading}
use Rattle.readings.specs.Scales.{Scale}
use Rattle.reader.specs.declared.performing.Turn.{Turn}
use Rattle.reader.specs.Reads.{Lent}
use Rattle.reader.specs.Runs.{calls_of, Performed}
use Rattle.reader.specs.Mixed.{Joined}
use Rattle.reader.proofs.Answering.{anew_answers}

-- what the source of a call means; any meaning where it has none
abbrev pub meant : Meaning → standing.Call → Meaning
meant m open_all = m
meant m (clear_at k) = m
meant m (say_at k w) = m
meant m (back_at k) = m
meant m (hear_at k n) = n

pub joined : {T P : Type 0} (means : T → Meaning) (s : Sheet) (S : Scale P) (k : ℕ) (hall : List ℕ) (turns : List (Turn T)) (b : Lent P) (m : Meaning)
    (read : Result (Reading P) Told) (r : Result ℕ Told) (between hall' : List ℕ) (turns' : List (Turn T)) (b' : Lent P) (m' : Meaning)
    → Performed means s S k hall turns b read between turns' b' → Anew s k (hear_at k m) between r hall' (hear_at k m') → Keeps s (hear_at k m) between hall'
    → Joined means s S k hall turns b m read r hall' turns' b' m'
joined means s S k hall turns b m read r between hall' turns' b' m' run made keeps = record {
  no_hall = λ ne.
      let x = run.no_hall ne in
      let y = made.no_seat (λ a. ne (ap length (sym x.1) ∙ a.0)) in
      (x.0, x.2, y.0.0, ap (meant m) y.1, y.0.1 ∙ x.1);
  answers = run.answers;
  reading = run.reading;
  heard = λ size. anew_answers s (hear_at k m) between r hall' (calls_of means turns) (run.kept size) (hear_at k m') (λ ws vs d. d) made;
  kept = λ size. keeps (calls_of means turns) (run.kept size);
}
