use Rattle.std.proofs.Common.{◌≡◌, take}
use Rattle.readings.specs.inner.Walks.{turns}
use Rattle.readings.specs.inner.Places.{frames}
use Rattle.readings.specs.inner.Stages.{Stage, Longer}
use Rattle.readings.specs.inner.Cells.{shown}
use Rattle.readings.proofs.walk.write_form.Given as goal

abbrev pub invariant-loop-at : goal.invariant-loop-at
invariant-loop-at g l =
    record {
      stage : Stage l.rules.list.now g.S.Scale.measure l.ground.words.now (shown g.S.Scale.measure l.ground) l.initial.at.name l.stack l.at.height (take l.at.written l.list);
      longer : Longer l.initial.list l.initial.at.written l.list l.at.written;
      same : l.at.name ≡ l.initial.at.name;
    }

abbrev pub decreases-loop-at : goal.decreases-loop-at
decreases-loop-at g l = turns (frames l.rules.list.now (shown g.S.Scale.measure l.ground) l.stack l.at.height)
