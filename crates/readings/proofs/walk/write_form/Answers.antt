use Rattle.std.proofs.Common.{sym, ◌∙◌}
use Rattle.readings.proofs.Turns.{longer_then, renamed}
use Rattle.readings.proofs.walk.write_form.Goals as goal

pub loop-at-preserved : goal.loop-at-preserved
loop-at-preserved g c = record {
  stage = renamed (sym c.loop-at.invariant.same) c.turn-at.ensures.turned.stage;
  longer = longer_then _ _ _ _ _ _ c.loop-at.invariant.longer c.turn-at.ensures.longer;
  same = c.turn-at.ensures.same ∙ c.loop-at.invariant.same;
}
