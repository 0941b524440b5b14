use Rattle.tables.specs.inner.Cells.{Expects}
use Rattle.tables.proofs.offers.expected.Given as goal

abbrev pub invariant-loop-w : goal.invariant-loop-w
invariant-loop-w l = Expects l.masks.before_word l.items.words l.w l.mask
