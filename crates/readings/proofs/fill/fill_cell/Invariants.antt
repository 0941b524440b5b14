use Rattle.std.proofs.Common.{◌≡◌}
use Rattle.readings.specs.inner.Columns.{marked}
use Rattle.readings.specs.inner.Candidates.{Offered}
use Rattle.readings.specs.inner.Filling.{Filling}
use Rattle.readings.specs.inner.Places.{table}
use Rattle.readings.proofs.fill.fill_cell.Given as goal

abbrev pub invariant-loop-k : goal.invariant-loop-k
invariant-loop-k g l =
    record {
      same : l.lent.words.now ≡ l.initial.lent.words.now;
      filling : Filling l.rules.list.now g.S.Scale.measure l.initial.lent.words.now (table g.S.Scale.measure l.lent.prices.now l.lent.numbers.now) l.i l.j l.k;
      gathered : Offered l.rules.list.now g.S.Scale.measure l.initial.lent.words.now (table g.S.Scale.measure l.lent.prices.now l.lent.numbers.now) l.i l.j l.k (marked g.S.Scale.measure l.offers.prices.now l.offers.marks);
    }
