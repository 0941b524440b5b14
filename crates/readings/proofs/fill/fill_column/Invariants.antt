use Rattle.std.proofs.Common.{◌≡◌, ◌+◌}
use Rattle.readings.specs.inner.Tables.{Filled}
use Rattle.readings.specs.inner.Places.{table}
use Rattle.readings.proofs.fill.fill_column.Given as goal

abbrev pub invariant-loop-i : goal.invariant-loop-i
invariant-loop-i g l =
    record {
      same : l.lent.words.now ≡ l.initial.lent.words.now;
      filled : Filled l.rules.list.now g.S.Scale.measure l.initial.lent.words.now (table g.S.Scale.measure l.lent.prices.now l.lent.numbers.now) (l.i + 1) l.j;
    }
