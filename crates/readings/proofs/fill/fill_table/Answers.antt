use Rattle.std.proofs.Common.{◌≡◌, ◌+◌, length, refl, ◌∙◌, arith}
use Rattle.std.proofs.lemmas.List.{get_or-replicate}
use Rattle.readings.proofs.Fills.{filled_none, filled_turn}
use Rattle.readings.proofs.Places.{table_none}
use Rattle.readings.proofs.fill.fill_table.Goals as goal

pub loop-j-init : goal.loop-j-init
loop-j-init g c = record {
  same = refl;
  filled = filled_none c.args.rules.list.now g.S.Scale.measure g.met.S.Scale.lawful _ _ 0 0 (table_none g.S.Scale.measure c.args.lent.now.prices.now c.fill.new.self (λ x h. rw (c.fill.ensures.after (λ y e. e)) (get_or-replicate (length c.args.lent.now.numbers.now) x 0 0 (omega arith))));
}

pub loop-j-preserved : goal.loop-j-preserved
loop-j-preserved g c = record {
  same = c.fill_column.ensures.same ∙ c.loop-j.invariant.same;
  filled = filled_turn c.args.rules.list.now g.S.Scale.measure g.met.S.Scale.lawful _ _ 0 c.loop-j.j (rw c.loop-j.invariant.same at c.fill_column.ensures.filled);
}

pub returns-2-clause-filled : goal.returns-2-clause-filled
returns-2-clause-filled g c =
    let e : c.loop-j.j ≡ length c.args.lent.now.words.now = omega arith in
    let f : c.loop-j.j + 1 + 1 ≡ c.loop-j.j + 2 = omega arith in
    rw e at (rw f at (filled_turn c.args.rules.list.now g.S.Scale.measure g.met.S.Scale.lawful _ _ 0 c.loop-j.j (rw c.loop-j.invariant.same at c.fill_column.ensures.filled)))
