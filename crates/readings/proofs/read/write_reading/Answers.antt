use Rattle.std.proofs.Common.{◌<◌, List, length, sym, refl, ap, ◌∙◌, subst, arith}
use Rattle.grammar.specs.declared.Rule.{Rule}
use Rattle.grammar.specs.Closure.{AllFormed}
use Rattle.grammar.specs.View.{grammar_of}
use Rattle.readings.specs.Prices.{nth}
use Rattle.readings.specs.inner.Stages.{started}
use Rattle.grammar.proofs.Views.{rules_formed}
use Rattle.readings.proofs.Sheets.{rules_some}
use Rattle.readings.proofs.Readings.{reading_front}
use Rattle.readings.proofs.read.write_reading.Goals as goal

pub read_table-requires : goal.read_table-requires
read_table-requires g c =
    let e = sym c.rules.ensures in
    let f = subst (AllFormed 32 64) e (rules_formed c.args.sheet.now) in
    let s : 0 < length c.rules.result.now = subst (λ (rs : List Rule). 0 < length rs) e (rules_some c.args.sheet.now) in
    (omega arith, ((f 0 s).0, rw (c.ground-ground.ensures.words, c.ground-ground.ensures.prices, c.ground-ground.ensures.numbers, c.fill_table.ensures.same) c.fill_table.ensures.filled))

pub returns : goal.returns
returns g c =
    let p = ap (λ (rs : List Rule). started rs (nth rs 0).left) c.rules.ensures in
    reading_front _ (grammar_of c.args.sheet.now) g.S.Scale.measure _ c.args.words.now c.args.list.now c.in-Some.list.now c.read_table.new.list _
    p (c.ground-ground.ensures.words ∙ c.fill_table.ensures.same) c.in-Some.ensures.cases.same refl c.read_table.result c.read_table.ensures
