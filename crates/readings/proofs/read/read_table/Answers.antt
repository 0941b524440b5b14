use Rattle.std.proofs.Common.{◌+◌, ◌<◌, length, set, sym, refl, ◌∙◌, arith}
use Rattle.readings.proofs.Turns.{longer_one, longer_then, taken_one, length_right}
use Rattle.readings.proofs.Readings.{unread, start_listed, stage_start, reads_single, reads_cheapest, stage_as, reads_as}
use Rattle.readings.proofs.read.read_table.Goals as goal

pub returns-in_err-price : goal.returns-in_err-price
returns-in_err-price g c =
    rw c.from_residual.ensures
    (unread c.args.rules.list.now g.S.Scale.measure g.met.S.Scale.lawful c.args.ground.now.words.now _ c.requires.filled c.args.start _ (sym (c.price_of.ensures g.S.Scale.measure) ∙ c.in_err-price.was))

pub returns-then-n-eq0 : goal.returns-then-n-eq0
returns-then-n-eq0 g c =
    let e = sym (c.price_of.ensures g.S.Scale.measure) ∙ c.in_ok-price.was in
    let l : 0 < length c.args.list.now = omega arith in
    let w = longer_one c.args.list.now 0 0 l in
    reads_cheapest c.args.rules.list.now g.S.Scale.measure g.met.S.Scale.lawful c.args.ground.now.words.now _ c.requires.filled c.args.start c.in_ok-price.price e c.args.list.now (set c.args.list.now 0 0) 1
    (reads_as (taken_one c.args.list.now 0 0 l) (reads_single c.args.rules.list.now g.S.Scale.measure g.met.S.Scale.lawful c.args.ground.now.words.now _ c.requires.filled c.args.start c.in_ok-price.price e c.if-n-eq0.true))
    w.within (omega arith) w.rest

pub write_form-length-requires : goal.write_form-length-requires
write_form-length-requires g c =
    let e = sym (c.price_of.ensures g.S.Scale.measure) ∙ c.in_ok-price.was in
    let l : 0 < length c.args.list.now = omega arith in
    let s = start_listed c.args.rules.list.now g.S.Scale.measure g.met.S.Scale.lawful c.args.ground.now.words.now _ c.requires.filled c.args.start c.in_ok-price.price e in (
      omega arith,
      (
        omega arith,
        (
          c.requires.filled.recorded,
          rw c.from.ensures
              (stage_as refl (taken_one c.args.list.now 0 (c.rule_of.result + 1) l)
              (stage_start c.args.rules.list.now g.S.Scale.measure g.met.S.Scale.lawful c.args.ground.now.words.now _ c.requires.filled c.args.start c.in_ok-price.price e
              c.args.stack.now c.rule_of.result c.rule_of.ensures (omega (arith, c.if-n-eq0.false)) (omega arith) (omega arith) (omega arith) (length_right _ _ (c.args.rules.formed _ s).1))),
        ),
      ),
    )

pub returns : goal.returns
returns g c =
    let e = sym (c.price_of.ensures g.S.Scale.measure) ∙ c.in_ok-price.was in
    let l : 0 < length c.args.list.now = omega arith in
    let w = longer_then _ _ _ _ _ _ (longer_one c.args.list.now 0 (c.rule_of.result + 1) l) c.write_form-length.ensures.longer in
    reads_cheapest c.args.rules.list.now g.S.Scale.measure g.met.S.Scale.lawful c.args.ground.now.words.now _ c.requires.filled c.args.start c.in_ok-price.price e c.args.list.now _ c.write_form-length.result
    c.write_form-length.ensures.reads w.within c.write_form-length.ensures.short w.rest
