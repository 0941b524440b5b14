use Rattle.std.proofs.Common.{arith}
use Rattle.faults.specs.Faults.{told, telling}
use Rattle.sources.proofs.First.{handed_on}
use Rattle.reader.specs.Runs.{calls_of}
use Rattle.reader.proofs.Answering.{opened_fits}
use Rattle.reader.proofs.Turns.{so_far_none, so_far_more, all_kept, all_answered, read_after, performed_not}
use Rattle.reader.proofs.performing.perform.Goals as goal

pub loop-turn-init : goal.loop-turn-init
loop-turn-init g c =
    let s = c.args.sheet.now in
    let e = c.in_ok-open.ensures in
    let fits = opened_fits s c.args.hall.now c.in_ok-open.field-0 c.open.new.hall e.opened in
    so_far_none g.T.Source.meaning s c.args.turns.now c.open.new.hall (e.first fits)

pub loop-turn-preserved : goal.loop-turn-preserved
loop-turn-preserved g c =
    let l = c.loop-turn in
    so_far_more g.T.Source.meaning c.args.sheet.now c.args.turns.now l.turn-index l.turns l.hall l.invariant c.turn-item.result c.take_turn.new.turn c.take_turn.new.hall (omega arith) c.take_turn.ensures

pub returns-in_err-open : goal.returns-in_err-open
returns-in_err-open g c =
    let f = c.in_err-open.field-0.0 in
    let r = c.from_residual.result in
    performed_not g.T.Source.meaning c.args.sheet.now g.C.Scale.measure c.args.seat c.args.hall.now c.args.turns.now
    (record { list = c.args.list.now; prices = c.args.prices.now; numbers = c.args.numbers.now }) (telling r) c.open.new.hall (told f)
    (handed_on r f c.from_residual.ensures.1) c.in_err-open.ensures.opened

pub returns : goal.returns
returns g c =
    let means = g.T.Source.meaning in
    let s = c.args.sheet.now in
    let turns = c.args.turns.now in
    let l = c.loop-turn in
    let last = c.read.new in
    let fits = opened_fits s c.args.hall.now c.in_ok-open.field-0 c.open.new.hall c.in_ok-open.ensures.opened in
    let kept = all_kept means s turns l.turn-index l.turns l.hall l.invariant (omega arith) in
    record {
      no_hall = λ ne. absurd (ne fits);
      kept = λ e. kept;
      answers = λ e. all_answered means s turns l.turn-index l.turns l.hall l.invariant (omega arith);
      reading = λ e. read_after s g.C.Scale.measure (calls_of means turns) c.args.seat l.hall
          (record { list = c.args.list.now; prices = c.args.prices.now; numbers = c.args.numbers.now }) (telling c.read.result)
          (record { list = last.list; prices = last.prices; numbers = last.numbers }) kept c.read.ensures;
    }
