use Rattle.std.proofs.Common.{◌≡◌, ℕ, Some, None, Result, subst, rules}
use Rattle.faults.specs.declared.Fault.{Fault}
use Rattle.seats.specs.Answers.{Said}
use Rattle.seats.proofs.Listening.{retold}
use Rattle.faults.specs.Faults.{told, telling}
use Rattle.sources.proofs.First.{handed_on}
use Rattle.sources.proofs.Layers.{called}
use Rattle.seats.proofs.Records.{seat_whole}
use Rattle.seats.proofs.Listening.{passed_on, refused_on, fewer, listening_none, listening_more, listening_stops, listening_ends, listening_faults}
use Rattle.seats.proofs.hearing.listen.Goals as goal

pub loop-heard-init : goal.loop-heard-init
loop-heard-init g c = listening_none c.args.sheet.now (g.S.Source.meaning c.args.source.now) c.vacate.new.seat c.vacate.ensures

pub add-requires : goal.add-requires
add-requires g c =
    let l = c.loop-heard in
    let stand = l.invariant.stand in
    seat_whole c.args.sheet.now l.invariant.words l.seat stand

pub returns-in_err-heard : goal.returns-in_err-heard
returns-in_err-heard g c =
    let means = g.S.Source.meaning in
    let s = c.args.sheet.now in
    let l = c.loop-heard in
    let m = means c.args.source.now in
    let k' = means c.next.new.self in
    let f = c.in_err-heard.field-0.0 in
    let e = c.in_err-heard.ensures in
    let r = c.from_residual.result in
    listening_faults s m (means l.source) l.n l.seat l.invariant k' (told f) (telling r) (handed_on r f c.from_residual.ensures.1)
    (record { answer = e.answer; left = e.left })

pub returns-in_err-n : goal.returns-in_err-n
returns-in_err-n g c =
    let means = g.S.Source.meaning in
    let s = c.args.sheet.now in
    let l = c.loop-heard in
    let m = means c.args.source.now in
    let k = means l.source in
    let k' = means c.next.new.self in
    let h = c.in-Some.heard in
    let e = c.in_ok-heard.ensures in
    let took = called c.in_ok-heard.field-0 (Some h) k k' c.in-Some.is e.answer e.left in
    let ys = c.add.new.seat in
    let y = c.add.ensures.said l.invariant.words l.invariant.stand in
    let f = c.in_err-n.field-0.0 in
    let r = c.from_residual-in_err-n.result in
    let p = refused_on c.add.result c.map_err.result f _ c.in_err-n.was c.map_err.ensures.cases in
    let tells : told f ≡ retold (told p.0) h.place = search rules in
    listening_stops s m k l.n l.seat l.invariant k' h took ys y.0 y.2 (told p.0) (told f) (telling r) (handed_on r f c.from_residual-in_err-n.ensures.1) tells
    (subst (λ (a : Result ℕ Fault). Said s l.invariant.words h.word (telling a) y.0) p.1 y.1)

pub loop-heard-preserved : goal.loop-heard-preserved
loop-heard-preserved g c =
    let means = g.S.Source.meaning in
    let s = c.args.sheet.now in
    let l = c.loop-heard in
    let m = means c.args.source.now in
    let k = means l.source in
    let k' = means c.next.new.self in
    let h = c.in-Some.heard in
    let e = c.in_ok-heard.ensures in
    let took = called c.in_ok-heard.field-0 (Some h) k k' c.in-Some.is e.answer e.left in
    let y = c.add.ensures.said l.invariant.words l.invariant.stand in
    let e = passed_on c.add.result c.map_err.result c.in_ok-n.n _ c.in_ok-n.was c.map_err.ensures.cases in
    listening_more s m k l.n l.seat l.invariant k' h took c.add.new.seat y.0 y.2 c.in_ok-n.n (subst (λ (r : Result ℕ Fault). Said s l.invariant.words h.word (telling r) y.0) e y.1)

pub loop-heard-smaller : goal.loop-heard-smaller
loop-heard-smaller g c =
    let means = g.S.Source.meaning in
    let k = means c.loop-heard.source in
    let k' = means c.next.new.self in
    let h = c.in-Some.heard in
    let e = c.in_ok-heard.ensures in
    fewer k k' h (called c.in_ok-heard.field-0 (Some h) k k' c.in-Some.is e.answer e.left)

pub returns : goal.returns
returns g c =
    let means = g.S.Source.meaning in
    let l = c.loop-heard in
    let k = means l.source in
    let k' = means c.next.new.self in
    let e = c.in_ok-heard.ensures in
    let took = called c.in_ok-heard.field-0 None k k' c.in_default.is e.answer e.left in
    listening_ends c.args.sheet.now (means c.args.source.now) k l.n l.seat l.invariant k' took
