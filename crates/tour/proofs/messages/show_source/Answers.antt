use Rattle.tour.proofs.Heards.{fewer}
use Rattle.tour.proofs.messages.show_source.Goals as goal

pub loop-heard-smaller : goal.loop-heard-smaller
loop-heard-smaller g c =
    let means = g.S.Source.meaning in
    let got = c.in-Ok-Some in
    fewer (means c.loop-heard.source) (means c.next.new.self) got.field-0 got.heard got.field-0-is got.ensures.answer got.ensures.left
