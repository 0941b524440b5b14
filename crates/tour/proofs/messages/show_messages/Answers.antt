use Rattle.tour.proofs.Heards.{shorter}
use Rattle.tour.proofs.messages.show_messages.Goals as goal

pub loop-message-smaller : goal.loop-message-smaller
loop-message-smaller g c = shorter c.loop-message.rest.now c.in-Some.message.now c.in-Some.after.now c.in-Some.ensures
