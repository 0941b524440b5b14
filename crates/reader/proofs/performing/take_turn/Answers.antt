use Rattle.reader.proofs.performing.take_turn.Goals as goal

pub returns : goal.returns
returns g c = λ cs before. record { answer = c.make-turn.ensures.answer cs before; kept = c.make-turn.ensures.kept cs before }
