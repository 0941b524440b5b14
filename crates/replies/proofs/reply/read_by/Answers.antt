use Rattle.std.proofs.Common.{lit<, rules}
use Rattle.replies.proofs.Wordings.{read_by_scale}
use Rattle.replies.proofs.reply.read_by.Goals as goal

pub returns : goal.returns
returns g c = λ ws seated.
    read_by_scale c.args.sheet.now g.C.Scale.measure ws _ _ c.read.result
    (c.read.ensures.exact (c.requires, lit< tt) (record { list = search rules; prices = search rules; numbers = search rules }) ws seated)
