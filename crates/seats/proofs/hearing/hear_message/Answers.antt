use Rattle.std.proofs.Common.{subst}
use Rattle.faults.specs.Faults.{telling}
use Rattle.sources.specs.Values.{pile_means}
use Rattle.seats.specs.Standing.{hear_at}
use Rattle.seats.specs.Calls.{Anew, Keeps, heard}
use Rattle.seats.proofs.hearing.hear_message.Goals as goal

pub returns : goal.returns
returns c =
    let s = c.args.sheet.now in
    let k = c.args.seat in
    let hall = c.args.hall.now in
    let hall' = c.hear.new.hall in
    let got = c.in_ok-source.ensures in
    let r = telling c.hear.result in
    let rest = hear_at k (pile_means c.hear.new.source) in
    heard got.0 rest
    (subst (λ m. Anew s k (hear_at k m) hall r hall' rest) got.1 c.hear.ensures.made)
    (subst (λ m. Keeps s (hear_at k m) hall hall') got.1 c.hear.ensures.kept)
