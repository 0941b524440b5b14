use Rattle.std.proofs.Common.{rules, take}
use Rattle.std.proofs.lemmas.Iterator.{YieldsList-from_slice, YieldsList-from_map}
use Rattle.std.proofs.lemmas.Iterator.Consumers.{YieldsList-from_copied}
use Rattle.sources.specs.Messages.{lower}
use Rattle.sources.proofs.Scans.{small_letter}
use Rattle.sources.proofs.Equal.{eq_from_yields_list}
use Rattle.sources.proofs.text.spells.Goals as goal

pub returns-then-letters-run : goal.returns-then-letters-run
returns-then-letters-run c =
    let s = c.args.spelling.now in
    eq_from_yields_list c.eq.result c.eq.ensures.ran
    (YieldsList-from_copied (YieldsList-from_slice (take s.len s.bytes) cc))
    (YieldsList-from_map _ lower (YieldsList-from_slice c.args.run.now cc) c.map.ensures.closure (λ x r q k. search (rules, small_letter)))
