use Rattle.std.proofs.Common.{rules}
use Rattle.std.proofs.lemmas.Result.{MatchResult-weaker}
use Rattle.faults.specs.Faults.{telling}
use Rattle.beachwhisk.proofs.Sheets.{given}
use Rattle.beachwhisk.proofs.hall.beachwhisk_offer.Goals as goal

pub returns : goal.returns
returns c = (
  telling c.and_then.result,
  c.into.ensures,
  given _ _ c.sheet_of.result c.and_then.result c.sheet_of.ensures (MatchResult-weaker c.sheet_of.result c.and_then.ensures (λ s p. search rules) (λ e p. p)),
)
