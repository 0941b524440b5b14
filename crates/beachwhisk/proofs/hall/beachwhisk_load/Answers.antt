use Rattle.std.proofs.Common.{length, rules}
use Rattle.std.proofs.lemmas.Result.{MatchResult-weaker}
use Rattle.faults.specs.Faults.{telling}
use Rattle.grammar.specs.View.{words_in}
use Rattle.beachwhisk.proofs.Sheets.{given, number}
use Rattle.beachwhisk.proofs.hall.beachwhisk_load.Goals as goal

pub returns : goal.returns
returns c = (
  telling c.map.result,
  c.into.ensures,
  given _ _ c.sheet_of.result c.map.result c.sheet_of.ensures
      (MatchResult-weaker c.sheet_of.result c.map.ensures.cases
      (λ s p. number c.map.result (length (words_in s)) _ (λ m q. search rules) p)
      (λ e p. p)),
)
