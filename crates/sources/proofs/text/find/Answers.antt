use Rattle.std.proofs.Common.{◌≡◌, ◌∙◌, map, rules}
use Rattle.std.specs.Str.{bytes_eq}
use Rattle.std.proofs.lemmas.Iterator.{YieldsList-from_slice}
use Rattle.std.proofs.lemmas.Iterator.Adapters.{position_from-zero}
use Rattle.std.proofs.lemmas.Iterator.Search.{position_from_yields_List}
use Rattle.grammar.specs.Limits.{text}
use Rattle.sources.specs.Messages.{lower, numbered}
use Rattle.sources.proofs.Scans.{numbered_at}
use Rattle.sources.proofs.text.find.Goals as goal

pub returns : goal.returns
returns c =
    let w = map lower c.args.run.now in
    let ws = c.args.words.now in
    let found : c.position-place.result ≡ numbered 0 (map text ws) w =
    position_from_yields_List (λ p. bytes_eq (text p) w) _ _ c.position-place.result c.position-place.ensures.ran (YieldsList-from_slice ws cc) (λ x b q k. search rules)
    ∙ position_from-zero (λ p. bytes_eq (text p) w) ws
    ∙ numbered_at ws w 0 in
    search (rules, found)
