use Rattle.std.proofs.Common.{◌≡◌, ◌∙◌, eqb, length, ap, rules, tests}
use Rattle.std.specs.List.{position}
use Rattle.std.specs.Option.{unwrap_or}
use Rattle.std.proofs.lemmas.Iterator.{YieldsList-from_slice}
use Rattle.std.proofs.lemmas.Iterator.Search.{position_from_yields_List}
use Rattle.answers.proofs.Places.{place_or_len}
use Rattle.answers.proofs.input.find_end.Goals as goal

pub returns : goal.returns
returns c =
    let bytes = c.args.bytes.now in
    let found : c.position-place.result ≡ position (λ b. eqb b 10) bytes = position_from_yields_List (λ b. eqb b 10) _ _ c.position-place.result c.position-place.ensures.ran (YieldsList-from_slice bytes cc) (λ x b q k. search (rules, tests)) in
    c.unwrap_or.ensures ∙ ap (λ o. unwrap_or o (length bytes)) found ∙ place_or_len (λ b. eqb b 10) bytes
