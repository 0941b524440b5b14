use Rattle.std.proofs.Common.{◌≡◌, ◌∙◌, ◌-◌, length, take, drop, ap, rules, tests, arith}
use Rattle.std.specs.List.{position, zip}
use Rattle.std.specs.Option.{unwrap_or}
use Rattle.std.proofs.lemmas.List.{take_all, length-drop}
use Rattle.std.proofs.lemmas.Iterator.{YieldsList-from_slice, YieldsList-from_zip}
use Rattle.std.proofs.lemmas.Iterator.Consumers.{YieldsList-from_copied}
use Rattle.std.proofs.lemmas.Iterator.Search.{position_from_yields_List}
use Rattle.answers.proofs.Walks.{both_end, split_now, split_later}
use Rattle.answers.proofs.input.find_empty_line.Goals as goal

pub returns-in-empty-clause-split : goal.returns-in-empty-clause-split
returns-in-empty-clause-split c = split_now c.args.input.now (λ l. omega arith)

pub returns-in-empty-2-clause-split : goal.returns-in-empty-2-clause-split
returns-in-empty-2-clause-split c = split_now c.args.input.now (λ l. search rules)

pub returns-in-len1-up-clause-split : goal.returns-in-len1-up-clause-split
returns-in-len1-up-clause-split c =
    let input = c.args.input.now in
    let rest = take (length input - 1) (drop 1 input) in
    let found : c.position-place.result ≡ position both_end (zip input rest) =
    position_from_yields_List {s = c.zip-pairs.result} both_end _ _ c.position-place.result c.position-place.ensures.ran
    (YieldsList-from_zip (YieldsList-from_copied (YieldsList-from_slice input cc)) (YieldsList-from_copied (YieldsList-from_slice rest cc)))
    (λ x b q k. search (rules, tests)) in
    split_later input rest c.unwrap_or.result c.in-len1-up.len_at_least (λ e. search rules) (take_all (length input - 1) (drop 1 input) (omega (arith, length-drop 1 input))) (c.unwrap_or.ensures ∙ ap (λ o. unwrap_or o (length rest)) found)
