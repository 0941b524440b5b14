use Rattle.std.proofs.Common.{◌≡◌, ◌∙◌, eqb, take, ap, rules, tests}
use Rattle.std.specs.List.{find}
use Rattle.std.specs.Option.{option_map, option_map_or}
use Rattle.std.proofs.lemmas.Iterator.{YieldsList-from_slice}
use Rattle.std.proofs.lemmas.Iterator.Search.{find_from_yields_List}
use Rattle.sources.proofs.Scans.{meant_found}
use Rattle.sources.proofs.alias.Alias.meant.Goals as goal

pub returns : goal.returns
returns g c =
    let s = c.args.self.now in
    let w = c.args.word in
    let pairs = take s.pairs.len s.pairs.items in
    let found : option_map (λ a. a.now) c.find-pair.result ≡ find (λ a. eqb a.said w) pairs = find_from_yields_List (λ a. eqb a.said w) _ _ c.find-pair.result c.find-pair.ensures.ran (YieldsList-from_slice pairs cc) (λ x b q k. search (rules, tests)) in
    let told : c.map_or.result ≡ option_map_or (λ a. a.meant) (option_map (λ a. a.now) c.find-pair.result) w = search rules in
    told ∙ ap (λ o. option_map_or (λ a. a.meant) o w) found ∙ meant_found pairs w
