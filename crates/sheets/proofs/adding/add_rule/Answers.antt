use Rattle.std.proofs.Common.{◌≤◌, [], ◌∷◌, ◌++◌, length, ◌∙◌, arith, rules}
use Rattle.std.proofs.lemmas.Result.{err_from_is_err_and}
use Rattle.sheets.specs.Lines.{rule}
use Rattle.sheets.specs.Spellings.{names_among, names_of, with_one}
use Rattle.sheets.specs.Limits.{number}
use Rattle.sheets.proofs.Pushing.{names_fit}
use Rattle.sheets.proofs.Held.{no_name, room}
use Rattle.sheets.proofs.RuleLines.{symbols_fit, left_held, rule_more, overfull}
use Rattle.sheets.proofs.adding.add_rule.Goals as goal

pub returns-in_err-number : goal.returns-in_err-number
returns-in_err-number c =
    let p = err_from_is_err_and c.from_residual.result c.from_residual.ensures.1 in
    rw (p.1, p.2) (λ before ss drafted is well within. let heavy = c.in_err-number.ensures in let light = within.0.0 in omega arith)

pub returns-in_err-name : goal.returns-in_err-name
returns-in_err-name c =
    let a = c.args.left.now in
    let p = err_from_is_err_and c.from_residual-in_err-name.result c.from_residual-in_err-name.ensures.1 in
    rw (p.1, p.2) (λ before ss drafted is well within. no_name before _ _ _ drafted a (names_among ss) c.in_err-name.ensures within.0.1 (names_fit before (rule c.args.weight.now a ss) within.1))

pub returns-in_err-rule : goal.returns-in_err-rule
returns-in_err-rule c =
    let a = c.args.left.now in
    let e = c.name_number.new.draft in
    let p = err_from_is_err_and c.from_residual-in_err-rule.result c.from_residual-in_err-rule.ensures.1 in
    rw (p.1, p.2) (λ before ss drafted is well within.
    let held = left_held before a c.in_ok-name.name c.args.draft.now e drafted c.in_ok-name.ensures.0 in
    c.in_err-rule.ensures.read before (with_one (names_of before) a) ss held is well.2 (symbols_fit before c.args.weight.now a ss within.0 within.1))

pub returns-in_err-push_rule : goal.returns-in_err-push_rule
returns-in_err-push_rule c =
    let a = c.args.left.now in
    let k = c.in_ok-name.name in
    let e = c.name_number.new.draft in
    let f = c.read_rule.new.draft in
    let first = c.in_ok-name.ensures.0 in
    let p = err_from_is_err_and c.from_residual-in_err-push_rule.result c.from_residual-in_err-push_rule.ensures.1 in
    rw (p.1, p.2) (λ before ss drafted is well within.
    let read = c.in_ok-rule.ensures.read before (with_one (names_of before) a) ss (left_held before a k c.args.draft.now e drafted first) is well.2 in
    overfull before a k c.args.draft.now e drafted first c.args.weight.now ss f c.in_ok-rule.rule read c.in_err-push_rule.ensures.0 within.1)

pub returns : goal.returns
returns c before ss drafted is well =
    let w = c.args.weight.now in
    let a = c.args.left.now in
    let k = c.in_ok-name.name in
    let e = c.name_number.new.draft in
    let f = c.read_rule.new.draft in
    let p = c.in_ok-rule.rule in
    let first = c.in_ok-name.ensures.0 in
    let formed = c.in_ok-rule.ensures.formed in
    let read = c.in_ok-rule.ensures.read before (with_one (names_of before) a) ss (left_held before a k c.args.draft.now e drafted first) is well.2 in
    let done = rule_more before a k c.args.draft.now e drafted first w ss f p read c.push_rule.new.self c.in_ok-push_rule.ensures (formed.1 ∙ c.in_ok-number.ensures) formed.2 in
    let light : number w ≤ 65535 = search rules in
    let few : length ss ≤ 8 = (let n = read.counted in let l = formed.0.1 in omega arith) in
    (done, ((light, c.in_ok-name.ensures.1, read.short, few), room (before ++ (rule w a ss ∷ [])) c.push_rule.new.self done), λ z. z)
