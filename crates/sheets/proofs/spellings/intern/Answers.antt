use Rattle.std.proofs.Common.{◌≡◌, position, false, take, sym, ap, ◌∙◌, arith}
use Rattle.std.proofs.lemmas.Result.{err_from_is_err_and}
use Rattle.grammar.specs.Limits.{texts}
use Rattle.sheets.specs.Spellings.{member}
use Rattle.sheets.proofs.Interning.{alike, interned_old, interned_new, crowded, unlisted}
use Rattle.sheets.proofs.spellings.intern.Goals as goal

pub returns-in-Some : goal.returns-in-Some
returns-in-Some g c =
    let old = c.args.spellings.now in
    let s = c.args.bytes.now in
    interned_old old.items old.len s old.whole c.requires.brief c.in-Some.k (ap (position (alike s)) (sym c.as_slice.ensures) ∙ sym c.find.ensures ∙ c.in-Some.is)

pub overflow_cast-k : goal.overflow_cast-k
overflow_cast-k g c = let f = c.args.spellings.now.fits in omega arith

pub returns-in_err-push : goal.returns-in_err-push
returns-in_err-push g c =
    let old = c.args.spellings.now in
    let s = c.args.bytes.now in
    let none : member s (texts old.len old.items) ≡ false = unlisted (take old.len old.items) s (ap (position (alike s)) (sym c.as_slice.ensures) ∙ sym c.find.ensures ∙ c.in_default.is) in
    let full : old.len ≡ g.row.N = (let f = old.fits in let l = c.in_err-push.ensures.0 in omega arith) in
    let p = err_from_is_err_and c.from_residual-in_err-push.result c.from_residual-in_err-push.ensures.1 in
    rw p.1 (crowded old.items old.len s old.whole c.requires.brief g.row.N full none, c.in_err-push.ensures.1)

pub returns : goal.returns
returns g c =
    let old = c.args.spellings.now in
    let s = c.args.bytes.now in
    let new = c.push.new.self in
    let none : member s (texts old.len old.items) ≡ false = unlisted (take old.len old.items) s (ap (position (alike s)) (sym c.as_slice.ensures) ∙ sym c.find.ensures ∙ c.in_default.is) in
    interned_new old.items old.len s old.whole c.requires.brief new.items new.len c.in_ok-spell.field-0 c.in_ok-push.ensures.0 c.in_ok-push.ensures.1 c.in_ok-spell.ensures.0 c.in_ok-spell.ensures.1 none
