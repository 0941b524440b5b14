use Rattle.std.proofs.Common.{◌≡◌, ℕ, suc, ◌+◌, ◌<◌, List, [], ◌∷◌, ◌++◌, length, refl, ap, ◌∙◌, subst, arith, length-append, rules}
use Rattle.std.proofs.ByRecursion.{All-push}
use Rattle.std.proofs.lemmas.Result.{err_from_is_err_and}
use Rattle.faults.specs.Faults.{told, met}
use Rattle.faults.specs.declared.Layer.TheVariants.{Load}
use Rattle.faults.specs.declared.Refusal.TheVariants.{LineShape}
use Rattle.sheets.specs.Lines.{Line, Means, Well}
use Rattle.sheets.specs.inner.Parses.{Tells}
use Rattle.sheets.specs.inner.Drafting.{Drafted, Outcome, refusal_of}
use Rattle.sheets.proofs.Reading.{empty_from}
use Rattle.sheets.proofs.Held.{bare}
use Rattle.sheets.proofs.Loading.{line_told, accepted_none, accepted_more, text_more, rest_of, shorter, text_all, barred, mapped_ok, mapped_err}
use Rattle.sheets.proofs.load.read_lines.Goals as goal

pub loop-rest-init : goal.loop-rest-init
loop-rest-init c = ([], refl, tt, accepted_none, (bare _ c.new-draft.ensures), refl, (omega arith))

pub loop-rest-smaller : goal.loop-rest-smaller
loop-rest-smaller c = let got = rw c.in_ok-parsed.ensures.ok_part at c.next_line.ensures.line in shorter _ got.0 _ got.1

pub loop-rest-preserved : goal.loop-rest-preserved
loop-rest-preserved c =
    let inv = c.loop-rest.invariant in
    let got = rw c.in_ok-parsed.ensures.ok_part at c.next_line.ensures.line in
    let told = line_told _ got.0 got.2 in
    let done = (subst (λ r. (before : List Line) (ℓ : Line) (line : List ℕ) → Drafted before c.loop-rest.draft → Tells c.in_ok-parsed.parsed line → Means line ℓ → Outcome before ℓ r c.add_line.new.draft) (mapped_ok c.add_line.result tt c.in_ok-map_err.ensures.variant) c.add_line.ensures) inv.0 told.0 got.0 inv.4 got.2 told.1 in
    let less = shorter _ got.0 _ got.1 in
    let count = length-append inv.0 (told.0 ∷ []) in (
      inv.0 ++ (told.0 ∷ []),
      text_more _ _ got.0 _ inv.0 told.0 inv.1 got.1 told.1,
      All-push Well inv.0 told.0 inv.2 told.1.1,
      accepted_more inv.0 told.0 inv.3 done.1 done.2,
      done.0,
      (omega (arith, inv.5)),
      (omega (arith, inv.6)),
    )

pub returns-in_err-parsed : goal.returns-in_err-parsed
returns-in_err-parsed c =
    let inv = c.loop-rest.invariant in
    let there : 0 < length c.loop-rest.rest.now = search rules in
    let none = rw c.in_err-parsed.ensures.ok_part at c.next_line.ensures.line in
    let value = rw c.in_err-parsed.ensures.ok_part at c.in_err-parsed.ensures.value in
    let same : c.in_err-parsed.field-0.0 ≡ c.refused.result = cc in
    let p = err_from_is_err_and c.from_residual.result c.from_residual.ensures.1 in
    rw (p.1, p.2) (LineShape, c.loop-rest.number + 1, ap told same ∙ c.refused.ensures, (c.requires, (inv.0, c.loop-rest.rest.now, inv.1, inv.2, inv.3, (there, none), (omega (arith, inv.5)))))

pub returns-in_err-map_err : goal.returns-in_err-map_err
returns-in_err-map_err c =
    let inv = c.loop-rest.invariant in
    let got = rw c.in_ok-parsed.ensures.ok_part at c.next_line.ensures.line in
    let line = line_told _ got.0 got.2 in
    let mapped = mapped_err _ c.add_line.result c.in_err-map_err.field-0.0 c.in_err-map_err.ensures.cases in
    let made = mapped.2 in
    let t : told c.in_err-map_err.field-0.0 ≡ met (refusal_of mapped.0) (c.loop-rest.number + 1) Load = search rules in
    let outcome = (subst (λ r. (before : List Line) (ℓ : Line) (line : List ℕ) → Drafted before c.loop-rest.draft → Tells c.in_ok-parsed.parsed line → Means line ℓ → Outcome before ℓ r c.add_line.new.draft) mapped.1 c.add_line.ensures) inv.0 line.0 got.0 inv.4 got.2 line.1 in
    let after : c.loop-rest.number + 1 ≡ suc (length inv.0) = omega (arith, inv.5) in
    let p = err_from_is_err_and c.from_residual-in_err-map_err.result c.from_residual-in_err-map_err.ensures.1 in
    rw (p.1, p.2) (
      refusal_of mapped.0,
      c.loop-rest.number + 1,
      t,
      barred _ _ c.in_ok-parsed.after.now inv.0 line.0 mapped.0 _ _ c.requires inv.1 inv.2 inv.3 (rest_of _ got.0 _ line.0 got.1 line.1) line.1.1 after outcome,
    )

pub returns : goal.returns
returns c =
    let inv = c.loop-rest.invariant in
    let none = empty_from c.loop-rest.rest.now (search rules) in
    (inv.0, (text_all _ _ inv.0 inv.1 none, inv.2, inv.3), inv.4)
