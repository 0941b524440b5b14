use Rattle.std.proofs.Common.{◌<◌, length, refl, ap, ◌∙◌, arith, length-append}
use Rattle.std.proofs.lemmas.List.{length-set}
use Rattle.std.proofs.lemmas.Result.{err_from_is_err_and}
use Rattle.sheets.specs.Spellings.{words_of}
use Rattle.sheets.proofs.Reading.{symbols_cut}
use Rattle.sheets.proofs.Rights.{formed_more, midway_start, midway_more, midway_barred, ninth, righted}
use Rattle.sheets.proofs.rules.read_rule.Goals as goal

pub loop-field-init : goal.loop-field-init
loop-field-init c = (
  (c.requires.0, (omega arith), λ k l. absurd (omega arith)),
  refl,
  refl,
  refl,
  c.requires.1,
  λ before N ss h e all. midway_start before N (words_of before) ss _ _ _ h e all refl,
)

pub symbol_number-requires : goal.symbol_number-requires
symbol_number-requires c =
    (symbols_cut c.loop-field.rest.now c.in-Some.field.now c.in-Some.after.now c.in-Some.ensures c.loop-field.invariant.4).0

pub loop-field-preserved : goal.loop-field-preserved
loop-field-preserved c =
    let inv = c.loop-field.invariant in
    let d = c.loop-field.draft in
    let e = c.symbol_number.new.draft in
    let p = c.loop-field.rule in
    let k = c.in_ok-symbol.symbol in
    let bytes = c.loop-field.rest.now in
    let f = c.in-Some.field.now in
    let r = c.in-Some.after.now in
    let found = c.in-Some.ensures in
    let enters = c.in_ok-symbol.ensures in
    let few : p.len < 8 = (let l = inv.0.1 in let n = c.if-rule-eq8.false in omega arith) in
    let room : p.len < length p.symbols = (let l = inv.1 in omega arith) in (
      formed_more d e f p k enters inv.0 room few,
      length-set p.symbols p.len k ∙ inv.1,
      inv.2,
      inv.3,
      (symbols_cut bytes f r found inv.4).1,
      λ before N ss h q all. midway_more before N (words_of before) ss bytes d p f r k e inv.0 room found enters (inv.5 before N ss h q all),
    )

pub loop-field-smaller : goal.loop-field-smaller
loop-field-smaller c =
    let e = ap length c.in-Some.ensures.0 in
    let l = length-append c.in-Some.field.now c.in-Some.after.now in
    omega arith

pub returns-then-rule-eq8 : goal.returns-then-rule-eq8
returns-then-rule-eq8 c =
    let inv = c.loop-field.invariant in
    record {
      formed = tt;
      read = λ before N ss h q all. ninth before N (words_of before) ss _ _ _ c.in-Some.field.now c.in-Some.after.now inv.1 c.if-rule-eq8.true c.in-Some.ensures (inv.5 before N ss h q all);
    }

pub returns-in_err-symbol : goal.returns-in_err-symbol
returns-in_err-symbol c =
    let inv = c.loop-field.invariant in
    let p = err_from_is_err_and c.from_residual.result c.from_residual.ensures.1 in
    rw p.1 (record {
      formed = tt;
      read = λ before N ss h q all. midway_barred before N (words_of before) ss _ _ _ c.in-Some.field.now c.in-Some.after.now c.in-Some.ensures c.in_err-symbol.ensures (inv.5 before N ss h q all);
    })

pub returns : goal.returns
returns c =
    let inv = c.loop-field.invariant in
    record {
      formed = (inv.0, inv.2, inv.3);
      read = λ before N ss h q all. righted before N (words_of before) ss _ _ _ inv.1 inv.0.1 c.in_default.ensures (inv.5 before N ss h q all);
    }
