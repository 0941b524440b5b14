use Rattle.std.proofs.Common.{◌≡◌, ℕ, ◌+◌, ◌-◌, refl, ◌∙◌, subst, arith}
use Rattle.std.proofs.lemmas.List.{length-set}
use Rattle.grammar.specs.View.{grammar_of}
use Rattle.tables.specs.inner.Cells.{Filling, Wanting}
use Rattle.tables.proofs.Sheets.{sheet_fitting}
use Rattle.tables.proofs.Filled.{filling_start, filling_row, wanting_row, beside_same, beside_then, stored_beside, ready_from, column_done}
use Rattle.tables.proofs.column.NextColumn.fill.Goals as goal

pub loop-i-init : goal.loop-i-init
loop-i-init c =
    let s = c.args.self.now in (
      refl,
      beside_same c.args.table.now s.j,
      λ ws x. (filling_start (grammar_of s.sheet.now) ws c.args.table.now _ s.j x.columns, c.starting-wants.ensures ws c.args.table.now),
    )

pub loop-i-preserved : goal.loop-i-preserved
loop-i-preserved c =
    let s = c.args.self.now in
    let g = grammar_of s.sheet.now in
    let room = sheet_fitting s.sheet.now in
    let i = c.loop-i.i - 1 in
    let e : c.loop-i.i ≡ i + 1 = omega arith in
    let old = c.loop-i.table in
    let new = c.store.new.table in
    let xs = c.cell-set.result.words in (
      length-set c.loop-i.overs i c.over.result ∙ c.loop-i.invariant.0,
      beside_then c.args.table.now old new s.j c.loop-i.invariant.1 (stored_beside old new i s.j xs (omega arith) c.store.ensures),
      λ ws x.
          let p = c.loop-i.invariant.2 ws x in
          let r = ready_from g ws c.args.table.now old c.loop-i.overs i s.j s.w c.loop-i.i e x p.0 in
          let done = c.cell-set.ensures ws r in
          let wants = subst (λ (k : ℕ). Wanting g ws old s.j k c.loop-i.wants.words) e p.1 in (
            filling_row g ws old new c.loop-i.overs i s.j s.w xs c.over.result (omega arith) (omega (arith, c.loop-i.invariant.0)) r done c.store.ensures c.over.ensures,
            wanting_row g room ws old new i s.j xs c.loop-i.wants.words c.asked.result.words c.or-wants.result.words (omega arith) wants done.gathered.only c.store.ensures c.asked.ensures c.or-wants.ensures.union,
          ),
    )

pub returns : goal.returns
returns c =
    let s = c.args.self.now in
    let g = grammar_of s.sheet.now in
    let z : c.loop-i.i ≡ 0 = omega arith in
    let old = c.loop-i.table in
    let new = c.store-2.new.table in
    record {
      exact = λ ws x.
          let p = c.loop-i.invariant.2 ws x in
          column_done g (sheet_fitting s.sheet.now) ws old new c.loop-i.overs s.j c.loop-i.wants.words c.«open».result.words x.within
          (subst (λ (k : ℕ). Filling g ws old c.loop-i.overs s.j k) z p.0)
          (subst (λ (k : ℕ). Wanting g ws old s.j k c.loop-i.wants.words) z p.1)
          c.«open».ensures c.store-2.ensures;
      others = beside_then c.args.table.now old new s.j c.loop-i.invariant.1 (stored_beside old new s.j s.j c.«open».result.words (omega arith) c.store-2.ensures);
    }
