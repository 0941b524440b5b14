use Rattle.std.proofs.Common.{arith}
use Rattle.grammar.specs.View.{grammar_of}
use Rattle.tables.proofs.Sheets.{sheet_marked, sheet_fitting}
use Rattle.tables.proofs.Gathering.{gather_start, gather_more, gather_all}
use Rattle.tables.proofs.column.NextColumn.gather.Goals as goal

pub loop-m-init : goal.loop-m-init
loop-m-init c ws h =
    let s = c.args.self.now in
    gather_start (grammar_of s.sheet.now) ws _ (sheet_marked s.sheet.now _ c.masks.ensures) c.args.table.now c.args.overs.now c.args.i s.j s.w h c.requires c.load.result.words c.step-set.result.words c.load.ensures c.step-set.ensures.into c.step-set.ensures.from

pub loop-m-preserved : goal.loop-m-preserved
loop-m-preserved c ws h =
    let s = c.args.self.now in
    gather_more (grammar_of s.sheet.now) (sheet_fitting s.sheet.now) ws c.args.table.now c.args.overs.now c.args.i s.j s.w h c.loop-m.m (omega arith) (omega arith) c.loop-m.set.words c.load-in-loop-m.result.words c.step.result.words c.or-set.result.words (c.loop-m.invariant ws h) c.load-in-loop-m.ensures c.step.ensures.into c.step.ensures.from c.or-set.ensures.union

pub returns : goal.returns
returns c ws h = gather_all _ ws c.args.table.now c.args.i c.args.self.now.j c.loop-m.m c.loop-m.set.words (omega arith) (c.loop-m.invariant ws h)
