use Rattle.std.proofs.Common.{arith}
use Rattle.grammar.specs.View.{grammar_of}
use Rattle.grammar.proofs.Views.{words_whole}
use Rattle.tables.proofs.Sheets.{sheet_marked, sheet_productive, word_listed}
use Rattle.tables.proofs.Shows.{offer_found, offer_passed}
use Rattle.tables.proofs.offer.Goals as goal

pub returns : goal.returns
returns c =
    let s = c.args.sheet.now in
    let g = grammar_of s in
    let t = sheet_marked s _ c.masks.ensures in
    let table = c.args.table.now in
    let n = c.args.n in
    let xs = c.joint.result.words in
    let mask = c.expected.result in
    record {
      exact = λ ws w size column. (
        offer_found g ws _ t table n size column (sheet_productive s) xs mask w c.joint.ensures c.expected.ensures,
        offer_passed g ws _ t table n size column (λ r k v l at. omega (arith, word_listed s r l k v at, s.draft.words.fits)) xs mask w c.joint.ensures c.expected.ensures,
      );
      listed = λ w e.
          let p = t.word_of w _ (c.expected.ensures.from w e).1.two in
          let h = word_listed s p.by p.listed p.dot w p.at in
          omega (arith, h, words_whole s);
    }
