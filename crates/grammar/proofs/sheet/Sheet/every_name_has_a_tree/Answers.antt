use Rattle.std.proofs.Common.{arith}
use Rattle.grammar.proofs.Views.{names_whole}
use Rattle.grammar.proofs.sheet.Sheet.every_name_has_a_tree.Goals as goal

pub returns : goal.returns
returns c a h = let s = c.args.self.now in s.treed a (omega (arith, names_whole s))
