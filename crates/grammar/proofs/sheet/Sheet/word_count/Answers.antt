use Rattle.std.proofs.Common.{sym}
use Rattle.grammar.proofs.Views.{words_whole}
use Rattle.grammar.proofs.sheet.Sheet.word_count.Goals as goal

pub returns : goal.returns
returns c = sym (words_whole c.args.self.now)
