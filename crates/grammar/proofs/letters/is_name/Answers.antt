use Rattle.std.proofs.Common.{rules}
use Rattle.grammar.proofs.Every.{name_cut}
use Rattle.grammar.proofs.letters.is_name.Goals as goal

pub returns-then-is_capital : goal.returns-then-is_capital
returns-then-is_capital c = search (rules, name_cut)
