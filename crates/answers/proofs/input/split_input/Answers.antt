use Rattle.answers.proofs.Walks.{split_same}
use Rattle.answers.proofs.input.split_input.Goals as goal

pub returns : goal.returns
returns c =
    split_same c.args.input.now _ _ c.cut.result.0.now c.cut.result.1.now c.cut.ensures.before c.cut.ensures.after c.find_empty_line-end.ensures.split
