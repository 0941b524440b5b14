use Rattle.std.proofs.Common.{◌≡◌, ◌∷◌, sym, ap, subst}
use Rattle.faults.specs.Faults.{telling}
use Rattle.seats.specs.Standing.{Kept, open_all, clear_at, say_at, back_at, hear_at}
use Rattle.seats.specs.Answers.{Answered}
use Rattle.reader.specs.Runs.{called}
use Rattle.reader.proofs.Answering.{opened_answers, changed_answers, anew_answers}
use Rattle.reader.proofs.performing.make.Goals as goal

pub returns-in-Open : goal.returns-in-Open
returns-in-Open g c =
    let means = g.T.Source.meaning in
    let s = c.args.sheet.now in
    let hall = c.args.hall.now in
    let hall' = c.open.new.hall in
    let r = telling c.open.result in
    let call = open_all in
    let is : called means c.args.call.now ≡ call = ap (called means) c.in-Open.is in
    record {
      kept = λ cs before. subst (λ x. Kept s (x ∷ cs) hall') (sym is) (c.open.ensures.kept cs before);
      answer = λ cs before. subst (λ x. Answered s cs x r x) (sym is) (opened_answers s hall r hall' c.open.ensures.opened cs before);
    }

pub returns-in-Clear : goal.returns-in-Clear
returns-in-Clear g c =
    let means = g.T.Source.meaning in
    let s = c.args.sheet.now in
    let hall = c.args.hall.now in
    let hall' = c.clear.new.hall in
    let r = telling c.clear.result in
    let k = c.in-Clear.seat in
    let call = clear_at k in
    let is : called means c.args.call.now ≡ call = ap (called means) c.in-Clear.is in
    record {
      kept = λ cs before. subst (λ x. Kept s (x ∷ cs) hall') (sym is) (c.clear.ensures.kept cs before);
      answer = λ cs before. subst (λ x. Answered s cs x r call) (sym is) (anew_answers s call hall r hall' cs before call (λ ws vs d. d) c.clear.ensures.made);
    }

pub returns-in-Say : goal.returns-in-Say
returns-in-Say g c =
    let means = g.T.Source.meaning in
    let s = c.args.sheet.now in
    let hall = c.args.hall.now in
    let hall' = c.say.new.hall in
    let r = telling c.say.result in
    let k = c.in-Say.seat in
    let w = c.in-Say.word in
    let call = say_at k w in
    let is : called means c.args.call.now ≡ call = ap (called means) c.in-Say.is in
    record {
      kept = λ cs before. subst (λ x. Kept s (x ∷ cs) hall') (sym is) (c.say.ensures.kept cs before);
      answer = λ cs before. subst (λ x. Answered s cs x r call) (sym is) (changed_answers s call hall r hall' cs before c.say.ensures.made);
    }

pub returns-in-Back : goal.returns-in-Back
returns-in-Back g c =
    let means = g.T.Source.meaning in
    let s = c.args.sheet.now in
    let hall = c.args.hall.now in
    let hall' = c.back.new.hall in
    let r = telling c.back.result in
    let k = c.in-Back.seat in
    let call = back_at k in
    let is : called means c.args.call.now ≡ call = ap (called means) c.in-Back.is in
    record {
      kept = λ cs before. subst (λ x. Kept s (x ∷ cs) hall') (sym is) (c.back.ensures.kept cs before);
      answer = λ cs before. subst (λ x. Answered s cs x r call) (sym is) (changed_answers s call hall r hall' cs before c.back.ensures.made);
    }

pub returns-in-Hear : goal.returns-in-Hear
returns-in-Hear g c =
    let means = g.T.Source.meaning in
    let s = c.args.sheet.now in
    let hall = c.args.hall.now in
    let hall' = c.hear.new.hall in
    let r = telling c.hear.result in
    let k = c.in-Hear.seat in
    let m = means c.in-Hear.source in
    let call = hear_at k m in
    let call' = hear_at k (means c.hear.new.source) in
    let is : called means c.args.call.now ≡ call = ap (called means) c.in-Hear.is in
    record {
      kept = λ cs before. subst (λ x. Kept s (x ∷ cs) hall') (sym is) (c.hear.ensures.kept cs before);
      answer = λ cs before. subst (λ x. Answered s cs x r call') (sym is) (anew_answers s call hall r hall' cs before call' (λ ws vs d. d) c.hear.ensures.made);
    }
