use Rattle.std.proofs.Common.{◌-◌, map, take, drop, refl, ap, ◌∙◌, rules, tests, arith}
use Rattle.faults.specs.Faults.{told}
use Rattle.grammar.specs.Limits.{text}
use Rattle.grammar.specs.View.{words_in}
use Rattle.sources.specs.Messages.{space, other, verdict}
use Rattle.sources.proofs.First.{handed_on}
use Rattle.sources.proofs.Stretches.{over_within, text_ends, text_faults, text_says}
use Rattle.sources.proofs.text.TextSource.next.Goals as goal

pub returns-then-start-message : goal.returns-then-start-message
returns-then-start-message c =
    let s = c.args.self.now in
    let begins = c.past-start.ensures space (λ b r p. search (rules, tests)) in
    let t = text_ends s.message.now s.at c.past-start.result _ begins refl (words_in s.sheet.now) c.if-start-message.true in
    record { answer = t.answer; left = t.left }

pub slice_bounds-read_word-end : goal.slice_bounds-read_word-end
slice_bounds-read_word-end c =
    let s = c.args.self.now in
    let begins = c.past-start.ensures space (λ b r p. search (rules, tests)) in
    let over = c.past-end.ensures other (λ b r p. search (rules, tests)) in
    over_within s.message.now s.at c.past-start.result c.past-end.result begins over c.if-start-message.false

pub slice_bounds-read_word-count : goal.slice_bounds-read_word-count
slice_bounds-read_word-count c = let over = c.past-end.ensures other (λ b r p. search (rules, tests)) in omega arith

pub slice_bounds-read_word-start : goal.slice_bounds-read_word-start
slice_bounds-read_word-start c = let over = c.past-end.ensures other (λ b r p. search (rules, tests)) in omega arith

pub returns-in_err-word : goal.returns-in_err-word
returns-in_err-word c =
    let s = c.args.self.now in
    let f = c.in_err-word.field-0.0 in
    let begins = c.past-start.ensures space (λ b r p. search (rules, tests)) in
    let over = c.past-end.ensures other (λ b r p. search (rules, tests)) in
    let t = text_faults s.message.now s.at c.past-start.result c.past-end.result begins over (words_in s.sheet.now) c.if-start-message.false (told f) (c.in_err-word.ensures ∙ ap (λ ws. verdict (map text ws) (record { place = c.past-start.result; bytes = take (c.past-end.result - c.past-start.result) (drop c.past-start.result s.message.now) })) c.words.ensures) in
    record {
      answer = handed_on c.from_residual.result f c.from_residual.ensures.1 ∙ t.answer;
      left = t.left;
    }

pub returns : goal.returns
returns c =
    let s = c.args.self.now in
    let begins = c.past-start.ensures space (λ b r p. search (rules, tests)) in
    let over = c.past-end.ensures other (λ b r p. search (rules, tests)) in
    let t = text_says s.message.now s.at c.past-start.result c.past-end.result begins over (words_in s.sheet.now) c.if-start-message.false c.in_ok-word.word (c.in_ok-word.ensures ∙ ap (λ ws. verdict (map text ws) (record { place = c.past-start.result; bytes = take (c.past-end.result - c.past-start.result) (drop c.past-start.result s.message.now) })) c.words.ensures) in
    record { answer = t.answer; left = t.left }
