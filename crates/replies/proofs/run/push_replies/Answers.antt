use Rattle.std.proofs.Common.{vec_items}
use Rattle.replies.proofs.Turns.{onward_none, onward_more, onward_done, taken_less}
use Rattle.replies.proofs.run.push_replies.Goals as goal

pub loop-message-init : goal.loop-message-init
loop-message-init c = onward_none c.args.sheet.now c.args.messages.now (vec_items c.args.out.now)

pub loop-message-smaller : goal.loop-message-smaller
loop-message-smaller c = taken_less c.loop-message.rest.now c.in-Some.message.now c.in-Some.after.now c.in-Some.ensures

pub loop-message-preserved : goal.loop-message-preserved
loop-message-preserved c =
    let got = c.in_ok-reply.ensures in
    let before = vec_items c.args.out.now in
    let written = vec_items c.loop-message.out in
    let after = vec_items c.reply.new.out in
    onward_more c.args.sheet.now c.args.messages.now before c.loop-message.rest.now written c.in-Some.message.now c.in-Some.after.now got.0 after c.loop-message.invariant c.in-Some.ensures got.1 got.2

pub returns : goal.returns
returns c =
    onward_done c.args.sheet.now c.args.messages.now (vec_items c.args.out.now) c.loop-message.rest.now (vec_items c.loop-message.out) c.in_default.ensures c.loop-message.invariant
