use Rattle.std.proofs.Common.{ℕ, ◌+◌, ◌*◌, ◌%◌, ◌^◌, sym, ◌∙◌, subst, arith}
use Rattle.std.proofs.lemmas.Nat.{one_shl}
use Rattle.std.proofs.lemmas.Bool.{true≢false}
use Rattle.tables.specs.inner.Cells.{Expects}
use Rattle.tables.proofs.Shows.{expects_more, expects_same}
use Rattle.tables.proofs.offers.expected.Goals as goal
use Rattle.tables.proofs.offers.expected.Goals.{then-meets, else-meets}

pub loop-w-preserved : goal.loop-w-preserved
loop-w-preserved c =
    let words = c.args.masks.now.before_word in
    let xs = c.args.items.words in
    elim c.if-meets.branch [
      | then-meets w ↦ subst (λ (m : ℕ). Expects words xs (c.loop-w.w + 1) m) (sym w.mask-is) (expects_more words xs c.loop-w.w c.loop-w.mask (1 * 2 ^ c.loop-w.w % 2 ^ 64) c.loop-w.invariant (one_shl c.loop-w.w 64 (omega arith)) (c.meets.ensures.found w.if-meets.true))
      | else-meets w ↦ subst (λ (m : ℕ). Expects words xs (c.loop-w.w + 1) m) (sym w.mask-is) (expects_same words xs c.loop-w.w c.loop-w.mask c.loop-w.invariant (λ x. true≢false (sym (c.meets.ensures.passed x) ∙ w.if-meets.false)))
    ]
