use Rattle.std.proofs.Common.{◌≡◌, ℕ, ◌||◌, sym, subst}
use Rattle.items.specs.Members.{member}
use Rattle.items.specs.declared.Items.{Items}
use Rattle.tables.specs.inner.Growth.{as_is, and_made, Saturated}
use Rattle.tables.proofs.sets.saturate.Goals as goal

pub loop-set-init : goal.loop-set-init
loop-set-init g c = as_is

pub returns-then-not-grow : goal.returns-then-not-grow
returns-then-not-grow g c =
    let more = c.step-more.result in
    let e = c.grow.ensures.still c.if-not-grow.true in
    let still = λ (d : ℕ). subst (λ (s : Items). member s.words d ≡ (member c.loop-set.set.words d || member more.words d)) e (c.grow.ensures.union d) in
    subst (λ (s : Items). Saturated (goal.F-post g c.args.step) c.args.items s) (sym e)
    (record { grown = c.loop-set.invariant; made = more; makes = c.step-more.ensures; still = still })

pub loop-set-preserved : goal.loop-set-preserved
loop-set-preserved g c = and_made c.loop-set.invariant c.step-more.ensures c.grow.ensures.union
