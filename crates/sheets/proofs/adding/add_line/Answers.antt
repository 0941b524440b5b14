use Rattle.std.proofs.Common.{subst}
use Rattle.sheets.specs.Lines.{rule, alias, filler}
use Rattle.sheets.specs.inner.Parses.{Tells}
use Rattle.sheets.specs.inner.Drafting.{Outcome}
use Rattle.sheets.proofs.Once.{means_once}
use Rattle.sheets.proofs.adding.add_line.Goals as goal

pub returns-in-Rule : goal.returns-in-Rule
returns-in-Rule c before ℓ line drafted tells means =
    let told = subst (λ p. Tells p line) c.in-Rule.is tells in
    subst (λ k. Outcome before k c.add_rule.result c.add_rule.new.draft) (means_once line (rule _ _ told.0) ℓ told.1 means) (c.add_rule.ensures before told.0 drafted told.2 told.1.1)

pub returns-in-Alias : goal.returns-in-Alias
returns-in-Alias c before ℓ line drafted tells means =
    let told = subst (λ p. Tells p line) c.in-Alias.is tells in
    subst (λ k. Outcome before k c.add_alias.result c.add_alias.new.draft) (means_once line (alias _ _) ℓ told means) (c.add_alias.ensures before drafted)

pub returns-in-Filler : goal.returns-in-Filler
returns-in-Filler c before ℓ line drafted tells means =
    let told = subst (λ p. Tells p line) c.in-Filler.is tells in
    subst (λ k. Outcome before k c.add_filler.result c.add_filler.new.draft) (means_once line (filler _) ℓ told means) (c.add_filler.ensures before drafted)
