use Rattle.std.proofs.Common.{◌≡◌, ◌<◌, ◌≤◌, length, arith, length-take, rules}
use Rattle.grammar.specs.Grammar.{right}
use Rattle.grammar.proofs.Masking.{Opened, opened_first, opened_later, grown_last, grown_before}
use Rattle.grammar.proofs.masks.Masks.add_place.Goals as goal
use Rattle.grammar.proofs.masks.Masks.add_place.Goals.{then-k-eq0, else-k-eq0, Joined-k-eq0}

module _ (c : Joined-k-eq0) where
  whole : length (right c.args.rule.now) ≡ c.args.rule.now.len
  whole = let room : c.args.rule.now.len ≤ length c.args.rule.now.symbols = search rules in simp length-take (omega arith)

  -- once the first places are seen to
  opened : Opened c.args.rule.now c.args.k c.args.place c.args.self.now c.if-k-eq0.self
  opened =
      let p = c.args.rule.now in
      elim c.if-k-eq0.branch [
        | then-k-eq0 w ↦ opened_first p c.args.k c.args.place c.args.self.now c.if-k-eq0.self w.mark.new.sets w.if-k-eq0.true w.mark.ensures w.self-is
        | else-k-eq0 w ↦ opened_later p c.args.k c.args.place c.args.self.now c.if-k-eq0.self (omega (arith, w.if-k-eq0.false)) (omega (arith, c.requires.k_le_len, whole)) w.self-is
      ]

pub returns-then-k-rule : goal.returns-then-k-rule
returns-then-k-rule c =
    let d = (goal.at.returns-then-k-rule c).Joined-k-eq0 in
    let low : length (right c.args.rule.now) ≤ c.args.k = simp length-take (omega arith) in
    record {
      whole = whole d;
      grown = grown_last c.args.rule.now c.args.k c.args.place c.args.nullable c.args.self.now c.if-k-eq0.self c.mark-then-k-rule.new.sets (opened d) low c.mark-then-k-rule.ensures;
    }

pub returns-else-k-rule : goal.returns-else-k-rule
returns-else-k-rule c =
    let d = (goal.at.returns-else-k-rule c).Joined-k-eq0 in
    let p = c.args.rule.now in
    let room : p.len ≤ length p.symbols = search rules in
    let within : c.args.k < p.len = omega (arith, c.requires.k_le_len) in
    let sum = c.add_symbol.ensures in
    record {
      whole = whole d;
      grown = grown_before p c.args.k c.args.place c.args.nullable c.args.self.now c.if-k-eq0.self c.add_symbol.new.self within room (opened d) sum.names sum.words sum.nullable sum.first sum.last;
    }
