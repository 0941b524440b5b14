use Rattle.std.proofs.Common.{◌/◌, ◌^◌, eqb, sym, ap, ◌∙◌, le-ltb, rules}
use lib.Bits.{and_mask}
use Rattle.items.proofs.Laws.{bit_beyond}
use Rattle.items.proofs.few.holds.Goals as goal

pub returns-then-a-lt64 : goal.returns-then-a-lt64
returns-then-a-lt64 c = ap (λ n. eqb n 1) (and_mask (c.args.set / 2 ^ c.args.a) 1)

pub returns-else-a-lt64 : goal.returns-else-a-lt64
returns-else-a-lt64 c = le-ltb c.args.a 64 c.if-a-lt64.false ∙ sym (bit_beyond 64 c.args.set c.args.a (search rules) c.if-a-lt64.false)
