use Rattle.std.proofs.Common.{◌≡◌, None, rules, arith}
use Rattle.readings.specs.inner.Columns.{marked}
use Rattle.readings.proofs.offers.offer_of.Goals as goal

pub returns : goal.returns
returns g c =
    let h : c.price_of.result ≡ None = search rules in
    record {
      taken = λ p e. let k = c.price_of.ensures g.S.Scale.measure in cc;
      free = λ e.
          record {
            cut = marked g.S.Scale.measure c.cut_all.new.column.prices.now c.cut_all.new.column.marks c.args.cell.now.over.i;
            least = c.cut_all.ensures c.args.cell.now.over.i (omega arith) (omega arith);
            joins = let k = c.get.ensures g.S.Scale.measure in cc;
          };
    }
