use Rattle.std.proofs.Common.{◌≡◌, suc, ◌-◌, length, take, arith}
use Rattle.std.proofs.lemmas.List.{take_all}
use Rattle.readings.proofs.ends.find_end.Goals as goal

pub returns : goal.returns
returns g c =
    λ s x p e l. let q : take (suc (length s) - 1) s ≡ s = take_all (suc (length s) - 1) s (omega arith) in
    let h = c.choose.ensures s p in
    let k = rw (e, q) at c.cut_all.ensures in
    (rw e at h) (λ n y z. k n (omega arith) z) (rw e at l)
