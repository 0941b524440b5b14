use Rattle.std.proofs.Common.{◌≡◌, ℕ, ◌-◌, ◌<◌, length, get_or, set, take, Ok, Err, sym, refl, ap, ◌∙◌, arith}
use Rattle.std.proofs.lemmas.List.{length-set, length-take-le, nil_from_length}
use Rattle.faults.specs.Faults.{Told}
use Rattle.seats.specs.Answers.{taken, nothing}
use Rattle.seats.proofs.TableLent.{lent_is, table_long, back_size}
use Rattle.seats.proofs.Records.{seat_count, seat_taken}
use Rattle.seats.proofs.seat.take_off.Goals as goal

pub returns-then-n-eq0 : goal.returns-then-n-eq0
returns-then-n-eq0 c = record {
  taken = λ ws h.
      let n = seat_count c.args.sheet.now ws c.args.seat.now h in
      (ws, nothing (nil_from_length ws (omega arith)) refl (ap (λ (t : Told). Err t) c.refused.ensures), h);
  untouched = λ f e. refl;
  size = c.told-seat;
}

pub returns : goal.returns
returns c =
    let s = c.args.sheet.now in
    let xs = c.args.seat.now in
    let n = get_or xs 0 0 in
    let zs = set (set xs n 0) 0 (n - 1) in
    let size : length zs ≡ 945 = length-set (set xs n 0) 0 (n - 1) ∙ length-set xs n 0 ∙ c.told-seat in
    let table = lent_is zs size c.last_chunk_mut.result c.unwrap.result c.unwrap.ensures c.last_chunk_mut.ensures.cases in
    let ys = c.clear_column.new.table in
    record {
      taken = λ ws h.
          let is = seat_count s ws xs h in
          let some : 0 < n = omega (arith, c.if-n-eq0.false) in
          let long : n - 1 ≡ length (take (n - 1) ws) = sym (length-take-le (n - 1) ws (omega arith)) in
          (take (n - 1) ws, taken (omega arith) (ap (λ (i : ℕ). take (i - 1) ws) is) (ap (λ (i : ℕ). Ok i) long), seat_taken s ws xs h n ys (sym is) some c.unwrap.result.now table c.clear_column.ensures);
      untouched = λ f e. let z : ◌≡◌ {A = ℕ} 0 1 = cc in absurd (omega arith);
      size = back_size zs size ys (table_long zs size c.unwrap.result.now ys table c.clear_column.ensures.beside.size);
    }
