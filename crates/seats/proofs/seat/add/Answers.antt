use Rattle.std.proofs.Common.{◌≡◌, ℕ, ◌+◌, ◌<◌, List, [], ◌∷◌, ◌++◌, length, get_or, set, Ok, Err, sym, refl, ap, ◌∙◌, arith}
use Rattle.std.proofs.lemmas.List.{length_push, length-set}
use Rattle.faults.specs.declared.Refusal.{Refusal}
use Rattle.faults.specs.declared.Refusal.TheVariants.{UnlistedWord, Full, LeadsNowhere}
use Rattle.faults.specs.Faults.{Told, told}
use Rattle.grammar.specs.declared.sheet.Sheet.{Sheet}
use Rattle.seats.specs.Seats.{Listed, Seat}
use Rattle.seats.specs.Answers.{fault, Refuses, unlisted, full, leads_nowhere, Said, added, refused}
use Rattle.seats.proofs.TableLent.{lent_is, table_long, back_size}
use Rattle.seats.proofs.Records.{listed_low, seat_count, seat_added}
use Rattle.seats.proofs.seat.add.Goals as goal

-- a refusal leaves the words as they were
left : (s : Sheet) (ws xs : List ℕ) (w : ℕ) (refusal : Refusal) (t : Told) → Seat s ws xs → Refuses s ws w refusal → t ≡ fault refusal (get_or xs 0 0) → (vs : List ℕ) × Said s ws w (Err t) vs × Seat s vs xs
left s ws xs w refusal t h r e = (ws, refused refusal r refl (ap (λ (u : Told). Err u) (e ∙ ap (λ (n : ℕ). fault refusal n) (seat_count s ws xs h))), h)

pub returns-then-word-word_count : goal.returns-then-word-word_count
returns-then-word-word_count c = record {
  said = λ ws h. left c.args.sheet.now ws c.args.seat.now c.args.word UnlistedWord (told c.refused.result) h (unlisted (λ l. omega arith) refl) c.refused.ensures;
  untouched = λ f e. refl;
  size = c.told-seat;
}

pub returns-then-n-eq20 : goal.returns-then-n-eq20
returns-then-n-eq20 c = record {
  said = λ ws h.
      let n = seat_count c.args.sheet.now ws c.args.seat.now h in
      left c.args.sheet.now ws c.args.seat.now c.args.word Full (told c.refused-then-n-eq20.result) h (full (omega arith) (omega arith) refl) c.refused-then-n-eq20.ensures;
  untouched = λ f e. refl;
  size = c.told-seat;
}

pub returns-then-not-holds : goal.returns-then-not-holds
returns-then-not-holds c = record {
  said = λ ws h.
      let w = c.args.word in
      let n = seat_count c.args.sheet.now ws c.args.seat.now h in
      let few = h.few in
      left c.args.sheet.now ws c.args.seat.now w LeadsNowhere (told c.refused-then-not-holds.result) h
      (leads_nowhere (omega arith) (omega (arith, c.if-n-eq20.false)) (λ o. let e = (c.offers.ensures ws h w).1 o in let no = c.if-not-holds.true in cc) refl)
      c.refused-then-not-holds.ensures;
  untouched = λ f e. refl;
  size = c.told-seat;
}

pub fill_column-requires : goal.fill_column-requires
fill_column-requires c =
    let few = c.requires.few in
    record { low = omega (arith, c.if-n-eq20.false); listed = listed_low c.args.sheet.now c.args.word (omega arith) }

pub returns : goal.returns
returns c =
    let s = c.args.sheet.now in
    let xs = c.args.seat.now in
    let w = c.args.word in
    let n = get_or xs 0 0 in
    let zs = set (set xs (n + 1) w) 0 (n + 1) in
    let size : length zs ≡ 945 = length-set (set xs (n + 1) w) 0 (n + 1) ∙ length-set xs (n + 1) w ∙ c.told-seat in
    let table = lent_is zs size c.last_chunk_mut.result c.unwrap.result c.unwrap.ensures c.last_chunk_mut.ensures.cases in
    let ys = c.fill_column.new.table in
    record {
      said = λ ws h.
          let is = seat_count s ws xs h in
          let few = h.few in
          let listed : Listed s w = omega arith in
          let room : n < 20 = omega (arith, c.if-n-eq20.false) in
          let long : n + 1 ≡ length (ws ++ (w ∷ [])) = omega (arith, length_push ws w) in
          let offered = (c.offers.ensures ws h w).0 ((sym c.holds.ensures ∙ c.if-not-holds.false)) in (
            ws ++ (w ∷ []),
            added (record { listed = listed; room = omega arith; offered = offered }) refl (ap (λ (i : ℕ). Ok i) long),
            seat_added s ws xs h n w ys (sym is) room listed c.unwrap.result.now table c.fill_column.ensures.exact c.fill_column.ensures.others,
          );
      untouched = λ f e. let z : ◌≡◌ {A = ℕ} 0 1 = cc in absurd (omega arith);
      size = back_size zs size ys (table_long zs size c.unwrap.result.now ys table c.fill_column.ensures.others.size);
    }
