-- What a call answers after the calls before it, from what it promises of its own seat. Assumes nothing.
use Rattle.std.proofs.Common.{◌≡◌, ℕ, ◌≢◌, List, [], length, Ok, Err, Result, refl, ⊎_elim, arith}
use Rattle.std.proofs.lemmas.Bool.{cases_eq}
use Rattle.faults.specs.declared.Refusal.TheVariants.{NoSuchSeat}
use Rattle.faults.specs.Faults.{Told}
use Rattle.grammar.specs.declared.sheet.Sheet.{Sheet}
use Rattle.seats.specs.Standing.{Call, Kept, open_all}
use Rattle.seats.specs.Answers.{fault, Does, Answered, place_of}
use Rattle.seats.specs.Calls.{Opened, Changed, Anew}

module _ (s : Sheet) (c : Call) (hall : List ℕ) (r : Result ℕ Told) (hall' : List ℕ) (cs : List Call) (kept : Kept s cs hall) where
  pub changed_answers : Changed s (place_of c) c hall r hall' → Answered s cs c r c
  changed_answers made = record {
    no_seat = λ high. ((made.no_seat (λ a. omega (arith, a.1))).0, refl);
    answer = λ low.
        let j = kept.seats (place_of c) low in
        let x = made.exact (kept.size, low) j.0 j.2 in
        (j.0, x.0, j.1, x.1);
  }

  -- a call that does the same whatever words stand
  pub anew_answers : (c' : Call) → ((ws vs : List ℕ) → Does s [] c r vs c' → Does s ws c r vs c') → Anew s (place_of c) c hall r hall' c' → Answered s cs c r c'
  anew_answers c' same made = record {
    no_seat = λ high. let x = made.no_seat (λ a. omega (arith, a.1)) in (x.0.0, x.1);
    answer = λ low.
        let j = kept.seats (place_of c) low in
        let x = made.exact (kept.size, low) in
        (j.0, x.0, j.1, same j.0 x.0 x.1);
  }

pub opened_answers : (s : Sheet) (hall : List ℕ) (r : Result ℕ Told) (hall' : List ℕ) → Opened s hall r hall' → (cs : List Call) → Kept s cs hall → Answered s cs open_all r open_all
opened_answers s hall r hall' made cs kept = record {
  no_seat = λ high. absurd (omega arith);
  answer = λ low. let j = kept.seats 0 low in (j.0, [], j.1, (made.answer kept.size, refl, refl));
}

-- open answers a number only on a hall of the right length, and a fault only on another
pub opened_fits : (s : Sheet) (hall : List ℕ) (n : ℕ) (hall' : List ℕ) → Opened s hall (Ok n) hall' → length hall ≡ 3780
opened_fits s hall n hall' made =
    ⊎_elim (λ (e : length hall ≡ 3780). e) (λ (ne : length hall ≢ 3780). let x = (made.no_hall ne).0 in let z : ◌≡◌ {A = ℕ} 0 1 = cc in absurd (omega arith)) (cases_eq (length hall) 3780)

pub opened_not : (s : Sheet) (hall : List ℕ) (f : Told) (hall' : List ℕ) → Opened s hall (Err f) hall' → length hall ≢ 3780
opened_not s hall f hall' made e = let x = made.answer e in let z : ◌≡◌ {A = ℕ} 0 1 = cc in omega arith

pub opened_tells : (s : Sheet) (hall : List ℕ) (f : Told) (hall' : List ℕ) → Opened s hall (Err f) hall' → f ≡ fault NoSuchSeat 0
opened_tells s hall f hall' made = let x = (made.no_hall (opened_not s hall f hall' made)).0 in cc
