-- What a call promises, refused or with its seat lent. Assumes nothing.
use Rattle.std.proofs.Common.{◌≡◌, ℕ, ◌+◌, ◌<◌, ◌≤◌, Bool, true, false, List, [], length, Ok, Err, Result, sym, refl, ap, ◌∙◌, subst, ⊎_elim, arith, below_more}
use Rattle.std.specs.Borrow.{Bor}
use Rattle.faults.specs.declared.Fault.{Fault}
use Rattle.faults.specs.declared.Refusal.TheVariants.{NoSuchSeat, BrokenRecord}
use Rattle.faults.specs.Faults.{Told, told}
use Rattle.grammar.specs.declared.sheet.Sheet.{Sheet}
use Rattle.seats.specs.Seats.{Seat, seat}
use Rattle.seats.specs.Standing.{Call}
use Rattle.seats.specs.Answers.{fault, Does}
use Rattle.seats.specs.Calls.{Addressed, Seated, Barred, Opened, Changed, Anew, Looked}
use Rattle.seats.proofs.Parts.{given, lent, elsewhere, unchanged, same_seat}
use Rattle.seats.proofs.Records.{seat_whole}

-- what passes the test does not hold where the test failed
pub not_passed : {P : Type 0} {b : Bool} → (P → b ≡ true) → b ≡ false → P → ⊥
not_passed passed failed p = let e = passed p in let z : ◌≡◌ {A = ℕ} 0 1 = cc in omega arith

-- a call that looks at the record, and is refused before it does
module _ (s : Sheet) (k : ℕ) (hall : List ℕ) (f : Fault) (why : Barred s hall k (Err f)) where
  pub tells_no_seat : (Addressed hall k → ⊥) → told f ≡ fault NoSuchSeat 0
  tells_no_seat not = ⊎_elim (λ x. x.1) (λ x. absurd (not x.0)) why

  pub tells_broken : Addressed hall k → told f ≡ fault BrokenRecord 0
  tells_broken at = ⊎_elim (λ x. absurd (x.0 at)) (λ x. x.2) why

  pub none_stands : Addressed hall k → (ws : List ℕ) → Seat s ws (seat hall k) → ⊥
  none_stands at ws stand = ⊎_elim (λ x. x.0 at) (λ x. x.1 (seat_whole s ws (seat hall k) stand)) why

  module _ {A : Type 0} (r : Result A Told) (e : r ≡ Err (told f)) where
    pub says_no_seat : (Addressed hall k → ⊥) → r ≡ Err (fault NoSuchSeat 0)
    says_no_seat not = e ∙ ap Err (tells_no_seat not)

    pub says_broken : Addressed hall k → r ≡ Err (fault BrokenRecord 0)
    says_broken at = e ∙ ap Err (tells_broken at)

  pub changed_barred : (c : Call) (r : Result ℕ Told) → r ≡ Err (told f) → Changed s k c hall r hall
  changed_barred c r e = record {
    no_seat = λ not. (says_no_seat r e not, refl);
    broken = λ at not. (says_broken r e at, refl);
    frame = λ at. unchanged hall k at;
    exact = λ at ws stand. absurd (none_stands at ws stand);
    untouched = λ at ws stand t e. refl;
  }

  pub looked_barred : (Gives : List ℕ → ℕ → Type 0) (r : Result ℕ Told) → r ≡ Err (told f) → Looked s k hall r Gives
  looked_barred Gives r e = record {
    no_seat = λ not. says_no_seat r e not;
    broken = λ at not. says_broken r e at;
    exact = λ at ws stand. absurd (none_stands at ws stand);
  }

-- a call that looks at the record, and is let through
module _ (s : Sheet) (k : ℕ) (hall : List ℕ) (own : Bor (List ℕ)) (free : Barred s hall k (Ok own)) where
  pub changed_lent : (c : Call) (r : Result ℕ Told) (xs ys hall' : List ℕ) → xs ≡ seat hall k → length ys ≡ 945 → hall' ≡ given hall k ys
      → ((ws : List ℕ) → Seat s ws xs → (vs : List ℕ) × Does s ws c r vs c × Seat s vs ys)
      → ((f : Told) → r ≡ Err f → ys ≡ xs)
      → Changed s k c hall r hall'
  changed_lent c r xs ys hall' is long put exact same =
      let at = free.0 in
      let after = lent (λ xs zs. ((ws : List ℕ) → Seat s ws xs → (vs : List ℕ) × Does s ws c r vs c × Seat s vs zs) × ((f : Told) → r ≡ Err f → zs ≡ xs))
      hall ys k at long (λ ws stand. exact ws (subst (λ zs. Seat s ws zs) (sym is) stand), λ f e. same f e ∙ is) in
      subst (λ h. Changed s k c hall r h) (sym put)
      (record {
        no_seat = λ not. absurd (not at);
        broken = λ x not. absurd (not free.1);
        frame = λ x. after.1;
        exact = λ x. after.0.0;
        untouched = λ x ws stand f e. same_seat hall (given hall k ys) k at after.1 (after.0.1 f e);
      })

  pub looked_lent : (Gives : List ℕ → ℕ → Type 0) (n : ℕ) → ((ws : List ℕ) → Seat s ws own.now → Gives ws n) → Looked s k hall (Ok n) Gives
  looked_lent Gives n gives = record {
    no_seat = λ not. absurd (not free.0);
    broken = λ at not. absurd (not free.1);
    exact = λ at ws stand. (n, refl, gives ws (subst (λ ys. Seat s ws ys) (sym free.2) stand));
  }

-- a call that does not look at the record
pub anew_refused : (s : Sheet) (k : ℕ) (c : Call) (hall : List ℕ) (f : Fault) (r : Result ℕ Told) → r ≡ Err (told f) → Seated hall k (Err f) → Anew s k c hall r hall c
anew_refused s k c hall f r e why = record { no_seat = λ x. ((e ∙ ap Err why.1, refl), refl); frame = λ at. absurd (why.0 at); exact = λ at. absurd (why.0 at) }

pub anew_lent : (s : Sheet) (k : ℕ) (c : Call) (hall : List ℕ) (r : Result ℕ Told) (ys hall' : List ℕ) (c' : Call) → Addressed hall k → length ys ≡ 945 → hall' ≡ given hall k ys
    → ((vs : List ℕ) × Does s [] c r vs c' × Seat s vs ys) → Anew s k c hall r hall' c'
anew_lent s k c hall r ys hall' c' at long put exact =
    let after = lent (λ xs zs. (vs : List ℕ) × Does s [] c r vs c' × Seat s vs zs) hall ys k at long exact in
    subst (λ h. Anew s k c hall r h c') (sym put) (record { no_seat = λ not. absurd (not at); frame = λ x. after.1; exact = λ x. after.0 })

-- the first t seats are empty
abbrev pub Emptied : Sheet → ℕ → List ℕ → Type 0
Emptied s t hall = (k : ℕ) → k < t → Seat s [] (seat hall k)

pub emptied_more : (s : Sheet) (t : ℕ) (hall ys hall' : List ℕ) → Addressed hall t → Emptied s t hall → length ys ≡ 945 → hall' ≡ given hall t ys → Seat s [] ys → Emptied s (t + 1) hall'
emptied_more s t hall ys hall' at before long put empty =
    let after = lent (λ xs zs. Seat s [] zs) hall ys t at long empty in
    subst (λ h. Emptied s (t + 1) h) (sym put)
    (below_more (λ k. Seat s [] (seat (given hall t ys) k)) t
    (λ k h.
    let same = elsewhere hall (given hall t ys) k t at.0 (omega (arith, at.1)) at.1 (λ e. omega arith) after.1 in
    subst (λ zs. Seat s [] zs) (sym same) (before k h))
    after.0)

pub opened_refused : (s : Sheet) (hall : List ℕ) (f : Fault) (r : Result ℕ Told) → r ≡ Err (told f) → Seated hall 0 (Err f) → Opened s hall r hall
opened_refused s hall f r e why = record {
  no_hall = λ not. (e ∙ ap Err why.1, refl);
  answer = λ size. absurd (why.0 (size, omega arith));
  size = refl;
  empty = λ size. absurd (why.0 (size, omega arith));
}

pub emptied_all : (s : Sheet) (t : ℕ) (hall hall' : List ℕ) → 4 ≤ t → length hall ≡ 3780 → length hall' ≡ length hall → Emptied s t hall' → Opened s hall (Ok 0) hall'
emptied_all s t hall hall' all size long empty = record { no_hall = λ not. absurd (not size); answer = λ e. refl; size = long; empty = λ e k low. empty k (omega arith) }
