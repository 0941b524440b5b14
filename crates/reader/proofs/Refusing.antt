-- What reading a seat promises, refused or let through. Assumes nothing.
use Rattle.std.proofs.Common.{◌≡◌, ℕ, List, Ok, Err, Result, sym, refl, subst, ⊎_elim}
use Rattle.std.specs.Borrow.{Bor}
use Rattle.faults.specs.declared.Fault.{Fault}
use Rattle.faults.specs.Faults.{Told, told}
use Rattle.grammar.specs.declared.sheet.Sheet.{Sheet}
use Rattle.seats.specs.Seats.{Seat}
use Rattle.seats.specs.Calls.{Barred}
use Rattle.seats.proofs.SeatLent.{says_no_seat, says_broken, none_stands}
use Rattle.readings.specs.declared.read.Reading.{Reading}
use Rattle.readings.specs.Scales.{Scale}
use Rattle.reader.specs.Reads.{Lent, Room, Reads, Read}

pub read_barred : {P : Type 0} (s : Sheet) (S : Scale P) (k : ℕ) (hall : List ℕ) (b : Lent P) (f : Fault) (r : Result (Reading P) Told) → r ≡ Err (told f) → Barred s hall k (Err f) → Read s S k hall b r b
read_barred s S k hall b f r e why = record {
  no_seat = λ not. (says_no_seat s k hall f why r e not, refl);
  broken = λ at not. (says_broken s k hall f why r e at, refl);
  short = λ at whole not. absurd (⊎_elim (λ x. x.0 at) (λ x. x.1 whole) why);
  exact = λ at room ws stand. absurd (none_stands s k hall f why at ws stand);
}

-- let through; own is the seat's record
module _ (s : Sheet) (k : ℕ) (hall : List ℕ) (own : Bor (List ℕ)) (free : Barred s hall k (Ok own)) where
  -- r is the answer as it is told, and x as the reading gives it
  pub read_lent : {P : Type 0} (S : Scale P) (b : Lent P) → Room b → (r x : Result (Reading P) Told) (b' : Lent P) → r ≡ x → ((ws : List ℕ) → Seat s ws own.now → Reads s S ws b x b') → Read s S k hall b r b'
  read_lent S b room r x b' e reads = record {
    no_seat = λ not. absurd (not free.0);
    broken = λ at not. absurd (not free.1);
    short = λ at whole not. absurd (not room);
    exact = λ at roomy ws stand. subst (λ y. Reads s S ws b y b') (sym e) (reads ws (subst (λ ys. Seat s ws ys) (sym free.2) stand));
  }
