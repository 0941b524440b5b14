-- The turns taken so far, what one more gives, and the reading after them. Assumes nothing.
use Rattle.std.proofs.Common.{◌≡◌, ℕ, ◌+◌, ◌<◌, ◌≤◌, List, [], ◌∷◌, ◌++◌, length, get_or, take, drop, set, Err, Result, sym, refl, ap, ◌∙◌, subst, append_assoc, append-nil, arith}
use Rattle.std.proofs.lemmas.List.{take_more_set, drop_all, take_all, drop-drop, drop_more, drop-set-lt, length-set}
use Rattle.faults.specs.Faults.{Told}
use Rattle.grammar.specs.declared.sheet.Sheet.{Sheet}
use Rattle.sources.specs.Meanings.{Meaning}
use Rattle.seats.specs.Seats.{seat}
use Rattle.seats.specs.Standing.{Kept, open_all}
use Rattle.seats.specs.Standing as standing
use Rattle.seats.specs.Calls.{Opened}
use Rattle.seats.proofs.Records.{seat_whole}
use Rattle.readings.specs.declared.read.Reading.{Reading}
use Rattle.readings.specs.Scales.{Scale}
use Rattle.reader.specs.declared.performing.Turn.{Turn}
use Rattle.reader.specs.Reads.{Lent, Read}
use Rattle.reader.specs.Runs.{called, followed, Answers, calls_of, ReadAfter, Performed}
use Rattle.reader.specs.inner.Turned.{Turned}
use Rattle.reader.proofs.Answering.{opened_not, opened_tells}

-- of the turns, i were taken, and now stand as in turns'; what is answered from here on is answered from the start
pub record SoFar {T : Type 0} (means : T → Meaning) (s : Sheet) (turns : List (Turn T)) (i : ℕ) (turns' : List (Turn T)) (hall : List ℕ) : Type 0 where
  pub calls : List standing.Call
  pub all : followed means calls (drop i turns) ≡ calls_of means turns
  pub kept : Kept s calls hall
  pub others : drop i turns' ≡ drop i turns
  pub long : length turns' ≡ length turns
  pub onward : (ends : List (Turn T)) → Answers means s calls (drop i turns) ends → Answers means s (open_all ∷ []) turns (take i turns' ++ ends)

module _ {T : Type 0} (means : T → Meaning) (s : Sheet) (turns : List (Turn T)) where
  pub so_far_none : (hall : List ℕ) → Kept s (open_all ∷ []) hall → SoFar means s turns 0 turns hall
  so_far_none hall k = record { calls = open_all ∷ []; all = refl; kept = k; others = refl; long = refl; onward = λ ends a. a }

  module _ (i : ℕ) (turns' : List (Turn T)) (hall : List ℕ) (so_far : SoFar means s turns i turns' hall) where
    pub so_far_more : (d t' : Turn T) (hall' : List ℕ) → i < length turns' → ((cs : List standing.Call) → Kept s cs hall → Turned means s cs (get_or turns' i d) t' hall') → SoFar means s turns (i + 1) (set turns' i t') hall'
    so_far_more d t' hall' low turned =
        let t = get_or turns' i d in
        let cs = so_far.calls in
        let one = turned cs so_far.kept in
        let rest : drop (i + 1) turns' ≡ drop (i + 1) turns = sym (drop-drop 1 i turns') ∙ ap (drop 1) so_far.others ∙ drop-drop 1 i turns in
        let begins : drop i turns ≡ t ∷ drop (i + 1) turns = sym so_far.others ∙ drop_more turns' i d low ∙ ap (λ ts. t ∷ ts) rest in
        record {
          calls = called means t.call ∷ cs;
          all = sym (ap (followed means cs) begins) ∙ so_far.all;
          kept = one.kept;
          others = drop-set-lt (i + 1) turns' i t' (omega arith) ∙ rest;
          long = length-set turns' i t' ∙ so_far.long;
          onward = λ ends a.
              subst (λ ts. Answers means s (open_all ∷ []) turns ts) (sym (ap (λ ts. ts ++ ends) (take_more_set turns' i t' low) ∙ append_assoc (take i turns') (t' ∷ []) ends))
              (so_far.onward (t' ∷ ends) (subst (λ ts. Answers means s cs ts (t' ∷ ends)) (sym begins) (one.answer, a)));
        }

    -- all turns were taken
    pub all_kept : length turns' ≤ i → Kept s (calls_of means turns) hall
    all_kept over = subst (λ cs. Kept s cs hall) (sym (ap (followed means so_far.calls) (drop_all i turns (omega (arith, so_far.long)))) ∙ so_far.all) so_far.kept

    pub all_answered : length turns' ≤ i → Answers means s (open_all ∷ []) turns turns'
    all_answered over =
        subst (λ ts. Answers means s (open_all ∷ []) turns ts) (append-nil (take i turns') ∙ take_all i turns' over)
        (so_far.onward [] (subst (λ ts. Answers means s so_far.calls ts []) (sym (drop_all i turns (omega (arith, so_far.long)))) tt))

pub read_after : {P : Type 0} (s : Sheet) (S : Scale P) (cs : List standing.Call) (k : ℕ) (hall : List ℕ) (b : Lent P) (r : Result (Reading P) Told) (b' : Lent P)
    → Kept s cs hall → Read s S k hall b r b' → ReadAfter s S cs k b r b'
read_after s S cs k hall b r b' kept read = record {
  no_seat = λ high. read.no_seat (λ a. omega (arith, a.1));
  short = λ low not. let j = kept.seats k low in read.short (kept.size, low) (seat_whole s j.0 (seat hall k) j.2) not;
  reading = λ low room. let j = kept.seats k low in (j.0, j.1, read.exact (kept.size, low) room j.0 j.2);
}

-- the hall was refused, before any turn
pub performed_not : {T P : Type 0} (means : T → Meaning) (s : Sheet) (S : Scale P) (k : ℕ) (hall : List ℕ) (turns : List (Turn T)) (b : Lent P) (r : Result (Reading P) Told) (hall' : List ℕ) (f : Told)
    → r ≡ Err f → Opened s hall (Err f) hall' → Performed means s S k hall turns b r hall' turns b
performed_not means s S k hall turns b r hall' f e made =
    let not = opened_not s hall f hall' made in
    record {
      no_hall = λ ne. ((e ∙ ap Err (opened_tells s hall f hall' made), refl), (made.no_hall ne).1, refl);
      kept = λ size. absurd (not size);
      answers = λ size. absurd (not size);
      reading = λ size. absurd (not size);
    }
