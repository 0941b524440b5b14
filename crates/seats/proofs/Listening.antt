-- The words heard at a seat so far, and what one call more gives. Assumes nothing.
use Rattle.std.proofs.Common.{◌≡◌, ℕ, suc, ◌<◌, List, [], ◌∷◌, length, drop, Some, None, Ok, Err, Option, Result, sym, refl, ap, ◌∙◌, subst, inl, inr, arith}
use Rattle.sources.specs.declared.source.Heard.{Heard}
use Rattle.std.specs.Result.{MatchResult, IsErrAnd}
use Rattle.faults.specs.declared.Fault.{Fault}
use Rattle.faults.specs.Faults.{Told}
use Rattle.sources.specs.Meanings.{Meaning, past}
use Rattle.sources.proofs.First.{at_some, at_none, at_fault}
use Rattle.sources.proofs.Layers.{Takes}
use Rattle.grammar.specs.declared.sheet.Sheet.{Sheet}
use Rattle.seats.specs.Seats.{Seat}
use Rattle.seats.specs.Answers.{Said, added, refused, Hears, HeardOut, counted, fault}

-- the same refusal, told of another place
abbrev pub retold : Told → ℕ → Told
retold f place = record { number = f.number; place = place; layer = f.layer }

-- of a source that meant m, the words vs stand and k is what is left: what is heard from here on is heard from the start
pub record Listening (s : Sheet) (m k : Meaning) (n : ℕ) (numbers : List ℕ) : Type 0 where
  pub words : List ℕ
  pub stand : Seat s words numbers
  pub count : n ≡ length words
  pub ending : k.ending ≡ m.ending
  pub onward : (r : Result ℕ Told) (vs : List ℕ) (rest : List Heard) → Hears s m.ending words k.words r vs rest → Hears s m.ending [] m.words r vs rest

pub listening_none : (s : Sheet) (m : Meaning) (numbers : List ℕ) → Seat s [] numbers → Listening s m m 0 numbers
listening_none s m numbers stand = record { words = []; stand = stand; count = refl; ending = refl; onward = λ r vs rest h. h }

-- a word taken off is the first of those left
begins : (k k' : Meaning) (h : Heard) → Takes (Ok (Some h)) k k' → k.words ≡ h ∷ k'.words
begins k k' h took = ap (λ x. x.words) (at_some k h took.answer) ∙ ap (λ ys. h ∷ ys) (sym (ap (λ x. x.words) took.left))

pub fewer : (k k' : Meaning) (h : Heard) → Takes (Ok (Some h)) k k' → length k'.words < length k.words
fewer k k' h took = let e : length k.words ≡ suc (length k'.words) = ap length (begins k k' h took) in omega arith

module _ (s : Sheet) (m k : Meaning) (n : ℕ) (xs : List ℕ) (so_far : Listening s m k n xs) (k' : Meaning) where
  module _ (h : Heard) (took : Takes (Ok (Some h)) k k') where
    still : k'.ending ≡ m.ending
    still = ap (λ x. x.ending) took.left ∙ so_far.ending

    -- what is heard of the words left, from the word on
    from : (r : Result ℕ Told) (vs : List ℕ) (rest : List Heard) → Hears s m.ending so_far.words (h ∷ k'.words) r vs rest
        → Hears s m.ending [] m.words r vs rest
    from r vs rest x = so_far.onward r vs rest (subst (λ hs. Hears s m.ending so_far.words hs r vs rest) (sym (begins k k' h took)) x)

    module _ (ys : List ℕ) (vs : List ℕ) (stand : Seat s vs ys) where
      pub listening_more : (j : ℕ) → Said s so_far.words h.word (Ok j) vs → Listening s m k' j ys
      listening_more j (added a e x) = record {
        words = vs;
        stand = stand;
        count = let y : j ≡ length vs = cc in y;
        ending = still;
        onward = λ r us rest y. from r us rest (inl (a, subst (λ ws. Hears s m.ending ws k'.words r us rest) e y));
      }
      listening_more j (refused i why e x) = let z : ◌≡◌ {A = ℕ} 0 1 = cc in absurd (omega arith)

      pub listening_stops : (f r : Told) (o : Result ℕ Told) → o ≡ Err r → r ≡ retold f h.place → Said s so_far.words h.word (Err f) vs
          → (us : List ℕ) × HeardOut s m o us k' × Seat s us ys
      listening_stops f r o is tells (added a e x) = let z : ◌≡◌ {A = ℕ} 0 1 = cc in absurd (omega arith)
      listening_stops f r o is tells (refused i why e x) =
          let told : f ≡ fault i (length so_far.words) = cc in
          let answer : r ≡ fault i h.place = tells ∙ ap (λ y. retold y h.place) told in
          (vs, record { words = from o vs k'.words (inr (i, why, is ∙ ap Err answer, e, refl)); ending = still }, stand)

  closes : (r : Result ℕ Told) (e : Option Told) → r ≡ counted n e → k ≡ record { words = []; ending = e } → k' ≡ past 1 k
      → (us : List ℕ) × HeardOut s m r us k' × Seat s us xs
  closes r e tells over then =
      let ws = so_far.words in
      let none : k'.words ≡ [] = ap (λ x. x.words) then ∙ ap (λ x. drop 1 x.words) over in
      let last : e ≡ m.ending = sym (ap (λ x. x.ending) over) ∙ so_far.ending in
      let answer : r ≡ counted (length ws) m.ending = tells ∙ ap (λ j. counted j e) so_far.count ∙ ap (counted (length ws)) last in
      let heard = subst (λ hs. Hears s m.ending ws hs r ws k'.words) (sym (ap (λ x. x.words) over)) (answer, refl, none) in
      (ws, record { words = so_far.onward r ws k'.words heard; ending = ap (λ x. x.ending) then ∙ so_far.ending }, so_far.stand)

  pub listening_ends : Takes (Ok None) k k' → (us : List ℕ) × HeardOut s m (Ok n) us k' × Seat s us xs
  listening_ends took = closes (Ok n) None refl (at_none k took.answer) took.left

  pub listening_faults : (f : Told) (r : Result ℕ Told) → r ≡ Err f → Takes (Err f) k k' → (us : List ℕ) × HeardOut s m r us k' × Seat s us xs
  listening_faults f r tells took = closes r (Some f) tells (at_fault k f took.answer) took.left

-- ---- what `map_err` answers

pub passed_on : {A : Type 0} (r q : Result A Fault) (n : A) (P : Fault → Fault → Type 0) → q ≡ Ok n → MatchResult r (λ x. q ≡ Ok x) (λ e. IsErrAnd q (P e)) → r ≡ Ok n
passed_on (Ok x) q n P e m = sym m ∙ e
passed_on (Err f) q n P e m = absurd (subst (λ o. IsErrAnd o (P f)) e m)

pub refused_on : {A : Type 0} (r q : Result A Fault) (f : Fault) (P : Fault → Fault → Type 0) → q ≡ Err f → MatchResult r (λ x. q ≡ Ok x) (λ e. IsErrAnd q (P e)) → (e : Fault) × (r ≡ Err e) × P e f
refused_on (Ok x) q f P e m = let z : ◌≡◌ {A = ℕ} 0 1 = cc in absurd (omega arith)
refused_on (Err g) q f P e m = (g, refl, subst (λ o. IsErrAnd o (P g)) e m)
