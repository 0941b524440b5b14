-- A case with its certificate, as one test: where it passes, the case stands.
use Rattle.std.proofs.Common.{◌≡◌, ℕ, Bool, true, false, not, ◌&&◌, eqb, List, [], ◌∷◌, length, get_or, drop, Some, None, Ok, Err, Option, Result, sym, refl, ap, ◌∙◌, subst}
use Rattle.std.specs.List.{AllByRecursion}
use Rattle.std.proofs.lemmas.Bool.{and_parts, eqb-true, false≢true}
use Rattle.faults.specs.Faults.{Told}
use Rattle.grammar.specs.declared.sheet.Sheet.{Sheet}
use Rattle.grammar.specs.Trees.{Row, yield, Command}
use Rattle.grammar.specs.View.{Plain, grammar_of, words_in, aliases_in, fillers_in}
use Rattle.tables.specs.Table.{Offered}
use Rattle.sources.specs.Meanings.{Meaning, renamed, without}
use Rattle.sources.specs.Messages.{spoken}
use Rattle.sources.specs.Piles.{piled}
use Rattle.seats.specs.Answers.{fault, HeardOut}
use Rattle.seats.specs.Calls.{ones_of, Offers}
use Rattle.readings.specs.Scales.{points, worst}
use Rattle.readings.specs.Laws.{worst_laws}
use Rattle.worked.specs.Findings.{The, Hearing, Seated, Read, Priced, Finding, stand, refused, held, offer, number, no_command, by_points, by_worst, Found, Said, Case, Agrees}
use Rattle.worked.proofs.Finite.{all}
use Rattle.worked.proofs.Said.{rules_said, words_said, nulls_said, Holds, says_so}
use Rattle.worked.proofs.Derived.{same_words, words_same}
use Rattle.worked.proofs.Logged.{Entry}
use Rattle.worked.proofs.Tabled.{used, table}
use Rattle.worked.proofs.Seating.{tells, fitting, tallies, the_seat, held_is, number_is}
use Rattle.worked.proofs.Offered.{offers, offer_of, offered, offered_all, commands, not_a_command}
use Rattle.worked.proofs.Bounded.{Bound}
use Rattle.worked.proofs.Formed.{Best}
use Rattle.worked.proofs.Cheapest.{derives, derived, reads_by_price, reads_by_form, the_price, the_reading}
use Rattle.worked.proofs.Listening.{heard, hearable, the_hearing}

-- ---- what is heard

-- what the server hears of a message on such a sheet
abbrev meant : Said → List ℕ → Meaning
meant said message = without 0 (renamed [] (spoken (words_said said) 0 message))

meant_so : (said : Said) (s : Sheet) (message : List ℕ) → Holds said s → piled s message ≡ meant said message
meant_so said s message h =
    let f = h.fillers in
    let a = h.aliases in
    let w = h.words in
    let e : without (fillers_in s) (renamed (aliases_in s) (spoken (words_in s) 0 message)) ≡ meant said message = rw (f, a, w) refl in
    e

-- ---- certificates

pub record Certificate : Type 0 where
  -- the words that stand, a command that begins with them, and the log of their table
  pub standing : List ℕ
  pub command : Row
  pub log : Option (List Entry)
  -- a cheapest reading of them, and what no tree undercuts
  pub reading : Row
  pub points_bounds : List (Bound Best)
  pub worst_bounds : List (Bound ℕ)

abbrev is_answer : Result ℕ Told → ℕ → Bool
is_answer (Ok m) n = eqb m n
is_answer (Err f) n = false

abbrev is_fault : Result ℕ Told → Told → Bool
is_fault (Ok m) f = false
is_fault (Err e) f = eqb e.number f.number && (eqb e.place f.place && eqb e.layer f.layer)

module _ (ps : List Plain) (count : ℕ) (ns : List ℕ) (k : Certificate) where
  abbrev log_tells : Option (List Entry) → Bool
  log_tells None = true
  log_tells (Some es) = tells ps ns k.standing es && fitting ps count k.standing es

  -- with no log, nothing is known not to be offered
  abbrev offered_by : Option (List Entry) → ℕ → Bool
  offered_by None w = true
  offered_by (Some es) w = offers ps (length k.standing) es w

  -- what the log tells of the seat
  abbrev seat_finds : Option (List Entry) → (List Entry → Bool) → Bool
  seat_finds None test = false
  seat_finds (Some es) test = test es

  abbrev finds : Result ℕ Told → Finding → Bool
  finds r (stand ws) = is_answer r (length ws) && same_words k.standing ws
  finds r (refused refusal place ws) = is_fault r (fault refusal place) && same_words k.standing ws
  finds r (held n) = seat_finds k.log (λ es. eqb (tallies (used ps es (length k.standing))) n)
  finds r (offer n) = seat_finds k.log (λ es. eqb (offer_of ps (length k.standing) es) n)
  finds r (number p n) = seat_finds k.log (λ es. eqb (get_or (table ps es (length k.standing)) p 0) n)
  finds r no_command = seat_finds k.log (λ es. not (commands ps (length k.standing) es))
  finds r (by_points form price) = reads_by_form ps k.standing k.reading k.points_bounds form price
  finds r (by_worst price) = reads_by_price worst ps k.standing k.reading k.worst_bounds price

abbrev hearing : Case → Certificate → Hearing
hearing c k = let m = meant c.sheet c.message in heard (length k.standing) m.ending [] m.words

abbrev check_on : List Plain → ℕ → List ℕ → Meaning → Hearing → Certificate → List Finding → Bool
check_on ps count ns m h k findings =
    derives ps (yield k.command) k.command
    && (log_tells ps count ns k k.log
    && (hearable count k.standing (offered_by ps count ns k k.log) (length k.standing) [] m.words (yield k.command)
    && (same_words h.standing k.standing
    && all (finds ps count ns k h.answer) findings)))

abbrev pub check : Case → Certificate → Bool
check c k = check_on (rules_said c.sheet) (length (words_said c.sheet)) (nulls_said c.sheet) (meant c.sheet c.message) (hearing c k) k c.findings

-- ---- the test is sound

answer_is : (r : Result ℕ Told) (n : ℕ) → is_answer r n ≡ true → r ≡ Ok n
answer_is (Ok m) n h = ap (λ (x : ℕ). Ok x) (eqb-true m n h)
answer_is (Err f) n h = absurd (false≢true h)

fault_is : (r : Result ℕ Told) (f : Told) → is_fault r f ≡ true → r ≡ Err f
fault_is (Ok m) f h = absurd (false≢true h)
fault_is (Err e) f h =
    let one = and_parts (eqb e.number f.number) _ h in
    let two = and_parts (eqb e.place f.place) (eqb e.layer f.layer) one.1 in
    let a = eqb-true e.number f.number one.0 in
    let b = eqb-true e.place f.place two.0 in
    let c = eqb-true e.layer f.layer two.1 in
    let same : ◌≡◌ {A = Told} (record { number = e.number; place = e.place; layer = e.layer }) (record { number = f.number; place = f.place; layer = f.layer }) = cc in
    ap (λ (x : Told). Err x) same

module _ (said : Said) (s : Sheet) (on : Holds said s) (k : Certificate) where
  abbrev ps : List Plain
  ps = rules_said said

  abbrev count : ℕ
  count = length (words_said said)

  abbrev ns : List ℕ
  ns = nulls_said said

  counts : length (words_in s) ≡ count
  counts = ap length on.words

  not_offered : (o : Option (List Entry)) → log_tells ps count ns k o ≡ true → (w : ℕ) → Offered (grammar_of s) k.standing w → offered_by ps count ns k o w ≡ true
  not_offered None t w x = refl
  not_offered (Some es) t w x = (offered s ps on.rules ns k.standing es (and_parts (tells ps ns k.standing es) _ t).0 w).1 x

  -- what is found at the seat, by the log
  seat_found : (F : List ℕ → Type 0) (test : List Entry → Bool)
      → ((es : List Entry) → tells ps ns k.standing es ≡ true → fitting ps count k.standing es ≡ true → test es ≡ true → F k.standing)
      → (o : Option (List Entry)) → log_tells ps count ns k o ≡ true → seat_finds ps count ns k o test ≡ true → F k.standing
  seat_found F test so None t h = absurd (false≢true h)
  seat_found F test so (Some es) t h =
      let parts = and_parts (tells ps ns k.standing es) (fitting ps count k.standing es) t in
      so es parts.0 parts.1 h

  module _ (h : Hearing) (stands : h.standing ≡ k.standing) (t : log_tells ps count ns k k.log ≡ true) where
    -- what is found of the words of the certificate is found of those of the hearing
    moved : (F : List ℕ → Type 0) → F k.standing → F h.standing
    moved F x = subst F (sym stands) x

    found : (f : Finding) → finds ps count ns k h.answer f ≡ true → Found s h f
    found (stand ws) e =
        let parts = and_parts (is_answer h.answer (length ws)) (same_words k.standing ws) e in
        (answer_is h.answer (length ws) parts.0, stands ∙ words_same k.standing ws parts.1)
    found (refused refusal place ws) e =
        let parts = and_parts (is_fault h.answer (fault refusal place)) (same_words k.standing ws) e in
        (fault_is h.answer (fault refusal place) parts.0, stands ∙ words_same k.standing ws parts.1)
    found (held n) e =
        let Holding : List ℕ → Type 0 = λ numbers. ones_of (drop 21 numbers) ≡ n in
        moved (λ us. The (Seated s us) Holding)
        (seat_found (λ us. The (Seated s us) Holding) (λ es. eqb (tallies (used ps es (length k.standing))) n)
        (λ es x y z. the_seat s ps on.rules count counts ns k.standing es x y Holding (held_is s ps on.rules count counts ns k.standing es x y ∙ eqb-true (tallies (used ps es (length k.standing))) n z))
        k.log t e)
    found (offer n) e =
        moved (λ us. Offers s us n)
        (seat_found (λ us. Offers s us n) (λ es. eqb (offer_of ps (length k.standing) es) n)
        (λ es x y z. offered_all s ps on.rules ns k.standing es x n (eqb-true (offer_of ps (length k.standing) es) n z)) k.log t e)
    found (number p n) e =
        let Having : List ℕ → Type 0 = λ numbers. get_or (drop 21 numbers) p 0 ≡ n in
        moved (λ us. The (Seated s us) Having)
        (seat_found (λ us. The (Seated s us) Having) (λ es. eqb (get_or (table ps es (length k.standing)) p 0) n)
        (λ es x y z. the_seat s ps on.rules count counts ns k.standing es x y Having (number_is s ps on.rules count counts ns k.standing es x y p ∙ eqb-true (get_or (table ps es (length k.standing)) p 0) n z))
        k.log t e)
    found no_command e =
        let Not : List ℕ → Type 0 = λ us. Command (grammar_of s) us → ⊥ in
        moved Not
        (seat_found Not (λ es. not (commands ps (length k.standing) es)) (λ es x y z. not_a_command s ps on.rules ns k.standing es x z) k.log t e)
    found (by_points form price) e =
        moved (λ us. The (Read s points us) (λ r. (r.form ≡ form) × (r.price ≡ price))) (the_reading s ps on.rules k.standing k.reading k.points_bounds form price e)
    found (by_worst price) e =
        moved (λ us. The (Priced s worst us) (λ p. p ≡ price)) (the_price s ps on.rules worst worst_laws k.standing k.reading k.worst_bounds price e)

    all_found : (fs : List Finding) → all (finds ps count ns k h.answer) fs ≡ true → AllByRecursion (Found s h) fs
    all_found [] e = tt
    all_found (f ∷ fs) e =
        let parts = and_parts (finds ps count ns k h.answer f) _ e in
        (found f parts.0, all_found fs parts.1)

pub checked : (c : Case) (k : Certificate) → check c k ≡ true → Agrees c
checked c k t s says =
    let said = c.sheet in
    let on = says_so said s says in
    let m = meant said c.message in
    let h = hearing c k in
    let ps = rules_said said in
    let ns = nulls_said said in
    let count = length (words_said said) in
    let one = and_parts (derives ps (yield k.command) k.command) _ t in
    let two = and_parts (log_tells ps count ns k k.log) _ one.1 in
    let three = and_parts (hearable count k.standing (offered_by ps count ns k k.log) (length k.standing) [] m.words (yield k.command)) _ two.1 in
    let four = and_parts (same_words h.standing k.standing) (all (finds ps count ns k h.answer) c.findings) three.1 in
    let command : Command (grammar_of s) (yield k.command) = ∣ derived s ps on.rules (yield k.command) k.command one.0 ∣₁ in
    subst (λ (x : Meaning). The (λ h. HeardOut s x h.answer h.standing h.left) (λ h. AllByRecursion (Found s h) c.findings)) (sym (meant_so said s c.message on))
    (the_hearing s count (ap length on.words) k.standing (offered_by ps count ns k k.log) (not_offered said s on k k.log two.0) (length k.standing) m (yield k.command) command three.0
    (λ h. AllByRecursion (Found s h) c.findings) (all_found said s on k h (words_same h.standing k.standing four.0) two.0 c.findings four.1))

-- ---- all cases, each with its certificate

abbrev pub check_all : List Case → List Certificate → Bool
check_all [] ks = true
check_all (c ∷ cs) [] = false
check_all (c ∷ cs) (k ∷ ks) = check c k && check_all cs ks

pub all_checked : (cs : List Case) (ks : List Certificate) → check_all cs ks ≡ true → AllByRecursion Agrees cs
all_checked [] ks t = tt
all_checked (c ∷ cs) [] t = absurd (false≢true t)
all_checked (c ∷ cs) (k ∷ ks) t =
    let parts = and_parts (check c k) (check_all cs ks) t in
    (checked c k parts.0, all_checked cs ks parts.1)
