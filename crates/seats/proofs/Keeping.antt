-- What a call keeps, from what it promises of its own seat. Assumes nothing.
use Rattle.std.proofs.Common.{◌≡◌, ℕ, ◌-◌, ◌<◌, ◌≤◌, ◌≢◌, List, [], ◌∷◌, ◌++◌, length, take, Option, Result, sym, refl, ap, ◌∙◌, subst, inl, inr, ⊎_elim, arith}
use Rattle.std.proofs.lemmas.Bool.{cases_eq, cases_lt}
use Rattle.faults.specs.declared.Refusal.{Refusal}
use Rattle.faults.specs.Faults.{Told}
use Rattle.grammar.specs.declared.sheet.Sheet.{Sheet}
use Rattle.sources.specs.declared.source.Heard.{Heard}
use Rattle.sources.specs.Meanings.{Meaning}
use Rattle.seats.specs.Seats.{Seat, seat, Apart}
use Rattle.seats.specs.Standing.{Call, open_all, clear_at, say_at, back_at, hear_at, Adds, Spoken, SpokenAll, Step, Standing, Kept}
use Rattle.seats.specs.Answers.{Refuses, unlisted, full, leads_nowhere, Said, added, refused, Taken, taken, nothing, Hears, Does, place_of}
use Rattle.seats.specs.Calls.{Changed, Anew, Opened, Keeps}
use Rattle.seats.proofs.Parts.{elsewhere}

not_added : (s : Sheet) (ws : List ℕ) (w : ℕ) (refusal : Refusal) → Refuses s ws w refusal → Adds s ws w → ⊥
not_added s ws w refusal (unlisted h e) a = h a.listed
not_added s ws w refusal (full l h e) a = omega (arith, h, a.room)
not_added s ws w refusal (leads_nowhere l r h e) a = h a.offered

said_spoken : (s : Sheet) (ws : List ℕ) (w : ℕ) (r : Result ℕ Told) (vs : List ℕ) → Said s ws w r vs → Spoken s ws w vs
said_spoken s ws w r vs (added a e x) = inl (a, e)
said_spoken s ws w r vs (refused n why e x) = inr (not_added s ws w n why, e)

taken_off : (ws : List ℕ) (r : Result ℕ Told) (vs : List ℕ) → Taken ws r vs → vs ≡ take (length ws - 1) ws
taken_off ws r vs (taken h e x) = e
taken_off ws r vs (nothing z e x) = e ∙ z ∙ ap (λ us. take (length us - 1) us) (sym z)

hears_spoken : (s : Sheet) (e : Option Told) (ws : List ℕ) (hs : List Heard) (r : Result ℕ Told) (vs : List ℕ) (rest : List Heard)
    → Hears s e ws hs r vs rest → SpokenAll s ws hs vs
hears_spoken s e ws [] r vs rest h = h.1
hears_spoken s e ws (k ∷ hs) r vs rest h =
    ⊎_elim (λ a. inl (a.0, hears_spoken s e (ws ++ (k.word ∷ [])) hs r vs rest a.1)) (λ a. inr (not_added s ws k.word a.0 a.1, a.3)) h

-- what a call does to the words at its own seat
does_step : (s : Sheet) (ws : List ℕ) (c : Call) (r : Result ℕ Told) (vs : List ℕ) (c' : Call) → Does s ws c r vs c' → Step s (place_of c) ws c vs
does_step s ws open_all r vs c' d = d.1
does_step s ws (clear_at k) r vs c' d = (λ e. d.1, λ ne. absurd (ne refl))
does_step s ws (say_at k w) r vs c' d = (λ e. said_spoken s ws w r vs d.0, λ ne. absurd (ne refl))
does_step s ws (back_at k) r vs c' d = (λ e. taken_off ws r vs d.0, λ ne. absurd (ne refl))
does_step s ws (hear_at k m) r vs c' d = (λ e. hears_spoken s m.ending [] m.words r vs d.0.words d.1.words, λ ne. absurd (ne refl))

-- a call that leaves the words at every seat but its own
abbrev pub Local : Sheet → Call → Type 0
Local s c = (k : ℕ) → place_of c ≢ k → (ws : List ℕ) → Step s k ws c ws

pub clear_local : (s : Sheet) (t : ℕ) → Local s (clear_at t)
clear_local s t k ne ws = (λ e. absurd (ne e), λ x. refl)

pub say_local : (s : Sheet) (t w : ℕ) → Local s (say_at t w)
say_local s t w k ne ws = (λ e. absurd (ne e), λ x. refl)

pub back_local : (s : Sheet) (t : ℕ) → Local s (back_at t)
back_local s t k ne ws = (λ e. absurd (ne e), λ x. refl)

pub hear_local : (s : Sheet) (t : ℕ) (m : Meaning) → Local s (hear_at t m)
hear_local s t m k ne ws = (λ e. absurd (ne e), λ x. refl)

module _ (s : Sheet) (c : Call) (local : Local s c) (hall : List ℕ) (r : Result ℕ Told) (hall' : List ℕ) where
  -- another seat keeps its words
  kept_there : (cs : List Call) → Kept s cs hall → (k : ℕ) → k < 4 → place_of c ≢ k → seat hall' k ≡ seat hall k
      → (ws : List ℕ) × Standing s k (c ∷ cs) ws × Seat s ws (seat hall' k)
  kept_there cs kept k low ne same =
      let j = kept.seats k low in
      (j.0, (j.0, j.1, local k ne j.0), subst (λ ys. Seat s j.0 ys) (sym same) j.2)

  kept_at : (cs : List Call) → Kept s cs hall → place_of c < 4 → Apart hall (place_of c) hall'
      → ((ws : List ℕ) → Seat s ws (seat hall (place_of c)) → (vs : List ℕ) × Step s (place_of c) ws c vs × Seat s vs (seat hall' (place_of c)))
      → Kept s (c ∷ cs) hall'
  kept_at cs kept low apart own =
      let t = place_of c in
      let j = kept.seats t low in
      let o = own j.0 j.2 in
      let Stands : ℕ → Type 0 = λ k. (ws : List ℕ) × Standing s k (c ∷ cs) ws × Seat s ws (seat hall' k) in
      let here : Stands t = (o.0, (j.0, j.1, o.1), o.2) in
      record {
        size = apart.0 ∙ kept.size;
        seats = λ k h. ⊎_elim
            (λ (e : t ≡ k). subst Stands e here)
            (λ (ne : t ≢ k). kept_there cs kept k h ne (elsewhere hall hall' k t kept.size h low ne apart))
            (cases_eq t k);
      }

  kept_nowhere : (cs : List Call) → Kept s cs hall → 4 ≤ place_of c → hall' ≡ hall → Kept s (c ∷ cs) hall'
  kept_nowhere cs kept high same = record {
    size = ap length same ∙ kept.size;
    seats = λ k h. kept_there cs kept k h (λ e. omega arith) (ap (λ ys. seat ys k) same);
  }

  pub changed_keeps : Changed s (place_of c) c hall r hall' → Keeps s c hall hall'
  changed_keeps made cs kept =
      ⊎_elim
      (λ (low : place_of c < 4). kept_at cs kept low (made.frame (kept.size, low))
      (λ ws st. let x = made.exact (kept.size, low) ws st in (x.0, does_step s ws c r x.0 c x.1, x.2)))
      (λ (high : 4 ≤ place_of c). kept_nowhere cs kept high (made.no_seat (λ a. omega (arith, a.1))).1)
      (cases_lt (place_of c) 4)

  -- a call that does the same whatever words stand
  pub anew_keeps : (c' : Call) → ((ws vs : List ℕ) → Does s [] c r vs c' → Does s ws c r vs c') → Anew s (place_of c) c hall r hall' c' → Keeps s c hall hall'
  anew_keeps c' same made cs kept =
      ⊎_elim
      (λ (low : place_of c < 4). kept_at cs kept low (made.frame (kept.size, low))
      (λ ws st. let x = made.exact (kept.size, low) in (x.0, does_step s ws c r x.0 c' (same ws x.0 x.1), x.2)))
      (λ (high : 4 ≤ place_of c). kept_nowhere cs kept high (made.no_seat (λ a. omega (arith, a.1))).0.1)
      (cases_lt (place_of c) 4)

module _ (s : Sheet) (hall : List ℕ) (r : Result ℕ Told) (hall' : List ℕ) (made : Opened s hall r hall') where
  pub opened_first : length hall ≡ 3780 → Kept s (open_all ∷ []) hall'
  opened_first size = record { size = made.size ∙ size; seats = λ k h. ([], ([], refl, refl), made.empty size k h) }

  pub opened_keeps : Keeps s open_all hall hall'
  opened_keeps cs kept = record {
    size = made.size ∙ kept.size;
    seats = λ k h. let j = kept.seats k h in ([], (j.0, j.1, refl), made.empty kept.size k h);
  }
