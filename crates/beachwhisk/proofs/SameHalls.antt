-- Sheets that one text means keep the same halls, and hear the same. Assumes nothing.
use Rattle.std.proofs.Common.{◌≡◌, ℕ, ◌<◌, ◌⊎◌, List, [], ◌∷◌, ◌++◌, length, get_or, drop, sym, ap, ◌∙◌, subst, inl, inr, ⊎_elim}
use Rattle.grammar.specs.declared.sheet.Sheet.{Sheet}
use Rattle.grammar.specs.View.{grammar_of, words_in, aliases_in, fillers_in, Alike}
use Rattle.sheets.proofs.OneSheet.{one_sheet}
use Rattle.sources.specs.declared.source.Heard.{Heard}
use Rattle.sources.specs.Meanings.{renamed, without}
use Rattle.sources.specs.Messages.{spoken}
use Rattle.seats.specs.Seats.{Listed, Seat, seat}
use Rattle.seats.specs.Standing.{Call, open_all, clear_at, say_at, back_at, hear_at, Adds, SpokenAll, Step, Standing, Kept}
use Rattle.beachwhisk.specs.Calls.{OneHall, OneHearing}
use Rattle.beachwhisk.proofs.Alikes.{at, offered_alike, column_alike}

flipped : (s t : Sheet) → Alike s t → Alike t s
flipped s t alike = record {
  names = sym alike.names;
  words = sym alike.words;
  rules = sym alike.rules;
  aliases = sym alike.aliases;
  fillers = sym alike.fillers;
}

module _ (s t : Sheet) (alike : Alike s t) where
  start : (grammar_of s).start ≡ (grammar_of t).start
  start = ap (λ p. p.left) (at (grammar_of s) (grammar_of t) alike.rules 0)

  listed : (w : ℕ) → Listed s w → Listed t w
  listed w l = subst (λ ws. w < length ws) alike.words l

  adds : (ws : List ℕ) (w : ℕ) → Adds s ws w → Adds t ws w
  adds ws w a = record {
    listed = listed w a.listed;
    room = a.room;
    offered = offered_alike (grammar_of s) (grammar_of t) alike.rules start ws w a.offered;
  }

  seat_alike : (ws numbers : List ℕ) → Seat s ws numbers → Seat t ws numbers
  seat_alike ws numbers p = record {
    size = p.size;
    few = p.few;
    listed = λ n low. listed (get_or ws n 0) (p.listed n low);
    words = p.words;
    table = λ j low. column_alike (grammar_of s) (grammar_of t) alike.rules start ws (drop 21 numbers) j (p.table j low);
  }

-- what is added or not, on either sheet
module _ (s t : Sheet) (alike : Alike s t) where
  either : (ws vs : List ℕ) (w : ℕ) (P Q : Type 0) → (P → Q) → (Adds s ws w × P) ⊎ ((Adds s ws w → ⊥) × (vs ≡ ws)) → (Adds t ws w × Q) ⊎ ((Adds t ws w → ⊥) × (vs ≡ ws))
  either ws vs w P Q f =
      ⊎_elim (λ (x : Adds s ws w × P). inl (adds s t alike ws w x.0, f x.1))
      (λ (x : (Adds s ws w → ⊥) × (vs ≡ ws)). inr ((λ a. x.0 (adds t s (flipped s t alike) ws w a)), x.1))

  spoken_alike : (ws : List ℕ) (hs : List Heard) (vs : List ℕ) → SpokenAll s ws hs vs → SpokenAll t ws hs vs
  spoken_alike ws [] vs p = p
  spoken_alike ws (h ∷ hs) vs p =
      let more = ws ++ (h.word ∷ []) in
      either ws vs h.word (SpokenAll s more hs vs) (SpokenAll t more hs vs) (spoken_alike more hs vs) p

  step_alike : (k : ℕ) (ws : List ℕ) (c : Call) (vs : List ℕ) → Step s k ws c vs → Step t k ws c vs
  step_alike k ws open_all vs p = p
  step_alike k ws (clear_at x) vs p = p
  step_alike k ws (say_at x w) vs p = ((λ e. either ws vs w (vs ≡ ws ++ (w ∷ [])) (vs ≡ ws ++ (w ∷ [])) (λ q. q) (p.0 e)), p.1)
  step_alike k ws (back_at x) vs p = p
  step_alike k ws (hear_at x m) vs p = ((λ e. spoken_alike [] m.words vs (p.0 e)), p.1)

  standing_alike : (k : ℕ) (cs : List Call) (ws : List ℕ) → Standing s k cs ws → Standing t k cs ws
  standing_alike k [] ws p = p
  standing_alike k (c ∷ cs) ws p = (p.0, standing_alike k cs p.0 p.1, step_alike k p.0 c ws p.2)

  kept_alike : (cs : List Call) (hall : List ℕ) → Kept s cs hall → Kept t cs hall
  kept_alike cs hall p = record {
    size = p.size;
    seats = λ k low. let x = p.seats k low in (x.0, standing_alike k cs x.0 x.1, seat_alike s t alike x.0 (seat hall k) x.2);
  }

pub one_hall : OneHall
one_hall text s t p q cs hall kept = kept_alike s t (one_sheet text s t p q) cs hall kept

pub one_hearing : OneHearing
one_hearing text s t p q message =
    let alike = one_sheet text s t p q in
    ap (λ f. without f (renamed (aliases_in s) (spoken (words_in s) 0 message))) alike.fillers
    ∙ ap (λ pairs. without (fillers_in t) (renamed pairs (spoken (words_in s) 0 message))) alike.aliases
    ∙ ap (λ ws. without (fillers_in t) (renamed (aliases_in t) (spoken ws 0 message))) alike.words
