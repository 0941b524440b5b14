-- Where the walk begins, and what it has written at its end. Assumes nothing.
use Rattle.std.proofs.Common.{◌≡◌, ℕ, suc, ◌+◌, ◌-◌, ◌<◌, ◌≤◌, List, [], ◌∷◌, ◌++◌, length, take, drop, set, Some, None, Option, sym, refl, ap, ◌∙◌, subst, subst₂, add-one, arith, append_assoc, take-append-drop, length-take, drop-drop}
use Rattle.std.proofs.lemmas.List.{drop-take}
use Rattle.grammar.specs.declared.Symbol.TheVariants.{Name}
use Rattle.grammar.specs.declared.Rule.{Rule}
use Rattle.grammar.specs.Grammar.{right, Grammar}
use Rattle.grammar.specs.Trees.{Row, Fits}
use Rattle.readings.specs.declared.read.Reading.{Reading}
use Rattle.readings.specs.Scales.{Scale, Laws}
use Rattle.readings.specs.Prices.{nth, price, form}
use Rattle.readings.specs.Cheapest.{Cheapest, Unread}
use Rattle.readings.specs.inner.Stretches.{Over}
use Rattle.readings.specs.inner.Tables.{Table, Filled}
use Rattle.readings.specs.inner.Places.{packed}
use Rattle.readings.specs.inner.Stages.{started, Reads, Stage}
use Rattle.readings.proofs.Walks.{walk_start, walk_single}
use Rattle.readings.proofs.Derived.{all_over, table_refuses, table_cheapest}
use Rattle.readings.proofs.Places.{sound_set}
use Rattle.readings.proofs.Turns.{frames_packed}

module _ {P : Type 0} (rules : List Rule) (S : Scale P) (L : Laws S) (ws : List ℕ) (t : Table P) (f : Filled rules S ws t (length ws + 2) (length ws + 1)) (a : ℕ) where
  filled : Filled rules S ws t (length ws + 2) (suc (length ws))
  filled = subst (Filled rules S ws t (length ws + 2)) (add-one (length ws)) f

  pub unread : (before : List ℕ) → t.at 0 (length ws) a ≡ None → Unread (started rules a) ws before before
  unread before e = record { underived = λ d. table_refuses rules S L ws t (length ws + 2) filled a e d.0 d.1 d.2; same = refl }

  module _ (c : P) (e : t.at 0 (length ws) a ≡ Some c) where
    whole : (row : Row) → Fits rules (Name a ∷ []) row → Over ws 0 (length ws) row → price rules S row ≡ c → Reads rules S ws t a (form row)
    whole row x y z = record { row = row; fits = x; yields = all_over ws row y; costs = e ∙ ap (λ (q : P). Some q) (sym z); forms = refl }

    pub start_listed : t.by 0 (length ws) a < length rules
    start_listed = (f.recorded 0 (length ws) a c e).listed

    -- the first frame is on the stack, and the first number written
    pub stage_start : (st : List ℕ) (r : ℕ) → r ≡ t.by 0 (length ws) a → 0 < length ws → length ws ≤ 20 → a < 32 → 0 < length st → length (right (nth rules (t.by 0 (length ws) a))) ≤ 8
        → Stage rules S ws t a (set st 0 (packed 0 (length ws) a 0 0)) 1 ((r + 1) ∷ [])
    stage_start st r q h l b n d =
        record {
          walk = rw (frames_packed rules t st 0 0 (length ws) a 0 0 n (omega arith) b (omega arith) (omega arith), add-one r, q)
              (walk_start rules S L ws t f.recorded (Reads rules S ws t a) 0 (length ws) a c e whole h (omega arith) d);
          sound = sound_set rules t st 0 0 (length ws) a 0 0 (omega arith) b (omega arith) (omega arith) n start_listed (λ x y. absurd (let z : ⊥ = omega arith in z));
        }

    pub reads_single : length ws ≡ 0 → Reads rules S ws t a (0 ∷ [])
    reads_single h = walk_single rules S L ws t f.recorded (Reads rules S ws t a) 0 (length ws) a c e whole (sym h)

    -- what is read is cheapest
    pub reads_cheapest : (before after : List ℕ) (n : ℕ) → Reads rules S ws t a (take n after) → n ≤ length after → n ≤ 9984 → drop n after ≡ drop n before → Cheapest (started rules a) S ws before after n c
    reads_cheapest before after n w l k d =
        record {
          derivation = (w.row, w.fits, w.yields);
          costs = let z = w.costs in cc;
          least = λ d. table_cheapest rules S L ws t (length ws + 2) filled a c e d.0 d.1 d.2;
          long = rw (w.forms, length-take n after) (omega arith);
          short = k;
          list = sym (take-append-drop n after) ∙ (rw (w.forms, d));
        }

-- the same of lists that are equal
pub stage_as : {P : Type 0} {rules : List Rule} {S : Scale P} {ws : List ℕ} {t : Table P} {a h : ℕ} {st st' : List ℕ} {out out' : List ℕ} → st' ≡ st → out' ≡ out → Stage rules S ws t a st h out → Stage rules S ws t a st' h out'
stage_as {P} {rules} {S} {ws} {t} {a} {h} p q w = subst₂ (λ (x y : List ℕ). Stage rules S ws t a x h y) (sym p) (sym q) w

pub reads_as : {P : Type 0} {rules : List Rule} {S : Scale P} {ws : List ℕ} {t : Table P} {a : ℕ} {out out' : List ℕ} → out' ≡ out → Reads rules S ws t a out → Reads rules S ws t a out'
reads_as {P} {rules} {S} {ws} {t} {a} q w = subst (Reads rules S ws t a) (sym q) w

-- what a front leaves of its list
drop_front : (n m k : ℕ) (xs : List ℕ) → n + m ≡ k → drop n (take k xs) ++ drop k xs ≡ drop n xs
drop_front n m k xs e = rw (← e, drop-take n m xs, ← (drop-drop m n xs)) (take-append-drop m (drop n xs))

-- what is read to the front of a list is read to the list
module _ {P : Type 0} (g : Grammar) (S : Scale P) (ws : List ℕ) {before front front' after : List ℕ} (x : front ≡ take 9984 before) (y : after ≡ front' ++ drop 9984 before) where
  pub cheapest_front : (n : ℕ) (c : P) → Cheapest g S ws front front' n c → Cheapest g S ws before after n c
  cheapest_front n c h =
      record {
        derivation = h.derivation;
        costs = h.costs;
        least = h.least;
        long = h.long;
        short = h.short;
        list =
            let z : front' ≡ form h.derivation.0 ++ drop n (take 9984 before) = h.list ∙ ap (λ (l : List ℕ). form h.derivation.0 ++ drop n l) x in
            let w : n + (9984 - n) ≡ 9984 = omega (arith, h.short) in
            rw (y, z, append_assoc) (ap (λ (l : List ℕ). form h.derivation.0 ++ l) (drop_front n (9984 - n) 9984 before w));
      }

  pub unread_front : Unread g ws front front' → Unread g ws before after
  unread_front h = record { underived = h.underived; same = y ∙ ap (λ (l : List ℕ). l ++ drop 9984 before) (h.same ∙ x) ∙ take-append-drop 9984 before }

pub reading_front : {P : Type 0} (g g' : Grammar) (S : Scale P) (ws ws' before front front' after : List ℕ) → g ≡ g' → ws ≡ ws' → front ≡ take 9984 before → after ≡ front' ++ drop 9984 before
    → (o : Option (Reading P)) → elim o as (λ _. Type 0) [ Some d ↦ Cheapest g S ws front front' d.length d.price | None ↦ Unread g ws front front' ]
    → elim o as (λ _. Type 0) [ Some d ↦ Cheapest g' S ws' before after d.length d.price | None ↦ Unread g' ws' before after ]
reading_front g g' S ws ws' before front front' after p q x y None h = unread_front g' S ws' x y (subst₂ (λ (a : Grammar) (b : List ℕ). Unread a b front front') p q h)
reading_front g g' S ws ws' before front front' after p q x y (Some d) h = cheapest_front g' S ws' x y d.length d.price (subst₂ (λ (a : Grammar) (b : List ℕ). Cheapest a S b front front' d.length d.price) p q h)
