-- What the last column shows: the words that can come next, and whether the words are a command.
use Rattle.std.proofs.Common.{◌≡◌, ℕ, ◌+◌, ◌^◌, ◌<◌, ◌≤◌, Bool, true, ◌||◌, eqb, List, length, sym, ap, ◌∙◌, subst, ⊎_elim, arith}
use mathlib.Core.Bool.{Bool-set}
use mathlib.Core.Logic.{∥∥₁_elim}
use lib.Bits.{bit_or}
use Rattle.std.proofs.lemmas.Bool.{cases_lt, or_cases, or_left, or_right, eqb-true, eq-eqb}
use Rattle.grammar.specs.declared.Symbol.TheVariants.{Word}
use Rattle.grammar.specs.Grammar.{Grammar, rule, right}
use Rattle.tables.specs.Table.{Stands, Offered, At}
use Rattle.grammar.specs.Trees.{Command}
use Rattle.tables.specs.Steps.{Productive, Shown, Complete}
use Rattle.tables.specs.Columns.{first_place, Has, cell_of, Column}
use Rattle.grammar.specs.declared.masks.Masks.{Masks}
use Rattle.tables.specs.inner.Sets.{set_at, Marked}
use Rattle.tables.specs.inner.Cells.{Joint, Expects}
use Rattle.tables.proofs.Offering.{offered_shown, shown_offered}
use Rattle.tables.proofs.Closing.{command_complete, complete_command}
use Rattle.items.specs.Members.{member, bit, Common}
use Rattle.items.specs.declared.Items.{Items}
use Rattle.items.proofs.Laws.{bit-or, bit_pow}
use Rattle.tables.proofs.Spots.{place_low, standing_spot, standing_at}

-- ---- the words expected

pub expects_more : (words : List Items) (xs : List ℕ) (n mask one : ℕ) → Expects words xs n mask → one ≡ 2 ^ n → Common xs (set_at words n) → Expects words xs (n + 1) (bit_or mask one)
expects_more words xs n mask one c e m = record {
  into = λ w l x. ⊎_elim
      (λ (y : w < n). is w ∙ or_left (bit mask w) (eqb w n) (c.into w y x))
      (λ (y : n ≤ w). let s : w ≡ n = omega arith in is w ∙ or_right (bit mask w) (eqb w n) (eq-eqb w n s))
      (cases_lt w n);
  from = λ w b. ⊎_elim
      (λ (y : bit mask w ≡ true). let p = c.from w y in (omega (arith, p.0), p.1))
      (λ (y : eqb w n ≡ true). let s : w ≡ n = eqb-true w n y in (omega (arith, s), subst (λ (v : ℕ). Common xs (set_at words v)) (sym s) m))
      (or_cases (bit mask w) (eqb w n) (sym (is w) ∙ b));
}
  where
    is : (w : ℕ) → bit (bit_or mask one) w ≡ (bit mask w || eqb w n)
    is w = bit-or mask one w ∙ ap (λ (t : Bool). bit mask w || t) (ap (λ (v : ℕ). bit v w) e ∙ bit_pow n w)

pub expects_same : (words : List Items) (xs : List ℕ) (n mask : ℕ) → Expects words xs n mask → (Common xs (set_at words n) → ⊥) → Expects words xs (n + 1) mask
expects_same words xs n mask c m = record {
  into = λ w l x. ⊎_elim
      (λ (y : w < n). c.into w y x)
      (λ (y : n ≤ w). let s : w ≡ n = omega arith in absurd (m (subst (λ (v : ℕ). Common xs (set_at words v)) s x)))
      (cases_lt w n);
  from = λ w b. let p = c.from w b in (omega (arith, p.0), p.1);
}

-- ---- offers and commands

module _ (g : Grammar) (ws : List ℕ) (m : Masks) (marked : Marked g m) (table : List ℕ) (n : ℕ) (size : n ≡ length ws) (column : Column g ws table n) where
  pub offer_found : Productive g → (xs : List ℕ) (mask w : ℕ) → Joint table n (n + 1) xs → Expects m.before_word xs 64 mask → bit mask w ≡ true → Offered g ws w
  offer_found p xs mask w j e b =
      let c = e.from w b in
      let d = c.1.at in
      let a = j.from d c.1.low c.1.one in
      let s = column.only a.0 (omega (arith, a.1)) d c.1.low a.2 in
      shown_offered g p ws w (record {
        from = a.0;
        by = s.by;
        dot = s.dot;
        stands = subst (λ (v : ℕ). Stands g ws a.0 v s.by s.dot) size s.stands;
        at = standing_spot g (Word w) ws a.0 n d s (marked.word_of w d c.1.two);
      })

  -- where each word of a rule has a bit
  pub offer_passed : ((r k w : ℕ) → r < length g.rules → At (rule g r) k (Word w) → w < 64) → (xs : List ℕ) (mask w : ℕ) → Joint table n (n + 1) xs → Expects m.before_word xs 64 mask → Offered g ws w → bit mask w ≡ true
  offer_passed few xs mask w j e o = ∥∥₁_elim (offered_shown g ws w o) (Bool-set (bit mask w) true) shown
    where
      shown : Shown g ws (Word w) → bit mask w ≡ true
      shown s =
          let low = place_low g marked.fitting s.by s.dot s.stands.listed s.stands.dot in
          let here = column.holds s.from s.by s.dot (subst (λ (v : ℕ). Stands g ws s.from v s.by s.dot) (sym size) s.stands) in
          e.into w (few s.by s.dot w s.stands.listed s.at) (record {
            at = first_place g.rules s.by + s.dot;
            low = low;
            one = j.into s.from (first_place g.rules s.by + s.dot) (omega (arith, s.stands.ordered)) low here;
            two = marked.word_in s.by s.dot w s.stands.listed s.at;
          })

  pub command_found : (start : ℕ) (xs : List ℕ) → start ≡ g.start → xs ≡ cell_of table 0 n → Common xs (set_at m.last start) → Command g ws
  command_found start xs e x c =
      let p = marked.last_of start c.at c.two in
      let s = column.only 0 (omega arith) c.at c.low (subst (λ (v : List ℕ). member v c.at ≡ true) x c.one) in
      complete_command g ws (record {
        by = p.by;
        left = p.left ∙ e;
        stands = subst (λ (v : ℕ). Stands g ws 0 v p.by (length (right (rule g p.by)))) size (standing_at g ws 0 n c.at s p.by (length (right (rule g p.by))) p.listed (omega arith) p.is);
      })

  pub command_passed : (start : ℕ) (xs : List ℕ) (z : Bool) → start ≡ g.start → xs ≡ cell_of table 0 n → (Common xs (set_at m.last start) → z ≡ true) → Command g ws → z ≡ true
  command_passed start xs z e x f o = ∥∥₁_elim (command_complete g ws o) (Bool-set z true) complete
    where
      complete : Complete g ws → z ≡ true
      complete s =
          let all = length (right (rule g s.by)) in
          f (record {
            at = first_place g.rules s.by + all;
            low = place_low g marked.fitting s.by all s.stands.listed (omega arith);
            one = subst (λ (v : List ℕ). Has g v s.by all) (sym x) (column.holds 0 s.by all (subst (λ (v : ℕ). Stands g ws 0 v s.by all) (sym size) s.stands));
            two = subst (λ (v : ℕ). Has g (set_at m.last v) s.by all) (s.left ∙ sym e) (marked.last_in s.by s.stands.listed);
          })
