-- The words offered, and whether the words are a command, as the log of the words shows.
use Rattle.std.proofs.Common.{◌≡◌, ℕ, ◌^◌, Bool, true, false, cond, not, ◌&&◌, ◌||◌, eqb, ◌↔◌, List, [], ◌∷◌, map, length, Some, None, Option, sym, refl, ap, ◌∙◌, subst, ap₂}
use mathlib.Core.Bool.{Bool-set}
use mathlib.Core.Logic.{∥∥₁_elim}
use lib.Bits.{bit_or}
use Rattle.std.proofs.lemmas.Bool.{and_parts, and_from, eqb-true, eq-eqb, false≢true, both_ways, not-true}
use Rattle.items.specs.Members.{bit}
use Rattle.items.proofs.Laws.{bit-or, bit_pow, bit_none}
use Rattle.grammar.specs.declared.Symbol.{Symbol}
use Rattle.grammar.specs.declared.Symbol.TheVariants.{Name, Word}
use Rattle.grammar.specs.declared.sheet.Sheet.{Sheet}
use Rattle.grammar.specs.Grammar.{rule, right}
use Rattle.grammar.specs.Trees.{Command}
use Rattle.grammar.specs.View.{Plain, plain, rules_of, grammar_of}
use Rattle.tables.specs.Table.{Stands, Offered}
use Rattle.tables.specs.Steps.{Shown, Complete}
use Rattle.tables.proofs.Stated.{offers_are_shown, commands_are_complete}
use Rattle.tables.proofs.Sheets.{sheet_productive}
use Rattle.seats.specs.Calls.{Offers}
use Rattle.worked.proofs.Finite.{any}
use Rattle.worked.proofs.Rules.{left_of, right_of, left_is, length_is, symbol_at, at_from, at_to}
use Rattle.worked.proofs.Logged.{Entry, entry, logged, among, some, sound, sound_so}
use Rattle.worked.proofs.Closed.{closed, exact}
use Rattle.worked.proofs.Seating.{tells}

-- the symbol is the word w
abbrev is_word : Option Symbol → ℕ → Bool
is_word None w = false
is_word (Some (Name a)) w = false
is_word (Some (Word v)) w = eqb w v

word_is : (o : Option Symbol) (w : ℕ) → is_word o w ≡ true → o ≡ Some (Word w)
word_is None w h = absurd (false≢true h)
word_is (Some (Name a)) w h = absurd (false≢true h)
word_is (Some (Word v)) w h = ap (λ (n : ℕ). Some (Word n)) (sym (eqb-true w v h))

-- the entry reaches the last word, and has its dot before w
abbrev shows : List Plain → ℕ → ℕ → Entry → Bool
shows ps j w e = eqb e.to j && is_word (symbol_at ps e.by e.dot) w

abbrev pub offers : List Plain → ℕ → List Entry → ℕ → Bool
offers ps j es w = any (shows ps j w) es

-- the entry is a rule of the start over all the words
abbrev completes : List Plain → ℕ → Entry → Bool
completes ps j e = eqb e.from 0 && (eqb e.to j && (eqb (left_of ps e.by) (left_of ps 0) && eqb e.dot (length (right_of ps e.by))))

abbrev pub commands : List Plain → ℕ → List Entry → Bool
commands ps j es = any (completes ps j) es

-- what is offered, as bits of a number
abbrev word_bit : Option Symbol → ℕ
word_bit None = 0
word_bit (Some (Name a)) = 0
word_bit (Some (Word v)) = 2 ^ v

abbrev pub offer_of : List Plain → ℕ → List Entry → ℕ
offer_of ps j [] = 0
offer_of ps j (e ∷ es) = bit_or (cond (eqb e.to j) (word_bit (symbol_at ps e.by e.dot)) 0) (offer_of ps j es)

bit_word : (t : Bool) (o : Option Symbol) (w : ℕ) → bit (cond t (word_bit o) 0) w ≡ (t && is_word o w)
bit_word false o w = bit_none w
bit_word true None w = bit_none w
bit_word true (Some (Name a)) w = bit_none w
bit_word true (Some (Word v)) w = bit_pow v w

bit_offer : (ps : List Plain) (j : ℕ) (es : List Entry) (w : ℕ) → bit (offer_of ps j es) w ≡ offers ps j es w
bit_offer ps j [] w = bit_none w
bit_offer ps j (e ∷ es) w =
    bit-or _ (offer_of ps j es) w ∙ ap₂ ◌||◌ (bit_word (eqb e.to j) (symbol_at ps e.by e.dot) w) (bit_offer ps j es w)

module _ (s : Sheet) (ps : List Plain) (says : map plain (rules_of s) ≡ ps) (ns ws : List ℕ) (es : List Entry) (t : tells ps ns ws es ≡ true) where
  is_closed : closed ps (left_of ps 0) ws ns es ≡ true
  is_closed = (and_parts (closed ps (left_of ps 0) ws ns es) _ t).0

  is_sound : sound ps (left_of ps 0) ws es ≡ true
  is_sound = (and_parts (sound ps (left_of ps 0) ws es) _ (and_parts (closed ps (left_of ps 0) ws ns es) _ t).1).0

  begins : left_of ps 0 ≡ (grammar_of s).start
  begins = sym (left_is (grammar_of s) ps says 0)

  shown : (w : ℕ) → offers ps (length ws) es w ≡ true → Shown (grammar_of s) ws (Word w)
  shown w h =
      let g = grammar_of s in
      let x = among (shows ps (length ws) w) es h in
      let e : Entry = x.0 in
      let parts = and_parts (eqb e.to (length ws)) _ x.1 in
      record {
        from = e.from;
        by = e.by;
        dot = e.dot;
        stands = subst (λ (j : ℕ). Stands g ws e.from j e.by e.dot) (eqb-true e.to (length ws) parts.0) (sound_so g ps says ws (left_of ps 0) begins es is_sound e x.2);
        at = at_from g ps says e.by e.dot (Word w) (word_is _ w parts.1);
      }

  showing : (w : ℕ) → Shown (grammar_of s) ws (Word w) → offers ps (length ws) es w ≡ true
  showing w x =
      let g = grammar_of s in
      let n = length ws in
      let up = x.stands in
      let e = entry x.from n x.by x.dot in
      let in-log : logged es e ≡ true = (exact g ps says (left_of ps 0) begins ws ns es is_closed is_sound n up.within x.from x.by x.dot up.ordered up.listed up.dot).1 up in
      some (shows ps n w) es e in-log
      (and_from _ _ (eq-eqb n n refl) (ap (λ (o : Option Symbol). is_word o w) (at_to g ps says x.by x.dot (Word w) x.at) ∙ eq-eqb w w refl))

  pub offered : (w : ℕ) → (offers ps (length ws) es w ≡ true) ↔ Offered (grammar_of s) ws w
  offered w =
      let both = offers_are_shown (grammar_of s) (sheet_productive s) ws w in (
        λ h. both.1 ∣ shown w h ∣₁,
        λ o. ∥∥₁_elim (both.0 o) (Bool-set (offers ps (length ws) es w) true) (showing w),
      )

  pub offered_all : (n : ℕ) → offer_of ps (length ws) es ≡ n → Offers s ws n
  offered_all n e w =
      let same : bit n w ≡ offers ps (length ws) es w = ap (λ (m : ℕ). bit m w) (sym e) ∙ bit_offer ps (length ws) es w in
      (λ h. (offered w).0 (sym same ∙ h), λ o. same ∙ (offered w).1 o)

  completed : Complete (grammar_of s) ws → commands ps (length ws) es ≡ true
  completed x =
      let g = grammar_of s in
      let n = length ws in
      let up = x.stands in
      let e = entry 0 n x.by (length (right (rule g x.by))) in
      let in-log : logged es e ≡ true = (exact g ps says (left_of ps 0) begins ws ns es is_closed is_sound n up.within 0 x.by (length (right (rule g x.by))) up.ordered up.listed up.dot).1 up in
      some (completes ps n) es e in-log
      (and_from _ _ (eq-eqb 0 0 refl) (and_from _ _ (eq-eqb n n refl)
      (and_from _ _ (eq-eqb (left_of ps x.by) (left_of ps 0) (sym (left_is g ps says x.by) ∙ x.left ∙ sym begins)) (eq-eqb _ _ (length_is g ps says x.by)))))

  pub not_a_command : not (commands ps (length ws) es) ≡ true → Command (grammar_of s) ws → ⊥
  not_a_command h c =
      let found : commands ps (length ws) es ≡ true = ∥∥₁_elim ((commands_are_complete (grammar_of s) ws).0 c) (Bool-set (commands ps (length ws) es) true) completed in
      both_ways (commands ps (length ws) es) (not-true (commands ps (length ws) es) h) found
