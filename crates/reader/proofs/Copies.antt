-- The words of a record: their column, their copy, and what is read of it. Assumes nothing.
use Rattle.std.proofs.Common.{◌≡◌, ℕ, ◌+◌, ◌%◌, ◌<◌, List, length, get_or, take, drop, Some, None, Option, sym, refl, ◌∙◌, subst, arith}
use mathlib.Core.HLevel.{⊥_prop}
use mathlib.Core.Logic.{∥∥₁_elim}
use Rattle.std.proofs.lemmas.List.{ext_get_or, get_or-take, length-take-le}
use Rattle.grammar.specs.declared.sheet.Sheet.{Sheet}
use Rattle.grammar.specs.Trees.{Command, Derivation}
use Rattle.grammar.specs.View.{grammar_of}
use Rattle.tables.specs.Columns.{Column}
use Rattle.seats.specs.Seats.{Seat}
use Rattle.seats.proofs.Records.{listed_low, seat_count, seat_word, seat_whole}
use Rattle.readings.specs.declared.read.Reading.{Reading}
use Rattle.readings.specs.Scales.{Scale}
use Rattle.readings.specs.Cheapest.{Cheapest, Unread}
use Rattle.reader.specs.Reads.{Lent, Reads, reading, no_command}
use Rattle.reader.specs.inner.Settled.{settled}

module _ (s : Sheet) (ws xs : List ℕ) (stand : Seat s ws xs) where
  -- the last column, in the table as it is lent
  pub last_column : (t : List ℕ) → t ≡ drop 21 xs → Column (grammar_of s) ws t (get_or xs 0 0)
  last_column t e = subst (λ (t : List ℕ). Column (grammar_of s) ws t (get_or xs 0 0)) (sym e) (stand.table (get_or xs 0 0) (seat_whole s ws xs stand).few)

  -- the counted words, each cut to eight bits, are the words
  pub copied : (words : List ℕ) → length words ≡ 20 → ((k : ℕ) → k < 20 → get_or words k 0 ≡ get_or xs (1 + k) 0 % 256) → take (get_or xs 0 0) words ≡ ws
  copied words long copies =
      let few = stand.few in
      let count = seat_count s ws xs stand in
      let all = length-take-le (get_or xs 0 0) words (omega arith) in
      ext_get_or 0 (take (get_or xs 0 0) words) ws (omega arith) (λ k l.
      let under : k < length ws = omega arith in
      let word = seat_word s ws xs stand k under in
      let low = listed_low s (get_or ws k 0) (stand.listed k under) in
      let whole : get_or xs (1 + k) 0 % 256 ≡ get_or ws k 0 = omega arith in
      get_or-take (get_or xs 0 0) words k 0 (omega arith) ∙ copies k (omega arith) ∙ whole)

-- what is read of words that are a command; vs is the words as they were copied
module _ {P : Type 0} (s : Sheet) (S : Scale P) (ws vs : List ℕ) (b b' : Lent P) where
  pub reads : (r : Option (Reading P))
      → elim r as (λ v. Type 0) [ Some d ↦ Cheapest (grammar_of s) S vs b.list b'.list d.length d.price | None ↦ Unread (grammar_of s) vs b.list b'.list ]
      → Command (grammar_of s) ws → vs ≡ ws → Reads s S ws b (settled r) b'
  reads (Some d) cheapest command same = reading d refl (subst (λ us. Cheapest (grammar_of s) S us b.list b'.list d.length d.price) same cheapest)
  reads None unread command same = absurd (∥∥₁_elim command ⊥_prop (λ d. unread.underived (subst (Derivation (grammar_of s)) (sym same) d)))

-- words that are no command, with nothing written
pub reads_none : {P : Type 0} (s : Sheet) (S : Scale P) (ws : List ℕ) (b : Lent P) → (Command (grammar_of s) ws → ⊥) → Reads s S ws b (settled None) b
reads_none s S ws b not = no_command not (refl, refl)
