-- What a sheet's invariants say of its grammar.
use Rattle.std.proofs.Common.{ℕ, ◌<◌, ◌≡◌, length, sym, subst, arith, length-take}
use Rattle.grammar.specs.declared.Symbol.{Symbol}
use Rattle.grammar.specs.declared.Symbol.TheVariants.{Name, Word}
use Rattle.grammar.specs.declared.masks.Masks.{Masks}
use Rattle.grammar.specs.declared.sheet.Sheet.{Sheet}
use Rattle.grammar.specs.Grammar.{Counted, rule}
use Rattle.grammar.specs.Masked.{Masked}
use Rattle.grammar.specs.View.{rules_of, grammar_of}
use Rattle.tables.specs.Table.{At}
use Rattle.tables.specs.Steps.{Productive}
use Rattle.tables.specs.inner.Sets.{Fitting, Named, Marked}
use Rattle.tables.proofs.Rows.{at_read, at_same}
use Rattle.tables.proofs.Dotting.{length_dotted}
use Rattle.tables.proofs.Marking.{marked}

pub sheet_marked : (s : Sheet) (m : Masks) → Masked (rules_of s) s.nullable m → Marked (grammar_of s) m
sheet_marked s m h = marked (grammar_of s) s.nullable m s.fitting s.nulls h

pub sheet_fitting : (s : Sheet) → Fitting (grammar_of s)
sheet_fitting s = omega (arith, s.fitting, length_dotted (rules_of s))

module _ (s : Sheet) (r : ℕ) (listed : r < length (rules_of s)) where
  -- the symbols of a rule are listed names and words
  counted : (k : ℕ) (x : Symbol) → At (rule (grammar_of s) r) k x → Counted s.draft.names.len s.draft.words.len x
  counted k x at =
      let p = rule (grammar_of s) r in
      let f = s.draft.formed r listed in
      subst (Counted s.draft.names.len s.draft.words.len) (at_same p k _ x (at_read p k (Name 0) at.0) at)
      (f.2 k (omega (arith, at.0, length-take p.len p.symbols)))

  pub word_listed : (k w : ℕ) → At (rule (grammar_of s) r) k (Word w) → w < s.draft.words.len
  word_listed k w at = counted k (Word w) at

sheet_named : (s : Sheet) → Named (grammar_of s) s.draft.names.len
sheet_named s r l = (s.draft.formed r l).0

pub sheet_names : (s : Sheet) (n : ℕ) → n ≡ s.draft.names.len → Named (grammar_of s) n
sheet_names s n e = subst (λ (n : ℕ). Named (grammar_of s) n) (sym e) (sheet_named s)

pub sheet_productive : (s : Sheet) → Productive (grammar_of s)
sheet_productive s r k b l at = s.treed b (counted s r l k (Name b) at)
