use Rattle.std.proofs.Common.{◌≡◌, ℕ, ◌≤◌, List, length, take, Ok, Err, Result, refl, arith}
use Rattle.grammar.specs.declared.draft.Draft.{Draft}
use Rattle.grammar.specs.declared.shelf.Full.{Full}
use Rattle.grammar.specs.Letters.{name_spelled}
use Rattle.grammar.proofs.Fronts.{formed_among_more}
use Rattle.sheets.specs.inner.Interns.{Enters, Named, Unnamed}
use Rattle.sheets.proofs.Interning.{grown_entered, lettered_entered, brief_entered, apart_entered}
use Rattle.sheets.proofs.drafts.name_number.Goals as goal

pub invariant_of-draft : goal.invariant_of-draft
invariant_of-draft c =
    let d = c.args.draft.now in
    let new = c.intern.new.spellings in
    let s = c.args.bytes.now in
    let grown = grown_entered d.names new s c.intern.result c.intern.ensures in
    let formed = formed_among_more d.names.len d.words.len new.len d.words.len grown (omega arith) (take d.rules.len d.rules.items) d.formed in
    let lettered = lettered_entered d.names new s c.intern.result c.intern.ensures name_spelled d.lettered_names c.requires in
    let brief = brief_entered d.names new s c.intern.result c.intern.ensures d.brief_names in
    let apart = apart_entered d.names new s c.intern.result c.intern.ensures d.apart_names in
    record { formed = formed; lettered_names = lettered; lettered_words = d.lettered_words; brief_names = brief; brief_words = d.brief_words; apart_names = apart; apart_words = d.apart_words; aliased = d.aliased; placed = d.placed; filled = d.filled }

-- the other fields stay
named : (d e : Draft) (s : List ℕ) (r : Result ℕ Full) → Enters d.names s r e.names → e.rules ≡ d.rules → e.words ≡ d.words → e.aliases ≡ d.aliases → e.starts ≡ d.starts → e.fillers ≡ d.fillers
    → elim r as (λ _. Type 0) [ Ok k ↦ Named d s k e × (length s ≤ 15) | Err f ↦ Unnamed d s ]
named d e s (Ok k) h rules words aliases starts fillers =
    (record { listed = h.listed; number = h.number; counted = h.counted; total = h.total; grown = h.grown; rules = rules; words = words; aliases = aliases; starts = starts; fillers = fillers }, h.short)
named d e s (Err f) h rules words aliases starts fillers = h.0

pub returns : goal.returns
returns c = named c.args.draft.now _ c.args.bytes.now c.intern.result c.intern.ensures refl refl refl refl refl
