use Rattle.std.proofs.Common.{◌≡◌, ℕ, ◌≤◌, List, length, take, Ok, Err, Result, refl, arith, pow_mono}
use Rattle.grammar.specs.declared.draft.Draft.{Draft}
use Rattle.grammar.specs.declared.shelf.Full.{Full}
use Rattle.grammar.specs.Letters.{word_spelled}
use Rattle.grammar.proofs.Fronts.{formed_among_more, aliased_among_more}
use Rattle.sheets.specs.inner.Interns.{Enters, Worded, Unworded}
use Rattle.sheets.proofs.Interning.{grown_entered, lettered_entered, brief_entered, apart_entered}
use Rattle.sheets.proofs.drafts.word_number.Goals as goal

pub invariant_of-draft : goal.invariant_of-draft
invariant_of-draft c =
    let d = c.args.draft.now in
    let new = c.intern.new.spellings in
    let s = c.args.bytes.now in
    let grown = grown_entered d.words new s c.intern.result c.intern.ensures in
    let more = pow_mono {i = d.words.len} {j = new.len} grown in
    let formed = formed_among_more d.names.len d.words.len d.names.len new.len (omega arith) grown (take d.rules.len d.rules.items) d.formed in
    let lettered = lettered_entered d.words new s c.intern.result c.intern.ensures word_spelled d.lettered_words c.requires in
    let brief = brief_entered d.words new s c.intern.result c.intern.ensures d.brief_words in
    let apart = apart_entered d.words new s c.intern.result c.intern.ensures d.apart_words in
    let aliased = aliased_among_more d.names.len d.words.len d.names.len new.len (omega arith) grown d.aliases.len d.aliases.items d.aliased in
    record { formed = formed; lettered_names = d.lettered_names; lettered_words = lettered; brief_names = d.brief_names; brief_words = brief; apart_names = d.apart_names; apart_words = apart; aliased = aliased; placed = d.placed; filled = omega (arith, d.filled) }

-- the other fields stay
worded : (d e : Draft) (s : List ℕ) (r : Result ℕ Full) → Enters d.words s r e.words → e.rules ≡ d.rules → e.names ≡ d.names → e.aliases ≡ d.aliases → e.starts ≡ d.starts → e.fillers ≡ d.fillers
    → elim r as (λ _. Type 0) [ Ok k ↦ Worded d s k e × (length s ≤ 15) | Err f ↦ Unworded d s ]
worded d e s (Ok k) h rules names aliases starts fillers =
    (record { listed = h.listed; number = h.number; counted = h.counted; total = h.total; grown = h.grown; rules = rules; names = names; aliases = aliases; starts = starts; fillers = fillers }, h.short)
worded d e s (Err f) h rules names aliases starts fillers = h.0

pub returns : goal.returns
returns c = worded c.args.draft.now _ c.args.bytes.now c.intern.result c.intern.ensures refl refl refl refl refl
