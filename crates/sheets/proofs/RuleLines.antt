-- A rule line more.
use Rattle.std.proofs.Common.{◌≡◌, ℕ, List, [], ◌∷◌, ◌++◌, map, get_or, take, sym, ap, ◌∙◌, inl, inr, add-zero, arith}
use borrow.Author.Tests.{clash}
use Rattle.std.proofs.lemmas.List.{append-nil, map_push}
use Rattle.grammar.specs.declared.Rule.{Rule}
use Rattle.grammar.specs.declared.draft.Draft.{Draft}
use Rattle.grammar.specs.Bits.{has}
use Rattle.grammar.specs.inner.Drafts.{Added, Overfull}
use Rattle.sheets.specs.Lines.{Spelled, Line, rule}
use Rattle.sheets.specs.Spellings.{names_among, words_among, member, with_one, with_all, names_of, words_of}
use Rattle.sheets.specs.Limits.{number, renamings, fillers_of, Room, Small}
use Rattle.sheets.specs.Texts.{production}
use Rattle.sheets.specs.inner.Interns.{Named}
use Rattle.sheets.specs.inner.Drafting.{Holding, Drafted, Righted, Fitting}
use Rattle.sheets.proofs.Grown.{still_at}
use Rattle.sheets.proofs.Pushing.{rules_count, places_push, names_fit, words_fit}
use Rattle.sheets.proofs.Held.{named, name_at, more}

-- a line that keeps the limits has symbols that fit
pub symbols_fit : (before : List Line) (w a : List ℕ) (ss : List Spelled) → Small (rule w a ss) → Room (before ++ (rule w a ss ∷ [])) → Fitting (with_one (names_of before) a) (words_of before) ss
symbols_fit before w a ss small room =
    record { short = small.2; few = small.3; names = names_fit before (rule w a ss) room; words = words_fit before (rule w a ss) room }

-- the left name is numbered
module _ (before : List Line) (a : List ℕ) (k : ℕ) (d e : Draft) (drafted : Drafted before d) (first : Named d a k e) where
  pub left_held : Holding before (with_one (names_of before) a) (words_of before) e
  left_held = named before (names_of before) (words_of before) d drafted a k e first

  -- and so are the symbols
  module _ (w : List ℕ) (ss : List Spelled) (f : Draft) (p : Rule) (read : Righted before (with_one (names_of before) a) (words_of before) ss f p) where
    abbrev N' : List (List ℕ)
    N' = with_all (with_one (names_of before) a) (names_among ss)

    abbrev W' : List (List ℕ)
    W' = with_all (words_of before) (words_among ss)

    left_at : get_or N' k [] ≡ a
    left_at =
        let at = name_at before (with_one (names_of before) a) (words_of before) a k d e first left_held in
        still_at (with_one (names_of before) a) (names_among ss) k at.0 ∙ at.1

    pub rule_more : (g : Draft) → Added f p g → p.weight ≡ number w → p.left ≡ k → Drafted (before ++ (rule w a ss ∷ [])) g
    rule_more g r weight left =
        let held = read.held in
        let new : production N' W' p ≡ record { weight = number w; left = a; right = ss } = (let q = left_at in let s = read.spells in cc) in
        more before (rule w a ss) f g held r.names r.words r.rule_count ((let x = r.aliases in cc) ∙ sym (add-zero f.aliases.len))
        (ap (map (production N' W')) r.rules ∙ map_push (production N' W') (take f.rules.len f.rules.items) p ∙ (let q = held.rules in cc))
        ((let x = r.aliases in let q = held.aliases in cc) ∙ sym (append-nil (renamings before)))
        (let x = r.places in let q = held.places in let n = read.counted in omega arith)
        (λ v l. ap (λ set. has set v) r.fillers ∙ held.fillers v l ∙ ap (member (get_or W' v [])) (sym (append-nil (fillers_of before))))
        (λ t q. absurd (clash q))

    -- a 129th rule, or more than 256 places
    pub overfull : Overfull f p → Room (before ++ (rule w a ss ∷ [])) → ⊥
    overfull (inl full) room =
        let q = rules_count before (rule w a ss ∷ []) in
        let t = read.held.rule_total in
        let fits = room.2 in
        omega arith
    overfull (inr long) room =
        let q = places_push before (rule w a ss ∷ []) in
        let t = read.held.places in
        let n = read.counted in
        let fits = room.4 in
        omega arith
