-- An alias line more.
use Rattle.std.proofs.Common.{◌≡◌, ℕ, ◌<◌, ◌≤◌, Bool, eqb, List, [], ◌∷◌, ◌++◌, map, length, get_or, take, sym, refl, ap, ◌∙◌, inl, inr, add-zero, arith}
use borrow.Author.Tests.{clash}
use Rattle.std.specs.List.{AllByRecursion}
use Rattle.std.specs.Str.{bytes_eq}
use Rattle.std.proofs.lemmas.Slice.Eq.{bytes_eq-Decides}
use Rattle.std.proofs.lemmas.List.{append-nil, map_push}
use Rattle.std.proofs.lemmas.Bool.{cases_eq, eq-eqb, ne_eqb, cases_Bool}
use Rattle.grammar.specs.declared.Alias.{Alias}
use Rattle.grammar.specs.declared.draft.Draft.{Draft}
use Rattle.grammar.specs.Bits.{has}
use Rattle.grammar.specs.inner.Drafts.{Renamed}
use Rattle.sheets.specs.Lines.{Line, rule, alias, filler}
use Rattle.sheets.specs.Spellings.{member, with_one, names_of, words_of}
use Rattle.sheets.specs.Limits.{Renaming, productions, renamings, fillers_of, said_in, places_of, Short, Room, Within}
use Rattle.sheets.specs.Texts.{renaming}
use Rattle.sheets.specs.inner.Interns.{Worded, said_among}
use Rattle.sheets.specs.inner.Drafting.{Holding, Drafted}
use Rattle.grammar.specs.Limits.{Apart}
use Rattle.sheets.proofs.Apartness.{apart_all}
use Rattle.sheets.proofs.Grown.{grows_length, still_at}
use Rattle.sheets.proofs.Pushing.{aliases_count, apart_words}
use Rattle.sheets.proofs.Stays.{all_aliased}
use Rattle.sheets.proofs.Held.{worded, word_at, aliased, room, more}

abbrev said_of : List Renaming → List (List ℕ)
said_of rs = map (λ r. r.said) rs

said_lines : (ls : List Line) → said_in ls ≡ said_of (renamings ls)
said_lines [] = refl
said_lines (rule w a ss ∷ ls) = said_lines ls
said_lines (alias s m ∷ ls) = ap (λ ts. s ∷ ts) (said_lines ls)
said_lines (filler w ∷ ls) = said_lines ls

-- a word is said by its number
module _ (W : List (List ℕ)) (s : List ℕ) (k : ℕ) (apart : Apart W) (below : k < length W) (is : get_or W k [] ≡ s) where
  said_one : (a : ℕ) → a < length W → bytes_eq s (get_or W a []) ≡ eqb a k
  said_one a h = elim (cases_eq a k) [
    | inl e ↦ (bytes_eq-Decides s (get_or W a [])).1 (sym is ∙ ap (λ i. get_or W i []) (sym e)) ∙ sym (eq-eqb a k e)
    | inr n ↦ elim (cases_Bool (bytes_eq s (get_or W a []))) [
      | inl q ↦ absurd (n (apart a k h below (sym ((bytes_eq-Decides s (get_or W a [])).0 q) ∙ sym is)))
      | inr q ↦ q ∙ sym (ne_eqb a k n)
    ]
  ]

  said_all : (aliases : List Alias) → AllByRecursion (λ a. (a.said < length W) × (a.meant < length W)) aliases → member s (said_of (map (renaming W) aliases)) ≡ said_among k aliases
  said_all [] h = refl
  said_all (a ∷ rest) h = let p = said_one a.said h.0.0 in let q = said_all rest h.1 in cc

-- the words of the line are numbered
module _ (before : List Line) (s m : List ℕ) (i j : ℕ) (d e f : Draft) (drafted : Drafted before d) (first : Worded d s i e) (second : Worded e m j f) where
  abbrev W' : List (List ℕ)
  W' = with_one (with_one (words_of before) s) m

  said_held : Holding before (names_of before) (with_one (words_of before) s) e
  said_held = worded before (names_of before) (words_of before) d drafted s i e first

  alias_held : Holding before (names_of before) W' f
  alias_held = worded before (names_of before) (with_one (words_of before) s) e said_held m j f second

  said_at : (i < length W') × (get_or W' i [] ≡ s)
  said_at =
      let at = word_at before (names_of before) (with_one (words_of before) s) s i d e first said_held in
      let grown = grows_length (with_one (words_of before) s) (m ∷ []) in
      (let below = at.0 in omega arith, still_at (with_one (words_of before) s) (m ∷ []) i at.0 ∙ at.1)

  -- the draft says whether a line before has an alias for the word
  said_before : member s (said_in before) ≡ said_among i (take f.aliases.len f.aliases.items)
  said_before =
      ap (member s) (said_lines before ∙ ap said_of (sym alias_held.aliases))
      ∙ said_all W' s i (apart_all (words_of before) (s ∷ (m ∷ [])) (apart_words before)) said_at.0 said_at.1 (take f.aliases.len f.aliases.items)
      (all_aliased (length W') f.aliases.len f.aliases.items (aliased before (names_of before) W' f alias_held))

  alias_more : (g : Draft) → Renamed f (record { said = i; meant = j }) g → Drafted (before ++ (alias s m ∷ [])) g
  alias_more g r =
      let at = word_at before (names_of before) W' m j e f second alias_held in
      let new : renaming W' (record { said = i; meant = j }) ≡ record { said = s; meant = m } = (let a = said_at.1 in let b = at.1 in cc) in
      more before (alias s m) f g alias_held r.names r.words ((let a = r.rules in cc) ∙ sym (add-zero f.rules.len)) r.alias_count
      ((let a = r.rules in let q = alias_held.rules in cc) ∙ sym (append-nil (productions before)))
      (ap (map (renaming W')) r.aliases ∙ map_push (renaming W') (take f.aliases.len f.aliases.items) (record { said = i; meant = j })
      ∙ (let q = alias_held.aliases in cc))
      ((let a = r.starts in let b = r.rules in let q = alias_held.places in cc) ∙ sym (add-zero (places_of before)))
      (λ w l. ap (λ set. has set w) r.fillers ∙ alias_held.fillers w l ∙ ap (member (get_or W' w [])) (sym (append-nil (fillers_of before))))
      (λ t q. absurd (clash q))

  pub alias_line : (again : Bool) (g : Draft) → again ≡ said_among i (take f.aliases.len f.aliases.items) → Renamed f (record { said = i; meant = j }) g → Short s → Short m
      → Drafted (before ++ (alias s m ∷ [])) g × Within before (alias s m) × (again ≡ member s (said_in before))
  alias_line again g found r short-said short-meant =
      let done = alias_more g r in (done, ((short-said, short-meant), room (before ++ (alias s m ∷ [])) g done), found ∙ sym said_before)

  -- a seventeenth alias
  pub full : 16 ≤ f.aliases.len → Room (before ++ (alias s m ∷ [])) → ⊥
  full many fits =
      let q = aliases_count before (alias s m ∷ []) in
      let t = alias_held.alias_total in
      let few = fits.3 in
      omega arith
