-- A draft that holds lines, with a name or a word more.
use Rattle.std.proofs.Common.{◌≡◌, ℕ, ◌+◌, ◌<◌, ◌≤◌, true, false, List, [], ◌∷◌, ◌++◌, map, length, get_or, take, sym, ap, ◌∙◌, subst, inl, inr, arith}
use borrow.Author.Tests.{clash}
use Rattle.std.proofs.lemmas.Bool.{cases_Bool, cases_lt, or_cases}
use Rattle.grammar.specs.declared.draft.Draft.{Draft}
use Rattle.grammar.specs.Bits.{has}
use Rattle.grammar.specs.Closure.{AllFormed}
use Rattle.grammar.specs.Limits.{Aliased}
use Rattle.grammar.specs.inner.Drafts.{Bare}
use Rattle.grammar.specs.Limits.{texts}
use Rattle.grammar.proofs.BitSets.{has_below}
use Rattle.sheets.specs.Lines.{Line}
use Rattle.sheets.specs.Spellings.{names_on, words_on, member, with_one, with_all, names_of, words_of}
use Rattle.sheets.specs.Limits.{productions, renamings, fillers_of, places_of, Short, Room}
use Rattle.sheets.specs.Texts.{production, renaming}
use Rattle.sheets.specs.inner.Interns.{Named, Unnamed, Worded, Unworded}
use Rattle.sheets.specs.inner.Drafting.{Holding, Drafted}
use Rattle.sheets.proofs.Grown.{still_at, member_kept, member_append, new_last, too_many}
use Rattle.sheets.proofs.Pushing.{names_push, words_push, rules_push, aliases_push, fillers_push, places_push, rules_count, aliases_count}
use Rattle.sheets.proofs.Stays.{rules_stay, aliases_stay}

module _ (ls : List Line) (N W : List (List ℕ)) (d : Draft) (h : Holding ls N W d) where
  -- the rules and the aliases are spelled as before
  rules_held : (ns ws : List (List ℕ)) → map (production (with_all N ns) (with_all W ws)) (take d.rules.len d.rules.items) ≡ productions ls
  rules_held ns ws =
      let formed : AllFormed (length N) (length W) (take d.rules.len d.rules.items) =
      subst (λ n. AllFormed n (length W) (take d.rules.len d.rules.items)) (sym h.name_total)
      (subst (λ n. AllFormed d.names.len n (take d.rules.len d.rules.items)) (sym h.word_total) d.formed) in
      rules_stay N W ns ws (take d.rules.len d.rules.items) formed ∙ h.rules

  pub aliased : Aliased (length W) d.aliases.len d.aliases.items
  aliased = subst (λ n. Aliased n d.aliases.len d.aliases.items) (sym h.word_total) d.aliased

  aliases_held : (ws : List (List ℕ)) → map (renaming (with_all W ws)) (take d.aliases.len d.aliases.items) ≡ renamings ls
  aliases_held ws = aliases_stay N W [] ws d.aliases.len d.aliases.items aliased ∙ h.aliases

  pub named : (s : List ℕ) (k : ℕ) (e : Draft) → Named d s k e → Holding ls (with_one N s) W e
  named s k e n =
      let now : texts e.names.len e.names.items ≡ with_one N s = n.listed ∙ ap (λ seen. with_one seen s) h.names in
      let rules = n.rules in
      let words = n.words in
      let aliases = n.aliases in
      record {
        names = now;
        name_total = ap length (sym now) ∙ n.total;
        word_total = (let q = h.word_total in cc);
        rule_total = (let q = h.rule_total in cc);
        alias_total = (let q = h.alias_total in cc);
        words = (let q = h.words in cc);
        rules = (let q = rules_held (s ∷ []) [] in cc);
        aliases = (let q = h.aliases in cc);
        places = (let a = n.starts in let q = h.places in cc);
        fillers = λ w l. ap (λ set. has set w) n.fillers ∙ h.fillers w l;
        known = h.known;
      }

  -- a word that is new is no filler
  no_filler : (w : ℕ) (s : List ℕ) → length W ≤ w → member s W ≡ false → has d.fillers w ≡ member s (fillers_of ls)
  no_filler w s l new =
      let clear : has d.fillers w ≡ false = elim (cases_Bool (has d.fillers w)) [
        | inl e ↦ let b = has_below d.words.len d.fillers w d.filled e in let t = h.word_total in absurd (omega arith)
        | inr e ↦ e
      ] in
      let none : member s (fillers_of ls) ≡ false = elim (cases_Bool (member s (fillers_of ls))) [
        | inl e ↦ absurd (clash (sym new ∙ h.known s e))
        | inr e ↦ e
      ] in
      clear ∙ sym none

  fillers_held : (s : List ℕ) (w : ℕ) → w < length (with_one W s) → has d.fillers w ≡ member (get_or (with_one W s) w []) (fillers_of ls)
  fillers_held s w below = elim (cases_lt w (length W)) [
    | inl l ↦ h.fillers w l ∙ ap (λ t. member t (fillers_of ls)) (sym (still_at W (s ∷ []) w l))
    | inr l ↦
        let new = new_last W s w l below in
        no_filler w s l new.0 ∙ ap (λ t. member t (fillers_of ls)) (sym new.1)
  ]

  pub worded : (s : List ℕ) (k : ℕ) (e : Draft) → Worded d s k e → Holding ls N (with_one W s) e
  worded s k e w =
      let now : texts e.words.len e.words.items ≡ with_one W s = w.listed ∙ ap (λ seen. with_one seen s) h.words in
      let rules = w.rules in
      let names = w.names in
      let aliases = w.aliases in
      record {
        names = (let q = h.names in cc);
        name_total = (let q = h.name_total in cc);
        word_total = ap length (sym now) ∙ w.total;
        rule_total = (let q = h.rule_total in cc);
        alias_total = (let q = h.alias_total in cc);
        words = now;
        rules = (let q = rules_held [] (s ∷ []) in cc);
        aliases = (let q = aliases_held (s ∷ []) in cc);
        places = (let a = w.starts in let q = h.places in cc);
        fillers = λ v l. ap (λ set. has set v) w.fillers ∙ fillers_held s v l;
        known = λ t q. member_kept W (s ∷ []) t (h.known t q);
      }

  -- a name or a word that is one too many
  pub no_name : (s : List ℕ) (ns : List (List ℕ)) → Unnamed d s → Short s → length (with_all N (s ∷ ns)) ≤ 32 → ⊥
  no_name s ns (inl long) short room = omega arith
  no_name s ns (inr u) short room =
      too_many N ns s 32 (subst (λ seen. member s seen ≡ false) h.names u.0) (subst (λ seen. length seen ≡ 32) h.names u.1) room

  pub no_word : (s : List ℕ) (ws : List (List ℕ)) → Unworded d s → Short s → length (with_all W (s ∷ ws)) ≤ 64 → ⊥
  no_word s ws (inl long) short room = omega arith
  no_word s ws (inr u) short room =
      too_many W ws s 64 (subst (λ seen. member s seen ≡ false) h.words u.0) (subst (λ seen. length seen ≡ 64) h.words u.1) room

-- the number that a spelling has now
pub name_at : (ls : List Line) (N W : List (List ℕ)) (s : List ℕ) (k : ℕ) (d e : Draft) → Named d s k e → Holding ls N W e → (k < length N) × (get_or N k [] ≡ s)
name_at ls N W s k d e n h =
    (let a = n.counted in let b = h.name_total in omega arith, subst (λ ts. get_or ts k [] ≡ s) h.names n.number)

pub word_at : (ls : List Line) (N W : List (List ℕ)) (s : List ℕ) (k : ℕ) (d e : Draft) → Worded d s k e → Holding ls N W e → (k < length W) × (get_or W k [] ≡ s)
word_at ls N W s k d e w h =
    (let a = w.counted in let b = h.word_total in omega arith, subst (λ ts. get_or ts k [] ≡ s) h.words w.number)

-- a draft of nothing holds no lines
pub bare : (d : Draft) → Bare d → Drafted [] d
bare d b = record {
  names = ap (λ n. texts n d.names.items) b.names;
  name_total = sym b.names;
  word_total = sym b.words;
  words = ap (λ n. texts n d.words.items) b.words;
  rule_total = sym b.rules;
  alias_total = sym b.aliases;
  rules = ap (λ n. map (production [] []) (take n d.rules.items)) b.rules;
  aliases = ap (λ n. map (renaming []) (take n d.aliases.items)) b.aliases;
  places = ap (λ n. get_or d.starts n 0) b.rules ∙ d.placed.0;
  fillers = λ w l. absurd (omega arith);
  known = λ t q. absurd (clash q);
}

-- a draft keeps the limits, and so do the lines that it holds
pub room : (ls : List Line) (d : Draft) → Drafted ls d → Room ls
room ls d h = (
  (let t = h.name_total in let f = d.names.fits in omega arith),
  (let t = h.word_total in let f = d.words.fits in omega arith),
  (let t = h.rule_total in let f = d.rules.fits in omega arith),
  (let t = h.alias_total in let f = d.aliases.fits in omega arith),
  (let t = h.places in let p = d.placed.2 in omega arith),
)

-- a line more, where the draft holds its names and words
module _ (before : List Line) (ℓ : Line) where
  abbrev N' : List (List ℕ)
  N' = with_all (names_of before) (names_on ℓ)

  abbrev W' : List (List ℕ)
  W' = with_all (words_of before) (words_on ℓ)

  pub more : (d e : Draft) → Holding before N' W' d
      → e.names ≡ d.names → e.words ≡ d.words
      → e.rules.len ≡ d.rules.len + length (productions (ℓ ∷ [])) → e.aliases.len ≡ d.aliases.len + length (renamings (ℓ ∷ []))
      → map (production N' W') (take e.rules.len e.rules.items) ≡ productions before ++ productions (ℓ ∷ [])
      → map (renaming W') (take e.aliases.len e.aliases.items) ≡ renamings before ++ renamings (ℓ ∷ [])
      → get_or e.starts e.rules.len 0 ≡ places_of before + places_of (ℓ ∷ [])
      → ((w : ℕ) → w < length W' → has e.fillers w ≡ member (get_or W' w []) (fillers_of before ++ fillers_of (ℓ ∷ [])))
      → ((t : List ℕ) → member t (fillers_of (ℓ ∷ [])) ≡ true → member t W' ≡ true) → Drafted (before ++ (ℓ ∷ [])) e
  more d e h names words rule_count alias_count rules aliases places fillers known =
      let all = before ++ (ℓ ∷ []) in
      let split = fillers_push before (ℓ ∷ []) in
      let held : Holding all N' W' e = record {
        names = (let q = h.names in cc);
        name_total = (let q = h.name_total in cc);
        word_total = (let q = h.word_total in cc);
        rule_total = (let q = rules_count before (ℓ ∷ []) in let t = h.rule_total in omega arith);
        alias_total = (let q = aliases_count before (ℓ ∷ []) in let t = h.alias_total in omega arith);
        words = (let q = h.words in cc);
        rules = rules ∙ sym (rules_push before (ℓ ∷ []));
        aliases = aliases ∙ sym (aliases_push before (ℓ ∷ []));
        places = places ∙ sym (places_push before (ℓ ∷ []));
        fillers = λ w l. fillers w l ∙ ap (member (get_or W' w [])) (sym split);
        known = λ t q. elim (or_cases (member t (fillers_of before)) (member t (fillers_of (ℓ ∷ []))) (sym (ap (member t) split ∙ member_append t (fillers_of before) (fillers_of (ℓ ∷ []))) ∙ q)) [
          | inl a ↦ h.known t a
          | inr a ↦ known t a
        ];
      } in
      subst (λ n. Holding all n (words_of all) e) (sym (names_push before ℓ)) (subst (λ w. Holding all N' w e) (sym (words_push before ℓ)) held)
