-- The symbols of a rule line, one after the other.
use Rattle.std.proofs.Common.{◌≡◌, ℕ, ◌+◌, ◌<◌, ◌≤◌, true, List, [], ◌∷◌, ◌++◌, map, length, set, sym, refl, ap, ◌∙◌, subst, inl, inr, arith}
use Rattle.std.specs.List.{AllByRecursion}
use Rattle.std.proofs.lemmas.List.{append_assoc, append-nil, length-append, length-map, length-take, map_push, take_more_set}
use Rattle.std.proofs.ByRecursion.{All-push}
use Rattle.grammar.specs.declared.Symbol.{Symbol}
use Rattle.grammar.specs.declared.Symbol.TheVariants.{Name, Word}
use Rattle.grammar.specs.declared.Rule.{Rule}
use Rattle.grammar.specs.declared.draft.Draft.{Draft}
use Rattle.grammar.specs.Grammar.{Counted, Formed, right}
use Rattle.grammar.proofs.Fronts.{counted_more}
use Rattle.grammar.proofs.Pushed.{each_more}
use Rattle.sheets.specs.Lines.{Spelled, name, word, Line, spelling, tabbed, well}
use Rattle.sheets.specs.Spellings.{names_among, words_among, with_all}
use Rattle.sheets.specs.Limits.{Short}
use Rattle.sheets.specs.Texts.{spelled}
use Rattle.sheets.specs.inner.Fields.{Field, Fieldless}
use Rattle.sheets.specs.inner.Interns.{Entered, Barred}
use Rattle.sheets.specs.inner.Drafting.{Holding, Righted, Fitting}
use Rattle.sheets.proofs.Once.{name_no_word}
use Rattle.sheets.proofs.Reading.{field_first, field_none, no_tab_symbol}
use Rattle.sheets.proofs.Stays.{right_counted, symbols_stay}
use Rattle.sheets.proofs.Held.{named, name_at, worded, word_at, no_name, no_word}

-- the rule has the first symbols and the draft their names and words; the others are left to read
pub record Partly (before : List Line) (N W : List (List ℕ)) (ss : List Spelled) (bytes : List ℕ) (d : Draft) (p : Rule) (N₁ W₁ : List (List ℕ)) (rest : List Spelled) : Type 0 where
  pub held : Holding before N₁ W₁ d
  pub names : with_all N₁ (names_among rest) ≡ with_all N (names_among ss)
  pub words : with_all W₁ (words_among rest) ≡ with_all W (words_among ss)
  pub spells : map (spelled N₁ W₁) (right p) ++ rest ≡ ss
  pub unread : bytes ≡ tabbed (map spelling rest)
  pub all_well : AllByRecursion (λ s. well s ≡ true) rest
  pub short : AllByRecursion (λ s. Short (spelling s)) (map (spelled N₁ W₁) (right p))

abbrev pub Midway : List Line → List (List ℕ) → List (List ℕ) → List Spelled → List ℕ → Draft → Rule → Type 0
Midway before N W ss bytes d p = (N₁ W₁ : List (List ℕ)) × (rest : List Spelled) × Partly before N W ss bytes d p N₁ W₁ rest

-- the rule with one symbol more
abbrev with_symbol : Rule → Symbol → Rule
with_symbol p k = record { weight = p.weight; left = p.left; len = p.len + 1; symbols = set p.symbols p.len k }

-- the symbol entered is counted, and the counts have grown
entered_counts : (d e : Draft) (f : List ℕ) (k : Symbol) → Entered d f k e → (d.names.len ≤ e.names.len) × (d.words.len ≤ e.words.len) × Counted e.names.len e.words.len k
entered_counts d e f (Name a) h = (h.1.grown, (let same : e.words.len ≡ d.words.len = (let q = h.1.words in cc) in omega arith), h.1.counted)
entered_counts d e f (Word w) h = ((let same : e.names.len ≡ d.names.len = (let q = h.1.names in cc) in omega arith), h.1.grown, h.1.counted)

pub formed_more : (d e : Draft) (f : List ℕ) (p : Rule) (k : Symbol) → Entered d f k e → Formed d.names.len d.words.len p → p.len < length p.symbols → p.len < 8
    → Formed e.names.len e.words.len (with_symbol p k)
formed_more d e f p k entered formed room few =
    let counts = entered_counts d e f k entered in
    let n = e.names.len in
    let w = e.words.len in (
      (let l = formed.0 in let g = counts.0 in omega arith),
      (omega arith),
      each_more (Counted n w) p.symbols p.len k (Name 0) room (λ i l. counted_more d.names.len d.words.len n w counts.0 counts.1 _ (formed.2 i l)) counts.2,
    )

-- a symbol that is entered is spelled by its number
entered : (before : List Line) (N W : List (List ℕ)) (d e : Draft) (s : Spelled) (k : Symbol) → Holding before N W d → well s ≡ true → Entered d (spelling s) k e
    → Holding before (with_all N (names_among (s ∷ []))) (with_all W (words_among (s ∷ []))) e × (spelled (with_all N (names_among (s ∷ []))) (with_all W (words_among (s ∷ []))) k ≡ s) × Short (spelling s)
entered before N W d e (name t) (Name a) h ok n =
    let held = named before N W d h t a e n.1 in (held, ap name (name_at before _ W t a d e n.1 held).1, n.2)
entered before N W d e (name t) (Word w) h ok n = absurd (name_no_word t ok n.0)
entered before N W d e (word t) (Name a) h ok n = absurd (name_no_word t n.0 ok)
entered before N W d e (word t) (Word w) h ok n =
    let held = worded before N W d h t w e n.1 in (held, ap word (word_at before N _ t w d e n.1 held).1, n.2)

names_step : (N : List (List ℕ)) (s : Spelled) (rest : List Spelled) → with_all (with_all N (names_among (s ∷ []))) (names_among rest) ≡ with_all N (names_among (s ∷ rest))
names_step N (name t) rest = refl
names_step N (word t) rest = refl

words_step : (W : List (List ℕ)) (s : Spelled) (rest : List Spelled) → with_all (with_all W (words_among (s ∷ []))) (words_among rest) ≡ with_all W (words_among (s ∷ rest))
words_step W (name t) rest = refl
words_step W (word t) rest = refl

middle : {A : Type 0} (P : A → Type 0) (xs : List A) (y : A) (ys : List A) → AllByRecursion P (xs ++ (y ∷ ys)) → P y
middle P [] y ys h = h.0
middle P (x ∷ xs) y ys h = middle P xs y ys h.1

pub midway_start : (before : List Line) (N W : List (List ℕ)) (ss : List Spelled) (bytes : List ℕ) (d : Draft) (p : Rule) → Holding before N W d → bytes ≡ tabbed (map spelling ss) → AllByRecursion (λ s. well s ≡ true) ss → right p ≡ []
    → Midway before N W ss bytes d p
midway_start before N W ss bytes d p h e all none =
    (N, W, ss, record { held = h; names = refl; words = refl; spells = ap (λ ks. map (spelled N W) ks ++ ss) none; unread = e; all_well = all; short = subst (λ ks. AllByRecursion (λ s. Short (spelling s)) (map (spelled N W) ks)) (sym none) tt })

module _ (before : List Line) (N W : List (List ℕ)) (ss : List Spelled) (bytes : List ℕ) (d : Draft) (p : Rule) where
  -- a field more is the next symbol
  next : (f r : List ℕ) (N₁ W₁ : List (List ℕ)) (s : Spelled) (rest : List Spelled) → Field bytes f r → Partly before N W ss bytes d p N₁ W₁ (s ∷ rest) → (f ≡ spelling s) × (r ≡ tabbed (map spelling rest))
  next f r N₁ W₁ s rest found h = field_first bytes f r (spelling s) (map spelling rest) found h.unread (no_tab_symbol s h.all_well.0)

  ended : (f r : List ℕ) → Field bytes f r → bytes ≡ [] → ⊥
  ended f r found e = let whole = found.0 in let z : ◌≡◌ {A = ℕ} 0 1 = cc in omega arith

  spells_more : (N₁ W₁ : List (List ℕ)) (s : Spelled) (k : Symbol) → Holding before N₁ W₁ d → Formed d.names.len d.words.len p → p.len < length p.symbols
      → spelled (with_all N₁ (names_among (s ∷ []))) (with_all W₁ (words_among (s ∷ []))) k ≡ s
      → map (spelled (with_all N₁ (names_among (s ∷ []))) (with_all W₁ (words_among (s ∷ [])))) (right (with_symbol p k)) ≡ map (spelled N₁ W₁) (right p) ++ (s ∷ [])
  spells_more N₁ W₁ s k h formed room is =
      let ns = names_among (s ∷ []) in
      let ws = words_among (s ∷ []) in
      let spell = spelled (with_all N₁ ns) (with_all W₁ ws) in
      let counted : AllByRecursion (Counted (length N₁) (length W₁)) (right p) =
      subst (λ n. AllByRecursion (Counted n (length W₁)) (right p)) (sym h.name_total)
      (subst (λ n. AllByRecursion (Counted d.names.len n) (right p)) (sym h.word_total) (right_counted d.names.len d.words.len p formed.2)) in
      ap (map spell) (take_more_set p.symbols p.len k room)
      ∙ map_push spell (right p) k
      ∙ ap (λ ts. ts ++ (spell k ∷ [])) (symbols_stay N₁ W₁ ns ws (right p) counted)
      ∙ ap (λ t. map (spelled N₁ W₁) (right p) ++ (t ∷ [])) is

  pub midway_more : (f r : List ℕ) (k : Symbol) (e : Draft) → Formed d.names.len d.words.len p → p.len < length p.symbols → Field bytes f r → Entered d f k e
      → Midway before N W ss bytes d p → Midway before N W ss r e (with_symbol p k)
  midway_more f r k e formed room found enters (N₁, W₁, [], h) = absurd (ended f r found h.unread)
  midway_more f r k e formed room found enters (N₁, W₁, s ∷ rest, h) =
      let first = next f r N₁ W₁ s rest found h in
      let so = map (spelled N₁ W₁) (right p) in
      let done = entered before N₁ W₁ d e s k h.held h.all_well.0 (subst (λ x. Entered d x k e) first.0 enters) in
      let grown = spells_more N₁ W₁ s k h.held formed room done.1 in (
        with_all N₁ (names_among (s ∷ [])),
        with_all W₁ (words_among (s ∷ [])),
        rest,
        record {
          held = done.0;
          names = names_step N₁ s rest ∙ h.names;
          words = words_step W₁ s rest ∙ h.words;
          spells = ap (λ ts. ts ++ rest) grown ∙ append_assoc so (s ∷ []) rest ∙ h.spells;
          unread = first.1;
          all_well = h.all_well.1;
          short = subst (AllByRecursion (λ t. Short (spelling t))) (sym grown) (All-push (λ t. Short (spelling t)) so s h.short done.2);
        },
      )

  -- the symbols so far are as many as the rule has
  so_far : (N₁ W₁ : List (List ℕ)) → length p.symbols ≡ 8 → p.len ≤ 8 → length (map (spelled N₁ W₁) (right p)) ≡ p.len
  so_far N₁ W₁ eight few = let l = length-map (right p) (spelled N₁ W₁) in let t = length-take p.len p.symbols in omega arith

  -- a ninth symbol
  pub ninth : (f r : List ℕ) → length p.symbols ≡ 8 → p.len ≡ 8 → Field bytes f r → Midway before N W ss bytes d p → Fitting N W ss → ⊥
  ninth f r eight full found (N₁, W₁, [], h) fits = ended f r found h.unread
  ninth f r eight full found (N₁, W₁, s ∷ rest, h) fits =
      let l = length-append (map (spelled N₁ W₁) (right p)) (s ∷ rest) in
      let e = ap length h.spells in
      let n = so_far N₁ W₁ eight (omega arith) in
      let few = fits.few in
      omega arith

  barred_name : (N₁ W₁ : List (List ℕ)) (s : Spelled) (rest : List Spelled) → Holding before N₁ W₁ d → well s ≡ true → Barred d (spelling s) → Short (spelling s)
      → length (with_all N₁ (names_among (s ∷ rest))) ≤ 32 → length (with_all W₁ (words_among (s ∷ rest))) ≤ 64 → ⊥
  barred_name N₁ W₁ (name t) rest h ok (inl u) short names words = no_name before N₁ W₁ d h t (names_among rest) u.1 short names
  barred_name N₁ W₁ (word t) rest h ok (inl u) short names words = name_no_word t u.0 ok
  barred_name N₁ W₁ (name t) rest h ok (inr u) short names words = name_no_word t ok u.0
  barred_name N₁ W₁ (word t) rest h ok (inr u) short names words = no_word before N₁ W₁ d h t (words_among rest) u.1 short words

  -- a symbol that no number is left for
  pub midway_barred : (f r : List ℕ) → Field bytes f r → Barred d f → Midway before N W ss bytes d p → Fitting N W ss → ⊥
  midway_barred f r found bar (N₁, W₁, [], h) fits = ended f r found h.unread
  midway_barred f r found bar (N₁, W₁, s ∷ rest, h) fits =
      let first = next f r N₁ W₁ s rest found h in
      barred_name N₁ W₁ s rest h.held h.all_well.0 (subst (Barred d) first.0 bar)
      (middle (λ t. Short (spelling t)) (map (spelled N₁ W₁) (right p)) s rest (subst (AllByRecursion (λ t. Short (spelling t))) (sym h.spells) fits.short))
      (subst (λ ts. length ts ≤ 32) (sym h.names) fits.names) (subst (λ ts. length ts ≤ 64) (sym h.words) fits.words)

  -- no symbol is left
  pub righted : length p.symbols ≡ 8 → p.len ≤ 8 → Fieldless bytes → Midway before N W ss bytes d p → Righted before N W ss d p
  righted eight few none (N₁, W₁, [], h) =
      let spells : map (spelled N₁ W₁) (right p) ≡ ss = sym (append-nil (map (spelled N₁ W₁) (right p))) ∙ h.spells in
      record {
        held = subst (λ n. Holding before n (with_all W (words_among ss)) d) h.names (subst (λ w. Holding before N₁ w d) h.words h.held);
        spells = subst (λ n. map (spelled n (with_all W (words_among ss))) (right p) ≡ ss) h.names (subst (λ w. map (spelled N₁ w) (right p) ≡ ss) h.words spells);
        counted = sym (ap length spells) ∙ so_far N₁ W₁ eight few;
        short = subst (AllByRecursion (λ t. Short (spelling t))) spells h.short;
      }
  righted eight few none (N₁, W₁, s ∷ rest, h) = absurd (field_none bytes (spelling s) (map spelling rest) none h.unread)
