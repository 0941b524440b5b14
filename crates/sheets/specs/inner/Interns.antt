-- A spelling among those so far. Assumes nothing.
use Rattle.std.specs.Prelude.{◌≡◌, ℕ, ◌<◌, ◌≤◌, Bool, true, false, ◌⊎◌, List, [], length, get_or, Ok, Err, Result, ◌==◌, slice_index_or}
use Rattle.std.specs.List.{list_any}
use Rattle.grammar.specs.declared.Symbol.{Symbol}
use Rattle.grammar.specs.declared.Symbol.TheVariants.{Name, Word}
use Rattle.grammar.specs.declared.Spelling.{Spelling}
use Rattle.grammar.specs.declared.Alias.{Alias}
use Rattle.grammar.specs.declared.shelf.Shelf.{Shelf}
use Rattle.grammar.specs.declared.shelf.Full.{Full}
use Rattle.grammar.specs.declared.draft.Draft.{Draft}
use Rattle.grammar.specs.Letters.{name_spelled, word_spelled}
use Rattle.grammar.specs.Limits.{no_spelling, text, texts, Brief}
use Rattle.sheets.specs.Spellings.{member, with_one}

-- it has number k among the spellings with it
pub record Interned (before : List Spelling) (n : ℕ) (s : List ℕ) (k m : ℕ) (after : List Spelling) : Type 0 where
  pub listed : texts m after ≡ with_one (texts n before) s
  pub number : get_or (texts m after) k [] ≡ s
  pub counted : k < m
  pub grown : n ≤ m
  pub total : length (texts m after) ≡ m
  pub short : length s ≤ 15
  pub brief : Brief m after
  -- each is as it was, or the one that is new
  pub each : (j : ℕ) → j < m → ((j < n) × (slice_index_or after j no_spelling ≡ slice_index_or before j no_spelling)) ⊎ (text (slice_index_or after j no_spelling) ≡ s)

-- it is too long, or new with no room for it
abbrev pub Crowded : List Spelling → ℕ → ℕ → List ℕ → Type 0
Crowded before n limit s = (15 < length s) ⊎ ((member s (texts n before) ≡ false) × (length (texts n before) ≡ limit))

-- what becomes of the spellings when this one goes among them
abbrev pub Enters : {N : ℕ} → Shelf Spelling N → List ℕ → Result ℕ Full → Shelf Spelling N → Type 0
Enters old s (Ok k) new = Interned old.items old.len s k new.len new.items
Enters {N = N} old s (Err e) new = Crowded old.items old.len N s × (new ≡ old)

-- the draft with the name, and all else as it was
pub record Named (d : Draft) (s : List ℕ) (k : ℕ) (e : Draft) : Type 0 where
  pub listed : texts e.names.len e.names.items ≡ with_one (texts d.names.len d.names.items) s
  pub number : get_or (texts e.names.len e.names.items) k [] ≡ s
  pub counted : k < e.names.len
  pub total : length (texts e.names.len e.names.items) ≡ e.names.len
  pub grown : d.names.len ≤ e.names.len
  pub rules : e.rules ≡ d.rules
  pub words : e.words ≡ d.words
  pub aliases : e.aliases ≡ d.aliases
  pub starts : e.starts ≡ d.starts
  pub fillers : e.fillers ≡ d.fillers

-- with the word
pub record Worded (d : Draft) (s : List ℕ) (k : ℕ) (e : Draft) : Type 0 where
  pub listed : texts e.words.len e.words.items ≡ with_one (texts d.words.len d.words.items) s
  pub number : get_or (texts e.words.len e.words.items) k [] ≡ s
  pub counted : k < e.words.len
  pub total : length (texts e.words.len e.words.items) ≡ e.words.len
  pub grown : d.words.len ≤ e.words.len
  pub rules : e.rules ≡ d.rules
  pub names : e.names ≡ d.names
  pub aliases : e.aliases ≡ d.aliases
  pub starts : e.starts ≡ d.starts
  pub fillers : e.fillers ≡ d.fillers

-- the name is too long, or new with no room for it
abbrev pub Unnamed : Draft → List ℕ → Type 0
Unnamed d s = Crowded d.names.items d.names.len 32 s

-- the word is
abbrev pub Unworded : Draft → List ℕ → Type 0
Unworded d s = Crowded d.words.items d.words.len 64 s

-- the draft with the name or the word, which is this symbol
abbrev pub Entered : Draft → List ℕ → Symbol → Draft → Type 0
Entered d s (Name a) e = (name_spelled s ≡ true) × Named d s a e × (length s ≤ 15)
Entered d s (Word w) e = (word_spelled s ≡ true) × Worded d s w e × (length s ≤ 15)

-- the name or the word is too long, or there is no room for it
abbrev pub Barred : Draft → List ℕ → Type 0
Barred d s = ((name_spelled s ≡ true) × Unnamed d s) ⊎ ((word_spelled s ≡ true) × Unworded d s)

-- one of the aliases is for the word with this number
abbrev pub said_among : ℕ → List Alias → Bool
said_among w aliases = list_any (λ a. a.said == w) aliases
