-- The numbers of a hall: four seats, each with the words standing there and their table. Assumes nothing.
use Rattle.std.specs.Prelude.{◌≡◌, ℕ, ◌+◌, ◌-◌, ◌*◌, ◌^◌, ◌<◌, ◌≤◌, List, ◌∷◌, ◌++◌, length, take, drop, replicate, slice_index, slice_index_or}
use Rattle.grammar.specs.declared.sheet.Sheet.{Sheet}
use Rattle.grammar.specs.View.{grammar_of, words_in}
use Rattle.tables.specs.Columns.{Column}

-- the word is on the sheet
abbrev pub Listed : Sheet → ℕ → Type 0
Listed s w = w < length (words_in s)

-- the 945 numbers of a seat where the words stand: the count, twenty words (0 where unused), and the 924 numbers of the table.
-- A column past the last word has nothing that stands there, so all its bits are clear.
pub record Seat (s : Sheet) (ws : List ℕ) (numbers : List ℕ) : Type 0 where
  pub size : length numbers ≡ 945
  pub few : length ws ≤ 20
  pub listed : (n : ℕ) → n < length ws → Listed s (slice_index ws n)
  pub words : take 21 numbers ≡ length ws ∷ (ws ++ replicate (20 - length ws) 0)
  pub table : (j : ℕ) → j ≤ 20 → Column (grammar_of s) ws (drop 21 numbers) j

-- numbers of 64 bits that hold the same words are the same numbers
abbrev pub OneRecord : Type 0
OneRecord = (s : Sheet) (ws numbers numbers' : List ℕ) → ((p : ℕ) → slice_index numbers p < 2 ^ 64) → ((p : ℕ) → slice_index numbers' p < 2 ^ 64) → Seat s ws numbers → Seat s ws numbers' → numbers ≡ numbers'

-- the count is at most 20, and each counted word is on the sheet
pub record Whole (s : Sheet) (numbers : List ℕ) : Type 0 where
  pub few : slice_index_or numbers 0 0 ≤ 20
  pub listed : (n : ℕ) → n < slice_index numbers 0 → Listed s (slice_index numbers (1 + n))

-- seat k of a hall
abbrev pub seat : List ℕ → ℕ → List ℕ
seat hall k = take 945 (drop (945 * k) hall)

-- the numbers from position a on replaced by others
abbrev pub replaced : List ℕ → ℕ → List ℕ → List ℕ
replaced xs a ys = take a xs ++ (ys ++ drop (a + length ys) xs)

-- nothing outside seat k has changed
abbrev pub Apart : List ℕ → ℕ → List ℕ → Type 0
Apart hall k hall' = (length hall' ≡ length hall) × (hall' ≡ replaced hall (945 * k) (seat hall' k))
