-- What the console writes: a line for each message, or one for a refused sheet. Assumes nothing.
use Rattle.std.specs.Prelude.{◌≡◌, ℕ, ◌<◌, ◌≤◌, List, [], ◌∷◌, ◌++◌, length, Ok, Err}
use Rattle.faults.specs.declared.Refusal.TheVariants.{SheetTooLong, MessageTooLong, NoCommand}
use Rattle.faults.specs.Faults.{Told, number_of}
use Rattle.grammar.specs.declared.sheet.Sheet.{Sheet}
use Rattle.grammar.specs.Grammar.{Grammar}
use Rattle.grammar.specs.Trees.{Derivation, Command}
use Rattle.grammar.specs.View.{grammar_of, rules_of}
use Rattle.sheets.specs.Texts.{Loaded, Refused}
use Rattle.sources.specs.Meanings.{Meaning}
use Rattle.sources.specs.Piles.{piled}
use Rattle.seats.specs.Answers.{HeardOut}
use Rattle.readings.specs.Scales.{Scale, NoDearer, points, worst}
use Rattle.readings.specs.Prices.{price, form}
use Rattle.answers.specs.Input.{Split, Messages}
use Rattle.answers.specs.Lines.{read_line, refused_line}

-- no derivation of the words is cheaper
abbrev pub Least : {P : Type 0} → (g : Grammar) → Scale P → (ws : List ℕ) → Derivation g ws → Type 0
Least g S ws d = (other : Derivation g ws) → NoDearer S (price g.rules S d.0) (price g.rules S other.0)

-- the line for a message: heard through the server's pile, then read by points and by worst, each cheapest on its own
pub data Reply (s : Sheet) (message line : List ℕ) : Type 0 where
  too_long : 512 < length message → line ≡ refused_line (number_of MessageTooLong) 0 → Reply s message line
  stopped : length message ≤ 512 → (t : Told) (vs : List ℕ) (m : Meaning) → HeardOut s (piled s message) (Err t) vs m → line ≡ refused_line t.number t.place → Reply s message line
  no_command : length message ≤ 512 → (n : ℕ) (vs : List ℕ) (m : Meaning) → HeardOut s (piled s message) (Ok n) vs m → (Command (grammar_of s) vs → ⊥) → line ≡ refused_line (number_of NoCommand) 0 → Reply s message line
  reading : length message ≤ 512 → (n : ℕ) (vs : List ℕ) (m : Meaning) → HeardOut s (piled s message) (Ok n) vs m
      → (p w : Derivation (grammar_of s) vs) → Least (grammar_of s) points vs p → Least (grammar_of s) worst vs w
      → line ≡ read_line (price (rules_of s) points p.0) (price (rules_of s) worst w.0) (form p.0) → Reply s message line

-- the lines of the messages, one after the other
abbrev pub Replies : Sheet → List (List ℕ) → List ℕ → Type 0
Replies s [] output = output ≡ []
Replies s (m ∷ ms) output = (line : List ℕ) × (rest : List ℕ) × Reply s m line × Replies s ms rest × (output ≡ line ++ rest)

-- what the console writes for an input
pub data Output (input output : List ℕ) : Type 0 where
  too_long : 32768 < length input → output ≡ refused_line (number_of SheetTooLong) 0 → Output input output
  refused_sheet : length input ≤ 32768 → (text rest : List ℕ) (t : Told) → Split input text rest → Refused text t → output ≡ refused_line t.number t.place → Output input output
  replies : length input ≤ 32768 → (text rest : List ℕ) (s : Sheet) (ms : List (List ℕ)) → Split input text rest → Loaded text s → Messages rest ms → Replies s ms output → Output input output
