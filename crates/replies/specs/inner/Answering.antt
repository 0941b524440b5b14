-- The steps of a reply. Assumes nothing.
use Rattle.std.specs.Prelude.{◌≡◌, ℕ, ◌≤◌, List, ◌++◌, take, Ok, Err, Result}
use Rattle.faults.specs.declared.Fault.{Fault}
use Rattle.faults.specs.declared.Refusal.TheVariants.{NoCommand}
use Rattle.faults.specs.Faults.{number_of, told}
use Rattle.grammar.specs.declared.sheet.Sheet.{Sheet}
use Rattle.grammar.specs.Trees.{Derivation, Command}
use Rattle.grammar.specs.View.{grammar_of, rules_of}
use Rattle.seats.specs.Answers.{fault}
use Rattle.readings.specs.declared.read.Reading.{Reading}
use Rattle.readings.specs.Scales.{Scale, points, worst}
use Rattle.readings.specs.Prices.{price, form}
use Rattle.answers.specs.Input.{Messages}
use Rattle.answers.specs.Lines.{read_line, refused_line}
use Rattle.replies.specs.declared.answer.Answer.{Answer}
use Rattle.replies.specs.Replies.{Least, Replies}

-- a cheapest derivation by a scale, its price, and its form first in the list
pub record Best {P : Type 0} (s : Sheet) (S : Scale P) (ws list : List ℕ) (d : Reading P) : Type 0 where
  pub derivation : Derivation (grammar_of s) ws
  pub costs : d.price ≡ price (rules_of s) S derivation.0
  pub least : Least (grammar_of s) S ws derivation
  pub short : d.length ≤ 9984
  pub written : take d.length list ≡ form derivation.0

-- what reading by a scale answers; no command is told so
abbrev pub ReadBy : {P : Type 0} → Sheet → Scale P → List ℕ → List ℕ → Result (Reading P) Fault → Type 0
ReadBy s S ws list (Ok d) = Best s S ws list d
ReadBy s S ws list (Err f) = (Command (grammar_of s) ws → ⊥) × (told f ≡ fault NoCommand 0)

-- the line that tells an answer, the form first in the list
abbrev pub line_of : List ℕ → Result Answer Fault → List ℕ
line_of list (Ok a) = read_line a.points a.worst (take a.length list)
line_of list (Err f) = refused_line (told f).number (told f).place

-- the line for words that stand
pub data AnswerLine (s : Sheet) (ws line : List ℕ) : Type 0 where
  no_command : (Command (grammar_of s) ws → ⊥) → line ≡ refused_line (number_of NoCommand) 0 → AnswerLine s ws line
  reading : (p w : Derivation (grammar_of s) ws) → Least (grammar_of s) points ws p → Least (grammar_of s) worst ws w
      → line ≡ read_line (price (rules_of s) points p.0) (price (rules_of s) worst w.0) (form p.0) → AnswerLine s ws line

-- the lines of the messages of a rest
abbrev pub Replied : Sheet → List ℕ → List ℕ → List ℕ → Type 0
Replied s rest before after = (ms : List (List ℕ)) × (output : List ℕ) × Messages rest ms × Replies s ms output × (after ≡ before ++ output)

-- whatever lines complete the rest complete the whole
abbrev pub Onward : Sheet → List ℕ → List ℕ → List ℕ → List ℕ → Type 0
Onward s whole before rest after =
    (ms : List (List ℕ)) (output : List ℕ) → Messages rest ms → Replies s ms output → (ms' : List (List ℕ)) × (output' : List ℕ) × Messages whole ms' × Replies s ms' output' × (after ++ output ≡ before ++ output')
