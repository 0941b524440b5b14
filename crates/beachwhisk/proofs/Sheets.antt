-- What is answered on the sheet of a text, or without one. Assumes nothing.
use Rattle.std.proofs.Common.{◌≡◌, ℕ, List, Ok, Err, Result, MatchResult, IsOkAnd, ap}
use Rattle.faults.specs.declared.Fault.{Fault}
use Rattle.faults.specs.Faults.{Told, told, telling}
use Rattle.grammar.specs.declared.sheet.Sheet.{Sheet}
use Rattle.sheets.specs.Texts.{Loaded, Refused}
use Rattle.beachwhisk.specs.Calls.{Given, done, no_sheet}

-- what loading a text answers
abbrev pub Gives : List ℕ → Result Sheet Fault → Type 0
Gives text (Ok sheet) = Loaded text sheet
Gives text (Err fault) = Refused text (told fault)

-- a call that writes nothing, made where there is a sheet
pub given : {A : Type 0} (text : List ℕ) (Does : Sheet → Result A Told → Type 0) (got : Result Sheet Fault) (r : Result A Fault) → Gives text got → MatchResult got (λ s. Does s (telling r)) (λ f. r ≡ Err f) → Given text Does (Unit {0}) (telling r)
given text Does (Ok s) r loaded does = done s loaded does
given text Does (Err f) r refused is = no_sheet (told f) refused (ap telling is) tt

-- a number that a call gives
pub number : (r : Result ℕ Fault) (n : ℕ) (P : ℕ → Type 0) → ((m : ℕ) → P m → m ≡ n) → IsOkAnd r P → telling r ≡ Ok n
number (Ok m) n P is p = ap Ok (is m p)
number (Err f) n P is p = absurd p
