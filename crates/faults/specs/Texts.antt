-- What is printed of a fault, as bytes. Assumes nothing.
use Rattle.std.specs.Prelude.{ℕ, List, ◌++◌, codes, decimal}
use Rattle.faults.specs.declared.Refusal.{Refusal}
use Rattle.faults.specs.declared.Refusal.TheVariants.{SheetTooLong, LineShape, LineLimit, SecondAlias, NoRule, NoTree, MessageTooLong, ByteNotAllowed, WordTooLong, UnlistedWord, NoSuchSeat, BrokenRecord, Full, LeadsNowhere, NothingToTakeBack, NoCommand, BufferTooShort}
use Rattle.faults.specs.declared.Fault.{Fault}
use Rattle.faults.specs.Faults.{number_of, depth}

-- the refusal in words
abbrev pub reason_of : Refusal → List ℕ
reason_of SheetTooLong = codes "the sheet is over 16,384 bytes"
reason_of LineShape = codes "the line has no listed shape"
reason_of LineLimit = codes "the line passes a limit"
reason_of SecondAlias = codes "the word has an alias already"
reason_of NoRule = codes "the sheet has no rule"
reason_of NoTree = codes "the name can never be spelled out in words"
reason_of MessageTooLong = codes "the message is over 512 bytes"
reason_of ByteNotAllowed = codes "the byte is not allowed in a word"
reason_of WordTooLong = codes "the word is over 15 bytes"
reason_of UnlistedWord = codes "the word is not on the sheet"
reason_of NoSuchSeat = codes "the hall has no such seat"
reason_of BrokenRecord = codes "the seat's record is broken"
reason_of Full = codes "twenty words stand"
reason_of LeadsNowhere = codes "no command begins so"
reason_of NothingToTakeBack = codes "there is no word to take back"
reason_of NoCommand = codes "the words are no command"
reason_of BufferTooShort = codes "a buffer is too short"

-- the fault in one line: its numbers, and the refusal in words
abbrev pub text_of : Fault → List ℕ
text_of f =
    codes "refused " ++ (decimal (number_of f.refusal) ++ (codes " at " ++ (decimal f.place ++ (codes " by layer " ++ (decimal (depth f.layer) ++ (codes ": " ++ reason_of f.refusal))))))
