-- What a fault tells: the refusal's number, the place, and the layer's number. Assumes nothing.
use Rattle.std.specs.Prelude.{ℕ, Ok, Err, Result}
use Rattle.faults.specs.declared.Layer.{Layer}
use Rattle.faults.specs.declared.Layer.TheVariants.{Load, Text, Codes, Seat}
use Rattle.faults.specs.declared.Refusal.{Refusal}
use Rattle.faults.specs.declared.Refusal.TheVariants.{SheetTooLong, LineShape, LineLimit, SecondAlias, NoRule, NoTree, MessageTooLong, ByteNotAllowed, WordTooLong, UnlistedWord, NoSuchSeat, BrokenRecord, Full, LeadsNowhere, NothingToTakeBack, NoCommand, BufferTooShort}
use Rattle.faults.specs.declared.Fault.{Fault}

-- the numbers are part of the console's format
abbrev pub number_of : Refusal → ℕ
number_of SheetTooLong = 1
number_of LineShape = 2
number_of LineLimit = 3
number_of SecondAlias = 4
number_of NoRule = 5
number_of NoTree = 6
number_of MessageTooLong = 7
number_of ByteNotAllowed = 8
number_of WordTooLong = 9
number_of UnlistedWord = 10
number_of NoSuchSeat = 11
number_of BrokenRecord = 12
number_of Full = 13
number_of LeadsNowhere = 14
number_of NothingToTakeBack = 15
number_of NoCommand = 16
number_of BufferTooShort = 17

abbrev pub depth : Layer → ℕ
depth Load = 0
depth Text = 1
depth Codes = 2
depth Seat = 3

pub record Told : Type 0 where
  pub number : ℕ
  pub place : ℕ
  pub layer : ℕ

-- the refusal, met at this place by this layer
abbrev pub met : Refusal → ℕ → Layer → Told
met refusal place layer = record { number = number_of refusal; place = place; layer = depth layer }

abbrev pub told : Fault → Told
told f = met f.refusal f.place f.layer

-- an answer, its fault by what it tells
abbrev pub telling : {A : Type 0} → Result A Fault → Result A Told
telling (Ok x) = Ok x
telling (Err f) = Err (told f)
