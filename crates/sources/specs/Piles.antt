-- What the server hears of a message: filler over alias over text. Assumes nothing.
use Rattle.std.specs.Prelude.{ℕ, List}
use Rattle.grammar.specs.declared.sheet.Sheet.{Sheet}
use Rattle.grammar.specs.View.{words_in, aliases_in, fillers_in}
use Rattle.sources.specs.Meanings.{Meaning, renamed, without}
use Rattle.sources.specs.Messages.{spoken}

abbrev pub piled : Sheet → List ℕ → Meaning
piled s bytes = without (fillers_in s) (renamed (aliases_in s) (spoken (words_in s) 0 bytes))
