-- What the values of the sources mean, by their fields. Assumes nothing.
use Rattle.std.specs.Prelude.{take, drop}
use Rattle.grammar.specs.View.{words_in}
use Rattle.sources.specs.declared.codes.Codes.{Codes}
use Rattle.sources.specs.declared.text.Text.{Text}
use Rattle.sources.specs.declared.alias.Alias.{Alias}
use Rattle.sources.specs.declared.filler.Filler.{Filler}
use Rattle.sources.specs.Meanings.{Meaning, renamed, without}
use Rattle.sources.specs.Messages.{spoken}
use Rattle.sources.specs.Codings.{coded}

abbrev pub codes_mean : Codes → Meaning
codes_mean c = coded c.count c.at (drop c.at c.codes.now)

abbrev pub text_means : Text → Meaning
text_means t = spoken (words_in t.sheet.now) t.at (drop t.at t.message.now)

abbrev pub pile_means : Filler (Alias Text) → Meaning
pile_means p = without p.fillers (renamed (take p.below.pairs.len p.below.pairs.items) (text_means p.below.below))
