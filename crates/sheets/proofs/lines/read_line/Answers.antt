use Rattle.std.proofs.Common.{◌≡◌, ℕ, List}
use Rattle.sheets.specs.declared.lines.Kind.{Kind}
use Rattle.sheets.specs.declared.lines.Kind.TheVariants as key
use Rattle.sheets.specs.Lines.{Line, rule, alias, filler, Means}
use Rattle.sheets.specs.inner.Fields.{Cut}
use Rattle.sheets.specs.inner.Parses.{keyword}
use Rattle.sheets.proofs.Reading.{line_parts}
use Rattle.sheets.proofs.lines.read_line.Goals as goal

no_kind : (bytes first rest : List ℕ) → Cut 9 bytes first rest → ((k : Kind) → first ≡ keyword k → ⊥) → (ℓ : Line) → Means bytes ℓ → ⊥
no_kind bytes first rest cut none (rule w a ss) h = none key.Rule (line_parts bytes first rest (rule w a ss) cut h).0
no_kind bytes first rest cut none (alias s m) h = none key.Alias (line_parts bytes first rest (alias s m) cut h).0
no_kind bytes first rest cut none (filler w) h = none key.Filler (line_parts bytes first rest (filler w) cut h).0

pub returns-in_err-kind_of : goal.returns-in_err-kind_of
returns-in_err-kind_of c = rw c.from_residual.ensures (no_kind _ _ _ c.cut.ensures c.in_err-kind_of.ensures)
