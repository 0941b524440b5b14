use Rattle.std.proofs.Common.{rules}
use Rattle.grammar.proofs.Views.{first_place_at, first_places_count}
use Rattle.grammar.proofs.sheet.Sheet.first_places.Goals as goal

pub returns : goal.returns
returns c = record { count = first_places_count c.args.self.now (search rules); places = first_place_at c.args.self.now }
