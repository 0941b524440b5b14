-- What a cell of the code says of its table. Assumes nothing.
use Rattle.std.specs.Prelude.{ℕ, ◌<◌, List, length, Some, None, Option, slice_index_or}
use Rattle.grammar.specs.declared.Symbol.{Symbol}
use Rattle.grammar.specs.declared.Symbol.TheVariants.{Name}
use Rattle.grammar.specs.declared.Rule.{Rule}
use Rattle.grammar.specs.Grammar.{Counted}
use Rattle.readings.specs.declared.ground.Ground.{Ground}
use Rattle.readings.specs.declared.ground.Cell.{Cell}
use Rattle.readings.specs.declared.offers.Pick.{Pick}
use Rattle.readings.specs.Scales.{Scale}
use Rattle.readings.specs.inner.Tables.{Table, child, CutAt, Chosen}
use Rattle.readings.specs.inner.Columns.{Column}
use Rattle.readings.specs.inner.Candidates.{Offers, Offered, Repriced, Foremost}
use Rattle.readings.specs.inner.Places.{table}

-- each symbol's number is in a sheet's limits
abbrev pub AllCounted : List Symbol → Type 0
AllCounted s = (d : ℕ) → d < length s → Counted 32 64 (slice_index_or s d (Name 0))

-- the table that the ground shows
abbrev pub shown : {P : Type 0} → Scale P → Ground P → Table P
shown S g = table S g.prices.now g.numbers.now

-- the price of a symbol, for the cell
abbrev pub child_in : {P : Type 0} → Scale P → Cell P → Symbol → ℕ → ℕ → Option P
child_in S c = child S c.over.ground.now.words.now (shown S c.over.ground.now) c.over.i c.over.j c.k

abbrev pub CutIn : {P : Type 0} → Scale P → Cell P → List Symbol → ℕ → Option P → Type 0
CutIn S c = CutAt S c.over.ground.now.words.now (shown S c.over.ground.now) c.over.i c.over.j c.k

abbrev pub ColumnIn : {P : Type 0} → Scale P → Cell P → List Symbol → ℕ → (ℕ → Option P) → Type 0
ColumnIn S c = Column S c.over.ground.now.words.now (shown S c.over.ground.now) c.over.i c.over.j c.k

abbrev pub ChosenIn : {P : Type 0} → Scale P → Cell P → ℕ → Symbol → List Symbol → ℕ → Type 0
ChosenIn S c = Chosen S c.over.ground.now.words.now (shown S c.over.ground.now) c.over.i c.over.j c.k

abbrev pub OffersIn : {P : Type 0} → Scale P → Cell P → Rule → Option P → Type 0
OffersIn S c = Offers S c.over.ground.now.words.now (shown S c.over.ground.now) c.over.i c.over.j c.k

abbrev pub OfferedIn : {P : Type 0} → List Rule → Scale P → Cell P → (ℕ → Option P) → Type 0
OfferedIn rules S c = Offered rules S c.over.ground.now.words.now (shown S c.over.ground.now) c.over.i c.over.j c.k

abbrev pub RepricedIn : {P : Type 0} → List Rule → Scale P → Cell P → ℕ → ℕ → (ℕ → Option P) → Type 0
RepricedIn rules S c = Repriced rules S c.over.ground.now.words.now (shown S c.over.ground.now) c.over.i c.over.j c.k

-- of the first n of the column the cheapest is picked, if one is there
abbrev pub Picking : {P : Type 0} → Scale P → (ℕ → Option P) → ℕ → Option (Pick P) → Type 0
Picking S col n None = Foremost S col n 0 None
Picking S col n (Some pick) = Foremost S col n pick.rule (Some pick.price)
