-- Sets that grow by a step until it adds nothing, and the steps. Assumes nothing.
use Rattle.std.specs.Prelude.{◌≡◌, ℕ, ◌+◌, ◌<◌, true, ◌||◌, List}
use Rattle.items.specs.Members.{member, Step}
use Rattle.items.specs.declared.Items.{Items}
use Rattle.grammar.specs.Grammar.{Grammar}
use Rattle.tables.specs.inner.Sets.{Skipped, Over, Asks}

-- zs is the union of xs and ys
abbrev pub Union : List ℕ → List ℕ → List ℕ → Type 0
Union xs ys zs = (d : ℕ) → member zs d ≡ (member xs d || member ys d)

-- zs is xs, and what steps made of the set as it stood, one after another
pub data Grown (Makes : Items → Items → Type 0) (xs : Items) : Items → Type 0 where
  as_is : Grown Makes xs xs
  and_made : {ys made zs : Items} → Grown Makes xs ys → Makes ys made → Union ys.words made.words zs.words → Grown Makes xs zs

-- and one step more adds nothing
pub record Saturated (Makes : Items → Items → Type 0) (xs zs : Items) : Type 0 where
  pub grown : Grown Makes xs zs
  pub made : Items
  pub makes : Makes zs made
  pub still : Union zs.words made.words zs.words

-- ---- steps

-- ys has what is one further than a member of xs and of the mask
abbrev pub Into : List ℕ → List ℕ → List ℕ → Type 0
Into xs mask ys = (d : ℕ) → d + 1 < 256 → member xs d ≡ true → member mask d ≡ true → member ys (d + 1) ≡ true

-- and nothing else
abbrev pub From : List ℕ → List ℕ → List ℕ → Type 0
From xs mask ys = (d : ℕ) → d < 256 → member ys d ≡ true → Step xs mask d

pub record Stepped (xs mask ys : List ℕ) : Type 0 where
  pub into : Into xs mask ys
  pub from : From xs mask ys

-- ys is what comes by passing the names of the base that are complete in xs, and names that can yield nothing
pub record Crosses (g : Grammar) (base xs ys : List ℕ) : Type 0 where
  pub over : List ℕ
  pub next : List ℕ
  pub crossed : Over g xs over
  pub stepped : Stepped base over next
  pub skipped : Skipped g next ys

-- ys is what comes by opening the names after dots in xs, and passing names that can yield nothing
pub record Opens (g : Grammar) (xs ys : List ℕ) : Type 0 where
  pub asked : List ℕ
  pub asks : Asks g xs asked
  pub skipped : Skipped g asked ys
