-- Sets of dotted places: what the masks of a sheet mark, and how a set grows. Assumes nothing.
use Rattle.std.specs.Prelude.{◌≡◌, ℕ, ◌+◌, ◌<◌, ◌≤◌, true, List, length, slice_index_or}
use Rattle.items.specs.Members.{member}
use Rattle.items.specs.declared.Items.{Items}
use Rattle.grammar.specs.declared.Symbol.{Symbol}
use Rattle.grammar.specs.declared.Symbol.TheVariants.{Name, Word}
use Rattle.grammar.specs.declared.masks.Masks.{Masks}
use Rattle.grammar.specs.Grammar.{Grammar, rule, right}
use Rattle.grammar.specs.Closure.{Empties}
use Rattle.grammar.specs.Dotted.{no_items}
use Rattle.grammar.specs.Limits.{Lefts}
use Rattle.tables.specs.Table.{At}
use Rattle.tables.specs.Columns.{first_place, Has, Sure}

-- the words of the a-th set
abbrev pub set_at : List Items → ℕ → List ℕ
set_at sets a = (slice_index_or sets a no_items).words

-- the left name of each rule is among the first names
abbrev pub Named : Grammar → ℕ → Type 0
Named g names = Lefts names (length g.rules) g.rules

-- a set has room for every dotted place
abbrev pub Fitting : Grammar → Type 0
Fitting g = first_place g.rules (length g.rules) ≤ 256

-- ---- places

-- place d is in some rule with its dot before the symbol
pub record Spot (g : Grammar) (x : Symbol) (d : ℕ) : Type 0 where
  pub by : ℕ
  pub dot : ℕ
  pub listed : by < length g.rules
  pub is : d ≡ first_place g.rules by + dot
  pub at : At (rule g by) dot x

-- place d is that of a rule for the name with its dot after the first k symbols, where k is 0 or all
pub record End (g : Grammar) (a d : ℕ) (k : ℕ → ℕ) : Type 0 where
  pub by : ℕ
  pub listed : by < length g.rules
  pub left : (rule g by).left ≡ a
  pub is : d ≡ first_place g.rules by + k by

abbrev pub First : Grammar → ℕ → ℕ → Type 0
First g a d = End g a d (λ r. 0)

abbrev pub Last : Grammar → ℕ → ℕ → Type 0
Last g a d = End g a d (λ r. length (right (rule g r)))

-- place d has its dot before a name that can yield nothing
pub record Passed (g : Grammar) (d : ℕ) : Type 0 where
  pub name : ℕ
  pub nullable : Empties g.rules name
  pub spot : Spot g (Name name) d

-- ---- masks

pub record Marked (g : Grammar) (m : Masks) : Type 0 where
  pub fitting : Fitting g
  pub name_in : (r k a : ℕ) → r < length g.rules → At (rule g r) k (Name a) → member (set_at m.before_name a) (first_place g.rules r + k) ≡ true
  pub name_of : (a d : ℕ) → member (set_at m.before_name a) d ≡ true → Spot g (Name a) d
  pub word_in : (r k w : ℕ) → r < length g.rules → At (rule g r) k (Word w) → member (set_at m.before_word w) (first_place g.rules r + k) ≡ true
  pub word_of : (w d : ℕ) → member (set_at m.before_word w) d ≡ true → Spot g (Word w) d
  pub first_in : (r : ℕ) → r < length g.rules → member (set_at m.first (rule g r).left) (first_place g.rules r + 0) ≡ true
  pub first_of : (a d : ℕ) → member (set_at m.first a) d ≡ true → First g a d
  pub last_in : (r : ℕ) → r < length g.rules → member (set_at m.last (rule g r).left) (first_place g.rules r + length (right (rule g r))) ≡ true
  pub last_of : (a d : ℕ) → member (set_at m.last a) d ≡ true → Last g a d
  pub skip_in : (r k b : ℕ) → r < length g.rules → At (rule g r) k (Name b) → Empties g.rules b → member m.before_nullable.words (first_place g.rules r + k) ≡ true
  pub skip_of : (d : ℕ) → member m.before_nullable.words d ≡ true → Passed g d

-- ---- sets

-- one set has all that another has
abbrev pub Within : List ℕ → List ℕ → Type 0
Within xs ys = (d : ℕ) → d < 256 → member xs d ≡ true → member ys d ≡ true

-- the set has the next place where a name that can yield nothing is passed
abbrev pub Skips : Grammar → List ℕ → Type 0
Skips g xs = (r k b : ℕ) → r < length g.rules → At (rule g r) k (Name b) → Empties g.rules b → Has g xs r k → Has g xs r (k + 1)

pub record Skipped (g : Grammar) (xs ys : List ℕ) : Type 0 where
  pub keeps : Within xs ys
  pub closed : Skips g ys
  pub sound : (ws : List ℕ) (i j : ℕ) → Sure g ws i j xs → Sure g ws i j ys

-- place d has its dot before the left name of a rule that is complete in the set
pub record Crossed (g : Grammar) (xs : List ℕ) (d : ℕ) : Type 0 where
  pub by : ℕ
  pub listed : by < length g.rules
  pub spot : Spot g (Name (rule g by).left) d
  pub complete : Has g xs by (length (right (rule g by)))

-- what a set of names complete in xs lets the dot pass
pub record Over (g : Grammar) (xs ys : List ℕ) : Type 0 where
  pub into : (d : ℕ) → d < 256 → Crossed g xs d → member ys d ≡ true
  pub from : (d : ℕ) → d < 256 → member ys d ≡ true → Crossed g xs d

-- place d is the first of a rule whose left name stands after a dot in the set
pub record Asked (g : Grammar) (xs : List ℕ) (d : ℕ) : Type 0 where
  pub by : ℕ
  pub listed : by < length g.rules
  pub is : d ≡ first_place g.rules by + 0
  pub place : ℕ
  pub low : place < 256
  pub spot : Spot g (Name (rule g by).left) place
  pub has : member xs place ≡ true

pub record Asks (g : Grammar) (xs ys : List ℕ) : Type 0 where
  pub into : (d : ℕ) → d < 256 → Asked g xs d → member ys d ≡ true
  pub from : (d : ℕ) → d < 256 → member ys d ≡ true → Asked g xs d

-- ys is xs, and what comes by passing names of the base that are complete in ys, and names that can yield nothing
pub record Chained (g : Grammar) (base xs ys : List ℕ) : Type 0 where
  pub keeps : Within xs ys
  pub closed : Skips g ys
  pub chains : (r k q : ℕ) → r < length g.rules → q < length g.rules → At (rule g r) k (Name (rule g q).left) → Has g base r k → Has g ys q (length (right (rule g q))) → Has g ys r (k + 1)
  pub sound : (ws : List ℕ) (i j : ℕ) → Sure g ws i i base → Sure g ws i j xs → Sure g ws i j ys

-- ys is xs, and what comes by opening the names after dots, and passing names that can yield nothing
pub record Opened (g : Grammar) (xs ys : List ℕ) : Type 0 where
  pub keeps : Within xs ys
  pub closed : Skips g ys
  pub opens : (r k q : ℕ) → r < length g.rules → q < length g.rules → At (rule g r) k (Name (rule g q).left) → Has g ys r k → Has g ys q 0
  pub sound : (ws : List ℕ) (j : ℕ) → Sure g ws j j xs → Sure g ws j j ys
