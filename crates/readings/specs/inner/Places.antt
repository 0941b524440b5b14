-- Where the lent prices and numbers hold the table and the walk's stack. Assumes nothing.
use Rattle.std.specs.Prelude.{ℕ, zero, suc, ◌+◌, ◌-◌, ◌*◌, ◌/◌, ◌%◌, ◌<◌, Bool, cond, ◌&&◌, List, [], ◌∷◌, length, drop, Some, None, ◌==◌, nat_le, nat_lt, slice_index, slice_index_or}
use Rattle.grammar.specs.declared.Rule.{Rule}
use Rattle.grammar.specs.Grammar.{right}
use Rattle.readings.specs.Scales.{Scale}
use Rattle.readings.specs.Prices.{nth}
use Rattle.readings.specs.inner.Tables.{Table}
use Rattle.readings.specs.inner.Walks.{Frame}

-- the name a over (i, j): cells column after column, 32 names to a cell
unfoldable pub place : ℕ → ℕ → ℕ → ℕ
place i j a = 32 * (j * (j + 1) / 2 + i) + a

-- there is such a place
abbrev pub placed : ℕ → ℕ → ℕ → Bool
placed i j a = nat_le i j && nat_le j 20 && nat_lt a 32

-- a number of the table: 0 for no price, else 256 times the rank, and the rule's number from 1
abbrev pub tabled : List ℕ → ℕ → ℕ → ℕ → ℕ
tabled ns i j a = cond (placed i j a) (slice_index ns (place i j a)) 0

abbrev pub table : {P : Type 0} → Scale P → List P → List ℕ → Table P
table S ps ns =
    record {
      at = λ i j a. cond (tabled ns i j a == 0) None (Some (slice_index_or ps (place i j a) S.unit));
      rank = λ i j a. tabled ns i j a / 256;
      by = λ i j a. tabled ns i j a % 256 - 1;
    }

-- a frame as one number: the digits, in base 32, of i, j, the name a, the dot d and the position m
unfoldable pub packed : ℕ → ℕ → ℕ → ℕ → ℕ → ℕ
packed i j a d m = (((i * 32 + j) * 32 + a) * 32 + d) * 32 + m

abbrev pub unpacked : {P : Type 0} → List Rule → Table P → ℕ → Frame
unpacked rules t v =
    let i : ℕ = v / 1048576 in
    let j : ℕ = v / 32768 % 32 in
    let a : ℕ = v / 1024 % 32 in
    record { i = i; j = j; k = t.rank i j a; m = v % 32; rest = drop (v / 32 % 32) (right (nth rules (t.by i j a))) }

-- the first h numbers of the stack, the last first
abbrev pub frames : {P : Type 0} → List Rule → Table P → List ℕ → ℕ → List Frame
frames rules t st zero = []
frames rules t st (suc h) = unpacked rules t (slice_index st h) ∷ frames rules t st h

-- every frame of the stack has a rule of the grammar
abbrev pub Sound : {P : Type 0} → List Rule → Table P → List ℕ → ℕ → Type 0
Sound rules t st h = (x : ℕ) → x < h → t.by (slice_index st x / 1048576) (slice_index st x / 32768 % 32) (slice_index st x / 1024 % 32) < length rules
