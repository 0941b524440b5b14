-- The walk that writes a cheapest reading: frames of rules half written, and what they leave to write. Assumes nothing.
use Rattle.std.specs.Prelude.{ℕ, suc, ◌+◌, ◌-◌, ◌*◌, ◌<◌, ◌≤◌, cond, List, [], ◌∷◌, ◌++◌, length, Some, ◌==◌}
use Rattle.grammar.specs.declared.Symbol.{Symbol}
use Rattle.grammar.specs.declared.Rule.{Rule}
use Rattle.grammar.specs.Trees.{Row, Fits}
use Rattle.readings.specs.Scales.{Scale}
use Rattle.readings.specs.Prices.{price, form}
use Rattle.readings.specs.inner.Least.{Least}
use Rattle.readings.specs.inner.Stretches.{Over}
use Rattle.readings.specs.inner.Cuts.{Cuts}
use Rattle.readings.specs.inner.Tables.{Table, child}

-- a rule over (i, j), by a name of rank k there, of which the symbols `rest` are to be written yet, from position m
pub record Frame : Type 0 where
  pub i : ℕ
  pub j : ℕ
  pub k : ℕ
  pub m : ℕ
  pub rest : List Symbol

-- the frame's rest can be cut, and is not over
pub record Open {P : Type 0} (S : Scale P) (ws : List ℕ) (t : Table P) (f : Frame) : Type 0 where
  pub before : f.i < f.j
  pub from : f.i ≤ f.m
  pub upto : f.m ≤ f.j
  pub within : f.j ≤ length ws
  pub cut : P
  pub least : Least S (Cuts S (child S ws t f.i f.j f.k) f.rest f.m f.j) (Some cut)

abbrev pub Opened : {P : Type 0} → Scale P → List ℕ → Table P → List Frame → Type 0
Opened S ws t [] = Unit {0}
Opened S ws t (f ∷ fs) = Open S ws t f × Opened S ws t fs

-- a row for the frame's rest, at its cheapest price
pub record Rest {P : Type 0} (rules : List Rule) (S : Scale P) (ws : List ℕ) (t : Table P) (f : Frame) (row : Row) : Type 0 where
  pub least : Least S (Cuts S (child S ws t f.i f.j f.k) f.rest f.m f.j) (Some (price rules S row))
  pub fits : Fits rules f.rest row
  pub over : Over ws f.m f.j row

-- whatever rows the frames' rests are, with their forms behind what is written the goal is met; the innermost frame stands first
abbrev pub Completes : {P : Type 0} → List Rule → Scale P → List ℕ → Table P → (List ℕ → Type 0) → List Frame → List ℕ → Type 0
Completes rules S ws t goal [] out = goal out
Completes rules S ws t goal (f ∷ fs) out = (row : Row) → Rest rules S ws t f row → Completes rules S ws t goal fs (out ++ form row)

-- trees that yield words and are yet to be opened: at most so many
unfoldable pub nodes : ℕ → ℕ → ℕ → ℕ → ℕ
nodes i j k m = cond (m == j) 0 (cond (m == i) (k + 32 * (2 * (j - i) - 2)) (32 * (2 * (j - m) - 1)))

-- 1 where words are left
unfoldable pub left : ℕ → ℕ → ℕ
left m j = cond (m == j) 0 1

-- numbers to be written: 8 for each such tree, and one for each symbol left, but for one that has words
abbrev pub room : Frame → ℕ
room f = (length f.rest - left f.m f.j) + 8 * nodes f.i f.j f.k f.m

abbrev pub rooms : List Frame → ℕ
rooms [] = 0
rooms (f ∷ fs) = room f + rooms fs

-- turns of the walk: 9 for each such tree, one for each symbol left, and one to leave
abbrev pub turns : List Frame → ℕ
turns [] = 0
turns (f ∷ fs) = suc (length f.rest) + 9 * nodes f.i f.j f.k f.m + turns fs

-- a frame lies as deep as its stretch and rank allow
abbrev pub Deep : List Frame → Type 0
Deep [] = Unit {0}
Deep (f ∷ fs) = (suc (length fs) + 32 * (f.j - f.i - 1) + f.k ≤ 640) × Deep fs

-- what the walk keeps
pub record Walk {P : Type 0} (rules : List Rule) (S : Scale P) (ws : List ℕ) (t : Table P) (goal : List ℕ → Type 0) (fs : List Frame) (out : List ℕ) : Type 0 where
  pub opened : Opened S ws t fs
  pub completes : Completes rules S ws t goal fs out
  pub fits : length out + rooms fs ≤ 9984
  pub deep : Deep fs
