-- Frames of the code, and the numbers that they are. Assumes nothing.
use Rattle.std.specs.Prelude.{◌≡◌, ℕ}
use Rattle.readings.specs.declared.spot.Spot.{Spot}
use Rattle.readings.specs.inner.Places.{packed}
use Rattle.readings.specs.inner.Stages.{Unpacked}

abbrev pub Packs : Spot → ℕ → Type 0
Packs s v = v ≡ packed s.i s.j s.a s.d s.m

abbrev pub Unpacks : ℕ → Spot → Type 0
Unpacks v s = Unpacked v s.i s.j s.a s.d s.m
