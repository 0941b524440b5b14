-- What bytes that are word numbers mean. Assumes nothing.
use Rattle.std.specs.Prelude.{ℕ, ◌+◌, cond, List, [], ◌∷◌, nat_lt}
use Rattle.faults.specs.declared.Layer.TheVariants.{Codes}
use Rattle.faults.specs.declared.Refusal.TheVariants.{UnlistedWord}
use Rattle.faults.specs.Faults.{met}
use Rattle.sources.specs.Meanings.{Meaning, ended, faulty, saying}

-- codes from a place on, on a sheet of n words
abbrev pub coded : ℕ → ℕ → List ℕ → Meaning
coded n p [] = ended
coded n p (w ∷ ws) = cond (nat_lt w n) (saying w p (coded n (p + 1) ws)) (faulty (met UnlistedWord p Codes))
