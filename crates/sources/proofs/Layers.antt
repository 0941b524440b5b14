-- One call below, as the layer above passes it on. Assumes nothing.
use Rattle.std.proofs.Common.{◌≡◌, ℕ, Some, None, Ok, Err, Option, Result, sym, refl, ap, ◌∙◌}
use Rattle.sources.specs.declared.source.Heard.{Heard}
use Rattle.faults.specs.Faults.{Told}
use Rattle.sources.specs.Meanings.{Meaning, answered, past, ended, faulty, saying}

-- a call that answers r leads from one meaning to the other
pub record Takes (r : Result (Option Heard) Told) (m m' : Meaning) : Type 0 where
  pub answer : r ≡ answered m
  pub left : m' ≡ past 1 m

pub called : (o p : Option Heard) (m m' : Meaning) → o ≡ p → Ok o ≡ answered m → m' ≡ past 1 m → Takes (Ok p) m m'
called o p m m' is a l = record { answer = ap Ok (sym is) ∙ a; left = l }

-- what a source means where it ends, where it faults and where it says a word
pub takes_end : (m : Meaning) → m ≡ ended → Takes (Ok None) m m
takes_end m e = rw e (record { answer = refl; left = refl })

pub takes_fault : (m : Meaning) (f : Told) → m ≡ faulty f → Takes (Err f) m m
takes_fault m f e = rw e (record { answer = refl; left = refl })

pub takes_word : (m m' : Meaning) (w p : ℕ) → m ≡ saying w p m' → Takes (Ok (Some (record { word = w; place = p }))) m m'
takes_word m m' w p e = rw e (record { answer = refl; left = refl })
