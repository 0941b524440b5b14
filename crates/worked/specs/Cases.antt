-- Ten cases worked out by hand, and that the definitions give just that. Assumes nothing.
use Rattle.std.specs.Prelude.{ℕ, List, [], ◌∷◌, codes}
use Rattle.std.specs.List.{AllByRecursion}
use Rattle.faults.specs.declared.Refusal.TheVariants.{LeadsNowhere}
use Rattle.worked.specs.Lathe.{hold, the, lathe}
use Rattle.worked.specs.Findings.{Finding, stand, refused, held, offer, number, no_command, by_points, by_worst, blank, lathe_sheet, Case, Agrees}

-- a message on the hold-the-lathe sheet, and on the blank one
abbrev on_lathe : List ℕ → List Finding → Case
on_lathe message findings = record { sheet = lathe_sheet; message = message; findings = findings }

abbrev on_blank : List ℕ → List Finding → Case
on_blank message findings = record { sheet = blank; message = message; findings = findings }

-- bit w of an offer is word w: 1 is hold, 2 the, 4 lathe
abbrev pub cases : List Case
cases =
    on_lathe (codes "") (stand [] ∷ held 1 ∷ offer 1 ∷ no_command ∷ [])
    ∷ on_lathe (codes "hold") (stand (hold ∷ []) ∷ held 10 ∷ offer 6 ∷ no_command ∷ [])
    ∷ on_lathe (codes "hold the") (stand (hold ∷ the ∷ []) ∷ held 21 ∷ number 16 4416 ∷ offer 6 ∷ no_command ∷ [])
    ∷ on_lathe (codes "hold the lathe")
    (stand (hold ∷ the ∷ lathe ∷ []) ∷ held 25 ∷ offer 0 ∷ by_points (1 ∷ 3 ∷ 5 ∷ []) 1 ∷ by_worst 1 ∷ [])
    ∷ on_lathe (codes "hold lathe") (stand (hold ∷ lathe ∷ []) ∷ by_points (1 ∷ 0 ∷ 5 ∷ []) 0 ∷ by_worst 0 ∷ [])
    ∷ on_lathe (codes "hold the the") (stand (hold ∷ the ∷ the ∷ []) ∷ offer 4 ∷ no_command ∷ [])
    ∷ on_lathe (codes "hold the the lathe")
    (stand (hold ∷ the ∷ the ∷ lathe ∷ []) ∷ by_points (1 ∷ 3 ∷ 6 ∷ 3 ∷ []) 5 ∷ by_worst 3 ∷ [])
    ∷ on_lathe (codes "hold the the the") (refused LeadsNowhere 13 (hold ∷ the ∷ the ∷ []) ∷ [])
    ∷ on_lathe (codes "lathe") (refused LeadsNowhere 0 [] ∷ [])
    ∷ on_blank (codes "") (stand [] ∷ by_points (0 ∷ []) 0 ∷ by_worst 0 ∷ [])
    ∷ []

-- the definitions agree with all ten
abbrev pub Worked : Type 0
Worked = AllByRecursion Agrees cases
