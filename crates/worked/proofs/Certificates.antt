-- The certificates of the worked cases: logs, rows and bounds.
use Rattle.std.proofs.Common.{ℕ, true, List, [], ◌∷◌, Some, None, Option}
use Rattle.grammar.specs.Trees.{Row, end, word, tree}
use Rattle.worked.specs.Lathe.{go, opt, tool, hold, the, lathe}
use Rattle.worked.proofs.Logged.{Entry, entry}
use Rattle.worked.proofs.Bounded.{Bound}
use Rattle.worked.proofs.Formed.{Best}
use Rattle.worked.proofs.Checked.{Certificate}

-- ---- logs, the newest entry first: what stands in each column, each from what stands already

abbrev after_nothing : List Entry
after_nothing = entry 0 0 0 0 ∷ []

abbrev after_hold : List Entry
after_hold = entry 1 1 5 1 ∷ entry 1 1 5 0 ∷ entry 1 1 4 0 ∷ entry 0 1 0 2 ∷ entry 1 1 3 1 ∷ entry 1 1 3 0 ∷ entry 1 1 2 0 ∷ entry 1 1 1 0 ∷ entry 0 1 0 1 ∷ after_nothing

abbrev after_hold_the : List Entry
after_hold_the = entry 2 2 5 1 ∷ entry 2 2 3 1 ∷ entry 2 2 3 0 ∷ entry 2 2 2 0 ∷ entry 2 2 1 0 ∷ entry 2 2 5 0 ∷ entry 2 2 4 0 ∷ entry 0 2 0 2 ∷ entry 1 2 5 1 ∷ entry 1 2 3 1 ∷ entry 1 2 2 1 ∷ after_hold

abbrev after_hold_the_lathe : List Entry
after_hold_the_lathe = entry 0 3 0 3 ∷ entry 1 3 5 2 ∷ entry 2 3 5 2 ∷ entry 2 3 4 1 ∷ after_hold_the

abbrev after_hold_the_the : List Entry
after_hold_the_the = entry 2 3 5 1 ∷ entry 2 3 3 1 ∷ entry 2 3 2 1 ∷ after_hold_the

-- ---- readings: Go over hold, then a row for Opt and one for Tool

abbrev read : (Row → Row) → (Row → Row) → Row
read opts tools = tree 0 (word hold (opts (tools end))) end

abbrev no_opt : Row → Row
no_opt rest = tree 1 end rest

abbrev opt_the : Row → Row
opt_the rest = tree 2 (word the end) rest

abbrev tool_lathe : Row → Row
tool_lathe rest = tree 4 (word lathe end) rest

abbrev tool_the_lathe : Row → Row
tool_the_lathe rest = tree 5 (opt_the (word lathe end)) rest

-- the longest command among the cases
abbrev longest : Row
longest = read opt_the tool_the_lathe

-- ---- bounds: a tree for the name over these words costs no less, and over others there is none

abbrev bound : ℕ → ℕ → ℕ → ℕ → Bound ℕ
bound i j a p = record { from = i; to = j; name = a; bound = p }

-- and at that price it is written so
abbrev best : ℕ → ℕ → ℕ → ℕ → List ℕ → Bound Best
best i j a p form = record { from = i; to = j; name = a; bound = record { price = p; form = form; sure = true } }

abbrev hold_the_lathe_points : List (Bound Best)
hold_the_lathe_points = best 0 0 opt 0 (0 ∷ []) ∷ best 0 3 go 1 (1 ∷ 3 ∷ 5 ∷ []) ∷ best 1 1 opt 0 (0 ∷ []) ∷ best 1 2 opt 1 (3 ∷ []) ∷ best 1 3 tool 4 (6 ∷ 3 ∷ []) ∷ best 2 2 opt 0 (0 ∷ []) ∷ best 2 3 tool 0 (5 ∷ []) ∷ best 3 3 opt 0 (0 ∷ []) ∷ []

abbrev hold_the_lathe_worst : List (Bound ℕ)
hold_the_lathe_worst = bound 0 0 opt 0 ∷ bound 0 3 go 1 ∷ bound 1 1 opt 0 ∷ bound 1 2 opt 1 ∷ bound 1 3 tool 3 ∷ bound 2 2 opt 0 ∷ bound 2 3 tool 0 ∷ bound 3 3 opt 0 ∷ []

abbrev hold_lathe_points : List (Bound Best)
hold_lathe_points = best 0 0 opt 0 (0 ∷ []) ∷ best 0 2 go 0 (1 ∷ 0 ∷ 5 ∷ []) ∷ best 1 1 opt 0 (0 ∷ []) ∷ best 1 2 tool 0 (5 ∷ []) ∷ best 2 2 opt 0 (0 ∷ []) ∷ []

abbrev hold_lathe_worst : List (Bound ℕ)
hold_lathe_worst = bound 0 0 opt 0 ∷ bound 0 2 go 0 ∷ bound 1 1 opt 0 ∷ bound 1 2 tool 0 ∷ bound 2 2 opt 0 ∷ []

abbrev hold_the_the_lathe_points : List (Bound Best)
hold_the_the_lathe_points = best 0 0 opt 0 (0 ∷ []) ∷ best 0 4 go 5 (1 ∷ 3 ∷ 6 ∷ 3 ∷ []) ∷ best 1 1 opt 0 (0 ∷ []) ∷ best 1 2 opt 1 (3 ∷ []) ∷ best 2 2 opt 0 (0 ∷ []) ∷ best 2 3 opt 1 (3 ∷ []) ∷ best 2 4 tool 4 (6 ∷ 3 ∷ []) ∷ best 3 3 opt 0 (0 ∷ []) ∷ best 3 4 tool 0 (5 ∷ []) ∷ best 4 4 opt 0 (0 ∷ []) ∷ []

abbrev hold_the_the_lathe_worst : List (Bound ℕ)
hold_the_the_lathe_worst = bound 0 0 opt 0 ∷ bound 0 4 go 3 ∷ bound 1 1 opt 0 ∷ bound 1 2 opt 1 ∷ bound 2 2 opt 0 ∷ bound 2 3 opt 1 ∷ bound 2 4 tool 3 ∷ bound 3 3 opt 0 ∷ bound 3 4 tool 0 ∷ bound 4 4 opt 0 ∷ []

-- ---- for each case in their order

-- a seat and its log
abbrev seat : List ℕ → List Entry → Certificate
seat ws log = record { standing = ws; command = longest; log = Some log; reading = end; points_bounds = []; worst_bounds = [] }

-- a command and its reading
abbrev reading : List ℕ → Option (List Entry) → Row → List (Bound Best) → List (Bound ℕ) → Certificate
reading ws log row by_points by_worst = record { standing = ws; command = row; log = log; reading = row; points_bounds = by_points; worst_bounds = by_worst }

abbrev pub certificates : List Certificate
certificates =
    seat [] after_nothing
    ∷ seat (hold ∷ []) after_hold
    ∷ seat (hold ∷ the ∷ []) after_hold_the
    ∷ reading (hold ∷ the ∷ lathe ∷ []) (Some after_hold_the_lathe) (read opt_the tool_lathe) hold_the_lathe_points hold_the_lathe_worst
    ∷ reading (hold ∷ lathe ∷ []) None (read no_opt tool_lathe) hold_lathe_points hold_lathe_worst
    ∷ seat (hold ∷ the ∷ the ∷ []) after_hold_the_the
    ∷ reading (hold ∷ the ∷ the ∷ lathe ∷ []) None longest hold_the_the_lathe_points hold_the_the_lathe_worst
    ∷ seat (hold ∷ the ∷ the ∷ []) after_hold_the_the
    ∷ seat [] after_nothing
    ∷ reading [] None (tree 0 end end) (best 0 0 0 0 (0 ∷ []) ∷ []) (bound 0 0 0 0 ∷ [])
    ∷ []
