-- The console's lines. Assumes nothing.
use Rattle.std.specs.Prelude.{ℕ, List, [], ◌∷◌, ◌++◌, codes, decimal}

-- the numbers in digits, parted by single spaces
abbrev pub spaced : List ℕ → List ℕ
spaced [] = []
spaced (n ∷ []) = decimal n
spaced (n ∷ (m ∷ rest)) = decimal n ++ (32 ∷ spaced (m ∷ rest))

-- read, the points, the worst and the form, parted by tabs
abbrev pub read_line : ℕ → ℕ → List ℕ → List ℕ
read_line points worst form = codes "read" ++ (9 ∷ (decimal points ++ (9 ∷ (decimal worst ++ (9 ∷ (spaced form ++ (10 ∷ [])))))))

-- refused, the number and the place, parted by tabs
abbrev pub refused_line : ℕ → ℕ → List ℕ
refused_line number place = codes "refused" ++ (9 ∷ (decimal number ++ (9 ∷ (decimal place ++ (10 ∷ [])))))
