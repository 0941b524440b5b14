-- The characters of names and words. Assumes nothing.
use Rattle.std.specs.Prelude.{ℕ, Bool, true, false, not, ◌&&◌, ◌||◌, List, [], ◌∷◌, ◌==◌, nat_le}
use Rattle.std.specs.List.{list_all}

abbrev pub digit : ℕ → Bool
digit c = nat_le 48 c && nat_le c 57

abbrev pub small : ℕ → Bool
small c = nat_le 97 c && nat_le c 122

abbrev pub capital : ℕ → Bool
capital c = nat_le 65 c && nat_le c 90

-- a character of a name after its first
abbrev pub in_name : ℕ → Bool
in_name c = small c || digit c

-- 45 is the hyphen
abbrev pub in_word : ℕ → Bool
in_word c = in_name c || c == 45

abbrev pub every : (ℕ → Bool) → List ℕ → Bool
every p cs = list_all p cs

abbrev pub empty : List ℕ → Bool
empty [] = true
empty (c ∷ cs) = false

-- a capital, then small letters and digits, at any length
abbrev pub name_spelled : List ℕ → Bool
name_spelled [] = false
name_spelled (c ∷ cs) = capital c && every in_name cs

-- small letters, digits and hyphens, one at least
abbrev pub word_spelled : List ℕ → Bool
word_spelled cs = not (empty cs) && every in_word cs
