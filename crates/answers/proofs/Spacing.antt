-- Numbers parted by spaces are the first, and each other after a space.
use Rattle.std.proofs.Common.{◌≡◌, ℕ, ◌-◌, ◌≤◌, List, [], ◌∷◌, ◌++◌, length, get_or, take, drop, decimal, ap, ◌∙◌, append-nil, arith}
use Rattle.std.specs.List.{flat_map}
use Rattle.std.proofs.lemmas.List.{take_all}
use Rattle.answers.specs.Lines.{spaced}

spaced_first : (n : ℕ) (ns : List ℕ) → decimal n ++ flat_map (λ m. 32 ∷ decimal m) ns ≡ spaced (n ∷ ns)
spaced_first n [] = append-nil (decimal n)
spaced_first n (m ∷ ns) = ap (λ bs. decimal n ++ (32 ∷ bs)) (spaced_first m ns)

-- the loop over all but the first has come to its end
pub spaced_all : (form : List ℕ) (i : ℕ) → 1 ≤ length form → length (take (length form - 1) (drop 1 form)) ≤ i
    → decimal (get_or form 0 0) ++ flat_map (λ m. 32 ∷ decimal m) (take i (take (length form - 1) (drop 1 form))) ≡ spaced form
spaced_all [] i some far = absurd (omega arith)
spaced_all (n ∷ ns) i some far =
    ap (λ ms. decimal n ++ flat_map (λ m. 32 ∷ decimal m) ms) (take_all i (take (length (n ∷ ns) - 1) ns) far ∙ take_all (length (n ∷ ns) - 1) ns (omega arith)) ∙ spaced_first n ns
