-- The first character of a name and the others.
use Rattle.std.proofs.Common.{◌≡◌, ℕ, ◌-◌, ◌<◌, ◌&&◌, List, [], ◌∷◌, length, get_or, take, drop, sym, ap, arith}
use Rattle.std.proofs.lemmas.List.{take_rest}
use Rattle.grammar.specs.Letters.{every, capital, in_name, name_spelled}

pub name_cut : (xs : List ℕ) → 0 < length xs → name_spelled xs ≡ (capital (get_or xs 0 0) && every in_name (take (length xs - 1) (drop 1 xs)))
name_cut [] h = absurd (omega arith)
name_cut (x ∷ xs) h = ap (λ ys. capital x && every in_name ys) (sym (take_rest (x ∷ xs) 1))
