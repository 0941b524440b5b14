-- A letter in its small form, and searches from the first on. Assumes nothing.
use Rattle.std.proofs.Common.{eqb, inl, inr, ◌≡◌, ℕ, ◌+◌, cond, Some, List, [], ◌∷◌, map, refl, ap, arith}
use Rattle.std.specs.Char.{to_ascii_lowercase}
use Rattle.std.specs.List.{find, position_from}
use Rattle.std.specs.Option.{option_map_or}
use Rattle.std.proofs.lemmas.Bool.{cases_Bool}
use Rattle.grammar.specs.declared.Alias.{Alias}
use Rattle.sources.specs.Meanings.{meant_by}
use Rattle.std.specs.Str.{bytes_eq}
use Rattle.grammar.specs.declared.Spelling.{Spelling}
use Rattle.grammar.specs.Limits.{text}
use Rattle.sources.specs.Messages.{numbered, lower}

pub small_letter : (b : ℕ) → to_ascii_lowercase b ≡ lower b
small_letter b = grind arith

-- the number of a spelling is its place
pub numbered_at : (ws : List Spelling) (w : List ℕ) (k : ℕ) → position_from (λ p. bytes_eq (text p) w) k ws ≡ numbered k (map text ws) w
numbered_at [] w k = refl
numbered_at (p ∷ ws) w k = ap (λ o. cond (bytes_eq (text p) w) (Some k) o) (numbered_at ws w (k + 1))

-- the word meant is that of the first alias found
pub meant_found : (ps : List Alias) (w : ℕ) → option_map_or (λ a. a.meant) (find (λ a. eqb a.said w) ps) w ≡ meant_by ps w
meant_found [] w = refl
meant_found (p ∷ ps) w = elim (cases_Bool (eqb p.said w)) [ inl e ↦ rw e refl | inr e ↦ rw e (meant_found ps w) ]
