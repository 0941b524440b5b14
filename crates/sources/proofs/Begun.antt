-- The runs found byte after byte are those that begin somewhere. Assumes nothing.
use Rattle.std.proofs.Common.{◌≡◌, ℕ, zero, suc, ◌+◌, ◌<◌, Bool, true, false, cond, not, ◌&&◌, List, ◌∷◌, map, length, get_or, take, drop, filter, sym, refl, ap, ◌∙◌, add-one, arith}
use Rattle.std.specs.List.{prefix_len}
use Rattle.std.proofs.lemmas.List.{drop_more, drop_all}
use Rattle.sources.specs.Messages.{space, other, Run, runs}
use Rattle.sources.specs.Laws.{upward, begins, run_at, RunsByBegins}

-- one byte: t says that it is a space, fresh that the one before is
one_byte : (t fresh : Bool) (r : Run) (more : Bool → List Run) (rest : List Run) (f : ℕ → Run) (p : ℕ) (kept : List ℕ) → r ≡ f p → more t ≡ rest → rest ≡ map f kept
    → cond t (more true) (cond fresh (r ∷ more false) (more false)) ≡ map f (cond (not t && fresh) (p ∷ kept) kept)
one_byte true fresh r more rest f p kept e g h = g ∙ h
one_byte false true r more rest f p kept e g h = ap (λ x. x ∷ more false) e ∙ ap (λ xs. f p ∷ xs) (g ∙ h)
one_byte false false r more rest f p kept e g h = g ∙ h

module _ (m : List ℕ) where
  from : (n p : ℕ) (fresh : Bool) → p + n ≡ length m → fresh ≡ space (get_or (32 ∷ m) p 32) → runs p fresh (drop p m) ≡ map (run_at m) (filter (begins m) (upward n p))
  from zero p fresh e q = ap (runs p fresh) (drop_all p m (omega arith))
  from (suc n) p fresh e q =
      let within : p < length m = omega arith in
      let b = get_or m p 32 in
      let here : drop p m ≡ b ∷ drop (p + 1) m = drop_more m p 32 within in
      let next : get_or (32 ∷ m) (p + 1) 32 ≡ b = ap (λ i. get_or (32 ∷ m) i 32) (add-one p) in
      let rest : runs (p + 1) (space b) (drop (p + 1) m) ≡ map (run_at m) (filter (begins m) (upward n (p + 1))) = from n (p + 1) (space b) (omega arith) (ap space (sym next)) in
      ap (runs p fresh) here
      ∙ one_byte (space b) fresh (record { place = p; bytes = take (prefix_len other (b ∷ drop (p + 1) m)) (b ∷ drop (p + 1) m) }) (λ t. runs (p + 1) t (drop (p + 1) m)) _ (run_at m) p (filter (begins m) (upward n (p + 1))) (ap (λ xs. record { place = p; bytes = take (prefix_len other xs) xs }) (sym here)) refl rest
      ∙ ap (λ t. map (run_at m) (cond (other b && t) (p ∷ filter (begins m) (upward n (p + 1))) (filter (begins m) (upward n (p + 1))))) q

pub runs_by_begins : RunsByBegins
runs_by_begins m = from m (length m) 0 true (omega arith) refl
