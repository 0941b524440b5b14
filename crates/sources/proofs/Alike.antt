-- A filter that drops nothing. Assumes nothing.
use Rattle.std.proofs.Common.{◌≡◌, Bool, true, cond, List, [], ◌∷◌, filter, refl, ap, ◌∙◌, subst}
use Rattle.std.specs.List.{AllByRecursion}
use Rattle.std.proofs.ByRecursion.{kept_by_passes}
use Rattle.sources.specs.Meanings.{no_filler}
use Rattle.sources.specs.Laws.{FillersOnly}

kept_all : {X : Type 0} (p : X → Bool) (xs : List X) → AllByRecursion (λ x. p x ≡ true) xs → filter p xs ≡ xs
kept_all p [] h = refl
kept_all p (x ∷ xs) h = ap (λ b. cond b (x ∷ filter p xs) (filter p xs)) h.0 ∙ ap (λ ys. x ∷ ys) (kept_all p xs h.1)

pub fillers_only : FillersOnly
fillers_only f m = (
  (λ e. subst (AllByRecursion (λ h. no_filler f h ≡ true)) (ap (λ x. x.words) e) (kept_by_passes (no_filler f) m.words)),
  (λ h. ap (λ hs. record { words = hs; ending = m.ending }) (kept_all (no_filler f) m.words h)),
)
