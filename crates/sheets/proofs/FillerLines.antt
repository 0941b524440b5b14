-- A filler line more.
use Rattle.std.proofs.Common.{◌≡◌, ℕ, ◌^◌, ◌<◌, true, false, ◌||◌, List, [], ◌∷◌, ◌++◌, length, get_or, sym, ap, ◌∙◌, subst, inl, inr}
use lib.Bits.{bit_or}
use Rattle.std.specs.Str.{bytes_eq}
use Rattle.std.proofs.Math.Bool.{or-false}
use Rattle.std.proofs.lemmas.Slice.Eq.{bytes_eq-Decides}
use Rattle.std.proofs.lemmas.Bool.{cases_eq, cases_Bool, or_left, or_right}
use Rattle.grammar.specs.Bits.{has}
use Rattle.grammar.proofs.BitSets.{has_with, has_with_other}
use Rattle.sheets.specs.Spellings.{member}
use Rattle.grammar.specs.Limits.{Apart}
use Rattle.sheets.proofs.Apartness.{member_at}
use Rattle.sheets.proofs.Grown.{member_append}

module _ (W F : List (List ℕ)) (s : List ℕ) (k : ℕ) (below : k < length W) (is : get_or W k [] ≡ s) where
  pub filler_known : (t : List ℕ) → member t (s ∷ []) ≡ true → member t W ≡ true
  filler_known t h =
      let same : bytes_eq t s ≡ true = sym (or-false (bytes_eq t s)) ∙ h in
      subst (λ x. member x W ≡ true) (is ∙ sym ((bytes_eq-Decides t s).0 same)) (member_at W k below)

  -- the set of fillers has its number
  pub filler_set : (old : ℕ) → Apart W → ((w : ℕ) → w < length W → has old w ≡ member (get_or W w []) F)
      → (w : ℕ) → w < length W → has (bit_or old (2 ^ k)) w ≡ member (get_or W w []) (F ++ (s ∷ []))
  filler_set old apart before w l =
      let t = get_or W w [] in
      let split : member t (F ++ (s ∷ [])) ≡ (member t F || (bytes_eq t s || false)) = member_append t F (s ∷ []) in
      elim (cases_eq w k) [
        | inl e ↦
            let here : t ≡ s = ap (λ i. get_or W i []) e ∙ is in
            ap (has (bit_or old (2 ^ k))) e ∙ has_with old k
            ∙ sym (split ∙ or_right (member t F) (bytes_eq t s || false) (or_left (bytes_eq t s) false ((bytes_eq-Decides t s).1 here)))
        | inr n ↦
            let differs : bytes_eq t s ≡ false = elim (cases_Bool (bytes_eq t s)) [
              | inl q ↦ absurd (n (apart w k l below ((bytes_eq-Decides t s).0 q ∙ sym is)))
              | inr q ↦ q
            ] in
            has_with_other old k w n ∙ before w l ∙ sym (split ∙ ap (λ b. member t F || (b || false)) differs ∙ or-false (member t F))
      ]
