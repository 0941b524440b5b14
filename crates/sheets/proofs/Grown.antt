-- Spellings are only ever added at the end.
use Rattle.std.proofs.Common.{◌≡◌, ℕ, ◌<◌, ◌≤◌, true, false, ◌||◌, List, [], ◌∷◌, ◌++◌, length, get_or, sym, refl, ap, ◌∙◌, inl, inr, arith, length-append}
use Rattle.std.specs.Str.{bytes_eq}
use Rattle.std.proofs.lemmas.List.{append_assoc, append-nil, get_or_append_left, get_or_push}
use Rattle.std.proofs.lemmas.Bool.{cases_Bool, or_left, cond-true, cond-false}
use Rattle.sheets.specs.Spellings.{member, with_one, with_all}

pub grows_one : (seen : List (List ℕ)) (s : List ℕ) → (zs : List (List ℕ)) × (with_one seen s ≡ seen ++ zs)
grows_one seen s = elim (cases_Bool (member s seen)) [
  | inl e ↦ ([], cond-true (member s seen) seen (seen ++ (s ∷ [])) e ∙ sym (append-nil seen))
  | inr e ↦ (s ∷ [], cond-false (member s seen) seen (seen ++ (s ∷ [])) e)
]

pub grows : (seen ss : List (List ℕ)) → (zs : List (List ℕ)) × (with_all seen ss ≡ seen ++ zs)
grows seen [] = ([], sym (append-nil seen))
grows seen (s ∷ ss) =
    let one = grows_one seen s in
    let more = grows (with_one seen s) ss in
    (one.0 ++ more.0, more.1 ∙ ap (λ ts. ts ++ more.0) one.1 ∙ append_assoc seen one.0 more.0)

pub grows_length : (seen ss : List (List ℕ)) → length seen ≤ length (with_all seen ss)
grows_length seen ss =
    let g = grows seen ss in
    let e = ap length g.1 in
    let l = length-append seen g.0 in
    omega arith

-- a number that is given stands for the same spelling
pub still_at : (seen ss : List (List ℕ)) (k : ℕ) → k < length seen → get_or (with_all seen ss) k [] ≡ get_or seen k []
still_at seen ss k h =
    let g = grows seen ss in
    ap (λ ts. get_or ts k []) g.1 ∙ get_or_append_left seen g.0 [] k h

-- a spelling that is one too many
pub too_many : (seen ss : List (List ℕ)) (s : List ℕ) (n : ℕ) → member s seen ≡ false → length seen ≡ n → length (with_all seen (s ∷ ss)) ≤ n → ⊥
too_many seen ss s n new full fits =
    let e = ap length (cond-false (member s seen) seen (seen ++ (s ∷ [])) new) in
    let l = length-append seen (s ∷ []) in
    let g = grows_length (with_one seen s) ss in
    omega arith

pub member_append : (s : List ℕ) (xs ys : List (List ℕ)) → member s (xs ++ ys) ≡ (member s xs || member s ys)
member_append s [] ys = refl
member_append s (x ∷ xs) ys = elim (cases_Bool (bytes_eq s x)) [
  | inl e ↦ or_left (bytes_eq s x) (member s (xs ++ ys)) e ∙ sym (or_left (bytes_eq s x || member s xs) (member s ys) (or_left (bytes_eq s x) (member s xs) e))
  | inr e ↦ ap (λ b. b || member s (xs ++ ys)) e ∙ member_append s xs ys ∙ ap (λ b. (b || member s xs) || member s ys) (sym e)
]

pub member_kept : (seen ss : List (List ℕ)) (t : List ℕ) → member t seen ≡ true → member t (with_all seen ss) ≡ true
member_kept seen ss t h =
    let g = grows seen ss in
    ap (member t) g.1 ∙ member_append t seen g.0 ∙ or_left (member t seen) (member t g.0) h

-- a place past the old spellings is a new one's
pub new_last : (seen : List (List ℕ)) (s : List ℕ) (w : ℕ) → length seen ≤ w → w < length (with_one seen s) → (member s seen ≡ false) × (get_or (with_one seen s) w [] ≡ s)
new_last seen s w l below = elim (cases_Bool (member s seen)) [
  | inl m ↦ let q = ap length (cond-true (member s seen) seen (seen ++ (s ∷ [])) m) in absurd (omega arith)
  | inr m ↦
      let f : with_one seen s ≡ seen ++ (s ∷ []) = cond-false (member s seen) seen (seen ++ (s ∷ [])) m in
      let q = ap length f in
      let r = length-append seen (s ∷ []) in
      let at : length seen ≡ w = omega arith in
      (m, ap (λ ts. get_or ts w []) f ∙ get_or_push seen s [] w at)
]
