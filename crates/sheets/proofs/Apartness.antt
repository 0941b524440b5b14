-- Spellings of which no two are alike, with one more.
use Rattle.std.proofs.Common.{◌≡◌, ℕ, zero, suc, ◌<◌, ◌≤◌, true, false, List, [], ◌∷◌, ◌++◌, length, get_or, sym, refl, ◌∙◌, subst, inl, inr, arith, length-append}
use borrow.Author.Tests.{clash}
use Rattle.std.specs.Str.{bytes_eq}
use Rattle.std.proofs.lemmas.Slice.Eq.{bytes_eq-Decides}
use Rattle.std.proofs.lemmas.List.{get_or_append_left, get_or_push}
use Rattle.std.proofs.lemmas.Bool.{cases_Bool, cases_lt, or_left, or_right, cond-true, cond-false}
use Rattle.grammar.specs.Limits.{Apart}
use Rattle.sheets.specs.Spellings.{member, with_one, with_all}

pub member_at : (ts : List (List ℕ)) (i : ℕ) → i < length ts → member (get_or ts i []) ts ≡ true
member_at [] i h = absurd (omega arith)
member_at (t ∷ ts) zero h = or_left (bytes_eq t t) (member t ts) ((bytes_eq-Decides t t).1 refl)
member_at (t ∷ ts) (suc i) h = or_right (bytes_eq (get_or ts i []) t) (member (get_or ts i []) ts) (member_at ts i (omega arith))

module _ (ts : List (List ℕ)) (s : List ℕ) (apart : Apart ts) (new : member s ts ≡ false) where
  strange : (i : ℕ) → i < length ts → get_or ts i [] ≡ s → ⊥
  strange i h e = clash (sym new ∙ subst (λ x. member x ts ≡ true) e (member_at ts i h))

  last : (i : ℕ) → length ts ≤ i → i < length (ts ++ (s ∷ [])) → i ≡ length ts
  last i h l = let e = length-append ts (s ∷ []) in omega arith

  pub apart_push : Apart (ts ++ (s ∷ []))
  apart_push i j h k e = elim (cases_lt i (length ts)) [
    | inl p ↦ elim (cases_lt j (length ts)) [
      | inl q ↦ apart i j p q (sym (get_or_append_left ts (s ∷ []) [] i p) ∙ e ∙ get_or_append_left ts (s ∷ []) [] j q)
      | inr q ↦ absurd (strange i p (sym (get_or_append_left ts (s ∷ []) [] i p) ∙ e ∙ get_or_push ts s [] j (sym (last j q k))))
    ]
    | inr p ↦ elim (cases_lt j (length ts)) [
      | inl q ↦ absurd (strange j q (sym (get_or_append_left ts (s ∷ []) [] j q) ∙ sym e ∙ get_or_push ts s [] i (sym (last i p h))))
      | inr q ↦ last i p h ∙ sym (last j q k)
    ]
  ]

pub apart_one : (seen : List (List ℕ)) (s : List ℕ) → Apart seen → Apart (with_one seen s)
apart_one seen s h = elim (cases_Bool (member s seen)) [
  | inl e ↦ subst Apart (sym (cond-true (member s seen) seen (seen ++ (s ∷ [])) e)) h
  | inr e ↦ subst Apart (sym (cond-false (member s seen) seen (seen ++ (s ∷ [])) e)) (apart_push seen s h e)
]

pub apart_all : (seen ss : List (List ℕ)) → Apart seen → Apart (with_all seen ss)
apart_all seen [] h = h
apart_all seen (s ∷ ss) h = apart_all (with_one seen s) ss (apart_one seen s h)
