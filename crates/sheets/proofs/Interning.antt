-- Spellings kept once each.
use Rattle.std.proofs.Common.{◌≡◌, ℕ, zero, suc, ◌+◌, ◌<◌, ◌≤◌, Bool, true, false, List, [], ◌∷◌, ◌++◌, map, length, get_or, take, position, Some, None, Ok, Err, Result, sym, refl, ap, ◌∙◌, subst, inl, inr, arith, length-append, length-take}
use mathlib.Core.Logic.{∥∥₁_map}
use Rattle.std.specs.Str.{bytes_eq}
use Rattle.std.specs.List.{position_from}
use Rattle.std.proofs.lemmas.Slice.Eq.{bytes_eq-Decides}
use Rattle.std.proofs.lemmas.List.{map_push, get_or-map, get_or-take, length-map, get_or_push, get_or_append_left}
use Rattle.std.proofs.lemmas.List.Quantifiers.{position-Some}
use Rattle.std.proofs.lemmas.Iterator.Adapters.{position_from-zero}
use Rattle.std.proofs.lemmas.Option.{none-some}
use Rattle.std.proofs.lemmas.Bool.{cases_Bool, cases_lt, or_left, or_right, or_from, cond-true, cond-false}
use Rattle.grammar.specs.declared.Spelling.{Spelling}
use Rattle.grammar.specs.declared.shelf.Shelf.{Shelf}
use Rattle.grammar.specs.declared.shelf.Full.{Full}
use Rattle.grammar.specs.Limits.{no_spelling, text, texts, Lettered, Brief, Apart}
use Rattle.sheets.specs.Spellings.{member}
use Rattle.sheets.specs.inner.Interns.{Interned, Crowded, Enters}
use Rattle.sheets.proofs.Apartness.{apart_one}

pub member_found : (xs : List Spelling) (k : ℕ) (s : List ℕ) → k < length xs → text (get_or xs k no_spelling) ≡ s → member s (map text xs) ≡ true
member_found [] k s h e = absurd (omega arith)
member_found (x ∷ xs) zero s h e = or_left (bytes_eq s (text x)) (member s (map text xs)) ((bytes_eq-Decides s (text x)).1 (sym e))
member_found (x ∷ xs) (suc k) s h e = or_right (bytes_eq s (text x)) (member s (map text xs)) (member_found xs k s (omega arith) e)

-- the test that `position` makes
abbrev pub alike : List ℕ → Spelling → Bool
alike s p = bytes_eq s (text p)

member_none : (i : ℕ) (xs : List Spelling) (s : List ℕ) → position_from (alike s) i xs ≡ None → member s (map text xs) ≡ false
member_none i [] s e = refl
member_none i (x ∷ xs) s e = elim (cases_Bool (alike s x)) [
  | inl t ↦ absurd (none-some i (sym e ∙ cond-true (alike s x) (Some i) (position_from (alike s) (i + 1) xs) t))
  | inr f ↦ or_from (alike s x) (member s (map text xs)) f (member_none (i + 1) xs s (sym (cond-false (alike s x) (Some i) (position_from (alike s) (i + 1) xs) f) ∙ e))
]

-- no place is found
pub unlisted : (xs : List Spelling) (s : List ℕ) → position (alike s) xs ≡ None → member s (map text xs) ≡ false
unlisted xs s e = member_none 0 xs s (sym (position_from-zero (alike s) xs) ∙ e)

-- a text is no longer than its spelling says
text_short : (p : Spelling) → p.len ≤ 15 → length (text p) ≤ 15
text_short p small = omega (arith, length-take p.len p.bytes)

module _ (xs : List Spelling) (n : ℕ) (s : List ℕ) (whole : length (take n xs) ≡ n) (brief : Brief n xs) where
  total : length (texts n xs) ≡ n
  total = length-map (take n xs) text ∙ whole

  -- a spelling that is there
  pub interned_old : (k : ℕ) → position (alike s) (take n xs) ≡ Some k → Interned xs n s k n xs
  interned_old k found =
      let at = position-Some (alike s) (take n xs) k no_spelling found in
      let e : text (get_or (take n xs) k no_spelling) ≡ s = sym ((bytes_eq-Decides s (text (get_or (take n xs) k no_spelling))).0 at.1) in
      record {
        listed = sym (cond-true (member s (texts n xs)) _ _ (member_found (take n xs) k s at.0 e));
        number = get_or-map text (take n xs) k no_spelling [] at.0 ∙ e;
        counted = (let l = at.0 in omega arith);
        grown = omega arith;
        total = total;
        short =
            let l : k < n = (let l = at.0 in omega arith) in
            subst (λ t. length t ≤ 15) e (text_short (get_or (take n xs) k no_spelling) (subst (λ (q : Spelling). q.len ≤ 15) (sym (get_or-take n xs k no_spelling l)) (brief k l)));
        brief = brief;
        each = λ j h. inl (h, refl);
      }

  -- with one more at the end, each before it stays, and it stands last
  kept : (ys : List Spelling) (m : ℕ) (p : Spelling) → take m ys ≡ take n xs ++ (p ∷ []) → (j : ℕ) → j < m → j < n → get_or ys j no_spelling ≡ get_or xs j no_spelling
  kept ys m p more j h l =
      let front : j < length (take n xs) = omega arith in
      sym (get_or-take m ys j no_spelling h) ∙ ap (λ l. get_or l j no_spelling) more ∙ get_or_append_left (take n xs) (p ∷ []) no_spelling j front ∙ get_or-take n xs j no_spelling l

  put : (ys : List Spelling) (m : ℕ) (p : Spelling) → take m ys ≡ take n xs ++ (p ∷ []) → m ≡ n + 1 → (j : ℕ) → j < m → n ≤ j → get_or ys j no_spelling ≡ p
  put ys m p more one j h l =
      let last : length (take n xs) ≡ j = omega arith in
      sym (get_or-take m ys j no_spelling h) ∙ ap (λ l. get_or l j no_spelling) more ∙ get_or_push (take n xs) p no_spelling j last

  -- a new one
  pub interned_new : (ys : List Spelling) (m : ℕ) (p : Spelling) → take m ys ≡ take n xs ++ (p ∷ []) → m ≡ n + 1 → text p ≡ s → p.len ≤ 15 → member s (texts n xs) ≡ false → Interned xs n s n m ys
  interned_new ys m p more one e small none =
      let pushed : texts m ys ≡ texts n xs ++ (s ∷ []) = ap (map text) more ∙ map_push text (take n xs) p ∙ ap (λ t. texts n xs ++ (t ∷ [])) e in
      record {
        listed = pushed ∙ sym (cond-false (member s (texts n xs)) _ _ none);
        number = ap (λ ts. get_or ts n []) pushed ∙ get_or_push (texts n xs) s [] n total;
        counted = omega arith;
        grown = omega arith;
        total = ap length pushed ∙ length-append (texts n xs) (s ∷ []) ∙ (let t = total in omega arith);
        short = subst (λ t. length t ≤ 15) e (text_short p small);
        brief = λ j h. elim (cases_lt j n) [
          | inl l ↦ subst (λ (q : Spelling). q.len ≤ 15) (sym (kept ys m p more j h l)) (brief j l)
          | inr l ↦ subst (λ (q : Spelling). q.len ≤ 15) (sym (put ys m p more one j h l)) small
        ];
        each = λ j h. elim (cases_lt j n) [
          | inl l ↦ inl (l, kept ys m p more j h l)
          | inr l ↦ inr (ap text (put ys m p more one j h l) ∙ e)
        ];
      }

  pub crowded : (limit : ℕ) → n ≡ limit → member s (texts n xs) ≡ false → Crowded xs n limit s
  crowded limit full none = inr (none, total ∙ full)

-- the spellings with a new one keep what those before it kept
module _ {xs : List Spelling} {n : ℕ} {s : List ℕ} {k m : ℕ} {ys : List Spelling} (i : Interned xs n s k m ys) where
  pub lettered_with : (test : List ℕ → Bool) → Lettered test n xs → test s ≡ true → Lettered test m ys
  lettered_with test all new j h = elim (i.each j h) [
    | inl p ↦ ap (λ q. test (text q)) p.1 ∙ all j p.0
    | inr p ↦ ap test p ∙ new
  ]

  pub apart_with : ∥ Apart (texts n xs) ∥₁ → ∥ Apart (texts m ys) ∥₁
  apart_with t = ∥∥₁_map t (λ apart. subst Apart (sym i.listed) (apart_one (texts n xs) s apart))

-- and so do those on a shelf, whether it goes among them or not
module _ {N : ℕ} (old new : Shelf Spelling N) (s : List ℕ) where
  pub grown_entered : (r : Result ℕ Full) → Enters old s r new → old.len ≤ new.len
  grown_entered (Ok k) h = h.grown
  grown_entered (Err e) h = let same : new.len ≡ old.len = (let q = h.1 in cc) in omega arith

  pub lettered_entered : (r : Result ℕ Full) → Enters old s r new → (test : List ℕ → Bool) → Lettered test old.len old.items → test s ≡ true → Lettered test new.len new.items
  lettered_entered (Ok k) h test all ok = lettered_with h test all ok
  lettered_entered (Err e) h test all ok = subst (λ (x : Shelf Spelling N). Lettered test x.len x.items) (sym h.1) all

  pub brief_entered : (r : Result ℕ Full) → Enters old s r new → Brief old.len old.items → Brief new.len new.items
  brief_entered (Ok k) h all = h.brief
  brief_entered (Err e) h all = subst (λ (x : Shelf Spelling N). Brief x.len x.items) (sym h.1) all

  pub apart_entered : (r : Result ℕ Full) → Enters old s r new → ∥ Apart (texts old.len old.items) ∥₁ → ∥ Apart (texts new.len new.items) ∥₁
  apart_entered (Ok k) h all = apart_with h all
  apart_entered (Err e) h all = subst (λ (x : Shelf Spelling N). ∥ Apart (texts x.len x.items) ∥₁) (sym h.1) all
