-- What a seat holds when its words and its table have changed.
use Rattle.std.proofs.Common.{◌≡◌, ℕ, ◌+◌, ◌-◌, ◌<◌, ◌≤◌, List, [], ◌∷◌, ◌++◌, length, get_or, take, drop, set, replicate, sym, refl, ap, ◌∙◌, subst, ⊎_elim, arith}
use lib.Seq.{take-set-lt}
use Rattle.std.proofs.lemmas.List.{drop-replicate, drop-set-lt, get_or-drop, get_or_append_left, get_or_push, get_or-take, length-drop, length_push, length-replicate, length-set, length-take, length-take-le, take-replicate}
use Rattle.std.proofs.lemmas.Bool.{cases_lt}
use Rattle.std.specs.Prelude.{Bool, true, false, Decides, MatchBool}
use Rattle.std.specs.List.{AllWithin, HoldsAt}
use Rattle.grammar.specs.declared.sheet.Sheet.{Sheet}
use Rattle.grammar.specs.Grammar.{Grammar}
use Rattle.grammar.specs.View.{grammar_of, words_in}
use Rattle.grammar.proofs.Views.{words_whole}
use Rattle.tables.specs.Columns.{Column, Next, Beside}
use Rattle.seats.specs.Seats.{Listed, Seat, Whole}
use Rattle.seats.specs.inner.Cleared.{Cleared}
use Rattle.seats.proofs.TableLent.{back_words, back_table, back_size}
use Rattle.seats.proofs.Rows.{row_count, row_word, row_added, row_taken}
use Rattle.seats.proofs.Columns.{getD_zeros, columns_empty, columns_next, columns_added, columns_taken}

-- a sheet has at most 64 words
pub listed_low : (s : Sheet) (w : ℕ) → Listed s w → w < 64
listed_low s w l = omega (arith, words_whole s, s.draft.words.fits)

-- the table
abbrev lent : List ℕ → List ℕ
lent xs = drop 21 xs

-- a seat with another table
abbrev given : List ℕ → List ℕ → List ℕ
given xs ys = take (length xs - 924) xs ++ ys

-- what the fill of column j says of the table before and after it
abbrev Fills : Grammar → List ℕ → List ℕ → ℕ → ℕ → Type 0
Fills g old new j w = (vs : List ℕ) → Next g vs old j w → (m : ℕ) → m ≤ j → Column g vs new m

lent_long : (xs ys : List ℕ) → length xs ≡ 945 → length ys ≡ length (lent xs) → length ys ≡ 924
lent_long xs ys size e = omega (arith, length-drop 21 xs)

pub seat_empty : (s : Sheet) (xs ys : List ℕ) (n : ℕ) → xs ≡ replicate n 0 → n ≡ 945 → (t : List ℕ) → t ≡ lent xs → Fills (grammar_of s) t ys 0 0 → Beside t ys 0 → Seat s [] (given xs ys)
seat_empty s xs ys n z e t is f' b' =
    let g = grammar_of s in
    let f = subst (λ (t : List ℕ). Fills g t ys 0 0) is f' in
    let b = subst (λ (t : List ℕ). Beside t ys 0) is b' in
    let size : length xs ≡ 945 = ap length z ∙ length-replicate n 0 ∙ e in
    let long = lent_long xs ys size b.size in
    let none : (p : ℕ) → get_or (lent xs) p 0 ≡ 0 = λ p. ap (λ (zs : List ℕ). get_or zs p 0) (ap (drop 21) z ∙ drop-replicate 21 n 0) ∙ getD_zeros (n - 21) p in
    let first : Column g [] ys 0 = f [] (record { within = omega arith; word = λ m h. absurd (omega arith); columns = λ m h. absurd (omega arith) }) 0 (omega arith) in
    record {
      size = back_size xs size ys long;
      few = omega arith;
      listed = λ m h. absurd (omega arith);
      words = back_words xs size ys long ∙ ap (take 21) z ∙ take-replicate 21 n 0 (omega arith);
      table = λ j l. subst (λ (t : List ℕ). Column g [] t j) (sym (back_table xs size ys long)) (columns_empty g (lent xs) ys none first b j);
    }

word_at : (xs : List ℕ) (m k : ℕ) → k < m → get_or (take m (drop 1 xs)) k 0 ≡ get_or xs (1 + k) 0
word_at xs m k h = get_or-take m (drop 1 xs) k 0 h ∙ get_or-drop 1 xs k 0

-- the test of a record, as `all` of its words gives it
pub whole_from : (s : Sheet) (xs : List ℕ) (m w : ℕ) (b : Bool) → m ≡ get_or xs 0 0 → get_or xs 0 0 ≤ 20 → w ≡ length (words_in s)
    → MatchBool b (AllWithin (λ x. x < w) (take m (drop 1 xs)) 0 (length (take m (drop 1 xs)))) ((k : ℕ) × (k < length (take m (drop 1 xs))) × HoldsAt (λ x. w ≤ x) (take m (drop 1 xs)) k)
    → length xs ≡ 945 → Decides b (Whole s xs)
whole_from s xs m w true e few l t size = (
  λ z. record { few = few; listed = λ k h. omega (arith, word_at xs m k (omega arith), t k 0 (omega arith) (omega (arith, length-take m (drop 1 xs), length-drop 1 xs)), l) },
  λ h. refl,
)
whole_from s xs m w false e few l t size = (
  λ z. cc,
  λ h.
      let low : t.0 < m = omega (arith, t.1, length-take m (drop 1 xs)) in
      absurd (omega (arith, word_at xs m t.0 low, t.2 0, h.listed t.0 (omega arith), l)),
)

pub whole_at : (s : Sheet) (xs ys : List ℕ) → xs ≡ ys → Whole s ys → Whole s xs
whole_at s xs ys e w = subst (λ (zs : List ℕ). Whole s zs) (sym e) w

module _ (s : Sheet) (ws xs : List ℕ) (h : Seat s ws xs) where
  pub seat_count : get_or xs 0 0 ≡ length ws
  seat_count = sym (get_or-take 21 xs 0 0 (omega arith)) ∙ row_count ws (take 21 xs) h.words

  pub seat_word : (n : ℕ) → n < length ws → get_or xs (1 + n) 0 ≡ get_or ws n 0
  seat_word n under = let few = h.few in sym (get_or-take 21 xs (1 + n) 0 (omega arith)) ∙ row_word ws (take 21 xs) n h.words under

  -- a record of words passes the test of a record
  pub seat_whole : Whole s xs
  seat_whole = record {
    few = omega (arith, seat_count, h.few);
    listed = λ n l.
        let under : n < length ws = omega (arith, seat_count) in
        subst (λ (v : ℕ). Listed s v) (sym (seat_word n under)) (h.listed n under);
  }

  -- two numbers written before the table
  module _ (a b v w : ℕ) (low : a < 21) (low' : b < 21) where
    put_size : length (set (set xs a v) b w) ≡ 945
    put_size = length-set (set xs a v) b w ∙ length-set xs a v ∙ h.size

    put_words : take 21 (set (set xs a v) b w) ≡ set (set (take 21 xs) a v) b w
    put_words = take-set-lt 21 (set xs a v) b w low' ∙ ap (λ (ys : List ℕ). set ys b w) (take-set-lt 21 xs a v low)

    put_table : lent (set (set xs a v) b w) ≡ drop 21 xs
    put_table = drop-set-lt 21 (set xs a v) b w low' ∙ drop-set-lt 21 xs a v low

  pub seat_added : (n w : ℕ) (ys : List ℕ) → length ws ≡ n → n < 20 → Listed s w → (t : List ℕ) → t ≡ lent (set (set xs (n + 1) w) 0 (n + 1)) → Fills (grammar_of s) t ys (n + 1) w → Beside t ys (n + 1) → Seat s (ws ++ (w ∷ [])) (given (set (set xs (n + 1) w) 0 (n + 1)) ys)
  seat_added n w ys e room l t is f' b' =
      let g = grammar_of s in
      let zs = set (set xs (n + 1) w) 0 (n + 1) in
      let f = subst (λ (t : List ℕ). Fills g t ys (n + 1) w) is f' in
      let b = subst (λ (t : List ℕ). Beside t ys (n + 1)) is b' in
      let old = put_table (n + 1) 0 w (n + 1) (omega arith) (omega arith) in
      let size = put_size (n + 1) 0 w (n + 1) (omega arith) (omega arith) in
      let long = lent_long zs ys size b.size in
      let fills : (m : ℕ) → m ≤ n + 1 → Column g (ws ++ (w ∷ [])) ys m = f (ws ++ (w ∷ [])) (subst (λ (t : List ℕ). Next g (ws ++ (w ∷ [])) t (n + 1) w) (sym old) (columns_next g ws (drop 21 xs) n e h.table w room)) in
      let beside : Beside (drop 21 xs) ys (n + 1) = subst (λ (t : List ℕ). Beside t ys (n + 1)) old b in
      record {
        size = back_size zs size ys long;
        few = omega (arith, length_push ws w);
        listed = λ m o. ⊎_elim
            (λ (a : m < length ws). subst (λ (v : ℕ). Listed s v) (sym (get_or_append_left ws (w ∷ []) 0 m a)) (h.listed m a))
            (λ (a : length ws ≤ m). subst (λ (v : ℕ). Listed s v) (sym (get_or_push ws w 0 m (omega (arith, length_push ws w)))) l)
            (cases_lt m (length ws));
        words = back_words zs size ys long ∙ put_words (n + 1) 0 w (n + 1) (omega arith) (omega arith) ∙ row_added ws (take 21 xs) n e h.words w room;
        table = λ j o. subst (λ (t : List ℕ). Column g (ws ++ (w ∷ [])) t j) (sym (back_table zs size ys long)) (columns_added g ws (drop 21 xs) n e h.table w ys fills beside j o);
      }

  pub seat_taken : (n : ℕ) (ys : List ℕ) → length ws ≡ n → 0 < n → (t : List ℕ) → t ≡ lent (set (set xs n 0) 0 (n - 1)) → Cleared t ys n → Seat s (take (n - 1) ws) (given (set (set xs n 0) 0 (n - 1)) ys)
  seat_taken n ys e some t q c' =
      let g = grammar_of s in
      let zs = set (set xs n 0) 0 (n - 1) in
      let c = subst (λ (t : List ℕ). Cleared t ys n) q c' in
      let few = h.few in
      let old = put_table n 0 0 (n - 1) (omega arith) (omega arith) in
      let size = put_size n 0 0 (n - 1) (omega arith) (omega arith) in
      let long = lent_long zs ys size c.beside.size in
      let is : length (take (n - 1) ws) ≡ n - 1 = length-take-le (n - 1) ws (omega arith) in
      record {
        size = back_size zs size ys long;
        few = omega arith;
        listed = λ m o. subst (λ (v : ℕ). Listed s v) (sym (get_or-take (n - 1) ws m 0 (omega arith))) (h.listed m (omega arith));
        words = back_words zs size ys long ∙ put_words n 0 0 (n - 1) (omega arith) (omega arith) ∙ row_taken ws (take 21 xs) n e h.words some (omega arith);
        table = λ j o. subst (λ (t : List ℕ). Column g (take (n - 1) ws) t j) (sym (back_table zs size ys long))
            (columns_taken g ws (drop 21 xs) n e h.table ys some (subst (λ (t : List ℕ). Cleared t ys n) old c) j o);
      }
