-- A column of a table that is filled with 0.
use Rattle.std.proofs.Common.{◌≡◌, ℕ, ◌+◌, ◌-◌, ◌*◌, ◌<◌, ◌≤◌, List, length, get_or, replicate, ap, ◌∙◌, ⊎_elim, arith}
use borrow.Rule.Slice.PartMut.{put_mid}
use Rattle.std.proofs.lemmas.List.{length-replicate}
use Rattle.tables.specs.Columns.{cell}
use Rattle.tables.proofs.Storing.{put_before, put_within, put_after, put_long}
use Rattle.seats.specs.inner.Cleared.{Cleared}
use Rattle.seats.proofs.Columns.{getD_zeros}

-- k numbers from position a on are 0 now
pub column_cleared : (xs ys : List ℕ) (a k m : ℕ) → ys ≡ replicate m 0 → m ≡ k → a + k ≤ length xs → (j : ℕ) → a ≡ 4 * cell 0 j → k ≡ 4 * (j + 1) → Cleared xs (put_mid a k xs ys) j
column_cleared xs ys a k m zero many within j e f =
    let long = ap length zero ∙ length-replicate m 0 ∙ many in
    record {
      clear = λ p h. put_within xs ys a k long within p (p - a) (omega arith) (omega arith) ∙ ap (λ (zs : List ℕ). get_or zs (p - a) 0) zero ∙ getD_zeros m (p - a);
      beside = record {
        others = λ p h. ⊎_elim (λ (l : p < 4 * cell 0 j). put_before xs ys a k long within p (omega arith)) (λ (l : 4 * cell 0 j + 4 * (j + 1) ≤ p). put_after xs ys a k long within p (omega arith)) h;
        size = put_long xs ys a k long within;
      };
    }
