-- Sets chosen by what they meet. Assumes nothing.
use Rattle.std.specs.Prelude.{◌≡◌, ℕ, ◌<◌, true, List}
use Rattle.items.specs.Members.{member, Common}
use Rattle.items.specs.declared.Items.{Items}
use Rattle.tables.specs.inner.Sets.{set_at}

-- d is in one of the first n values, whose key the set meets
pub record Chosen (keys values : List Items) (xs : List ℕ) (n d : ℕ) : Type 0 where
  pub at : ℕ
  pub low : at < n
  pub common : Common xs (set_at keys at)
  pub has : member (set_at values at) d ≡ true

pub record Related (keys values : List Items) (xs ys : List ℕ) (n : ℕ) : Type 0 where
  pub into : (d : ℕ) → d < 256 → Chosen keys values xs n d → member ys d ≡ true
  pub from : (d : ℕ) → d < 256 → member ys d ≡ true → Chosen keys values xs n d
