-- Dotted places by their numbers, and how the dot moves.
use Rattle.std.proofs.Common.{◌≡◌, ℕ, ◌+◌, ◌<◌, ◌≤◌, List, length, get_or, sym, refl, ◌∙◌, subst, arith}
use Rattle.grammar.specs.declared.Symbol.{Symbol}
use Rattle.grammar.specs.declared.Symbol.TheVariants.{Name, Word}
use Rattle.grammar.specs.Grammar.{Grammar, rule, right}
use Rattle.tables.specs.Table.{Stands, At}
use Rattle.tables.specs.Columns.{first_place, Has, Standing, Sure}
use Rattle.tables.specs.inner.Sets.{Fitting, Spot, Passed, Crossed, Asked}
use Rattle.tables.proofs.Placing.{place_below, place_once}
use Rattle.tables.proofs.Closing.{stands_scan, stands_advance, stands_skip, stands_predict}

-- a place is below 256
pub place_low : (g : Grammar) → Fitting g → (r k : ℕ) → r < length g.rules → k ≤ length (right (rule g r)) → first_place g.rules r + k < 256
place_low g f r k l d = let h = place_below g.rules r k l d in omega arith

spot_at : (g : Grammar) (x : Symbol) (d : ℕ) (s : Spot g x d) (r k : ℕ) → r < length g.rules → k ≤ length (right (rule g r)) → d ≡ first_place g.rules r + k → At (rule g r) k x
spot_at g x d s r k l h e =
    let p = place_once g.rules s.by s.dot r k s.listed l (omega (arith, s.at.0)) h (sym s.is ∙ e) in
    subst (λ (q : ℕ). At (rule g q) k x) p.0 (subst (λ (m : ℕ). At (rule g s.by) m x) p.1 s.at)

pub standing_at : (g : Grammar) (ws : List ℕ) (i j d : ℕ) (s : Standing g ws i j d) (r k : ℕ) → r < length g.rules → k ≤ length (right (rule g r)) → d ≡ first_place g.rules r + k → Stands g ws i j r k
standing_at g ws i j d s r k l h e =
    let p = place_once g.rules s.by s.dot r k s.stands.listed l s.stands.dot h (sym s.is ∙ e) in
    subst (λ (q : ℕ). Stands g ws i j q k) p.0 (subst (λ (m : ℕ). Stands g ws i j s.by m) p.1 s.stands)

pub has_stands : (g : Grammar) → Fitting g → (ws : List ℕ) (i j : ℕ) (xs : List ℕ) → Sure g ws i j xs → (r k : ℕ) → r < length g.rules → k ≤ length (right (rule g r)) → Has g xs r k → Stands g ws i j r k
has_stands g f ws i j xs s r k l h m =
    standing_at g ws i j (first_place g.rules r + k) (s (first_place g.rules r + k) (place_low g f r k l h) m) r k l h refl

-- the symbol after the dot of what stands at a place
pub standing_spot : (g : Grammar) (x : Symbol) (ws : List ℕ) (i j d : ℕ) (s : Standing g ws i j d) → Spot g x d → At (rule g s.by) s.dot x
standing_spot g x ws i j d s p = spot_at g x d p s.by s.dot s.stands.listed s.stands.dot s.is

pub next_skip : (g : Grammar) (ws : List ℕ) (i j d : ℕ) → Standing g ws i j d → Passed g d → Standing g ws i j (d + 1)
next_skip g ws i j d s p = record {
  by = s.by;
  dot = s.dot + 1;
  is = omega (arith, s.is);
  stands = stands_skip g ws i j s.by s.dot p.name s.stands (standing_spot g (Name p.name) ws i j d s p.spot) p.nullable;
}

pub next_word : (g : Grammar) (ws : List ℕ) (i m d : ℕ) → m < length ws → Standing g ws i m d → Spot g (Word (get_or ws m 0)) d → Standing g ws i (m + 1) (d + 1)
next_word g ws i m d h s p = record {
  by = s.by;
  dot = s.dot + 1;
  is = omega (arith, s.is);
  stands = stands_scan g ws i m s.by s.dot s.stands h (standing_spot g (Word (get_or ws m 0)) ws i m d s p);
}

pub next_name : (g : Grammar) → Fitting g → (ws : List ℕ) (i m j d : ℕ) (xs : List ℕ) → Standing g ws i m d → Sure g ws m j xs → Crossed g xs d → Standing g ws i j (d + 1)
next_name g f ws i m j d xs s u p = record {
  by = s.by;
  dot = s.dot + 1;
  is = omega (arith, s.is);
  stands = stands_advance g ws i m j s.by s.dot (rule g p.by).left p.by s.stands (standing_spot g (Name (rule g p.by).left) ws i m d s p.spot) refl
      (has_stands g f ws m j xs u p.by (length (right (rule g p.by))) p.listed (omega arith) p.complete);
}

pub next_open : (g : Grammar) (ws : List ℕ) (i j d : ℕ) (xs : List ℕ) → Sure g ws i j xs → Asked g xs d → Standing g ws j j d
next_open g ws i j d xs u p =
    let s = u p.place p.low p.has in
    record {
      by = p.by;
      dot = 0;
      is = p.is;
      stands = stands_predict g ws i j s.by s.dot (rule g p.by).left p.by s.stands (standing_spot g (Name (rule g p.by).left) ws i j p.place s p.spot) p.listed refl;
    }
