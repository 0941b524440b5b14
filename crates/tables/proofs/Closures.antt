-- Sets that grow by a step until it adds nothing.
use Rattle.std.proofs.Common.{◌≡◌, ℕ, ◌+◌, ◌<◌, true, List, length, sym, ◌∙◌, subst, ⊎_elim, arith}
use Rattle.std.proofs.lemmas.Bool.{or_cases, or_left, or_right}
use Rattle.grammar.specs.declared.Symbol.TheVariants.{Name}
use Rattle.grammar.specs.Grammar.{Grammar, rule, right}
use Rattle.tables.specs.Table.{At}
use Rattle.tables.specs.Columns.{first_place, Has, Standing, Sure}
use Rattle.tables.specs.inner.Sets.{Fitting, Named, Spot, Marked, Within, Skips, Skipped, Over, Asks, Chained, Opened, set_at}
use Rattle.grammar.specs.declared.masks.Masks.{Masks}
use Rattle.tables.specs.inner.Related.{Related}
use Rattle.tables.specs.inner.Growth.{Union, Into, From, Stepped, Crosses, Opens, Grown, as_is, and_made, Saturated}
use Rattle.items.specs.Members.{member}
use Rattle.items.specs.declared.Items.{Items}
use Rattle.tables.proofs.Spots.{place_low, next_skip, next_name, next_open}

pub left_in : (xs ys zs : List ℕ) → Union xs ys zs → Within xs zs
left_in xs ys zs u d h m = u d ∙ or_left (member xs d) (member ys d) m

pub right_in : (xs ys zs : List ℕ) → Union xs ys zs → Within ys zs
right_in xs ys zs u d h m = u d ∙ or_right (member xs d) (member ys d) m

pub within_left : (vs xs ys zs : List ℕ) → Union xs ys zs → Within vs xs → Within vs zs
within_left vs xs ys zs u w d h m = left_in xs ys zs u d h (w d h m)

pub sure_union : (g : Grammar) (ws : List ℕ) (i j : ℕ) (xs ys zs : List ℕ) → Union xs ys zs → Sure g ws i j xs → Sure g ws i j ys → Sure g ws i j zs
sure_union g ws i j xs ys zs u a b d h m = ⊎_elim (a d h) (b d h) (or_cases (member xs d) (member ys d) (sym (u d) ∙ m))

next_place : (g : Grammar) (r k : ℕ) → first_place g.rules r + k + 1 ≡ first_place g.rules r + (k + 1)
next_place g r k = omega arith

skips_union : (g : Grammar) → Fitting g → (xs ys zs : List ℕ) → Union xs ys zs → Skips g xs → Skips g ys → Skips g zs
skips_union g f xs ys zs u a b r k n l at nu m =
    let high = place_low g f r (k + 1) l (omega (arith, at.0)) in
    ⊎_elim
    (λ (o : Has g xs r k). left_in xs ys zs u (first_place g.rules r + (k + 1)) high (a r k n l at nu o))
    (λ (o : Has g ys r k). right_in xs ys zs u (first_place g.rules r + (k + 1)) high (b r k n l at nu o))
    (or_cases (member xs (first_place g.rules r + k)) (member ys (first_place g.rules r + k)) (sym (u (first_place g.rules r + k)) ∙ m))

-- ---- growth

-- what holds of a set and is kept by each step holds of what grew from it
grown_holds : {Makes : Items → Items → Type 0} {xs zs : Items} (J : List ℕ → Type 0) → ((ys made us : Items) → J ys.words → Makes ys made → Union ys.words made.words us.words → J us.words) → J xs.words → Grown Makes xs zs → J zs.words
grown_holds J keeps h as_is = h
grown_holds J keeps h (and_made {ys} {made} {zs} g m u) = keeps ys made zs (grown_holds J keeps h g) m u

-- ---- a step

pub has_next : (g : Grammar) → Fitting g → (xs mask ys : List ℕ) → Into xs mask ys → (r k : ℕ) → r < length g.rules → k < length (right (rule g r)) → Has g xs r k → Has g mask r k → Has g ys r (k + 1)
has_next g f xs mask ys s r k l h a b =
    let high = place_low g f r (k + 1) l (omega arith) in
    subst (λ (n : ℕ). member ys n ≡ true) (next_place g r k) (s (first_place g.rules r + k) (omega (arith, high)) a b)

pub sure_skip : (g : Grammar) (m : Masks) → Marked g m → (ws : List ℕ) (i j : ℕ) (xs ys : List ℕ) → From xs m.before_nullable.words ys → Sure g ws i j xs → Sure g ws i j ys
sure_skip g m k ws i j xs ys f s d h e =
    let p = f d h e in
    subst (λ (n : ℕ). Standing g ws i j n) (sym p.next)
    (next_skip g ws i j p.from (s p.from (omega (arith, p.next)) p.one) (k.skip_of p.from p.two))

pub sure_over : (g : Grammar) → Fitting g → (ws : List ℕ) (i m j : ℕ) (base xs over ys : List ℕ) → Over g xs over → From base over ys → Sure g ws i m base → Sure g ws m j xs → Sure g ws i j ys
sure_over g t ws i m j base xs over ys o f a s d h e =
    let p = f d h e in
    subst (λ (n : ℕ). Standing g ws i j n) (sym p.next)
    (next_name g t ws i m j p.from xs (a p.from (omega (arith, p.next)) p.one) s (o.from p.from (omega (arith, p.next)) p.two))

pub sure_asked : (g : Grammar) (ws : List ℕ) (i j : ℕ) (xs ys : List ℕ) → Asks g xs ys → Sure g ws i j xs → Sure g ws j j ys
sure_asked g ws i j xs ys a s d h e = next_open g ws i j d xs s (a.from d h e)

-- ---- names that can yield nothing

skip_done : (g : Grammar) (m : Masks) → Marked g m → (zs more : List ℕ) → Union zs more zs → Into zs m.before_nullable.words more → Skips g zs
skip_done g m t zs more u s r k b l at n h =
    right_in zs more zs u (first_place g.rules r + (k + 1)) (place_low g t.fitting r (k + 1) l (omega (arith, at.0)))
    (has_next g t.fitting zs m.before_nullable.words more s r k l at.0 h (t.skip_in r k b l at n))

pub skip_all : (g : Grammar) (m : Masks) → Marked g m → {Makes : Items → Items → Type 0} {xs zs : Items} → ((ys made : Items) → Makes ys made → Stepped ys.words m.before_nullable.words made.words) → Saturated Makes xs zs → Skipped g xs.words zs.words
skip_all g m t {Makes} {xs} {zs} f s = record {
  keeps = grown_holds (λ v. Within xs.words v) (λ ys made us w p u. within_left xs.words ys.words made.words us.words u w) (λ d h e. e) s.grown;
  closed = skip_done g m t zs.words s.made.words s.still (f zs s.made s.makes).into;
  sound = λ ws i j a.
      grown_holds (λ v. Sure g ws i j v)
      (λ ys made us b p u. sure_union g ws i j ys.words made.words us.words u b (sure_skip g m t ws i j ys.words made.words (f ys made p).from b))
      a s.grown;
}

-- ---- chains

pub record Chaining (g : Grammar) (base xs ys : List ℕ) : Type 0 where
  pub keeps : Within xs ys
  pub closed : Skips g ys
  pub sound : (ws : List ℕ) (i j : ℕ) → Sure g ws i i base → Sure g ws i j xs → Sure g ws i j ys

pub chain_start : (g : Grammar) (base xs : List ℕ) → Skips g xs → Chaining g base xs xs
chain_start g base xs s = record { keeps = λ d h m. m; closed = s; sound = λ ws i j a b. b }

-- one turn: what is complete in xs, the step of the base over it, that skipped, and the union
pub chain_more : (g : Grammar) → Fitting g → (base vs xs over step more zs : List ℕ) → Chaining g base vs xs → Over g xs over → From base over step → Skipped g step more → Union xs more zs → Chaining g base vs zs
chain_more g room base vs xs over step more zs c o f s u = record {
  keeps = within_left vs xs more zs u c.keeps;
  closed = skips_union g room xs more zs u c.closed s.closed;
  sound = λ ws i j a b.
      sure_union g ws i j xs more zs u (c.sound ws i j a b)
      (s.sound ws i j (sure_over g room ws i i j base xs over step o f a (c.sound ws i j a b)));
}

own_spot : (g : Grammar) (r k q : ℕ) → r < length g.rules → At (rule g r) k (Name (rule g q).left) → Spot g (Name (rule g q).left) (first_place g.rules r + k)
own_spot g r k q l at = record { by = r; dot = k; listed = l; is = omega arith; at = at }

pub over_has : (g : Grammar) → Fitting g → (xs over : List ℕ) → Over g xs over → (r k q : ℕ) → r < length g.rules → q < length g.rules → At (rule g r) k (Name (rule g q).left) → Has g xs q (length (right (rule g q))) → Has g over r k
over_has g f xs over o r k q l lq at h =
    o.into (first_place g.rules r + k) (place_low g f r k l (omega (arith, at.0))) (record { by = q; listed = lq; spot = own_spot g r k q l at; complete = h })

chain_done : (g : Grammar) → Fitting g → (base vs over step more zs : List ℕ) → Chaining g base vs zs → Over g zs over → Into base over step → Skipped g step more → Union zs more zs → Chained g base vs zs
chain_done g room base vs over step more zs c o f s u = record {
  keeps = c.keeps;
  closed = c.closed;
  chains = λ r k q l lq at a b.
      let high = place_low g room r (k + 1) l (omega (arith, at.0)) in
      right_in zs more zs u (first_place g.rules r + (k + 1)) high
      (s.keeps (first_place g.rules r + (k + 1)) high
      (has_next g room base over step f r k l at.0 a (over_has g room zs over o r k q l lq at b)));
  sound = c.sound;
}

-- and what was skipped before
chain_after : (g : Grammar) (base us vs zs : List ℕ) → Skipped g us vs → Chained g base vs zs → Chained g base us zs
chain_after g base us vs zs s c = record { keeps = λ d h m. c.keeps d h (s.keeps d h m); closed = c.closed; chains = c.chains; sound = λ ws i j a b. c.sound ws i j a (s.sound ws i j b) }

pub chain_all : (g : Grammar) → Fitting g → (base us : List ℕ) {Makes : Items → Items → Type 0} {vs zs : Items} → Skipped g us vs.words → ((ys made : Items) → Makes ys made → Crosses g base ys.words made.words) → Saturated Makes vs zs → Chained g base us zs.words
chain_all g room base us {Makes} {vs} {zs} first f s =
    let last = f zs s.made s.makes in
    chain_after g base us vs.words zs.words first
    (chain_done g room base vs.words last.over last.next s.made.words zs.words
    (grown_holds (λ v. Chaining g base vs.words v)
    (λ ys made ts c p u. let n = f ys made p in chain_more g room base vs.words ys.words n.over n.next made.words ts.words c n.crossed n.stepped.from n.skipped u)
    (chain_start g base vs.words first.closed) s.grown)
    last.crossed last.stepped.into last.skipped s.still)

-- ---- openings

pub record Opening (g : Grammar) (xs ys : List ℕ) : Type 0 where
  pub keeps : Within xs ys
  pub closed : Skips g ys
  pub sound : (ws : List ℕ) (j : ℕ) → Sure g ws j j xs → Sure g ws j j ys

pub open_start : (g : Grammar) (xs : List ℕ) → Skips g xs → Opening g xs xs
open_start g xs s = record { keeps = λ d h m. m; closed = s; sound = λ ws j b. b }

pub open_more : (g : Grammar) → Fitting g → (vs xs asked more zs : List ℕ) → Opening g vs xs → Asks g xs asked → Skipped g asked more → Union xs more zs → Opening g vs zs
open_more g room vs xs asked more zs c a s u = record {
  keeps = within_left vs xs more zs u c.keeps;
  closed = skips_union g room xs more zs u c.closed s.closed;
  sound = λ ws j b. sure_union g ws j j xs more zs u (c.sound ws j b) (s.sound ws j j (sure_asked g ws j j xs asked a (c.sound ws j b)));
}

pub asked_has : (g : Grammar) → Fitting g → (xs asked : List ℕ) → Asks g xs asked → (r k q : ℕ) → r < length g.rules → q < length g.rules → At (rule g r) k (Name (rule g q).left) → Has g xs r k → Has g asked q 0
asked_has g f xs asked a r k q l lq at h =
    a.into (first_place g.rules q + 0) (place_low g f q 0 lq (omega arith))
    (record { by = q; listed = lq; is = omega arith; place = first_place g.rules r + k; low = place_low g f r k l (omega (arith, at.0)); spot = own_spot g r k q l at; has = h })

open_done : (g : Grammar) → Fitting g → (vs asked more zs : List ℕ) → Opening g vs zs → Asks g zs asked → Skipped g asked more → Union zs more zs → Opened g vs zs
open_done g room vs asked more zs c a s u = record {
  keeps = c.keeps;
  closed = c.closed;
  opens = λ r k q l lq at h.
      let low = place_low g room q 0 lq (omega arith) in
      right_in zs more zs u (first_place g.rules q + 0) low
      (s.keeps (first_place g.rules q + 0) low (asked_has g room zs asked a r k q l lq at h));
  sound = c.sound;
}

open_after : (g : Grammar) (us vs zs : List ℕ) → Skipped g us vs → Opened g vs zs → Opened g us zs
open_after g us vs zs s c = record { keeps = λ d h m. c.keeps d h (s.keeps d h m); closed = c.closed; opens = c.opens; sound = λ ws j b. c.sound ws j (s.sound ws j j b) }

pub open_all : (g : Grammar) → Fitting g → (us : List ℕ) {Makes : Items → Items → Type 0} {vs zs : Items} → Skipped g us vs.words → ((ys made : Items) → Makes ys made → Opens g ys.words made.words) → Saturated Makes vs zs → Opened g us zs.words
open_all g room us {Makes} {vs} {zs} first f s =
    let last = f zs s.made s.makes in
    open_after g us vs.words zs.words first
    (open_done g room vs.words last.asked s.made.words zs.words
    (grown_holds (λ v. Opening g vs.words v)
    (λ ys made ts c p u. let n = f ys made p in open_more g room vs.words ys.words n.asked made.words ts.words c n.asks n.skipped u)
    (open_start g vs.words first.closed) s.grown)
    last.asks last.skipped s.still)

-- ---- sets chosen by what they meet

pub related_over : (g : Grammar) (m : Masks) → Marked g m → (xs ys : List ℕ) → (names : ℕ) → Named g names → Related m.last m.before_name xs ys names → Over g xs ys
related_over g m t xs ys names n r = record {
  into = λ d h c. r.into d h (record {
    at = (rule g c.by).left;
    low = n c.by c.listed;
    common = record { at = first_place g.rules c.by + length (right (rule g c.by)); low = place_low g t.fitting c.by (length (right (rule g c.by))) c.listed (omega arith); one = c.complete; two = t.last_in c.by c.listed };
    has = subst (λ (e : ℕ). member (set_at m.before_name (rule g c.by).left) e ≡ true) (sym c.spot.is) (t.name_in c.spot.by c.spot.dot (rule g c.by).left c.spot.listed c.spot.at);
  });
  from = λ d h e.
      let c = r.from d h e in
      let p = t.last_of c.at c.common.at c.common.two in
      record {
        by = p.by;
        listed = p.listed;
        spot = subst (λ (a : ℕ). Spot g (Name a) d) (sym p.left) (t.name_of c.at d c.has);
        complete = subst (λ (e : ℕ). member xs e ≡ true) p.is c.common.one;
      };
}

pub related_asks : (g : Grammar) (m : Masks) → Marked g m → (xs ys : List ℕ) → (names : ℕ) → Named g names → Related m.before_name m.first xs ys names → Asks g xs ys
related_asks g m t xs ys names n r = record {
  into = λ d h c. r.into d h (record {
    at = (rule g c.by).left;
    low = n c.by c.listed;
    common = record { at = c.place; low = c.low; one = c.has; two = subst (λ (e : ℕ). member (set_at m.before_name (rule g c.by).left) e ≡ true) (sym c.spot.is) (t.name_in c.spot.by c.spot.dot (rule g c.by).left c.spot.listed c.spot.at) };
    has = subst (λ (e : ℕ). member (set_at m.first (rule g c.by).left) e ≡ true) (sym c.is) (t.first_in c.by c.listed);
  });
  from = λ d h e.
      let c = r.from d h e in
      let p = t.first_of c.at d c.has in
      record {
        by = p.by;
        listed = p.listed;
        is = p.is;
        place = c.common.at;
        low = c.common.low;
        spot = subst (λ (a : ℕ). Spot g (Name a) c.common.at) (sym p.left) (t.name_of c.at c.common.at c.common.two);
        has = c.common.one;
      };
}
