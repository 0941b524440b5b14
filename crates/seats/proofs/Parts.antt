-- Laws of lists of which a part is replaced, and of the seats of a hall. Assumes nothing.
use Rattle.std.proofs.Common.{◌≡◌, ℕ, ◌+◌, ◌-◌, ◌*◌, ◌<◌, ◌≤◌, ◌≢◌, List, ◌++◌, length, take, drop, sym, refl, ap, ◌∙◌, subst, ⊎_elim, arith, take-append-drop, rules, Some, Option}
use Rattle.std.specs.Array.{IsFirstChunk}
use Rattle.std.specs.Borrow.{Bor, MutBor}
use Rattle.std.specs.Option.{MatchOption}
use Rattle.std.proofs.lemmas.List.{drop-drop, take_all, places, same_lists, length-drop, length-append, length-take-le}
use Rattle.std.proofs.lemmas.Bool.{cases_order}
use Rattle.seats.specs.Seats.{replaced, seat, Apart}
use Rattle.seats.specs.Calls.{Addressed}

-- the m numbers from position a on
abbrev part : List ℕ → ℕ → ℕ → List ℕ
part xs a m = take m (drop a xs)

length_replaced : (xs ys : List ℕ) (a : ℕ) → a + length ys ≤ length xs → length (replaced xs a ys) ≡ length xs
length_replaced xs ys a h = simp (length-append, length-drop) (let e = length-take-le a xs (omega arith) in omega arith)

part_same : (xs ys : List ℕ) (a m : ℕ) → length ys ≡ m → a + m ≤ length xs → part (replaced xs a ys) a m ≡ ys
part_same xs ys a m e h = same_lists _ _ (search (rules, places)) (λ k d l. grind (arith, places))

part_before : (xs ys : List ℕ) (a b m : ℕ) → a + length ys ≤ length xs → b + m ≤ a → part (replaced xs a ys) b m ≡ part xs b m
part_before xs ys a b m e h = same_lists _ _ (search (rules, places)) (λ k d l. grind (arith, places))

part_after : (xs ys : List ℕ) (a b m : ℕ) → a + length ys ≤ length xs → a + length ys ≤ b → part (replaced xs a ys) b m ≡ part xs b m
part_after xs ys a b m e h = same_lists _ _ (search (rules, places)) (λ k d l. grind (arith, places))

-- a part put in its own place
part_back : (xs : List ℕ) (a m : ℕ) → length (part xs a m) ≡ m → xs ≡ replaced xs a (part xs a m)
part_back xs a m long =
    let e : drop (a + length (part xs a m)) xs ≡ drop m (drop a xs) = ap (λ (n : ℕ). drop (a + n) xs) long ∙ sym (drop-drop m a xs) in
    sym (take-append-drop a xs) ∙ ap (λ ys. take a xs ++ ys) (sym (take-append-drop m (drop a xs)) ∙ ap (λ ys. part xs a m ++ ys) (sym e))

-- seat k lies in the hall
pub seat_fits : (hall : List ℕ) (k : ℕ) → Addressed hall k → 945 * k + 945 ≤ length hall
seat_fits hall k at = omega (arith, at.0, at.1)

pub seat_long : (hall : List ℕ) (k : ℕ) → Addressed hall k → length (seat hall k) ≡ 945
seat_long hall k at = length-take-le 945 (drop (945 * k) hall) (simp length-drop (omega (arith, at.0, at.1)))

-- the hall with other numbers at seat k
abbrev pub given : List ℕ → ℕ → List ℕ → List ℕ
given hall k ys = replaced hall (945 * k) ys

-- a hall that was split before seat k, with other numbers in the place of the first 945 of the rest
pub given_is : (hall front rest ys : List ℕ) (k : ℕ) → front ≡ take (945 * k) hall → rest ≡ drop (945 * k) hall → length ys ≡ 945 → front ++ (ys ++ drop 945 rest) ≡ given hall k ys
given_is hall front rest ys k e f long =
    let after : drop 945 rest ≡ drop (945 * k + length ys) hall = ap (drop 945) f ∙ drop-drop 945 (945 * k) hall ∙ ap (λ (n : ℕ). drop (945 * k + n) hall) (sym long) in
    ap (λ zs. zs ++ (ys ++ drop 945 rest)) e ∙ ap (λ zs. take (945 * k) hall ++ (ys ++ zs)) after

-- and those 945, which a call of `first_chunk_mut` lends
pub own_is : (hall rest : List ℕ) (k : ℕ) (r : Option (MutBor (List ℕ))) (own : MutBor (List ℕ)) → rest ≡ drop (945 * k) hall → r ≡ Some own → MatchOption r (length rest < 945) (λ y. IsFirstChunk rest y.now 945) → own.now ≡ seat hall k
own_is hall rest k r own e f m =
    let first = subst (λ (o : Option (MutBor (List ℕ))). MatchOption o (length rest < 945) (λ y. IsFirstChunk rest y.now 945)) f m in
    first.same ∙ ap (take 945) e

-- the same, of a call of `first_chunk` on the rest of the hall
pub first_is : (hall : List ℕ) (k : ℕ) (r : Option (Bor (List ℕ))) (own : Bor (List ℕ)) → r ≡ Some own
    → MatchOption r (length (take (length hall - 945 * k) (drop (945 * k) hall)) < 945) (λ y. IsFirstChunk (take (length hall - 945 * k) (drop (945 * k) hall)) y.now 945) → own.now ≡ seat hall k
first_is hall k r own f m =
    let rest = take (length hall - 945 * k) (drop (945 * k) hall) in
    let first = subst (λ (o : Option (Bor (List ℕ))). MatchOption o (length rest < 945) (λ y. IsFirstChunk rest y.now 945)) f m in
    first.same ∙ ap (take 945) (take_all (length hall - 945 * k) (drop (945 * k) hall) (omega (arith, length-drop (945 * k) hall)))

-- what a call leaves that is lent seat k, where P holds of the seat before and after it
pub lent : (P : List ℕ → List ℕ → Type 0) (hall ys : List ℕ) (k : ℕ) → Addressed hall k → length ys ≡ 945 → P (seat hall k) ys
    → P (seat hall k) (seat (given hall k ys) k) × Apart hall k (given hall k ys)
lent P hall ys k at long p =
    let fits = seat_fits hall k at in
    let is : seat (given hall k ys) k ≡ ys = part_same hall ys (945 * k) 945 long fits in
    (subst (λ zs. P (seat hall k) zs) (sym is) p, (length_replaced hall ys (945 * k) (omega arith), ap (λ zs. replaced hall (945 * k) zs) (sym is)))

-- another seat is as it was
pub elsewhere : (hall hall' : List ℕ) (k t : ℕ) → length hall ≡ 3780 → k < 4 → t < 4 → t ≢ k → Apart hall t hall' → seat hall' k ≡ seat hall k
elsewhere hall hall' k t size low at ne apart =
    let long : length (seat hall' t) ≡ 945 = seat_long hall' t (apart.0 ∙ size, at) in
    ap (λ ys. seat ys k) apart.1
    ∙ ⊎_elim
    (λ (e : k ≡ t). absurd (ne (sym e)))
    (⊎_elim
    (λ (a : k < t). part_before hall (seat hall' t) (945 * t) (945 * k) 945 (omega (arith, long)) (omega arith))
    (λ (a : t < k). part_after hall (seat hall' t) (945 * t) (945 * k) 945 (omega (arith, long)) (omega (arith, long))))
    (cases_order k t)

-- a seat put in its own place
seat_back : (hall : List ℕ) (k : ℕ) → Addressed hall k → hall ≡ replaced hall (945 * k) (seat hall k)
seat_back hall k at = part_back hall (945 * k) 945 (seat_long hall k at)

-- nothing has changed
pub unchanged : (hall : List ℕ) (k : ℕ) → Addressed hall k → Apart hall k hall
unchanged hall k at = (refl, seat_back hall k at)

-- a seat that is as it was leaves the hall as it was
pub same_seat : (hall hall' : List ℕ) (k : ℕ) → Addressed hall k → Apart hall k hall' → seat hall' k ≡ seat hall k → hall' ≡ hall
same_seat hall hall' k at apart same = apart.1 ∙ ap (λ ys. replaced hall (945 * k) ys) same ∙ sym (seat_back hall k at)
