-- Bytes cut at ends of lines, in one way at most.
use Rattle.std.proofs.Common.{◌≡◌, ℕ, ◌+◌, ◌<◌, List, [], ◌∷◌, ◌++◌, length, get_or, take, drop, sym, refl, ap, ◌∙◌, append_assoc, arith}
use Rattle.std.specs.List.{AllByRecursion}
use Rattle.std.proofs.lemmas.List.{drop_more, take-append-drop}
use Rattle.answers.specs.Input.{Unended, FullLine, ended}

pub more_not_nil : (xs : List ℕ) (y : ℕ) (ys : List ℕ) → xs ++ (y ∷ ys) ≡ [] → ⊥
more_not_nil [] y ys e = let z : ◌≡◌ {A = ℕ} 0 1 = cc in omega arith
more_not_nil (x ∷ xs) y ys e = let z : ◌≡◌ {A = ℕ} 0 1 = cc in omega arith

pub parted_at : (bs : List ℕ) (i : ℕ) → i < length bs → get_or bs i 0 ≡ 10 → bs ≡ take i bs ++ (10 ∷ drop (i + 1) bs)
parted_at bs i l e =
    sym (take-append-drop i bs) ∙ ap (λ cs. take i bs ++ cs) (drop_more bs i 0 l ∙ ap (λ b. b ∷ drop (i + 1) bs) e)

-- a line is cut off at its end in one way
pub line_once : (l bs k cs : List ℕ) → Unended l → Unended k → l ++ (10 ∷ bs) ≡ k ++ (10 ∷ cs) → (l ≡ k) × (bs ≡ cs)
line_once [] bs [] cs u v e = (refl, cc)
line_once [] bs (c ∷ k) cs u v e = let h : c ≡ 10 = cc in absurd (v.0 h)
line_once (b ∷ l) bs [] cs u v e = let h : b ≡ 10 = cc in absurd (u.0 h)
line_once (b ∷ l) bs (c ∷ k) cs u v e =
    let heads : b ≡ c = cc in
    let tails : l ++ (10 ∷ bs) ≡ k ++ (10 ∷ cs) = cc in
    let below = line_once l bs k cs u.1 v.1 tails in
    (let p = below.0 in cc, below.1)

-- no end of a line stands in bytes without one
pub no_end : (l bs part : List ℕ) → Unended part → l ++ (10 ∷ bs) ≡ part → ⊥
no_end l bs [] u e = more_not_nil l 10 bs e
no_end [] bs (c ∷ part) u e = let h : c ≡ 10 = cc in u.0 h
no_end (b ∷ l) bs (c ∷ part) u e = let tails : l ++ (10 ∷ bs) ≡ part = cc in no_end l bs part u.1 tails

-- lines with their ends and what stands after them are one cut
pub lines_once : (ls ks : List (List ℕ)) (x y : List ℕ) → AllByRecursion Unended ls → AllByRecursion Unended ks → Unended x → Unended y → ended ls ++ x ≡ ended ks ++ y → (ls ≡ ks) × (x ≡ y)
lines_once [] [] x y all all' u v e = (refl, e)
lines_once [] (k ∷ ks) x y all all' u v e = absurd (no_end k (ended ks ++ y) x u (sym (e ∙ append_assoc k (10 ∷ ended ks) y)))
lines_once (l ∷ ls) [] x y all all' u v e = absurd (no_end l (ended ls ++ x) y v (sym (append_assoc l (10 ∷ ended ls) x) ∙ e))
lines_once (l ∷ ls) (k ∷ ks) x y all all' u v e =
    let first = line_once l (ended ls ++ x) k (ended ks ++ y) all.0 all'.0 (sym (append_assoc l (10 ∷ ended ls) x) ∙ e ∙ append_assoc k (10 ∷ ended ks) y) in
    let below = lines_once ls ks x y all.1 all'.1 u v first.1 in
    (let p = first.0 in let q = below.0 in cc, below.1)

-- an empty line after full lines stands at one place
pub empty_once : (ls ks : List (List ℕ)) (bs cs : List ℕ) → AllByRecursion FullLine ls → AllByRecursion FullLine ks → ended ls ++ (10 ∷ bs) ≡ ended ks ++ (10 ∷ cs) → (ls ≡ ks) × (bs ≡ cs)
empty_once [] [] bs cs all all' e = (refl, cc)
empty_once [] (k ∷ ks) bs cs all all' e =
    absurd (all'.0.1 (sym (line_once [] bs k (ended ks ++ (10 ∷ cs)) tt all'.0.0 (e ∙ append_assoc k (10 ∷ ended ks) (10 ∷ cs))).0))
empty_once (l ∷ ls) [] bs cs all all' e =
    absurd (all.0.1 (line_once l (ended ls ++ (10 ∷ bs)) [] cs all.0.0 tt (sym (append_assoc l (10 ∷ ended ls) (10 ∷ bs)) ∙ e)).0)
empty_once (l ∷ ls) (k ∷ ks) bs cs all all' e =
    let first = line_once l (ended ls ++ (10 ∷ bs)) k (ended ks ++ (10 ∷ cs)) all.0.0 all'.0.0 (sym (append_assoc l (10 ∷ ended ls) (10 ∷ bs)) ∙ e ∙ append_assoc k (10 ∷ ended ks) (10 ∷ cs)) in
    let below = empty_once ls ks bs cs all.1 all'.1 first.1 in
    (let p = first.0 in let q = below.0 in cc, below.1)

-- full lines and the start of one hold no empty line
pub empty_none : (ls ks : List (List ℕ)) (bs y : List ℕ) → AllByRecursion FullLine ls → AllByRecursion FullLine ks → Unended y → ended ls ++ (10 ∷ bs) ≡ ended ks ++ y → ⊥
empty_none [] [] bs y all all' u e = no_end [] bs y u e
empty_none [] (k ∷ ks) bs y all all' u e =
    all'.0.1 (sym (line_once [] bs k (ended ks ++ y) tt all'.0.0 (e ∙ append_assoc k (10 ∷ ended ks) y)).0)
empty_none (l ∷ ls) [] bs y all all' u e = no_end l (ended ls ++ (10 ∷ bs)) y u (sym (append_assoc l (10 ∷ ended ls) (10 ∷ bs)) ∙ e)
empty_none (l ∷ ls) (k ∷ ks) bs y all all' u e =
    let first = line_once l (ended ls ++ (10 ∷ bs)) k (ended ks ++ y) all.0.0 all'.0.0 (sym (append_assoc l (10 ∷ ended ls) (10 ∷ bs)) ∙ e ∙ append_assoc k (10 ∷ ended ks) y) in
    empty_none ls ks bs y all.1 all'.1 u first.1
