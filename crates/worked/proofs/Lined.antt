-- Lines of rules alone, in order by a test.
use Rattle.std.proofs.Common.{◌≡◌, ℕ, Bool, true, false, ◌&&◌, leb, List, [], ◌∷◌, ◌++◌, length, sym, subst, append_assoc, append-nil}
use mathlib.Core.List.{head-eq_of_cons-eq, tail-eq_of_cons-eq}
use Rattle.std.specs.List.{AllByRecursion}
use Rattle.std.proofs.lemmas.Bool.{and_parts, leb-true, false≢true}
use Rattle.grammar.specs.Letters.{name_spelled}
use Rattle.tables.proofs.Contexts.{no_split}
use Rattle.sheets.specs.Lines.{Spelled, Line, rule, alias, filler, spelling, weight_spelled, well, Well}
use Rattle.sheets.specs.Spellings.{names_of, words_of}
use Rattle.sheets.specs.Limits.{number, productions, renamings, places_of, Short, Small, Room, Within, Second, Accepted}
use Rattle.worked.proofs.Finite.{all}

abbrev shaped : List ℕ → List ℕ → List Spelled → Bool
shaped w a ss = weight_spelled w && (name_spelled a && all well ss)

abbrev short : Spelled → Bool
short s = leb (length (spelling s)) 15

abbrev small : List ℕ → List ℕ → List Spelled → Bool
small w a ss = leb (number w) 65535 && (leb (length a) 15 && (all short ss && leb (length ss) 8))

abbrev ruled : Line → Bool
ruled (rule w a ss) = shaped w a ss && small w a ss
ruled (alias s m) = false
ruled (filler w) = false

abbrev roomy : List Line → Bool
roomy ls =
    leb (length (names_of ls)) 32
    && (leb (length (words_of ls)) 64
    && (leb (length (productions ls)) 128
    && (leb (length (renamings ls)) 16 && leb (places_of ls) 256)))

-- the lines after those done
abbrev pub in_order : List Line → List Line → Bool
in_order done [] = true
in_order done (ℓ ∷ ls) = ruled ℓ && (roomy (done ++ (ℓ ∷ [])) && in_order (done ++ (ℓ ∷ [])) ls)

all_so : {A : Type 0} (p : A → Bool) (xs : List A) → all p xs ≡ true → AllByRecursion (λ x. p x ≡ true) xs
all_so p [] h = tt
all_so p (x ∷ xs) h = let parts = and_parts (p x) (all p xs) h in (parts.0, all_so p xs parts.1)

all_short : (ss : List Spelled) → all short ss ≡ true → AllByRecursion (λ s. Short (spelling s)) ss
all_short [] h = tt
all_short (s ∷ ss) h = let parts = and_parts (short s) (all short ss) h in (leb-true (length (spelling s)) 15 parts.0, all_short ss parts.1)

is_well : (ℓ : Line) → ruled ℓ ≡ true → Well ℓ
is_well (rule w a ss) h =
    let one = and_parts (weight_spelled w) _ (and_parts (shaped w a ss) (small w a ss) h).0 in
    let two = and_parts (name_spelled a) (all well ss) one.1 in
    (one.0, two.0, all_so well ss two.1)
is_well (alias s m) h = absurd (false≢true h)
is_well (filler w) h = absurd (false≢true h)

is_small : (ℓ : Line) → ruled ℓ ≡ true → Small ℓ
is_small (rule w a ss) h =
    let one = and_parts (leb (number w) 65535) _ (and_parts (shaped w a ss) (small w a ss) h).1 in
    let two = and_parts (leb (length a) 15) _ one.1 in
    let three = and_parts (all short ss) (leb (length ss) 8) two.1 in
    (leb-true (number w) 65535 one.0, leb-true (length a) 15 two.0, all_short ss three.0, leb-true (length ss) 8 three.1)
is_small (alias s m) h = absurd (false≢true h)
is_small (filler w) h = absurd (false≢true h)

no_second : (before : List Line) (ℓ : Line) → ruled ℓ ≡ true → Second before ℓ → ⊥
no_second before (rule w a ss) h x = x
no_second before (alias s m) h x = false≢true h
no_second before (filler w) h x = x

has_room : (ls : List Line) → roomy ls ≡ true → Room ls
has_room ls h =
    let one = and_parts (leb (length (names_of ls)) 32) _ h in
    let two = and_parts (leb (length (words_of ls)) 64) _ one.1 in
    let three = and_parts (leb (length (productions ls)) 128) _ two.1 in
    let four = and_parts (leb (length (renamings ls)) 16) (leb (places_of ls) 256) three.1 in
    (leb-true _ 32 one.0, leb-true _ 64 two.0, leb-true _ 128 three.0, leb-true _ 16 four.0, leb-true _ 256 four.1)

pub all_well : (done ls : List Line) → in_order done ls ≡ true → AllByRecursion Well ls
all_well done [] h = tt
all_well done (ℓ ∷ ls) h =
    let one = and_parts (ruled ℓ) _ h in
    let two = and_parts (roomy (done ++ (ℓ ∷ []))) _ one.1 in
    (is_well ℓ one.0, all_well (done ++ (ℓ ∷ [])) ls two.1)

abbrev Fine : List Line → Line → Type 0
Fine before ℓ = Within before ℓ × (Second before ℓ → ⊥)

accepted_after : (done ls : List Line) → in_order done ls ≡ true → (before after : List Line) (ℓ : Line) → ls ≡ before ++ (ℓ ∷ after) → Fine (done ++ before) ℓ
accepted_after done [] h before after ℓ e = absurd (no_split before ℓ after e)
accepted_after done (m ∷ ms) h [] after ℓ e =
    let one = and_parts (ruled m) _ h in
    let two = and_parts (roomy (done ++ (m ∷ []))) _ one.1 in
    let here : Fine done m = ((is_small m one.0, has_room (done ++ (m ∷ [])) two.0), no_second done m one.0) in
    subst (λ (b : List Line). Fine b ℓ) (sym (append-nil done)) (subst (λ (x : Line). Fine done x) (head-eq_of_cons-eq e) here)
accepted_after done (m ∷ ms) h (b ∷ bs) after ℓ e =
    let one = and_parts (ruled m) _ h in
    let two = and_parts (roomy (done ++ (m ∷ []))) _ one.1 in
    let rest : Fine ((done ++ (m ∷ [])) ++ bs) ℓ = accepted_after (done ++ (m ∷ [])) ms two.1 bs after ℓ (tail-eq_of_cons-eq e) in
    subst (λ (x : Line). Fine (done ++ (x ∷ bs)) ℓ) (head-eq_of_cons-eq e) (subst (λ (b : List Line). Fine b ℓ) (append_assoc done (m ∷ []) bs) rest)

pub all_accepted : (ls : List Line) → in_order [] ls ≡ true → Accepted ls
all_accepted ls h before after ℓ e = accepted_after [] ls h before after ℓ e
