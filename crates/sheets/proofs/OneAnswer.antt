-- The refusal given is the first: there is no other, and none where the text means a sheet.
use Rattle.std.proofs.Common.{◌≡◌, ℕ, ◌<◌, ◌≤◌, List, [], ◌∷◌, length, sym, refl, ap, ◌∙◌, subst, arith}
use Rattle.std.proofs.lemmas.List.{length-map}
use Rattle.faults.specs.declared.Layer.TheVariants.{Load}
use Rattle.faults.specs.declared.Refusal.{Refusal}
use Rattle.faults.specs.declared.Refusal.TheVariants.{SheetTooLong, LineShape, LineLimit, SecondAlias, NoRule, NoTree, MessageTooLong, ByteNotAllowed, WordTooLong, UnlistedWord, NoSuchSeat, BrokenRecord, Full, LeadsNowhere, NothingToTakeBack, NoCommand, BufferTooShort}
use Rattle.faults.specs.Faults.{met}
use Rattle.grammar.specs.declared.Rule.{Rule}
use Rattle.grammar.specs.declared.sheet.Sheet.{Sheet}
use Rattle.grammar.specs.Closure.{LowestTreeless}
use Rattle.grammar.specs.View.{rules_of}
use Rattle.grammar.proofs.Plains.{tree_plain, lowest_once}
use Rattle.grammar.proofs.Views.{names_whole}
use Rattle.sheets.specs.Lines.{Line, rule, alias, filler}
use Rattle.sheets.specs.Spellings.{names_after, names_of, words_of}
use Rattle.sheets.specs.Limits.{productions}
use Rattle.sheets.specs.Texts.{Ordered, production, Numbered, Says, Loaded, FirstFault, Refuses, OneAnswer}
use Rattle.sheets.proofs.Prefixes.{ordered_once}
use Rattle.sheets.proofs.Numbers.{numbered_once}
use Rattle.sheets.proofs.Halting.{Failure, shape, limit, second, Fails, fault_once, fault_never}

refusal_for : Failure → Refusal
refusal_for shape = LineShape
refusal_for limit = LineLimit
refusal_for second = SecondAlias

-- why a text is refused, with the three faults of a line as one
data Cause (text : List ℕ) (r : Refusal) (n : ℕ) : Type 0 where
  long : 16384 < length text → r ≡ SheetTooLong → n ≡ 0 → Cause text r n
  faulty : length text ≤ 16384 → (f : Failure) → FirstFault text (Fails f) n → r ≡ refusal_for f → Cause text r n
  ruleless : length text ≤ 16384 → (ls : List Line) → Ordered text ls → productions ls ≡ [] → r ≡ NoRule → n ≡ 0 → Cause text r n
  treeless : length text ≤ 16384 → (ls : List Line) (rules : List Rule) → Ordered text ls → Numbered ls rules → LowestTreeless rules (length (names_of ls)) n → r ≡ NoTree → Cause text r n

cause : (text : List ℕ) (r : Refusal) (n : ℕ) → Refuses text r n → Cause text r n
unfolding refusal_for
cause text SheetTooLong n p = long p.0 refl p.1
cause text LineShape n p = faulty p.0 shape p.1 refl
cause text LineLimit n p = faulty p.0 limit p.1 refl
cause text SecondAlias n p = faulty p.0 second p.1 refl
cause text NoRule n p = ruleless p.0 p.1.0 p.1.1 p.1.2 refl p.2
cause text NoTree n p = treeless p.0 p.1.0 p.1.1 p.1.2 p.1.3 p.1.4 refl
cause text MessageTooLong n p = absurd p
cause text ByteNotAllowed n p = absurd p
cause text WordTooLong n p = absurd p
cause text UnlistedWord n p = absurd p
cause text NoSuchSeat n p = absurd p
cause text BrokenRecord n p = absurd p
cause text Full n p = absurd p
cause text LeadsNowhere n p = absurd p
cause text NothingToTakeBack n p = absurd p
cause text NoCommand n p = absurd p
cause text BufferTooShort n p = absurd p

-- only rule lines have names
nameless_after : (seen : List (List ℕ)) (ls : List Line) → productions ls ≡ [] → names_after seen ls ≡ seen
nameless_after seen [] e = refl
nameless_after seen (rule w a ss ∷ ls) e = let z : ◌≡◌ {A = ℕ} 0 1 = cc in absurd (omega arith)
nameless_after seen (alias s m ∷ ls) e = nameless_after seen ls e
nameless_after seen (filler w ∷ ls) e = nameless_after seen ls e

-- without rules there is no name that could lack a tree
apart_causes : (text : List ℕ) (ls ms : List Line) (rules : List Rule) (n : ℕ) → Ordered text ls → productions ls ≡ [] → Ordered text ms → LowestTreeless rules (length (names_of ms)) n → ⊥
apart_causes text ls ms rules n p none q low =
    let same = ordered_once text ls ms p q in
    let count = ap length (ap names_of (sym same) ∙ nameless_after [] ls none) in
    let listed = low.listed in
    omega arith

same_lowest : (text : List ℕ) (ls ms : List Line) (ps qs : List Rule) (n m : ℕ) → Ordered text ls → Ordered text ms → Numbered ls ps → Numbered ms qs
    → LowestTreeless ps (length (names_of ls)) n → LowestTreeless qs (length (names_of ms)) m → n ≡ m
same_lowest text ls ms ps qs n m p q num num' low low' =
    let same = ordered_once text ms ls q p in
    lowest_once ps qs (length (names_of ls)) n m
    (numbered_once ls ps qs num (subst (λ x. Numbered x qs) same num')) low (subst (λ x. LowestTreeless qs (length (names_of x)) m) same low')

-- two causes tell the same
cause_once : (text : List ℕ) (r s : Refusal) (n m : ℕ) → Cause text r n → Cause text s m → (r ≡ s) × (n ≡ m)
cause_once text r s n m (long a e i) (long b f j) = ((cc), (cc))
cause_once text r s n m (long a e i) (faulty b g q f) = absurd (omega arith)
cause_once text r s n m (long a e i) (ruleless b ms q none f j) = absurd (omega arith)
cause_once text r s n m (long a e i) (treeless b ms qs q num low f) = absurd (omega arith)
cause_once text r s n m (faulty a g p e) (long b f j) = absurd (omega arith)
cause_once text r s n m (faulty a g p e) (faulty b h q f) = let same = fault_once text g h n m p q in (e ∙ ap refusal_for same.0 ∙ sym f, same.1)
cause_once text r s n m (faulty a g p e) (ruleless b ms q none f j) = absurd (fault_never text g n ms p q)
cause_once text r s n m (faulty a g p e) (treeless b ms qs q num low f) = absurd (fault_never text g n ms p q)
cause_once text r s n m (ruleless a ls p none e i) (long b f j) = absurd (omega arith)
cause_once text r s n m (ruleless a ls p none e i) (faulty b g q f) = absurd (fault_never text g m ls q p)
cause_once text r s n m (ruleless a ls p none e i) (ruleless b ms q none' f j) = ((cc), (cc))
cause_once text r s n m (ruleless a ls p none e i) (treeless b ms qs q num low f) = absurd (apart_causes text ls ms qs m p none q low)
cause_once text r s n m (treeless a ls ps p num low e) (long b f j) = absurd (omega arith)
cause_once text r s n m (treeless a ls ps p num low e) (faulty b g q f) = absurd (fault_never text g m ls q p)
cause_once text r s n m (treeless a ls ps p num low e) (ruleless b ms q none f j) = absurd (apart_causes text ms ls ps n q none p low)
cause_once text r s n m (treeless a ls ps p num low e) (treeless b ms qs q num' low' f) = (e ∙ sym f, same_lowest text ls ms ps qs n m p q num num' low low')

-- a sheet has a rule, and a tree for each of its names
cause_never : (text : List ℕ) (r : Refusal) (n : ℕ) (s : Sheet) → Cause text r n → Loaded text s → ⊥
cause_never text r n s (long a e i) (b, (ms, q, says)) = omega arith
cause_never text r n s (faulty a g p e) (b, (ms, q, says)) = fault_never text g n ms p q
cause_never text r n s (ruleless a ls p none e i) (b, (ms, q, says)) =
    let same = ordered_once text ms ls q p in
    let count = ap length (says.rules.spelled_out ∙ ap productions same ∙ none) in
    let mapped = length-map (rules_of s) (production (names_of ms) (words_of ms)) in
    omega (arith, s.draft.rules.whole, s.some)
cause_never text r n s (treeless a ls ps p num low e) (b, (ms, q, says)) =
    let same = ordered_once text ms ls q p in
    let says' = subst (λ x. Says x s) same says in
    let total = ap length says'.names in
    let whole = names_whole s in
    let listed = low.listed in
    low.treeless (tree_plain (rules_of s) ps (numbered_once ls (rules_of s) ps says'.rules num) n (s.treed n (omega arith)))

pub one_answer : OneAnswer
one_answer = (
  λ text t u p q.
      let same = cause_once text p.0 q.0 p.1 q.1 (cause text p.0 p.1 p.3) (cause text q.0 q.1 q.3) in
      p.2 ∙ ap (λ r. met r p.1 Load) same.0 ∙ ap (λ n. met q.0 n Load) same.1 ∙ sym q.2,
  λ text t s p l. cause_never text p.0 p.1 s (cause text p.0 p.1 p.3) l,
)
