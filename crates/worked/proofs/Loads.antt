-- What the texts of the two sheets mean, and that nothing refuses them.
use Rattle.std.proofs.Common.{◌≡◌, ℕ, ◌^◌, ◌<◌, ◌≤◌, Bool, true, ◌&&◌, ltb, leb, List, [], ◌∷◌, map, length, get_or, Ok, Err, Result, sym, refl, ap, ◌∙◌, subst, ap₂, subst₂, arith}
use lib.Seq.{take-length}
use Rattle.std.proofs.lemmas.Nat.{pow_pos}
use Rattle.std.proofs.lemmas.Bool.{and_parts, ltb-true, leb-true}
use Rattle.faults.specs.declared.Refusal.{Refusal}
use Rattle.faults.specs.declared.Refusal.TheVariants.{SheetTooLong, LineShape, LineLimit, SecondAlias, NoRule, NoTree, MessageTooLong, ByteNotAllowed, WordTooLong, UnlistedWord, NoSuchSeat, BrokenRecord, Full, LeadsNowhere, NothingToTakeBack, NoCommand, BufferTooShort}
use Rattle.faults.specs.declared.Fault.{Fault}
use Rattle.faults.specs.Faults.{Told, told}
use Rattle.grammar.specs.declared.Symbol.{Symbol}
use Rattle.grammar.specs.declared.Symbol.TheVariants.{Name}
use Rattle.grammar.specs.declared.Rule.{Rule}
use Rattle.grammar.specs.declared.sheet.Sheet.{Sheet}
use Rattle.grammar.specs.Bits.{has}
use Rattle.grammar.specs.Closure.{AllFormed, HasTree}
use Rattle.grammar.specs.Grammar.{no_rule, number, limit, Formed}
use Rattle.grammar.specs.Trees.{Row, end, word, tree}
use Rattle.grammar.specs.View.{Plain, plain, rules_of, aliases_in, fillers_in}
use Rattle.grammar.proofs.BitSets.{same_set, has_none}
use Rattle.grammar.proofs.Plains.{tree_plain}
use Rattle.grammar.proofs.Views.{names_whole, words_whole}
use Rattle.sheets.specs.Lines.{Line}
use Rattle.sheets.specs.Spellings.{member, names_of, words_of}
use Rattle.sheets.specs.Limits.{Production, productions, renamings, fillers_of}
use Rattle.sheets.specs.Texts.{Ordered, spelled, production, renaming, Numbered, Says as Saying, Loaded, Refuses, Refused}
use Rattle.sheets.proofs.Halting.{shape, limit as over, second, fault_never}
use Rattle.sheets.proofs.Numbers.{numbered_once}
use Rattle.sheets.proofs.Prefixes.{ordered_once}
use Rattle.worked.specs.Lathe.{hold, lathe}
use Rattle.worked.specs.Findings.{Said, blank, lathe_sheet, Says}
use Rattle.worked.specs.Written.{text_of, TextsMean}
use Rattle.worked.proofs.Derived.{fits, fits_so}
use Rattle.worked.proofs.Finite.{below, below_at}
use Rattle.worked.proofs.Said.{rules_said, names_said, words_said, lines_said, Holds, says_so, so_says}
use Rattle.worked.proofs.Lined.{all_well, all_accepted}

-- ---- the lines of the texts

short_enough : (said : Said) → length (text_of said) ≤ 16384
short_enough said = leb-true (length (text_of said)) 16384 (go said)
  where
    go : (x : Said) → leb (length (text_of x)) 16384 ≡ true
    go blank = refl
    go lathe_sheet = refl

names_are : (said : Said) → names_of (lines_said said) ≡ names_said said
names_are blank = refl
names_are lathe_sheet = refl

words_are : (said : Said) → words_of (lines_said said) ≡ words_said said
words_are blank = refl
words_are lathe_sheet = refl

no_aliases : (said : Said) → renamings (lines_said said) ≡ []
no_aliases blank = refl
no_aliases lathe_sheet = refl

no_fillers : (said : Said) → fillers_of (lines_said said) ≡ []
no_fillers blank = refl
no_fillers lathe_sheet = refl

ordered : (said : Said) → Ordered (text_of said) (lines_said said)
ordered blank = (refl, all_well [] (lines_said blank) refl, all_accepted (lines_said blank) refl)
ordered lathe_sheet = (refl, all_well [] (lines_said lathe_sheet) refl, all_accepted (lines_said lathe_sheet) refl)

-- ---- rules with no unused part

abbrev rule_of : Plain → Rule
rule_of p = record { weight = p.weight; left = p.left; len = length p.right; symbols = p.right }

abbrev sample : Said → List Rule
sample said = map rule_of (rules_said said)

plain_sample : (ps : List Plain) → map plain (map rule_of ps) ≡ ps
plain_sample [] = refl
plain_sample (p ∷ ps) =
    let one : plain (rule_of p) ≡ p = ap (λ (s : List Symbol). record { weight = p.weight; left = p.left; right = s }) (take-length p.right) in
    ap₂ (λ (q : Plain) (qs : List Plain). q ∷ qs) one (plain_sample ps)

abbrev formed : ℕ → ℕ → Rule → Bool
formed names words p =
    ltb p.left names && (leb p.len 8 && below p.len (λ k. ltb (number (get_or p.symbols k (Name 0))) (limit names words (get_or p.symbols k (Name 0)))))

is_formed : (names words : ℕ) (p : Rule) → formed names words p ≡ true → Formed names words p
is_formed names words p h =
    let one = and_parts (ltb p.left names) _ h in
    let two = and_parts (leb p.len 8) _ one.1 in
    (ltb-true p.left names one.0, leb-true p.len 8 two.0, λ k l. ltb-true _ _ (below_at p.len (λ k. ltb (number (get_or p.symbols k (Name 0))) (limit names words (get_or p.symbols k (Name 0)))) two.1 k l))

abbrev all_formed : Said → Bool
all_formed said = below (length (sample said)) (λ r. formed (length (names_of (lines_said said))) (length (words_of (lines_said said))) (get_or (sample said) r no_rule))

sample_numbered : (said : Said) → Numbered (lines_said said) (sample said)
sample_numbered said = record {
  formed = λ r l. is_formed _ _ (get_or (sample said) r no_rule) (below_at (length (sample said)) (λ r. formed (length (names_of (lines_said said))) (length (words_of (lines_said said))) (get_or (sample said) r no_rule)) (passes said) r l);
  spelled_out = out said;
}
  where
    passes : (x : Said) → all_formed x ≡ true
    passes blank = refl
    passes lathe_sheet = refl

    out : (x : Said) → map (production (names_of (lines_said x)) (words_of (lines_said x))) (sample x) ≡ productions (lines_said x)
    out blank = refl
    out lathe_sheet = refl

-- ---- what a loaded sheet says

no_map : {A B : Type 0} (f : A → B) (xs : List A) → map f xs ≡ [] → xs ≡ []
no_map f [] e = refl
no_map f (x ∷ xs) e = let z : ◌≡◌ {A = ℕ} 0 1 = cc in absurd (omega arith)

loaded_holds : (said : Said) (s : Sheet) → Saying (lines_said said) s → Holds said s
loaded_holds said s h = record {
  rules = numbered_once (lines_said said) (rules_of s) (sample said) h.rules (sample_numbered said) ∙ plain_sample (rules_said said);
  names = h.names ∙ names_are said;
  words = h.words ∙ words_are said;
  aliases = no_map _ (aliases_in s) (h.aliases ∙ no_aliases said);
  fillers =
      let k = length (words_of (lines_said said)) in
      let fits : fillers_in s < 2 ^ k = subst (λ (n : ℕ). fillers_in s < 2 ^ n) (sym (words_whole s) ∙ ap length h.words) s.draft.filled in
      let off : (w : ℕ) → w < k → has (fillers_in s) w ≡ has 0 w = λ w l. h.fillers w l ∙ ap (member (get_or (words_of (lines_said said)) w [])) (no_fillers said) ∙ sym (has_none w) in
      same_set k (fillers_in s) 0 fits (pow_pos k) off;
}

-- ---- and what a sheet that says so is loaded from

-- a rule spelled out, read without the unused part of its array
abbrev spelled_rule : List (List ℕ) → List (List ℕ) → Plain → Production
spelled_rule names words p = record { weight = p.weight; left = get_or names p.left []; right = map (spelled names words) p.right }

spelled_rules : (names words : List (List ℕ)) (rules : List Rule) → map (production names words) rules ≡ map (spelled_rule names words) (map plain rules)
spelled_rules names words [] = refl
spelled_rules names words (p ∷ ps) = ap (λ (qs : List Production). production names words p ∷ qs) (spelled_rules names words ps)

spelled_said : (said : Said) → map (spelled_rule (names_of (lines_said said)) (words_of (lines_said said))) (rules_said said) ≡ productions (lines_said said)
spelled_said blank = refl
spelled_said lathe_sheet = refl

holds_loaded : (said : Said) (s : Sheet) → Holds said s → Saying (lines_said said) s
holds_loaded said s h = record {
  names = h.names ∙ sym (names_are said);
  words = h.words ∙ sym (words_are said);
  rules = record {
    formed = subst₂ (λ (a b : ℕ). AllFormed a b (rules_of s)) (sym (names_whole s) ∙ ap length (h.names ∙ sym (names_are said))) (sym (words_whole s) ∙ ap length (h.words ∙ sym (words_are said))) s.draft.formed;
    spelled_out = spelled_rules _ _ (rules_of s) ∙ ap (map (spelled_rule _ _)) h.rules ∙ spelled_said said;
  };
  aliases = ap (map (renaming (words_of (lines_said said)))) h.aliases ∙ sym (no_aliases said);
  fillers = λ w l. ap (λ (n : ℕ). has n w) h.fillers ∙ has_none w ∙ ap (member (get_or (words_of (lines_said said)) w [])) (sym (no_fillers said));
}

pub texts_mean : TextsMean
texts_mean said s = (
  λ l.
      let same = ordered_once (text_of said) l.1.0 (lines_said said) l.1.1 (ordered said) in
      so_says said s (loaded_holds said s (subst (λ (ls : List Line). Saying ls s) same l.1.2)),
  λ h. (short_enough said, (lines_said said, ordered said, holds_loaded said s (says_so said s h))),
)

-- ---- nothing refuses them

-- a tree for each name
abbrev trees_said : Said → List Row
trees_said blank = tree 0 end end ∷ []
trees_said lathe_sheet = tree 0 (word hold (tree 1 end (tree 4 (word lathe end) end))) end ∷ tree 1 end end ∷ tree 4 (word lathe end) end ∷ []

abbrev all_treed : Said → Bool
all_treed said = below (length (names_of (lines_said said))) (λ a. fits (rules_said said) (Name a ∷ []) (get_or (trees_said said) a end))

has_tree : (said : Said) (a : ℕ) → a < length (names_of (lines_said said)) → HasTree (sample said) a
has_tree said a l =
    let row = get_or (trees_said said) a end in
    let fit = below_at (length (names_of (lines_said said))) (λ a. fits (rules_said said) (Name a ∷ []) (get_or (trees_said said) a end)) (passes said) a l in
    ∣ (row, fits_so (record { rules = sample said; start = 0 }) (rules_said said) (plain_sample (rules_said said)) (Name a ∷ []) row fit) ∣₁
  where
    passes : (x : Said) → all_treed x ≡ true
    passes blank = refl
    passes lathe_sheet = refl

ruleless : (said : Said) → productions (lines_said said) ≡ [] → ⊥
ruleless blank e = let z : ◌≡◌ {A = ℕ} 0 1 = cc in omega arith
ruleless lathe_sheet e = let z : ◌≡◌ {A = ℕ} 0 1 = cc in omega arith

refuses_never : (said : Said) (r : Refusal) (n : ℕ) → Refuses (text_of said) r n → ⊥
refuses_never said SheetTooLong n p = omega (arith, p.0, short_enough said)
refuses_never said LineShape n p = fault_never (text_of said) shape n (lines_said said) p.1 (ordered said)
refuses_never said LineLimit n p = fault_never (text_of said) over n (lines_said said) p.1 (ordered said)
refuses_never said SecondAlias n p = fault_never (text_of said) second n (lines_said said) p.1 (ordered said)
refuses_never said NoRule n p =
    let same = ordered_once (text_of said) (lines_said said) p.1.0 (ordered said) p.1.1 in
    ruleless said (ap productions same ∙ p.1.2)
refuses_never said NoTree n (l, (ls, rules, order, numbered, low)) =
    let same = ordered_once (text_of said) ls (lines_said said) order (ordered said) in
    let numbered' = subst (λ (ms : List Line). Numbered ms rules) same numbered in
    let listed : n < length (names_of (lines_said said)) = subst (λ (ms : List Line). n < length (names_of ms)) same low.listed in
    low.treeless (tree_plain (sample said) rules (numbered_once (lines_said said) (sample said) rules (sample_numbered said) numbered') n (has_tree said n listed))
refuses_never said MessageTooLong n p = p
refuses_never said ByteNotAllowed n p = p
refuses_never said WordTooLong n p = p
refuses_never said UnlistedWord n p = p
refuses_never said NoSuchSeat n p = p
refuses_never said BrokenRecord n p = p
refuses_never said Full n p = p
refuses_never said LeadsNowhere n p = p
refuses_never said NothingToTakeBack n p = p
refuses_never said NoCommand n p = p
refuses_never said BufferTooShort n p = p

refused_never : (said : Said) (t : Told) → Refused (text_of said) t → ⊥
refused_never said t p = refuses_never said p.0 p.1 p.3

-- what load says of a text
abbrev Answers : List ℕ → Sheet → Sheet → Result (Unit {0}) Fault → Type 0
Answers text old new (Ok u) = Loaded text new
Answers text old new (Err f) = Refused text (told f) × (new ≡ old)

-- so of these it leaves a sheet that says so
pub load_leaves : (said : Said) (text : List ℕ) → text ≡ text_of said → (old new : Sheet) (r : Result (Unit {0}) Fault) → Answers text old new r → Says said new
load_leaves said text e old new (Ok u) h = (texts_mean said new).0 (subst (λ (t : List ℕ). Loaded t new) e h)
load_leaves said text e old new (Err f) h = absurd (refused_never said (told f) (subst (λ (t : List ℕ). Refused t (told f)) e h.0))
