-- Spellings of which no two are alike have one number each.
use Rattle.std.proofs.Common.{◌≡◌, ℕ, ◌<◌, List, [], ◌∷◌, map, length, get_or, sym, refl, ap, ◌∙◌, subst, arith, length-take, get_or-take}
use Rattle.std.specs.List.{AllByRecursion}
use Rattle.std.proofs.ByRecursion.{All-from_get_or}
use Rattle.grammar.specs.declared.Symbol.{Symbol}
use Rattle.grammar.specs.declared.Symbol.TheVariants.{Name, Word}
use Rattle.grammar.specs.declared.Rule.{Rule}
use Rattle.grammar.specs.declared.Alias.{Alias}
use Rattle.grammar.specs.Grammar.{no_rule, right, Counted, Formed}
use Rattle.grammar.specs.Closure.{AllFormed}
use Rattle.grammar.specs.Limits.{Apart}
use Rattle.grammar.specs.View.{plain}
use Rattle.sheets.specs.Lines.{Line}
use Rattle.sheets.specs.Spellings.{names_of, words_of}
use Rattle.sheets.specs.Texts.{spelled, production, renaming, Numbered}
use Rattle.sheets.proofs.Pushing.{apart_names, apart_words}

-- the left name and the right side of a rule are listed
abbrev Listed : ℕ → ℕ → Rule → Type 0
Listed names words p = (p.left < names) × AllByRecursion (Counted names words) (right p)

listed_from : (names words : ℕ) (p : Rule) → Formed names words p → Listed names words p
listed_from names words p f = (
  f.0,
  All-from_get_or (Counted names words) (right p) (Name 0) (λ k l.
      let len = length-take p.len p.symbols in
      let below : k < p.len = omega arith in
      subst (Counted names words) (sym (get_or-take p.len p.symbols k (Name 0) below)) (f.2 k below)),
)

all_listed : (names words : ℕ) (rules : List Rule) → AllFormed names words rules → AllByRecursion (Listed names words) rules
all_listed names words rules formed = All-from_get_or (Listed names words) rules no_rule (λ r h. listed_from names words (get_or rules r no_rule) (formed r h))

module _ (N W : List (List ℕ)) (apart-n : Apart N) (apart-w : Apart W) where
  symbol_once : (s t : Symbol) → Counted (length N) (length W) s → Counted (length N) (length W) t → spelled N W s ≡ spelled N W t → s ≡ t
  symbol_once (Name a) (Name b) h k e = let same : get_or N a [] ≡ get_or N b [] = cc in ap Name (apart-n a b h k same)
  symbol_once (Name a) (Word b) h k e = let z : ◌≡◌ {A = ℕ} 0 1 = cc in absurd (omega arith)
  symbol_once (Word a) (Name b) h k e = let z : ◌≡◌ {A = ℕ} 0 1 = cc in absurd (omega arith)
  symbol_once (Word a) (Word b) h k e = let same : get_or W a [] ≡ get_or W b [] = cc in ap Word (apart-w a b h k same)

  symbols_once : (ss ts : List Symbol) → AllByRecursion (Counted (length N) (length W)) ss → AllByRecursion (Counted (length N) (length W)) ts
      → map (spelled N W) ss ≡ map (spelled N W) ts → ss ≡ ts
  symbols_once [] [] h k e = refl
  symbols_once [] (t ∷ ts) h k e = let z : ◌≡◌ {A = ℕ} 0 1 = cc in absurd (omega arith)
  symbols_once (s ∷ ss) [] h k e = let z : ◌≡◌ {A = ℕ} 0 1 = cc in absurd (omega arith)
  symbols_once (s ∷ ss) (t ∷ ts) h k e =
      let heads : spelled N W s ≡ spelled N W t = cc in
      let tails : map (spelled N W) ss ≡ map (spelled N W) ts = cc in
      let a = symbol_once s t h.0 k.0 heads in
      let b = symbols_once ss ts h.1 k.1 tails in
      cc

  rule_once : (p q : Rule) → Listed (length N) (length W) p → Listed (length N) (length W) q → production N W p ≡ production N W q → plain p ≡ plain q
  rule_once p q h k e =
      let weights : p.weight ≡ q.weight = ap (λ x. x.weight) e in
      let lefts : p.left ≡ q.left = apart-n p.left q.left h.0 k.0 (ap (λ x. x.left) e) in
      let rights : right p ≡ right q = symbols_once (right p) (right q) h.1 k.1 (ap (λ x. x.right) e) in
      cc

  pub rules_once : (ps qs : List Rule) → AllByRecursion (Listed (length N) (length W)) ps → AllByRecursion (Listed (length N) (length W)) qs
      → map (production N W) ps ≡ map (production N W) qs → map plain ps ≡ map plain qs
  rules_once [] [] h k e = refl
  rules_once [] (q ∷ qs) h k e = let z : ◌≡◌ {A = ℕ} 0 1 = cc in absurd (omega arith)
  rules_once (p ∷ ps) [] h k e = let z : ◌≡◌ {A = ℕ} 0 1 = cc in absurd (omega arith)
  rules_once (p ∷ ps) (q ∷ qs) h k e =
      let heads : production N W p ≡ production N W q = cc in
      let tails : map (production N W) ps ≡ map (production N W) qs = cc in
      let a = rule_once p q h.0 k.0 heads in
      let b = rules_once ps qs h.1 k.1 tails in
      cc

-- aliases of listed words
module _ (W : List (List ℕ)) (apart : Apart W) where
  alias_once : (a b : Alias) → (a.said < length W) × (a.meant < length W) → (b.said < length W) × (b.meant < length W) → renaming W a ≡ renaming W b → a ≡ b
  alias_once a b h k e =
      let said : a.said ≡ b.said = apart a.said b.said h.0 k.0 (ap (λ x. x.said) e) in
      let meant : a.meant ≡ b.meant = apart a.meant b.meant h.1 k.1 (ap (λ x. x.meant) e) in
      let of : ℕ → ℕ → Alias = λ s m. record { said = s; meant = m } in
      ap (λ x. of x a.meant) said ∙ ap (of b.said) meant

  pub aliases_once : (as' bs : List Alias) → AllByRecursion (λ a. (a.said < length W) × (a.meant < length W)) as' → AllByRecursion (λ a. (a.said < length W) × (a.meant < length W)) bs
      → map (renaming W) as' ≡ map (renaming W) bs → as' ≡ bs
  aliases_once [] [] h k e = refl
  aliases_once [] (b ∷ bs) h k e = let z : ◌≡◌ {A = ℕ} 0 1 = cc in absurd (omega arith)
  aliases_once (a ∷ rest) [] h k e = let z : ◌≡◌ {A = ℕ} 0 1 = cc in absurd (omega arith)
  aliases_once (a ∷ rest) (b ∷ bs) h k e =
      let heads : renaming W a ≡ renaming W b = cc in
      let tails : map (renaming W) rest ≡ map (renaming W) bs = cc in
      let one = alias_once a b h.0 k.0 heads in
      let more = aliases_once rest bs h.1 k.1 tails in
      cc

-- lines have one numbering
pub numbered_once : (ls : List Line) (ps qs : List Rule) → Numbered ls ps → Numbered ls qs → map plain ps ≡ map plain qs
numbered_once ls ps qs p q =
    rules_once (names_of ls) (words_of ls) (apart_names ls) (apart_words ls) ps qs
    (all_listed _ _ ps p.formed) (all_listed _ _ qs q.formed) (p.spelled_out ∙ sym q.spelled_out)
