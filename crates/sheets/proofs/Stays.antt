-- What is numbered is spelled as before when names and words are added.
use Rattle.std.proofs.Common.{◌≡◌, ℕ, ◌<◌, List, [], ◌∷◌, map, length, get_or, take, sym, refl, ap, subst, arith}
use Rattle.std.specs.List.{AllByRecursion}
use Rattle.std.proofs.lemmas.List.{length-take, get_or-take}
use Rattle.std.proofs.ByRecursion.{All-from_get_or}
use Rattle.grammar.specs.declared.Symbol.{Symbol}
use Rattle.grammar.specs.declared.Symbol.TheVariants.{Name, Word}
use Rattle.grammar.specs.declared.Rule.{Rule}
use Rattle.grammar.specs.declared.Alias.{Alias}
use Rattle.grammar.specs.Grammar.{Counted, right, no_rule}
use Rattle.grammar.specs.Closure.{AllFormed}
use Rattle.grammar.specs.Limits.{Aliased, no_alias}
use Rattle.sheets.specs.Lines.{name, word}
use Rattle.sheets.specs.Spellings.{with_all}
use Rattle.sheets.specs.Texts.{spelled, production, renaming}
use Rattle.sheets.proofs.Grown.{still_at}

-- what the invariant of a draft says of its rules and aliases
module _ (names words : ℕ) where
  pub right_counted : (p : Rule) → ((k : ℕ) → k < p.len → Counted names words (get_or p.symbols k (Name 0))) → AllByRecursion (Counted names words) (right p)
  right_counted p h = All-from_get_or (Counted names words) (right p) (Name 0) (λ k l.
      let len = length-take p.len p.symbols in
      let below : k < p.len = omega arith in
      subst (Counted names words) (sym (get_or-take p.len p.symbols k (Name 0) below)) (h k below))

  all_counted : (rules : List Rule) → AllFormed names words rules → AllByRecursion (λ p. (p.left < names) × AllByRecursion (Counted names words) (right p)) rules
  all_counted rules formed = All-from_get_or _ rules no_rule (λ r l. let f = formed r l in (f.0, right_counted (get_or rules r no_rule) f.2))

pub all_aliased : (words n : ℕ) (aliases : List Alias) → Aliased words n aliases → AllByRecursion (λ a. (a.said < words) × (a.meant < words)) (take n aliases)
all_aliased words n aliases h = All-from_get_or _ (take n aliases) no_alias (λ r l.
    let len = length-take n aliases in
    let below : r < n = omega arith in
    subst (λ a. (a.said < words) × (a.meant < words)) (sym (get_or-take n aliases r no_alias below)) (h r below))

module _ (N W ns ws : List (List ℕ)) where
  symbol_stays : (s : Symbol) → Counted (length N) (length W) s → spelled (with_all N ns) (with_all W ws) s ≡ spelled N W s
  symbol_stays (Name a) h = ap name (still_at N ns a h)
  symbol_stays (Word w) h = ap word (still_at W ws w h)

  pub symbols_stay : (ss : List Symbol) → AllByRecursion (Counted (length N) (length W)) ss → map (spelled (with_all N ns) (with_all W ws)) ss ≡ map (spelled N W) ss
  symbols_stay [] h = refl
  symbols_stay (s ∷ ss) h = let a = symbol_stays s h.0 in let b = symbols_stay ss h.1 in cc

  productions_stay : (ps : List Rule) → AllByRecursion (λ p. (p.left < length N) × AllByRecursion (Counted (length N) (length W)) (right p)) ps
      → map (production (with_all N ns) (with_all W ws)) ps ≡ map (production N W) ps
  productions_stay [] h = refl
  productions_stay (p ∷ ps) h =
      let a = still_at N ns p.left h.0.0 in
      let b = symbols_stay (right p) h.0.1 in
      let c = productions_stay ps h.1 in
      cc

  renamings_stay : (aliases : List Alias) → AllByRecursion (λ a. (a.said < length W) × (a.meant < length W)) aliases → map (renaming (with_all W ws)) aliases ≡ map (renaming W) aliases
  renamings_stay [] h = refl
  renamings_stay (a ∷ rest) h =
      let p = still_at W ws a.said h.0.0 in
      let q = still_at W ws a.meant h.0.1 in
      let b = renamings_stay rest h.1 in
      cc

  pub rules_stay : (rules : List Rule) → AllFormed (length N) (length W) rules → map (production (with_all N ns) (with_all W ws)) rules ≡ map (production N W) rules
  rules_stay rules formed = productions_stay rules (all_counted (length N) (length W) rules formed)

  pub aliases_stay : (n : ℕ) (aliases : List Alias) → Aliased (length W) n aliases → map (renaming (with_all W ws)) (take n aliases) ≡ map (renaming W) (take n aliases)
  aliases_stay n aliases h = renamings_stay (take n aliases) (all_aliased (length W) n aliases h)
