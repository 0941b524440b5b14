-- A text means one sheet at most.
use Rattle.std.proofs.Common.{◌≡◌, ◌^◌, ◌<◌, List, length, sym, ap, ◌∙◌, subst}
use Rattle.std.specs.List.{AllByRecursion}
use Rattle.grammar.specs.declared.sheet.Sheet.{Sheet}
use Rattle.grammar.specs.View.{aliases_in, Alike}
use Rattle.grammar.proofs.BitSets.{same_set}
use Rattle.grammar.proofs.Views.{words_whole}
use Rattle.sheets.specs.Lines.{Line}
use Rattle.sheets.specs.Spellings.{words_of}
use Rattle.sheets.specs.Texts.{Says, OneSheet}
use Rattle.sheets.proofs.Prefixes.{ordered_once}
use Rattle.sheets.proofs.Numbers.{numbered_once, aliases_once}
use Rattle.sheets.proofs.Pushing.{apart_words}
use Rattle.sheets.proofs.Stays.{all_aliased}

module _ (ls : List Line) (s : Sheet) (says : Says ls s) where
  -- the sheet counts as many words as the lines have
  word_total : s.draft.words.len ≡ length (words_of ls)
  word_total = sym (words_whole s) ∙ ap length says.words

  listed_aliases : AllByRecursion (λ a. (a.said < length (words_of ls)) × (a.meant < length (words_of ls))) (aliases_in s)
  listed_aliases =
      subst (λ n. AllByRecursion (λ a. (a.said < n) × (a.meant < n)) (aliases_in s)) word_total
      (all_aliased s.draft.words.len s.draft.aliases.len s.draft.aliases.items s.draft.aliased)

  listed_fillers : s.draft.fillers < 2 ^ length (words_of ls)
  listed_fillers = subst (λ n. s.draft.fillers < 2 ^ n) word_total s.draft.filled

alike : (ls : List Line) (s t : Sheet) → Says ls s → Says ls t → Alike s t
alike ls s t p q = record {
  names = p.names ∙ sym q.names;
  words = p.words ∙ sym q.words;
  rules = numbered_once ls _ _ p.rules q.rules;
  aliases = aliases_once (words_of ls) (apart_words ls) _ _ (listed_aliases ls s p) (listed_aliases ls t q) (p.aliases ∙ sym q.aliases);
  fillers = same_set (length (words_of ls)) s.draft.fillers t.draft.fillers (listed_fillers ls s p) (listed_fillers ls t q) (λ w h. p.fillers w h ∙ sym (q.fillers w h));
}

pub one_sheet : OneSheet
one_sheet text s t p q =
    let same = ordered_once text q.1.0 p.1.0 q.1.1 p.1.1 in
    alike p.1.0 s t p.1.2 (subst (λ ls. Says ls t) same q.1.2)
