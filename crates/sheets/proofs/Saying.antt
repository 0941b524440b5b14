-- What a draft holds, its sheet says.
use Rattle.std.proofs.Common.{◌≡◌, ℕ, List, [], map, length, take, sym, ap, ◌∙◌, subst}
use Rattle.grammar.specs.declared.draft.Draft.{Draft}
use Rattle.grammar.specs.declared.sheet.Sheet.{Sheet}
use Rattle.grammar.specs.Bits.{has}
use Rattle.grammar.specs.Closure.{AllFormed, LowestTreeless}
use Rattle.grammar.specs.inner.Drafts.{Kept, Lowest, listed}
use Rattle.sheets.specs.Lines.{Line}
use Rattle.sheets.specs.Spellings.{names_of, words_of}
use Rattle.sheets.specs.Limits.{productions}
use Rattle.sheets.specs.Texts.{production, Numbered, Says}
use Rattle.sheets.specs.inner.Drafting.{Drafted}

module _ (ls : List Line) (d : Draft) (drafted : Drafted ls d) where
  pub numbered : Numbered ls (listed d)
  numbered = record {
    formed = subst (λ n. AllFormed n (length (words_of ls)) (listed d)) (sym drafted.name_total)
        (subst (λ n. AllFormed d.names.len n (listed d)) (sym drafted.word_total) d.formed);
    spelled_out = drafted.rules;
  }

  pub says : (s : Sheet) → Kept d s → Says ls s
  says s k = record {
    names = (let e = drafted.names in cc);
    words = (let e = drafted.words in cc);
    rules = subst (λ (e : Draft). Numbered ls (listed e)) (sym k) numbered;
    aliases = (let e = drafted.aliases in cc);
    fillers = λ w l. ap (λ (e : Draft). has e.fillers w) k ∙ drafted.fillers w l;
  }

  pub no_productions : d.rules.len ≡ 0 → productions ls ≡ []
  no_productions e = sym drafted.rules ∙ ap (λ n. map (production (names_of ls) (words_of ls)) (take n d.rules.items)) e

  pub lowest : (a : ℕ) → Lowest d a → LowestTreeless (listed d) (length (names_of ls)) a
  lowest a low = subst (λ n. LowestTreeless (listed d) n a) (sym drafted.name_total) low
