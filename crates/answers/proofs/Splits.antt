-- An input is split in one way.
use Rattle.std.proofs.Common.{◌≡◌, ℕ, List, ◌∷◌, ◌++◌, sym, ap, ◌∙◌}
use Rattle.answers.specs.Input.{ended, at_empty_line, without, OneSplit}
use Rattle.answers.proofs.Cuts.{empty_once, empty_none}

-- the input by its lines
by_lines : (input sheet rest : List ℕ) (ls : List (List ℕ)) → sheet ≡ ended ls → input ≡ sheet ++ (10 ∷ rest) → input ≡ ended ls ++ (10 ∷ rest)
by_lines input sheet rest ls s e = e ∙ ap (λ bs. bs ++ (10 ∷ rest)) s

pub one_split : OneSplit
one_split input sheet rest sheet' rest' (at_empty_line ls all s e) (at_empty_line ls' all' s' e') =
    let same = empty_once ls ls' rest rest' all all' (sym (by_lines input sheet rest ls s e) ∙ by_lines input sheet' rest' ls' s' e') in
    (s ∙ ap ended same.0 ∙ sym s', same.1)
one_split input sheet rest sheet' rest' (at_empty_line ls all s e) (without ls' last all' u e' s' r') =
    absurd (empty_none ls ls' rest last all all' u (sym (by_lines input sheet rest ls s e) ∙ e'))
one_split input sheet rest sheet' rest' (without ls last all u e s r) (at_empty_line ls' all' s' e') =
    absurd (empty_none ls' ls rest' last all' all u (sym (by_lines input sheet' rest' ls' s' e') ∙ e))
one_split input sheet rest sheet' rest' (without ls last all u e s r) (without ls' last' all' u' e' s' r') = (s ∙ sym s', r ∙ sym r')
