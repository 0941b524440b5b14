-- What a row of trees costs, and how it is written. Assumes nothing.
use Rattle.std.specs.Prelude.{ℕ, suc, cond, List, [], ◌∷◌, ◌++◌, length, ◌==◌, slice_index_or}
use Rattle.grammar.specs.declared.Rule.{Rule}
use Rattle.grammar.specs.Grammar.{no_rule}
use Rattle.grammar.specs.Trees.{Row, end, word, tree, yield}
use Rattle.readings.specs.Scales.{Scale}

-- the r-th rule, counted from 0
abbrev pub nth : List Rule → ℕ → Rule
nth rules r = slice_index_or rules r no_rule

-- the prices of the rules, each rule before its subtrees, left to right
abbrev pub price : {P : Type 0} → List Rule → Scale P → Row → P
price rules S end = S.unit
price rules S (word w rest) = price rules S rest
price rules S (tree r below rest) = S.join (S.weigh (nth rules r).weight) (S.join (price rules S below) (price rules S rest))

-- the rule's number, from 1, and then the forms of the subtrees; 0 for a tree that yields no words
abbrev pub form : Row → List ℕ
form end = []
form (word w rest) = form rest
form (tree r below rest) = cond (length (yield below) == 0) (0 ∷ []) (suc r ∷ form below) ++ form rest
