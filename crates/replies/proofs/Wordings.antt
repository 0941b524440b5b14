-- The line for a message, from what each call promises. Assumes nothing.
use Rattle.std.proofs.Common.{◌≡◌, ℕ, ◌≤◌, List, ◌++◌, length, take, drop, IfOk, Ok, Err, Result, refl, ap, ◌∙◌, subst, arith}
use lib.Seq.{take-append_seam}
use Rattle.faults.specs.declared.Fault.{Fault}
use Rattle.faults.specs.Faults.{told, telling}
use Rattle.grammar.specs.declared.sheet.Sheet.{Sheet}
use Rattle.grammar.specs.View.{grammar_of, rules_of}
use Rattle.sources.specs.Meanings.{Meaning}
use Rattle.sources.specs.Piles.{piled}
use Rattle.seats.specs.Answers.{HeardOut}
use Rattle.readings.specs.declared.read.Reading.{Reading}
use Rattle.readings.specs.Scales.{Scale, NoDearer, points, worst}
use Rattle.readings.specs.Prices.{price, form}
use Rattle.readings.specs.Cheapest.{Cheapest}
use Rattle.reader.specs.Reads.{Lent, Reads}
use Rattle.reader.specs.Reads as reads
use Rattle.answers.specs.Lines.{read_line, refused_line}
use Rattle.replies.specs.Replies.{Reply, Least}
use Rattle.replies.specs.Replies as replies
use Rattle.replies.specs.inner.Answering.{Best, ReadBy, AnswerLine, no_command, reading}

-- what holds of a result made, said another way
pub made_so : {X Y : Type 0} (r : Result X Y) (P Q : X → Type 0) → ((x : X) → P x → Q x) → IfOk r P → IfOk r Q
made_so (Ok x) P Q f p = f x p
made_so (Err e) P Q f p = tt

least_of : {P : Type 0} (s : Sheet) (S : Scale P) (ws before after : List ℕ) (n : ℕ) (c : P) → (best : Cheapest (grammar_of s) S ws before after n c) → Least (grammar_of s) S ws best.derivation
least_of s S ws before after n c best other =
    subst (λ k. NoDearer S k (price (rules_of s) S other.0)) best.costs (best.least other)

best_of : {P : Type 0} (s : Sheet) (S : Scale P) (ws before after : List ℕ) (d : Reading P) → Cheapest (grammar_of s) S ws before after d.length d.price → Best s S ws after d
best_of s S ws before after d best =
    let f = form best.derivation.0 in
    let n = d.length in
    record {
      derivation = best.derivation;
      costs = best.costs;
      least = least_of s S ws before after n d.price best;
      short = best.short;
      written = ap (λ xs. take n xs) best.list ∙ ap (λ k. take k (f ++ drop n before)) best.long ∙ take-append_seam f (drop n before);
    }

pub read_by_scale : {P : Type 0} (s : Sheet) (S : Scale P) (ws : List ℕ) (b b' : Lent P) (r : Result (Reading P) Fault) → Reads s S ws b (telling r) b' → ReadBy s S ws b'.list r
read_by_scale {P} s S ws b b' (Ok d) (reads.reading e is best) =
    let same : e ≡ d = cc in
    best_of s S ws b.list b'.list d (subst (λ (x : Reading P). Cheapest (grammar_of s) S ws b.list b'.list x.length x.price) same best)
read_by_scale s S ws b b' (Ok d) (reads.no_command none refused) = let x = refused.0 in let z : ◌≡◌ {A = ℕ} 0 1 = cc in absurd (omega arith)
read_by_scale s S ws b b' (Err f) (reads.reading e is best) = let z : ◌≡◌ {A = ℕ} 0 1 = cc in absurd (omega arith)
read_by_scale s S ws b b' (Err f) (reads.no_command none refused) = let x = refused.0 in (none, (cc))

pub reading_answer : (s : Sheet) (ws list list' : List ℕ) (w p : Reading ℕ) → Best s worst ws list' w → Best s points ws list p → AnswerLine s ws (read_line p.price w.price (take p.length list))
reading_answer s ws list list' w p dear best =
    reading best.derivation dear.derivation best.least dear.least
    (ap (λ k. read_line k w.price (take p.length list)) best.costs
    ∙ ap (λ k. read_line (price (rules_of s) points best.derivation.0) k (take p.length list)) dear.costs
    ∙ ap (λ k. read_line (price (rules_of s) points best.derivation.0) (price (rules_of s) worst dear.derivation.0) k) best.written)

module _ (s : Sheet) (message : List ℕ) (heard_of : Meaning) (given : (length message ≤ 512) × (heard_of ≡ piled s message)) where
  told_reply : (line : List ℕ) (n : ℕ) (vs : List ℕ) (m : Meaning) → HeardOut s (piled s message) (Ok n) vs m → AnswerLine s vs line → Reply s message line
  told_reply line n vs m heard (no_command none e) = replies.no_command given.0 n vs m heard none e
  told_reply line n vs m heard (reading p w lp lw e) = replies.reading given.0 n vs m heard p w lp lw e

  -- all was heard, and the words were answered
  pub answer_reply : (line : List ℕ) (n : ℕ) (vs : List ℕ) (m : Meaning) → HeardOut s heard_of (Ok n) vs m → AnswerLine s vs line → Reply s message line
  answer_reply line n vs m heard a = told_reply line n vs m (subst (λ x. HeardOut s x (Ok n) vs m) given.1 heard) a

  -- the hearing stopped
  pub stopped_reply : (f : Fault) (vs : List ℕ) (m : Meaning) → HeardOut s heard_of (Err (told f)) vs m → Reply s message (refused_line (told f).number (told f).place)
  stopped_reply f vs m heard = replies.stopped given.0 (told f) vs m (subst (λ x. HeardOut s x (Err (told f)) vs m) given.1 heard) refl
