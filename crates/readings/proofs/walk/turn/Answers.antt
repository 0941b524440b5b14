use Rattle.std.proofs.Common.{◌≡◌, suc, ◌+◌, ◌-◌, ◌<◌, length, set, get_or, refl, ap, arith, length-take, drop_of_length-le}
use Rattle.grammar.specs.declared.Symbol.TheVariants.{Name, Word}
use Rattle.grammar.specs.Grammar.{right}
use Rattle.readings.specs.Prices.{nth}
use Rattle.readings.proofs.Cuts.{named, counted_from}
use Rattle.readings.proofs.Turns.{top_facts, next_facts, some_left, turn_leave, turn_word, turn_none, turn_some, none_room, some_room, some_listed, longer_one, taken_one, length_right, turned_as}
use Rattle.readings.proofs.walk.turn.Goals as goal

pub returns-then-d-right-clause-turned : goal.returns-then-d-right-clause-turned
returns-then-d-right-clause-turned g c =
    let e : c.args.at.height ≡ suc (c.args.at.height - 1) = omega arith in
    turn_leave g.met.S.Scale.lawful c.requires.recorded e c.from-i.ensures c.requires.stage c.rank_of-k.ensures c.rule_of.ensures (drop_of_length-le (right (nth c.args.rules.list.now c.rule_of.result)) c.if-d-right.true)

pub find_end-to-requires : goal.find_end-to-requires
find_end-to-requires g c =
    let e : c.args.at.height ≡ suc (c.args.at.height - 1) = omega arith in
    let t = top_facts g.met.S.Scale.lawful c.requires.recorded e c.from-i.ensures c.requires.stage c.rank_of-k.ensures c.rule_of.ensures in
    (omega arith, ((omega arith, omega arith, some_left (right (nth c.args.rules.list.now c.rule_of.result)) c.from-i.result.d c.if-d-right.false), counted_from (nth c.args.rules.list.now c.rule_of.result) (c.args.rules.formed c.rule_of.result t.4) c.from-i.result.d))

pub invariant_of-from : goal.invariant_of-from
invariant_of-from g c =
    let e : c.args.at.height ≡ suc (c.args.at.height - 1) = omega arith in
    let t = top_facts g.met.S.Scale.lawful c.requires.recorded e c.from-i.ensures c.requires.stage c.rank_of-k.ensures c.rule_of.ensures in
    let p = c.args.rules.formed c.rule_of.result t.4 in
    let s = length_right _ (nth c.args.rules.list.now c.rule_of.result).symbols p.1 in
    let n = next_facts g.met.S.Scale.lawful c.requires.recorded e c.from-i.ensures c.requires.stage c.rank_of-k.ensures c.rule_of.ensures (get_or (right (nth c.args.rules.list.now c.rule_of.result)) c.from-i.result.d (Name 0)) c.find_end-to.result c.if-d-right.false refl c.find_end-to.ensures in
    record { fits = (omega arith, omega arith, omega arith, omega arith, omega (arith, n.3)) }

pub offset_bounds-stack-top-2 : goal.offset_bounds-stack-top-2
offset_bounds-stack-top-2 g c =
    let e : c.args.at.height ≡ suc (c.args.at.height - 1) = omega arith in
    let t = top_facts g.met.S.Scale.lawful c.requires.recorded e c.from-i.ensures c.requires.stage c.rank_of-k.ensures c.rule_of.ensures in
    omega arith

pub bounds-stack-top-2 : goal.bounds-stack-top-2
bounds-stack-top-2 g c =
    let e : c.args.at.height ≡ suc (c.args.at.height - 1) = omega arith in
    let t = top_facts g.met.S.Scale.lawful c.requires.recorded e c.from-i.ensures c.requires.stage c.rank_of-k.ensures c.rule_of.ensures in
    omega arith

pub bounds-list-at : goal.bounds-list-at
bounds-list-at g c =
    let e : c.args.at.height ≡ suc (c.args.at.height - 1) = omega arith in
    let t = top_facts g.met.S.Scale.lawful c.requires.recorded e c.from-i.ensures c.requires.stage c.rank_of-k.ensures c.rule_of.ensures in
    let p = c.args.rules.formed c.rule_of.result t.4 in
    let s = length_right _ (nth c.args.rules.list.now c.rule_of.result).symbols p.1 in
    let n = next_facts g.met.S.Scale.lawful c.requires.recorded e c.from-i.ensures c.requires.stage c.rank_of-k.ensures c.rule_of.ensures (Name c.in-Name.field-0) c.find_end-to.result c.if-d-right.false c.in-Name.is c.find_end-to.ensures in
    let f = none_room g.met.S.Scale.lawful c.requires.recorded e c.from-i.ensures c.requires.stage c.rank_of-k.ensures c.rule_of.ensures c.find_end-to.result (omega arith) (omega arith) (omega arith) c.in-Name.field-0 n.0 n.1 c.if-to-m.true in
    omega (arith, length-take c.args.at.written c.args.list.now)

pub invariant_of-below : goal.invariant_of-below
invariant_of-below g c =
    let e : c.args.at.height ≡ suc (c.args.at.height - 1) = omega arith in
    let t = top_facts g.met.S.Scale.lawful c.requires.recorded e c.from-i.ensures c.requires.stage c.rank_of-k.ensures c.rule_of.ensures in
    let p = c.args.rules.formed c.rule_of.result t.4 in
    let s = length_right _ (nth c.args.rules.list.now c.rule_of.result).symbols p.1 in
    let n = next_facts g.met.S.Scale.lawful c.requires.recorded e c.from-i.ensures c.requires.stage c.rank_of-k.ensures c.rule_of.ensures (Name c.in-Name-2.b) c.find_end-to.result c.if-d-right.false c.in-Name-2.is c.find_end-to.ensures in
    record { ordered = n.2; within = omega (arith, n.3) }

pub bounds-list-at-in-Name-2 : goal.bounds-list-at-in-Name-2
bounds-list-at-in-Name-2 g c =
    let e : c.args.at.height ≡ suc (c.args.at.height - 1) = omega arith in
    let t = top_facts g.met.S.Scale.lawful c.requires.recorded e c.from-i.ensures c.requires.stage c.rank_of-k.ensures c.rule_of.ensures in
    let p = c.args.rules.formed c.rule_of.result t.4 in
    let s = length_right _ (nth c.args.rules.list.now c.rule_of.result).symbols p.1 in
    let n = next_facts g.met.S.Scale.lawful c.requires.recorded e c.from-i.ensures c.requires.stage c.rank_of-k.ensures c.rule_of.ensures (Name c.in-Name-2.b) c.find_end-to.result c.if-d-right.false c.in-Name-2.is c.find_end-to.ensures in
    let b = named (nth c.args.rules.list.now c.rule_of.result) p c.from-i.result.d c.in-Name-2.b c.if-d-right.false c.in-Name-2.is in
    let v = some_listed g.met.S.Scale.lawful c.requires.recorded e c.from-i.ensures c.requires.stage c.rank_of-k.ensures c.rule_of.ensures c.find_end-to.result (omega arith) (omega arith) (omega arith) c.in-Name-2.b n.0 n.1 in
    let z = length_right _ (nth c.args.rules.list.now _).symbols (c.args.rules.formed _ v).1 in
    let f = some_room g.met.S.Scale.lawful c.requires.recorded e c.from-i.ensures c.requires.stage c.rank_of-k.ensures c.rule_of.ensures c.find_end-to.result (omega arith) (omega arith) (omega arith) c.in-Name-2.b n.0 n.1 (omega (arith, c.if-to-m.false)) z in
    omega (arith, length-take c.args.at.written c.args.list.now)

pub offset_bounds-stack-at : goal.offset_bounds-stack-at
offset_bounds-stack-at g c =
    let e : c.args.at.height ≡ suc (c.args.at.height - 1) = omega arith in
    let t = top_facts g.met.S.Scale.lawful c.requires.recorded e c.from-i.ensures c.requires.stage c.rank_of-k.ensures c.rule_of.ensures in
    omega arith

pub bounds-stack-at : goal.bounds-stack-at
bounds-stack-at g c =
    let e : c.args.at.height ≡ suc (c.args.at.height - 1) = omega arith in
    let t = top_facts g.met.S.Scale.lawful c.requires.recorded e c.from-i.ensures c.requires.stage c.rank_of-k.ensures c.rule_of.ensures in
    let p = c.args.rules.formed c.rule_of.result t.4 in
    let s = length_right _ (nth c.args.rules.list.now c.rule_of.result).symbols p.1 in
    let n = next_facts g.met.S.Scale.lawful c.requires.recorded e c.from-i.ensures c.requires.stage c.rank_of-k.ensures c.rule_of.ensures (Name c.in-Name-2.b) c.find_end-to.result c.if-d-right.false c.in-Name-2.is c.find_end-to.ensures in
    let b = named (nth c.args.rules.list.now c.rule_of.result) p c.from-i.result.d c.in-Name-2.b c.if-d-right.false c.in-Name-2.is in
    let v = some_listed g.met.S.Scale.lawful c.requires.recorded e c.from-i.ensures c.requires.stage c.rank_of-k.ensures c.rule_of.ensures c.find_end-to.result (omega arith) (omega arith) (omega arith) c.in-Name-2.b n.0 n.1 in
    let z = length_right _ (nth c.args.rules.list.now _).symbols (c.args.rules.formed _ v).1 in
    let f = some_room g.met.S.Scale.lawful c.requires.recorded e c.from-i.ensures c.requires.stage c.rank_of-k.ensures c.rule_of.ensures c.find_end-to.result (omega arith) (omega arith) (omega arith) c.in-Name-2.b n.0 n.1 (omega (arith, c.if-to-m.false)) z in
    f.1

pub overflow_add-at-in-Name-2 : goal.overflow_add-at-in-Name-2
overflow_add-at-in-Name-2 g c =
    let e : c.args.at.height ≡ suc (c.args.at.height - 1) = omega arith in
    let t = top_facts g.met.S.Scale.lawful c.requires.recorded e c.from-i.ensures c.requires.stage c.rank_of-k.ensures c.rule_of.ensures in
    omega arith

pub returns-in-Word-clause-turned : goal.returns-in-Word-clause-turned
returns-in-Word-clause-turned g c =
    let e : c.args.at.height ≡ suc (c.args.at.height - 1) = omega arith in
    let t = top_facts g.met.S.Scale.lawful c.requires.recorded e c.from-i.ensures c.requires.stage c.rank_of-k.ensures c.rule_of.ensures in
    let p = c.args.rules.formed c.rule_of.result t.4 in
    let s = length_right _ (nth c.args.rules.list.now c.rule_of.result).symbols p.1 in
    let n = next_facts g.met.S.Scale.lawful c.requires.recorded e c.from-i.ensures c.requires.stage c.rank_of-k.ensures c.rule_of.ensures (Word c.in-Word.field-0) c.find_end-to.result c.if-d-right.false c.in-Word.is c.find_end-to.ensures in
    turned_as (ap (set c.args.stack.now (c.args.at.height - 1)) c.from.ensures) refl (turn_word g.met.S.Scale.lawful c.requires.recorded e c.from-i.ensures c.requires.stage c.rank_of-k.ensures c.rule_of.ensures c.find_end-to.result (omega arith) (omega arith) (omega arith) _ n.0 n.1)

pub returns-in-Name-clause-turned : goal.returns-in-Name-clause-turned
returns-in-Name-clause-turned g c =
    let e : c.args.at.height ≡ suc (c.args.at.height - 1) = omega arith in
    let t = top_facts g.met.S.Scale.lawful c.requires.recorded e c.from-i.ensures c.requires.stage c.rank_of-k.ensures c.rule_of.ensures in
    let p = c.args.rules.formed c.rule_of.result t.4 in
    let s = length_right _ (nth c.args.rules.list.now c.rule_of.result).symbols p.1 in
    let n = next_facts g.met.S.Scale.lawful c.requires.recorded e c.from-i.ensures c.requires.stage c.rank_of-k.ensures c.rule_of.ensures (Name c.in-Name.field-0) c.find_end-to.result c.if-d-right.false c.in-Name.is c.find_end-to.ensures in
    let f = none_room g.met.S.Scale.lawful c.requires.recorded e c.from-i.ensures c.requires.stage c.rank_of-k.ensures c.rule_of.ensures c.find_end-to.result (omega arith) (omega arith) (omega arith) c.in-Name.field-0 n.0 n.1 c.if-to-m.true in
    let y : c.args.at.written < length c.args.list.now = omega (arith, length-take c.args.at.written c.args.list.now) in
    turned_as (ap (set c.args.stack.now (c.args.at.height - 1)) c.from.ensures) (taken_one c.args.list.now c.args.at.written 0 y) (turn_none g.met.S.Scale.lawful c.requires.recorded e c.from-i.ensures c.requires.stage c.rank_of-k.ensures c.rule_of.ensures c.find_end-to.result (omega arith) (omega arith) (omega arith) c.in-Name.field-0 n.0 n.1 c.if-to-m.true)

pub returns-in-Name-clause-longer : goal.returns-in-Name-clause-longer
returns-in-Name-clause-longer g c =
    let e : c.args.at.height ≡ suc (c.args.at.height - 1) = omega arith in
    let t = top_facts g.met.S.Scale.lawful c.requires.recorded e c.from-i.ensures c.requires.stage c.rank_of-k.ensures c.rule_of.ensures in
    let p = c.args.rules.formed c.rule_of.result t.4 in
    let s = length_right _ (nth c.args.rules.list.now c.rule_of.result).symbols p.1 in
    let n = next_facts g.met.S.Scale.lawful c.requires.recorded e c.from-i.ensures c.requires.stage c.rank_of-k.ensures c.rule_of.ensures (Name c.in-Name.field-0) c.find_end-to.result c.if-d-right.false c.in-Name.is c.find_end-to.ensures in
    let f = none_room g.met.S.Scale.lawful c.requires.recorded e c.from-i.ensures c.requires.stage c.rank_of-k.ensures c.rule_of.ensures c.find_end-to.result (omega arith) (omega arith) (omega arith) c.in-Name.field-0 n.0 n.1 c.if-to-m.true in
    longer_one c.args.list.now c.args.at.written 0 (omega (arith, length-take c.args.at.written c.args.list.now))

pub returns-in-Name-2-clause-turned : goal.returns-in-Name-2-clause-turned
returns-in-Name-2-clause-turned g c =
    let e : c.args.at.height ≡ suc (c.args.at.height - 1) = omega arith in
    let t = top_facts g.met.S.Scale.lawful c.requires.recorded e c.from-i.ensures c.requires.stage c.rank_of-k.ensures c.rule_of.ensures in
    let p = c.args.rules.formed c.rule_of.result t.4 in
    let s = length_right _ (nth c.args.rules.list.now c.rule_of.result).symbols p.1 in
    let n = next_facts g.met.S.Scale.lawful c.requires.recorded e c.from-i.ensures c.requires.stage c.rank_of-k.ensures c.rule_of.ensures (Name c.in-Name-2.b) c.find_end-to.result c.if-d-right.false c.in-Name-2.is c.find_end-to.ensures in
    let b = named (nth c.args.rules.list.now c.rule_of.result) p c.from-i.result.d c.in-Name-2.b c.if-d-right.false c.in-Name-2.is in
    let v = some_listed g.met.S.Scale.lawful c.requires.recorded e c.from-i.ensures c.requires.stage c.rank_of-k.ensures c.rule_of.ensures c.find_end-to.result (omega arith) (omega arith) (omega arith) c.in-Name-2.b n.0 n.1 in
    let z = length_right _ (nth c.args.rules.list.now _).symbols (c.args.rules.formed _ v).1 in
    let f = some_room g.met.S.Scale.lawful c.requires.recorded e c.from-i.ensures c.requires.stage c.rank_of-k.ensures c.rule_of.ensures c.find_end-to.result (omega arith) (omega arith) (omega arith) c.in-Name-2.b n.0 n.1 (omega (arith, c.if-to-m.false)) z in
    let y : c.args.at.written < length c.args.list.now = omega (arith, length-take c.args.at.written c.args.list.now) in
    turned_as (rw (c.from.ensures, c.from-in-Name-2.ensures) refl) (taken_one c.args.list.now c.args.at.written (c.rule_of-in-Name-2.result + 1) y)
    (turn_some g.met.S.Scale.lawful c.requires.recorded e c.from-i.ensures c.requires.stage c.rank_of-k.ensures c.rule_of.ensures c.find_end-to.result (omega arith) (omega arith) (omega arith) c.in-Name-2.b n.0 n.1 (omega (arith, c.if-to-m.false)) z c.rule_of-in-Name-2.result c.rule_of-in-Name-2.ensures (omega arith) b)

pub returns-in-Name-2-clause-longer : goal.returns-in-Name-2-clause-longer
returns-in-Name-2-clause-longer g c =
    let e : c.args.at.height ≡ suc (c.args.at.height - 1) = omega arith in
    let t = top_facts g.met.S.Scale.lawful c.requires.recorded e c.from-i.ensures c.requires.stage c.rank_of-k.ensures c.rule_of.ensures in
    let p = c.args.rules.formed c.rule_of.result t.4 in
    let s = length_right _ (nth c.args.rules.list.now c.rule_of.result).symbols p.1 in
    let n = next_facts g.met.S.Scale.lawful c.requires.recorded e c.from-i.ensures c.requires.stage c.rank_of-k.ensures c.rule_of.ensures (Name c.in-Name-2.b) c.find_end-to.result c.if-d-right.false c.in-Name-2.is c.find_end-to.ensures in
    let b = named (nth c.args.rules.list.now c.rule_of.result) p c.from-i.result.d c.in-Name-2.b c.if-d-right.false c.in-Name-2.is in
    let v = some_listed g.met.S.Scale.lawful c.requires.recorded e c.from-i.ensures c.requires.stage c.rank_of-k.ensures c.rule_of.ensures c.find_end-to.result (omega arith) (omega arith) (omega arith) c.in-Name-2.b n.0 n.1 in
    let z = length_right _ (nth c.args.rules.list.now _).symbols (c.args.rules.formed _ v).1 in
    let f = some_room g.met.S.Scale.lawful c.requires.recorded e c.from-i.ensures c.requires.stage c.rank_of-k.ensures c.rule_of.ensures c.find_end-to.result (omega arith) (omega arith) (omega arith) c.in-Name-2.b n.0 n.1 (omega (arith, c.if-to-m.false)) z in
    longer_one c.args.list.now c.args.at.written (c.rule_of-in-Name-2.result + 1) (omega (arith, length-take c.args.at.written c.args.list.now))
