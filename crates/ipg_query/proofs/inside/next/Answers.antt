use Rattle.std.proofs.Common.{◌≤◌, [], ◌∷◌, arith, refl, sym, ap, ◌∙◌, subst}
use Rattle.std.proofs.lemmas.List.{nil_from_length}
use Rattle.ipg_tree_walk.specs.Falls.{fewer_around}
use Rattle.ipg_query.specs.Inside.{Lot, lot_of, left_of, Leave, steps}
use Rattle.ipg_query.proofs.Walking.{nothing_next, something_left, parted}
use Rattle.ipg_query.proofs.inside.next.Goals as goal

pub returns-in-Some-split_first-clause-ends : goal.returns-in-Some-split_first-clause-ends
returns-in-Some-split_first-clause-ends g c =
    let is = c.in-Some.ensures.1 in
    let less = c.go_on.ensures.ends (lot_of c.in-Some.level) c.in-Some.ensures.0 is c.in-Some-split_first.ensures.cases.0 in
    let all = ap (steps c.loop-level.walk.room) is in
    let so_far = c.loop-level.invariant.ends in
    omega (arith, less, all, so_far)

pub returns-in-Some-split_first-clause-end : goal.returns-in-Some-split_first-clause-end
returns-in-Some-split_first-clause-end g c src h =
    let rest : Lot = record { rows = c.in-Some-split_first.rows.now; at = c.in-Some.level.at; size = c.in-Some.level.size } in
    let around = c.in-Some.ensures.0 in
    let begins = c.in-Some-split_first.ensures.cases.0 in
    let is = c.in-Some.ensures.1 ∙ ap (λ rows. record { rows = rows; at = rest.at; size = rest.size } ∷ around) begins in
    absurd (something_left src c.args.p.now.parse.store c.loop-level.walk.room c.in-Some.ensures.0 rest c.in-Some-split_first.kid.now
    (subst (λ levels. Leave src c.args.p.now.parse.store c.loop-level.walk.room levels []) is (c.loop-level.invariant.left src _ h)))

pub returns-in-Some-split_first-clause-more : goal.returns-in-Some-split_first-clause-more
returns-in-Some-split_first-clause-more g c src one more h =
    let level = lot_of c.in-Some.level in
    c.go_on.ensures.visited src level c.in-Some.ensures.0 one more c.in-Some.ensures.1
    (ap (λ rows. record { rows = rows; at = level.at; size = level.size }) c.in-Some-split_first.ensures.cases.0)
    (parted src c.args.p.now.parse.store _ _ _ _ _ _ refl c.in-Some.ensures.1 (c.loop-level.invariant.left src _ h))

pub loop-level-preserved : goal.loop-level-preserved
loop-level-preserved g c =
    let is = c.in-Some.ensures.1 in
    let gone = c.leave.ensures.left (lot_of c.in-Some.level) c.in-Some.ensures.0 is in
    let none = nil_from_length c.in-Some.level.rows.now c.in_default-split_first.ensures.cases in
    record {
      room = c.leave.ensures.room ∙ c.loop-level.invariant.room;
      ends =
          subst (λ levels. steps c.leave.new.self.room levels ≤ steps c.args.walk.now.room c.args.walk.now.levels) (sym gone)
          (fewer_around left_of _ _ _ _ (lot_of c.in-Some.level) _ c.leave.ensures.room is c.loop-level.invariant.ends);
      left = λ src left h.
          subst (λ levels. Leave src c.args.p.now.parse.store c.leave.new.self.room levels left) (sym gone)
          (nothing_next src c.args.p.now.parse.store _ _ (lot_of c.in-Some.level) left none
          (parted src c.args.p.now.parse.store _ _ _ _ _ left c.leave.ensures.room is (c.loop-level.invariant.left src left h)));
    }
