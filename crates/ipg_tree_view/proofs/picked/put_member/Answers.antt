use Rattle.std.proofs.Common.{ap, ◌∙◌, flat_map}
use Rattle.ipg_tree_view.specs.Picked.{member_view}
use Rattle.ipg_tree_view.specs.View.{seen_view}
use Rattle.ipg_tree.specs.Putting.{begun, next, exits, all_put}
use Rattle.ipg_tree_view.proofs.Members.{came, all_seen, first_visit, later_visits, visits_are}
use Rattle.ipg_tree_view.proofs.picked.put_member.Goals as goal

pub loop-deep-init : goal.loop-deep-init
loop-deep-init g c = record {
  room = c.begin-first.ensures.room;
  so_far = λ src grammar x shares is fits.
      let f = seen_view grammar c.args.p.now.parse.input in
      let first = c.begin-first.ensures.begun src x (first_visit x) (later_visits x) is fits (visits_are x) in (
        later_visits x,
        first.1,
        next (ap (flat_map f) (visits_are x)) (begun (member_view grammar c.args.p.now.parse.input x) _ _)
            (c.in_ok-put_deep.ensures src grammar (first_visit x) shares first.0),
      );
}

pub returns-in_err-put_deep-clause-member : goal.returns-in_err-put_deep-clause-member
returns-in_err-put_deep-clause-member g c src grammar x shares is fits =
    let f = seen_view grammar c.args.p.now.parse.input in
    let first = c.begin-first.ensures.begun src x (first_visit x) (later_visits x) is fits (visits_are x) in
    exits _ c.from_residual.result c.from_residual.ensures.1 (flat_map f (later_visits x)) (ap (flat_map f) (visits_are x))
    (begun (member_view grammar c.args.p.now.parse.input x) _ _) (c.in_err-put_deep.ensures src grammar (first_visit x) shares first.0)

pub loop-deep-preserved : goal.loop-deep-preserved
loop-deep-preserved g c = record {
  room = c.in-Some.ensures.room ∙ c.loop-deep.invariant.room;
  so_far = λ src grammar x shares is fits.
      let f = seen_view grammar c.args.p.now.parse.input in
      let here = c.loop-deep.invariant.so_far src grammar x shares is fits in
      let b = came src c.args.p.now.parse.store c.loop-deep.walk c.next.new.walk c.in-Some.deep here.0 (c.in-Some.ensures.end src)
      (c.in-Some.ensures.more src) here.1 in
      (b.more, b.leave, next (ap (flat_map f) b.is) here.2 (c.in_ok-put_deep-2.ensures src grammar b.first shares b.is_deep));
}

pub returns-in_err-put_deep-2-clause-member : goal.returns-in_err-put_deep-2-clause-member
returns-in_err-put_deep-2-clause-member g c src grammar x shares is fits =
    let f = seen_view grammar c.args.p.now.parse.input in
    let here = c.loop-deep.invariant.so_far src grammar x shares is fits in
    let b = came src c.args.p.now.parse.store c.loop-deep.walk c.next.new.walk c.in-Some.deep here.0 (c.in-Some.ensures.end src)
    (c.in-Some.ensures.more src) here.1 in
    exits _ c.from_residual-in_err-put_deep-2.result c.from_residual-in_err-put_deep-2.ensures.1 (flat_map f b.more) (ap (flat_map f) b.is) here.2
    (c.in_err-put_deep-2.ensures src grammar b.first shares b.is_deep)

pub returns-clause-member : goal.returns-clause-member
returns-clause-member g c src grammar x shares is fits =
    let f = seen_view grammar c.args.p.now.parse.input in
    let here = c.loop-deep.invariant.so_far src grammar x shares is fits in
    let none = all_seen src c.args.p.now.parse.store c.loop-deep.walk c.next.new.walk here.0 (c.in_default.ensures.more src) here.1 in
    all_put (ap (flat_map f) none) here.2
