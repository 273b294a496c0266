use Rattle.std.proofs.Common.{◌++◌, sym, ap, ◌∙◌, subst, append_assoc, flat_map}
use Rattle.std.specs.Prelude.{None}
use Rattle.ipg_mach_nodes.specs.Stored.{StandsTree}
use Rattle.ipg_tree_walk.specs.Left.{Shows}
use Rattle.ipg_tree_walk.specs.Parse.{Parse}
use Rattle.ipg_tree_walk.specs.Visits.{visits}
use Rattle.ipg_tree_view.specs.Bare.{runs}
use Rattle.ipg_tree.specs.Shares.{Shares}
use Rattle.ipg_tree_view.specs.View.{view_by, seen_view, gap_view}
use Rattle.ipg_tree.specs.Putting.{begun, next, exits, ended, as_left, as_text}
use Rattle.ipg_tree.specs.Behind.{began, ended_at}
use Rattle.ipg_tree_view.proofs.view.print_view.Goals as goal

pub loop-visit-init : goal.loop-visit-init
loop-visit-init g c = record {
  parse = c.rewind.ensures.parse;
  so_far = λ src grammar one is.
      let stands = subst (λ q. StandsTree src q.store 0 q.root one) (sym c.rewind.ensures.parse) is.stands in
      (visits one, c.rewind.ensures.left src one stands, begun (view_by grammar c.args.p.now.parse.input one c.args.bare.now) _ _);
}

pub loop-visit-preserved : goal.loop-visit-preserved
loop-visit-preserved g c = record {
  parse = c.in-Some.ensures.parse ∙ c.loop-visit.invariant.parse;
  so_far = λ src grammar one is.
      let here = c.loop-visit.invariant.so_far src grammar one is in
      let b = began src c.loop-visit.p c.next.new.self c.in-Some.visit here.0 (c.in-Some.ensures.end src) (c.in-Some.ensures.more src) here.1 in
      let same = c.in-Some.ensures.parse ∙ c.loop-visit.invariant.parse in
      let shares = subst (λ q. Shares q src grammar) (sym same) is.shares in
      let shows = subst (λ q. Shows src q.store c.in-Some.visit b.first) (sym c.in-Some.ensures.parse) b.shows in
      let input = c.args.p.now.parse.input in
      let rest = flat_map (seen_view grammar input) b.more in
      let gaps = flat_map (gap_view input) (runs 0 None c.args.bare.now) in
      let is_text = ap (λ left. flat_map (seen_view grammar input) left ++ gaps) b.is ∙ append_assoc (seen_view grammar input b.first) rest gaps
      ∙ ap (λ (q : Parse). seen_view grammar q.input b.first ++ (rest ++ gaps)) (sym same) in
      (b.more, b.behind, next is_text here.2 (c.in_ok-put_visit.ensures src grammar b.first shares shows));
}

pub returns-in_err-put_visit-clause-view : goal.returns-in_err-put_visit-clause-view
returns-in_err-put_visit-clause-view g c src grammar one is =
    let here = c.loop-visit.invariant.so_far src grammar one is in
    let b = began src c.loop-visit.p c.next.new.self c.in-Some.visit here.0 (c.in-Some.ensures.end src) (c.in-Some.ensures.more src) here.1 in
    let same = c.in-Some.ensures.parse ∙ c.loop-visit.invariant.parse in
    let shares = subst (λ q. Shares q src grammar) (sym same) is.shares in
    let shows = subst (λ q. Shows src q.store c.in-Some.visit b.first) (sym c.in-Some.ensures.parse) b.shows in
    let input = c.args.p.now.parse.input in
    let rest = flat_map (seen_view grammar input) b.more in
    let gaps = flat_map (gap_view input) (runs 0 None c.args.bare.now) in
    let is_text = ap (λ left. flat_map (seen_view grammar input) left ++ gaps) b.is ∙ append_assoc (seen_view grammar input b.first) rest gaps
    ∙ ap (λ (q : Parse). seen_view grammar q.input b.first ++ (rest ++ gaps)) (sym same) in
    exits _ c.from_residual.result c.from_residual.ensures.1 _ is_text here.2 (c.in_err-put_visit.ensures src grammar b.first shares shows)

pub returns-clause-view : goal.returns-clause-view
returns-clause-view g c src grammar one is =
    let here = c.loop-visit.invariant.so_far src grammar one is in
    let none = ended_at src c.loop-visit.p c.next.new.self here.0 (c.in_default.ensures.more src) here.1 in
    let input = c.args.p.now.parse.input in
    let gaps = flat_map (gap_view input) (runs 0 None c.args.bare.now) in
    let same = c.in_default.ensures.parse ∙ c.loop-visit.invariant.parse in
    ended c.put_gaps.result _ _ (as_left (ap (λ left. flat_map (seen_view grammar input) left ++ gaps) none) here.2)
    (as_text c.put_gaps.result _ _ _ _ _ _ (ap (λ (q : Parse). flat_map (gap_view q.input) (runs 0 None c.args.bare.now)) same) c.put_gaps.ensures)
