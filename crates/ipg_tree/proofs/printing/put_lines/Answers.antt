use Rattle.std.proofs.Common.{sym, ap, ◌∙◌, subst}
use Rattle.ipg_mach_nodes.specs.Stored.{StandsTree}
use Rattle.ipg_tree_walk.specs.Left.{Shows}
use Rattle.ipg_tree_walk.specs.Visits.{visits}
use Rattle.ipg_tree.specs.Line.{lines_of}
use Rattle.ipg_tree.specs.Shares.{Shares}
use Rattle.ipg_tree.specs.Putting.{next, exits, all_put}
use Rattle.ipg_tree.specs.Behind.{began, ended_at}
use Rattle.ipg_tree.proofs.Visited.{starts}
use Rattle.ipg_tree.proofs.printing.put_lines.Goals as goal

pub loop-visit-init : goal.loop-visit-init
loop-visit-init g c = record {
  parse = c.rewind.ensures.parse;
  so_far = λ src grammar one is.
      let stands = subst (λ q. StandsTree src q.store 0 q.root one) (sym c.rewind.ensures.parse) is.stands in
      (visits one, c.rewind.ensures.left src one stands, starts grammar one _ _);
}

pub loop-visit-preserved : goal.loop-visit-preserved
loop-visit-preserved g c = record {
  parse = c.in-Some.ensures.parse ∙ c.loop-visit.invariant.parse;
  so_far = λ src grammar one is.
      let here = c.loop-visit.invariant.so_far src grammar one is in
      let b = began src c.loop-visit.p c.next.new.self c.in-Some.visit here.0 (c.in-Some.ensures.end src) (c.in-Some.ensures.more src) here.1 in
      let shares = subst (λ q. Shares q src grammar) (sym (c.in-Some.ensures.parse ∙ c.loop-visit.invariant.parse)) is.shares in
      let shows = subst (λ q. Shows src q.store c.in-Some.visit b.first) (sym c.in-Some.ensures.parse) b.shows in
      (b.more, b.behind, next (ap (lines_of grammar) b.is) here.2 (c.in_ok-put_visit.ensures src grammar b.first shares shows));
}

pub returns-in_err-put_visit-clause-lines : goal.returns-in_err-put_visit-clause-lines
returns-in_err-put_visit-clause-lines g c src grammar one is =
    let here = c.loop-visit.invariant.so_far src grammar one is in
    let b = began src c.loop-visit.p c.next.new.self c.in-Some.visit here.0 (c.in-Some.ensures.end src) (c.in-Some.ensures.more src) here.1 in
    let shares = subst (λ q. Shares q src grammar) (sym (c.in-Some.ensures.parse ∙ c.loop-visit.invariant.parse)) is.shares in
    let shows = subst (λ q. Shows src q.store c.in-Some.visit b.first) (sym c.in-Some.ensures.parse) b.shows in
    exits _ c.from_residual.result c.from_residual.ensures.1 _ (ap (lines_of grammar) b.is) here.2
    (c.in_err-put_visit.ensures src grammar b.first shares shows)

pub returns-clause-lines : goal.returns-clause-lines
returns-clause-lines g c src grammar one is =
    let here = c.loop-visit.invariant.so_far src grammar one is in
    all_put (ap (lines_of grammar) (ended_at src c.loop-visit.p c.next.new.self here.0 (c.in_default.ensures.more src) here.1)) here.2
