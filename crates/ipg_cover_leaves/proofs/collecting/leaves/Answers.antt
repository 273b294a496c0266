use Rattle.std.proofs.Common.{sym, ◌∙◌, subst}
use Rattle.ipg_mach_nodes.specs.Stored.{StandsTree}
use Rattle.ipg_tree_walk.specs.Left.{Shows}
use Rattle.ipg_cover_leaves.specs.Leaves.{IsSource}
use Rattle.ipg_cover_leaves.proofs.Seeing.{begin, visited, all_seen}
use Rattle.ipg_cover_leaves.proofs.collecting.leaves.Goals as goal

pub loop-visit-init : goal.loop-visit-init
loop-visit-init g c = record {
  parse = c.rewind.ensures.parse;
  so_far = λ src one is.
      let stands = subst (λ q. StandsTree src q.store 0 q.root one) (sym c.rewind.ensures.parse) is.stands in
      begin src c.rewind.new.self _ _ one is (c.rewind.ensures.left src one stands) c.new-leaves.ensures.items;
}

pub loop-visit-preserved : goal.loop-visit-preserved
loop-visit-preserved g c = record {
  parse = c.in-Some.ensures.parse ∙ c.loop-visit.invariant.parse;
  so_far = λ src one is.
      let here = visited src c.loop-visit.p c.next.new.self _ _ c.in-Some.visit (c.in-Some.ensures.end src) (c.in-Some.ensures.more src)
      (c.loop-visit.invariant.so_far src one is) in
      let source = subst (λ q. IsSource q src) (sym (c.in-Some.ensures.parse ∙ c.loop-visit.invariant.parse)) is.source in
      let shows = subst (λ q. Shows src q.store c.in-Some.visit here.first) (sym c.in-Some.ensures.parse) here.shows in
      here.behind _ (c.in_ok-push_leaf.ensures src here.first source shows here.near);
}

pub returns-clause-leaves : goal.returns-clause-leaves
returns-clause-leaves g c src one is =
    all_seen src c.loop-visit.p c.next.new.self _ _ (c.in_default.ensures.more src) (c.loop-visit.invariant.so_far src one is)
