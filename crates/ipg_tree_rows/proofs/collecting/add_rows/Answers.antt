use Rattle.std.proofs.Common.{refl, sym, ◌∙◌, subst}
use Rattle.ipg_mach_nodes.specs.Stored.{StandsTree}
use Rattle.ipg_tree_walk.specs.Left.{Shows}
use Rattle.ipg_tree_rows.specs.Sees.{IsSource}
use Rattle.ipg_tree_rows.proofs.Seeing.{begin, visited, all_seen}
use Rattle.ipg_tree_rows.proofs.collecting.add_rows.Goals as goal

pub loop-visit-init : goal.loop-visit-init
loop-visit-init g c = record {
  parse = c.rewind.ensures.parse;
  so_far = λ src one is.
      let stands = subst (λ q. StandsTree src q.store 0 q.root one) (sym c.rewind.ensures.parse) is.stands in
      begin src c.rewind.new.self _ _ one (c.rewind.ensures.left src one stands) refl;
}

pub loop-visit-preserved : goal.loop-visit-preserved
loop-visit-preserved g c = record {
  parse = c.in-Some.ensures.parse ∙ c.loop-visit.invariant.parse;
  so_far = λ src one is.
      let here = visited src c.loop-visit.p c.next.new.self _ _ _ c.in-Some.visit (c.in-Some.ensures.end src) (c.in-Some.ensures.more src)
      (c.loop-visit.invariant.so_far src one is) in
      let source = subst (λ q. IsSource q src) (sym (c.in-Some.ensures.parse ∙ c.loop-visit.invariant.parse)) is.source in
      let shows = subst (λ q. Shows src q.store c.in-Some.visit here.first) (sym c.in-Some.ensures.parse) here.shows in
      here.behind _ (c.in_ok-add_visit.ensures src here.first source shows);
}

pub returns-clause-rows : goal.returns-clause-rows
returns-clause-rows g c src one is =
    all_seen src c.loop-visit.p c.next.new.self _ _ _ (c.in_default.ensures.more src) (c.loop-visit.invariant.so_far src one is)
