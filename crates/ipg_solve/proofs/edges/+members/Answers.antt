use Rattle.std.proofs.Common.{◌≡◌, ◌++◌, ap, sym, subst, ◌∙◌}
use Rattle.std.specs.Prelude.{OnOk}
use Rattle.std.specs.List.{flat_map, AllByRecursion}
use Rattle.ipg_cert.specs.Facts.{facts_of}
use Rattle.ipg_cert.specs.Told.{facts_of-All}
use Rattle.ipg_solve.specs.Edges.{edges_in, IsSized}
use Rattle.ipg_solve.proofs.edges.+members.Goals as goal

pub put_edges-returns-in-All-clause-edges : goal.put_edges-returns-in-All-clause-edges
put_edges-returns-in-All-clause-edges t c =
    subst (λ facts. OnOk c.put_members.result (c.put_members.new.edges.items ≡ c.args.edges.now.items ++ edges_in facts))
    (ap (flat_map facts_of) c.as_slice.ensures ∙ sym (ap facts_of c.in-All.is ∙ facts_of-All c.in-All.members)) c.put_members.ensures.edges

pub put_edges-returns-in-All-clause-sized : goal.put_edges-returns-in-All-clause-sized
put_edges-returns-in-All-clause-sized t c =
    subst (λ facts. OnOk c.put_members.result (AllByRecursion IsSized facts)) (ap (flat_map facts_of) c.as_slice.ensures
    ∙ sym (ap facts_of c.in-All.is ∙ facts_of-All c.in-All.members)) c.put_members.ensures.sized
