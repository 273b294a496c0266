use Rattle.std.proofs.Common.{sym, ap, subst}
use Rattle.ipg_tree.specs.Puts.{Puts, Whole}
use Rattle.ipg_app_tree.specs.Editing.{tree_of}
use Rattle.ipg_app_tree.proofs.Behind.{both, cut}
use Rattle.ipg_app_tree.proofs.Hits.{exits}
use Rattle.ipg_app_tree.proofs.editing.put.Goals as goal

pub returns-in_err-write : goal.returns-in_err-write
returns-in_err-write g c grammar answer stand shown =
    exits _ c.from_residual.result c.from_residual.ensures.1 _ _ _ _ _
    (cut c.args.told.now.lines.items (tree_of grammar answer) _ _ _ _ (rw c.deref.ensures.value at c.in_err-write.ensures.broken)
    c.in_err-write.ensures.failed c.in_err-write.ensures.counts)

pub returns-in-Tree : goal.returns-in-Tree
returns-in-Tree g c grammar answer stand shown =
    let is = rw c.in-Tree.is at shown in
    let lines = c.args.told.now.lines.items in
    let whole : Whole lines (g.S.Sink.output c.args.out.now) (g.S.Sink.faults c.args.out.now) (g.S.Sink.output c.write.new.self)
    (g.S.Sink.faults c.write.new.self) =
    record { told = rw c.deref.ensures.value at c.in_ok-write.ensures.taken; counts = c.in_ok-write.ensures.counts } in
    both lines (tree_of grammar answer) _ _ _ _ whole _ _ c.print.result
    (subst
    (λ t. Puts c.print.result t (g.S.Sink.output c.write.new.self) (g.S.Sink.faults c.write.new.self) (g.S.Sink.output c.print.new.out)
    (g.S.Sink.faults c.print.new.out)) (sym (ap (tree_of grammar) is.1)) (c.print.ensures.lines grammar is.0 stand is.2))
