use Rattle.std.proofs.Common.{sym, ap, ◌∙◌}
use Rattle.ipg_tree_walk.proofs.First.{at_first}
use Rattle.ipg_tree_walk.proofs.parsed.Parsed.next.Goals as goal

pub returns-then-self-clause-more : goal.returns-then-self-clause-more
returns-then-self-clause-more g c src one more h =
    let root = at_first src c.args.self.now _ (sym (ap (λ p. p.is_ahead) c.self.view_is) ∙ c.if-self.true) h in
    c.begin.ensures.left src root.0 one more root.1 root.2
