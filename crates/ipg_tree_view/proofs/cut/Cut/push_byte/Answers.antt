use Rattle.std.proofs.Common.{arith, ◌∙◌, take, ◌≤◌}
use Rattle.std.proofs.lemmas.List.{length-take}
use Rattle.ipg_tree_view.proofs.Cuts.{kept_more, full_more}
use Rattle.ipg_tree_view.proofs.cut.Cut.push_byte.Goals as goal

pub returns-then-self-lt-WIDE : goal.returns-then-self-lt-WIDE
returns-then-self-lt-WIDE c text is =
    rw c.printable.ensures (kept_more c.self.inside.bytes c.self.inside.len c.self.inside.is_longer text c.args.byte c.self.told c.if-self-lt-WIDE.true
    (c.self.view_is ∙ is))

pub returns-else-self-lt-WIDE : goal.returns-else-self-lt-WIDE
returns-else-self-lt-WIDE c text is =
    let within : c.self.inside.len ≤ 54 = c.self.invariant in
    full_more (take c.self.inside.len c.self.inside.bytes) c.self.inside.is_longer text c.args.byte
    (length-take c.self.inside.len c.self.inside.bytes ∙ omega (arith, c.self.told, within, c.if-self-lt-WIDE.false)) (c.self.view_is ∙ is)
