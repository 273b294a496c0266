use Rattle.std.proofs.Common.{ap, sym, subst, MatchBool}
use Rattle.ipg_cover_leaves.specs.Bytes.{leaf_bytes}
use Rattle.ipg_cover_leaves.specs.Back.{HasBytes}
use Rattle.ipg_cover_leaves.proofs.Numbered.{tells}
use Rattle.ipg_cover_leaves.proofs.leaf.Leaf.has_bytes.Goals as goal

pub returns-in-Number : goal.returns-in-Number
returns-in-Number c =
    subst (λ b. MatchBool b (HasBytes c.args.self.now) (¬ HasBytes c.args.self.now)) (sym c.is_some.ensures)
    (tells c.args.self.now _ (ap leaf_bytes c.in-Number.is) c.halves_of.result _ _ c.halves_of.ensures)
