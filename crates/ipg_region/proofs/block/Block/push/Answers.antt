use Rattle.std.proofs.Common.{arith, length, length-append, ap, ◌∙◌, ◌++◌, ◌∷◌, [], ◌≡◌}
use Rattle.ipg_region.specs.Pieces.{pieces, Rises}
use Rattle.ipg_region.proofs.PiecesLemmas.{placed}
use Rattle.ipg_region.proofs.block.Block.push.Given.{Over}
use Rattle.ipg_region.proofs.block.Block.push.Goals as goal

-- the fields after the run was put at their end
fields : (g : Over) (c : goal.After-push_reserved g)
    → (pieces c.put.new.items.items 0 c.push_reserved.new.self.items ≡ pieces c.self.inside.items.items 0 c.self.inside.ends.items
    ++ c.args.run.now ∷ [])
    × Rises 0 c.push_reserved.new.self.items (length c.put.new.items.items)
fields g c =
    placed c.self.inside.items.items c.put.new.items.items c.args.run.now c.self.inside.ends.items c.push_reserved.new.self.items c.len.result
    c.put.ensures.items (c.len.ensures ∙ c.put.new.items.ok.0) c.push_reserved.ensures.items c.self.invariant.0

pub invariant_of-self : goal.invariant_of-self
invariant_of-self g c =
    let room = ap (λ held. held.spare.items) c.self.view_is in
    let grown = ap length c.put.ensures.items ∙ length-append c.self.inside.items.items c.args.run.now in
    ((fields g c).1, omega (arith, room, grown, c.requires.within, c.self.invariant.1))

pub returns-clause-placed : goal.returns-clause-placed
returns-clause-placed g c = (fields g c).0 ∙ ap (λ held. held.runs ++ c.args.run.now ∷ []) c.self.view_is
