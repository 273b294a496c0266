use Rattle.std.proofs.Common.{arith, length, length-take, ap, ◌∙◌, take, ◌≡◌}
use Rattle.ipg_region.specs.Pieces.{pieces, Rises, end_before}
use Rattle.ipg_region.proofs.PiecesLemmas.{length-pieces, cut_off}
use Rattle.ipg_region.proofs.block.Block.cut.Given.{Over}
use Rattle.ipg_region.proofs.block.Block.cut.Goals as goal

-- the fields after the last runs were cut off
fields : (g : Over) (c : goal.After-truncate-2 g)
    → (pieces c.truncate.new.self.items 0 c.truncate-2.new.self.items ≡ take c.args.to (pieces c.self.inside.items.items 0 c.self.inside.ends.items))
    × Rises 0 c.truncate-2.new.self.items (length c.truncate.new.self.items)
fields g c =
    cut_off c.self.inside.items.items c.truncate.new.self.items c.self.inside.ends.items c.truncate-2.new.self.items c.args.to c.start_of-start.result
    (c.start_of-start.ensures ∙ ap (λ es. end_before 0 es c.args.to) c.deref.ensures.value) c.truncate.ensures.items c.truncate-2.ensures.items
    c.self.invariant.0

pub start_of-start-requires : goal.start_of-start-requires
start_of-start-requires g c =
    omega (
      arith,
      length-pieces c.self.inside.items.items 0 c.self.inside.ends.items,
      ap (λ held. length held.runs) c.self.view_is,
      ap length c.deref.ensures.value,
    )

pub invariant_of-self : goal.invariant_of-self
invariant_of-self g c =
    let fewer = ap length c.truncate.ensures.items ∙ length-take c.start_of-start.result c.self.inside.items.items in
    ((fields g c).1, omega (arith, fewer, c.self.invariant.1))

pub returns-clause-kept : goal.returns-clause-kept
returns-clause-kept g c = (fields g c).0 ∙ ap (λ held. take c.args.to held.runs) c.self.view_is
