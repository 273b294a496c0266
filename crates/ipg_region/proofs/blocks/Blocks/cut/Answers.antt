use Rattle.std.proofs.Common.{◌-◌, ap, ◌∙◌, ◌++◌, take}
use Rattle.ipg_region.specs.Stack.{flat}
use Rattle.ipg_region.proofs.StackLemmas.{cut_back, cut_on}
use Rattle.ipg_region.proofs.blocks.Blocks.cut.Goals.{then-to-self, else-to-self}
use Rattle.ipg_region.proofs.blocks.Blocks.cut.Goals as goal

pub returns-clause-kept : goal.returns-clause-kept
returns-clause-kept g c =
    let full = c.self.inside.full.items in
    let last = c.self.inside.last.runs in
    elim c.if-to-self.branch [
      | then-to-self w ↦
          ap (λ a. flat a.full.items ++ c.cut.new.self.runs) w.self-inside-is
          ∙ cut_back full w.cut_in.new.blocks.items last c.cut.new.self.runs c.self.inside.before c.args.to c.self.invariant.0 w.if-to-self.true
          w.cut_in.ensures
          (c.cut.ensures.kept ∙ ap (λ a. take (c.args.to - a.before) a.last.runs) w.self-inside-is)
          ∙ ap (λ held. take c.args.to held.runs) c.self.view_is
      | else-to-self w ↦
          ap (λ a. flat a.full.items ++ c.cut.new.self.runs) w.self-inside-is
          ∙ cut_on full last c.cut.new.self.runs c.self.inside.before c.args.to c.self.invariant.0 w.if-to-self.false
          (c.cut.ensures.kept ∙ ap (λ a. take (c.args.to - a.before) a.last.runs) w.self-inside-is)
          ∙ ap (λ held. take c.args.to held.runs) c.self.view_is
    ]
