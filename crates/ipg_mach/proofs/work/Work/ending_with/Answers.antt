use Rattle.std.proofs.Common.{◌∙◌, ap, Some}
use Rattle.ipg_mach.specs.Stage.{staged}
use Rattle.ipg_mach.specs.declared.frame.HeldAnswer.{HeldAnswer}
use Rattle.ipg_mach.specs.declared.frame.HeldAnswer.TheVariants as held
use Rattle.ipg_mach.proofs.Endings as endings
use Rattle.ipg_mach.proofs.work.Work.ending_with.Goals as goal

pub returns-in-NoTree : goal.returns-in-NoTree
returns-in-NoTree g c src e at some =
    c.ending_below.ensures
    ∙ endings.below src (staged c.args.self.now) e at held.NoTree (some ∙ ap (λ (h : HeldAnswer). Some h) c.in-NoTree.is) (λ e. cc)

pub returns-in-Node : goal.returns-in-Node
returns-in-Node g c src e at some =
    c.ending_below-in-Node.ensures
    ∙ endings.below src (staged c.args.self.now) e at (held.Node c.in-Node.field-0) (some ∙ ap (λ (h : HeldAnswer). Some h) c.in-Node.is) (λ e. cc)

pub returns-in-Range : goal.returns-in-Range
returns-in-Range g c src e at some =
    endings.ranged src (staged c.args.self.now) e at (some ∙ ap (λ (h : HeldAnswer). Some h) c.in-Range.is)
