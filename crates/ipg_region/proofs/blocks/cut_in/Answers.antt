use Rattle.std.proofs.Common.{◌-◌, arith, ap, sym, ◌∙◌}
use Rattle.std.proofs.lemmas.List.{append-nil}
use Rattle.ipg_region.specs.Stack.{flat}
use Rattle.ipg_region.proofs.StackLemmas.{without_last, cut_without_last, cut_last, none_left}
use Rattle.ipg_region.proofs.blocks.cut_in.Goals as goal

pub overflow_sub-start : goal.overflow_sub-start
overflow_sub-start g c =
    omega (
      arith,
      without_last c.loop-block.blocks.items c.pop.new.self.items c.in-Some.block c.loop-block.start c.len-start.result c.in-Some.ensures.items
          c.loop-block.invariant.0 c.len-start.ensures.value,
    )

pub cut-requires : goal.cut-requires
cut-requires g c =
    let counted = without_last c.loop-block.blocks.items c.pop.new.self.items c.in-Some.block c.loop-block.start c.len-start.result c.in-Some.ensures.items
    c.loop-block.invariant.0 c.len-start.ensures.value in
    omega (arith, counted, c.len-start.ensures.value, c.loop-block.invariant.1)

pub returns-then-start-to : goal.returns-then-start-to
returns-then-start-to g c =
    let counted = without_last c.loop-block.blocks.items c.pop.new.self.items c.in-Some.block c.loop-block.start c.len-start.result c.in-Some.ensures.items
    c.loop-block.invariant.0 c.len-start.ensures.value in
    cut_last c.loop-block.blocks.items c.push_reserved.new.self.items c.pop.new.self.items c.in-Some.block c.cut.new.self
    (c.loop-block.start - c.len-start.result) c.args.to c.in-Some.ensures.items
    c.push_reserved.ensures.items (omega (arith, counted)) (omega (arith, c.if-start-to.true)) c.cut.ensures.kept
    ∙ c.loop-block.invariant.2

pub loop-block-preserved : goal.loop-block-preserved
loop-block-preserved g c =
    let counted = without_last c.loop-block.blocks.items c.pop.new.self.items c.in-Some.block c.loop-block.start c.len-start.result c.in-Some.ensures.items
    c.loop-block.invariant.0 c.len-start.ensures.value in (
      omega (arith, counted),
      c.if-start-to.false,
      cut_without_last c.loop-block.blocks.items c.pop.new.self.items c.in-Some.block c.args.to c.in-Some.ensures.items
          (omega (arith, counted, c.if-start-to.false)) ∙ c.loop-block.invariant.2,
    )

pub returns : goal.returns
returns g c =
    ap flat (sym (c.in_default.ensures.items ∙ append-nil c.pop.new.self.items))
    ∙ none_left c.loop-block.blocks.items c.args.to (sym c.loop-block.blocks.ok.0 ∙ c.in_default.ensures.cases.0)
    ∙ c.loop-block.invariant.2
