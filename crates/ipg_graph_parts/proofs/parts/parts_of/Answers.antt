use Rattle.std.proofs.Common.{inl, inr, sym, subst, arith}
use Rattle.std.proofs.lemmas.Bool.{cases_eq}
use Rattle.ipg_graph_parts.specs.Parts.{IsIn, IsParted}
use Rattle.ipg_graph_parts.proofs.PartLemmas.{parted}
use Rattle.ipg_graph_parts.proofs.parts.parts_of.Goals as goal

pub loop-rule-preserved : goal.loop-rule-preserved
loop-rule-preserved c = c.in_ok-include.ensures.parts

pub loop-rule-2-preserved : goal.loop-rule-2-preserved
loop-rule-2-preserved c =
    let names = c.include-in-loop-rule-2.new.self.names.of.items in
    record {
      parts = c.in_ok-include-2.ensures.parts;
      all = λ v below. elim (cases_eq v c.loop-rule-2.rule) [
        | inl e ↦ subst (IsIn names) (sym e) c.in_ok-include-2.ensures.rule
        | inr ne ↦ c.in_ok-include-2.ensures.stays.stays v (c.loop-rule-2.invariant.all v (omega arith))
      ];
    }

pub returns : goal.returns
returns c =
    let names = c.loop-rule-2.parts.names.of.items in
    subst (IsParted c.args.links.now) (sym c.into_vec.ensures)
    (parted c.args.links.now names c.loop-rule-2.parts.found.of.items c.loop-rule-2.invariant.parts
    (λ v below. c.loop-rule-2.invariant.all v (omega (arith, below, c.loop-rule-2-test.false, c.rules-rule-end.ensures.value))))
