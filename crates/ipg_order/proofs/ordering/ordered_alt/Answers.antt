use Rattle.std.proofs.Common.{◌≡◌, refl, sym, ap, ◌∙◌, subst, arith, List, ℕ, [], length}
use Rattle.ipg_core.specs.Order.{InOrder}
use Rattle.ipg_order.specs.Needs.{Listed, IsArrangement}
use Rattle.ipg_order.specs.Providers.{all_needs}
use Rattle.ipg_order.specs.Ordered.{needs_of}
use Rattle.ipg_order.specs.Stuck.{EndsAt}
use Rattle.ipg_order.proofs.Sequences.{all_length}
use Rattle.ipg_order.proofs.ordering.ordered_alt.Goals as goal

pub arrange-requires : goal.arrange-requires
arrange-requires c =
    let local = c.args.local in
    let terms = c.as_slice.result.now in
    let e : length c.as_slice-2.result.now ≡ length terms = ap length (c.as_slice-2.ensures.value ∙ c.in_ok-needs.ensures)
    ∙ all_length local.holders.now local.flags.now c.args.at terms 0 terms in
    let f : length terms ≡ length c.args.alt.terms = ap length c.as_slice.ensures in
    let g = c.requires in omega arith

pub returns-in-Stuck-clause-err : goal.returns-in-Stuck-clause-err
returns-in-Stuck-clause-err c =
    let local = c.args.local in
    let lists = needs_of local.holders.now local.flags.now c.args.at c.args.alt in
    let is = c.as_slice-2.ensures.value ∙ c.in_ok-needs.ensures ∙ ap (λ ts. all_needs local.holders.now local.flags.now c.args.at ts 0 ts) c.as_slice.ensures in
    let arranged = subst (λ n. IsArrangement n c.in_ok-term.field-0) is c.in_ok-term.ensures in
    let stuck = subst (IsArrangement lists) c.in-Stuck.is arranged in
    subst (λ n. (order : List ℕ) × EndsAt (Listed lists) n [] order c.in-Stuck.term)
    (all_length local.holders.now local.flags.now c.args.at c.args.alt.terms 0 c.args.alt.terms) stuck

pub returns-in-Whole-clause-ok : goal.returns-in-Whole-clause-ok
returns-in-Whole-clause-ok c =
    let local = c.args.local in
    let lists = needs_of local.holders.now local.flags.now c.args.at c.args.alt in
    let is = c.as_slice-2.ensures.value ∙ c.in_ok-needs.ensures ∙ ap (λ ts. all_needs local.holders.now local.flags.now c.args.at ts 0 ts) c.as_slice.ensures in
    let arranged = subst (λ n. IsArrangement n c.in_ok-term.field-0) is c.in_ok-term.ensures in
    let whole = subst (IsArrangement lists) c.in-Whole.is arranged in
    record {
      terms = refl;
      order = subst (λ order. InOrder (Listed lists) (length c.args.alt.terms) [] order) (sym c.from_vec.ensures)
          (subst (λ n. InOrder (Listed lists) n [] c.in-Whole.order.items)
          (all_length local.holders.now local.flags.now c.args.at c.args.alt.terms 0 c.args.alt.terms) whole);
    }
