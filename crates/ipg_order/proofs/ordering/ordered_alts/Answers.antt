use Rattle.std.proofs.Common.{◌≡◌, ◌+◌, ◌∷◌, [], ◌++◌, length, Some, Err, sym, ap, subst, ◌∙◌, append_assoc, arith}
use Rattle.std.specs.Prelude.{slice_get}
use Rattle.std.specs.Vec.Iter.{into_iter_items}
use Rattle.std.proofs.lemmas.List.{length-append}
use Rattle.ipg_order.specs.Ordered.{IsOrderedAlt, AreOrderedAlts, AltStops, StopsAt, HasOrder}
use Rattle.ipg_order.proofs.Alternatives.{next_item, as_many, one_more, have_orders}
use Rattle.ipg_order.proofs.ordering.ordered_alts.Goals as goal

pub overflow_cast-number : goal.overflow_cast-number
overflow_cast-number c =
    let at = c.loop-alt in
    let all : at.yielded ++ into_iter_items at.alt-iterator ≡ c.args.alts = at.invariant.0 ∙ c.into_iter-alt-iterator.ensures.into_iter_gives.0
    ∙ c.into_vec-alt-items.ensures in
    let parts = sym (length-append at.yielded (into_iter_items at.alt-iterator)) ∙ ap length all in
    let many = as_many c.args.local.holders.now c.args.local.flags.now c.args.rule 0 at.yielded at.ordered.items at.invariant.2 in
    let count = c.requires.count in
    let is : c.len-number.result ≡ length at.ordered.items = c.len-number.ensures ∙ at.ordered.ok.0 in
    omega arith

pub loop-alt-preserved : goal.loop-alt-preserved
loop-alt-preserved c =
    let at = c.loop-alt in
    let holders = c.args.local.holders.now in
    let flags = c.args.local.flags.now in
    let steps : into_iter_items at.alt-iterator ≡ c.in-Some.alt ∷ into_iter_items c.next.new.self = c.in-Some.ensures.steps.0 in
    let many = as_many holders flags c.args.rule 0 at.yielded at.ordered.items at.invariant.2 in
    let is : c.len-number.result ≡ length at.ordered.items = c.len-number.ensures ∙ at.ordered.ok.0 in
    let number : c.len-number.result ≡ 0 + length at.yielded = let e = is ∙ many in omega arith in (
      append_assoc at.yielded (c.in-Some.alt ∷ []) _ ∙ rw (← steps) at.invariant.0,
      let was = at.invariant.1 in
          let gone = c.in-Some.ensures.steps.1 in
          let short = ap length steps in
          omega arith,
      subst (AreOrderedAlts holders flags c.args.rule 0 (at.yielded ++ c.in-Some.alt ∷ [])) (sym c.in_ok-push-in-Ok.ensures.items)
          (one_more holders flags c.args.rule 0 at.yielded at.ordered.items c.in-Some.alt c.in-Ok.alt at.invariant.2
          (subst (λ k. IsOrderedAlt holders flags (c.args.rule, k) c.in-Some.alt c.in-Ok.alt) number c.in-Ok.ensures.ok)),
    )

pub returns-in-Err-Stuck-clause-err : goal.returns-in-Err-Stuck-clause-err
returns-in-Err-Stuck-clause-err c =
    let at = c.loop-alt in
    let holders = c.args.local.holders.now in
    let flags = c.args.local.flags.now in
    let all : at.yielded ++ into_iter_items at.alt-iterator ≡ c.args.alts = at.invariant.0 ∙ c.into_iter-alt-iterator.ensures.into_iter_gives.0
    ∙ c.into_vec-alt-items.ensures in
    let steps : into_iter_items at.alt-iterator ≡ c.in-Some.alt ∷ into_iter_items c.next.new.self = c.in-Some.ensures.steps.0 in
    let parts : at.yielded ++ c.in-Some.alt ∷ into_iter_items c.next.new.self ≡ c.args.alts = ap (λ xs. at.yielded ++ xs) (sym steps) ∙ all in
    let many = as_many holders flags c.args.rule 0 at.yielded at.ordered.items at.invariant.2 in
    let is : c.len-number.result ≡ length at.ordered.items = c.len-number.ensures ∙ at.ordered.ok.0 in
    let number : c.len-number.result ≡ length at.yielded = is ∙ many in
    let rest = c.in-Some.alt ∷ into_iter_items c.next.new.self in
    record {
      alt = c.in-Some.alt;
      is_alt = subst (λ xs. slice_get xs c.len-number.result ≡ Some c.in-Some.alt) parts
          (ap (slice_get (at.yielded ++ rest)) number ∙ next_item at.yielded c.in-Some.alt (into_iter_items c.next.new.self));
      stops = subst (StopsAt holders flags (c.args.rule, c.len-number.result) c.in-Some.alt) (sym c.in-Err-Stuck.term-is)
          (subst (λ f. AltStops holders flags (c.args.rule, c.len-number.result) c.in-Some.alt (Err f)) c.in-Err-Stuck.field-0-is c.in-Err-Stuck.ensures.err);
      before = λ b other lt e. subst (λ k. HasOrder holders flags (c.args.rule, k) other) (let z : 0 + b ≡ b = omega arith in z)
          (have_orders holders flags c.args.rule 0 at.yielded rest at.ordered.items at.invariant.2 b other (let n = number in omega arith)
          (ap (λ xs. slice_get xs b) parts ∙ e));
    }
