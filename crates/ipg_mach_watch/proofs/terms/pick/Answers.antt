use Rattle.std.proofs.Common.{w64, refl, sym, ap, ◌∙◌, arith, None}
use Rattle.std.proofs.lemmas.Int.{to_z-of_z}
use Rattle.std.proofs.lemmas.Option.{MatchOption-at_none}
use Rattle.ipg_core.specs.Eval.{is_zero}
use Rattle.ipg_mach_watch.proofs.Steps as steps
use Rattle.ipg_mach_watch.proofs.terms.pick.Goals as goal

pub loop-case-init : goal.loop-case-init
loop-case-init g c = (λ f state branches last stands each. steps.begun _ f state branches last _ each, omega arith, refl)

pub returns-then-not-is_zero-clause-fails : goal.returns-then-not-is_zero-clause-fails
returns-then-not-is_zero-clause-fails g c f state branches last stands each other is_part =
    let t = c.args.site.now.tables.now in
    let here = c.loop-case in
    let case = c.in-Some.case.now in
    let picks = here.invariant.0 f state branches last stands each in
    let one = steps.first t f state branches last case c.in-Some.rest.now here.left.now here.branch c.in-Some.ensures.cases.0 picks in
    let seen = to_z-of_z w64 c.in-Val.x c.in-Val.ensures.sized in
    let zero = ap is_zero (sym seen) ∙ sym c.is_zero.ensures ∙ c.if-not-is_zero.true in
    c.slot.ensures.fails f state None one.one.1 stands one.holds.slot is_part
    ∙ sym (steps.takes t f state branches last case _ here.branch one c.in-Val.x
    (c.in-Val.ensures.value f state None one.one.0 stands one.holds.cond) zero)

pub loop-case-preserved : goal.loop-case-preserved
loop-case-preserved g c = (
  λ f state branches last stands each.
      let t = c.args.site.now.tables.now in
      let here = c.loop-case in
      let case = c.in-Some.case.now in
      let picks = here.invariant.0 f state branches last stands each in
      let one = steps.first t f state branches last case c.in-Some.rest.now here.left.now here.branch c.in-Some.ensures.cases.0 picks in
      let seen = to_z-of_z w64 c.in-Val.x c.in-Val.ensures.sized in
      let zero = ap is_zero (sym seen) ∙ sym c.is_zero.ensures ∙ c.if-not-is_zero.false in
      steps.passes t f state branches last case _ here.branch one c.in-Val.x
      (c.in-Val.ensures.value f state None one.one.0 stands one.holds.cond) zero,
  omega (arith, c.in-Some.ensures.cases.1, c.loop-case.invariant.1),
  c.value.ensures.area ∙ c.loop-case.invariant.2,
)

pub returns-in-Fail-clause-fails : goal.returns-in-Fail-clause-fails
returns-in-Fail-clause-fails g c f state branches last stands each other is_part =
    let t = c.args.site.now.tables.now in
    let here = c.loop-case in
    let picks = here.invariant.0 f state branches last stands each in
    let one = steps.first t f state branches last c.in-Some.case.now c.in-Some.rest.now here.left.now here.branch c.in-Some.ensures.cases.0 picks in
    c.no_value.ensures ∙ sym (steps.fails t f state branches last c.in-Some.case.now _ here.branch one
    (c.in-Fail.ensures.value f state None one.one.0 stands one.holds.cond))

pub returns-in-Range-clause-fails : goal.returns-in-Range-clause-fails
returns-in-Range-clause-fails g c f state branches last stands each other is_part =
    let t = c.args.site.now.tables.now in
    let here = c.loop-case in
    let picks = here.invariant.0 f state branches last stands each in
    let one = steps.first t f state branches last c.in-Some.case.now c.in-Some.rest.now here.left.now here.branch c.in-Some.ensures.cases.0 picks in
    sym (steps.ranges t f state branches last c.in-Some.case.now _ here.branch one
    (c.in-Range.ensures.value f state None one.one.0 stands one.holds.cond))

pub returns-clause-fails : goal.returns-clause-fails
returns-clause-fails g c f state branches last stands each other is_part =
    let t = c.args.site.now.tables.now in
    let here = c.loop-case in
    let picks = here.invariant.0 f state branches last stands each in
    c.slot-2.ensures.fails f state None last stands other is_part
    ∙ sym (steps.last t f state branches last here.left.now here.branch (MatchOption-at_none _ _ c.in_default.is c.split_first.ensures.cases) picks)
