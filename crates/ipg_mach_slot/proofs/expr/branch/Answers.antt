use Rattle.std.proofs.Common.{w64, refl, sym, ap, ◌∙◌, subst}
use Rattle.std.proofs.lemmas.Int.{to_z-of_z}
use Rattle.std.proofs.lemmas.Option.{MatchOption-at_none}
use Rattle.ipg_core.specs.Eval.{is_zero}
use Rattle.ipg_mach_slot.specs.Found.{IsFound}
use Rattle.ipg_mach_slot.proofs.Picks as picks
use Rattle.ipg_mach_slot.proofs.expr.branch.Goals as goal

pub loop-case-init : goal.loop-case-init
loop-case-init g c = (λ f place state branches last stands each. picks.picks_all _ f place state branches last _ each, refl)

pub loop-case-preserved : goal.loop-case-preserved
loop-case-preserved g c = (
  λ f place state branches last stands each.
      let t = c.args.site.now.tables.now in
      let one = picks.first t f place state branches last c.in-Some.case.now c.in-Some.rest.now c.loop-case.left.now c.in-Some.ensures.cases.0
      (c.loop-case.invariant.0 f place state branches last stands each) in
      picks.passes t f place state branches last c.in-Some.case.now _ one c.in-Val.x
      (ap is_zero (sym (to_z-of_z w64 c.in-Val.x c.in-Val.ensures.sized)) ∙ sym c.is_zero.ensures ∙ c.if-not-is_zero.false)
      (c.in-Val.ensures.value f state _ one.cond stands one.holds.cond),
  c.in-Val.ensures.area ∙ c.loop-case.invariant.1,
)

pub returns-then-not-is_zero-clause-found : goal.returns-then-not-is_zero-clause-found
returns-then-not-is_zero-clause-found g c src st at f place state branches last stands each holds shares =
    let t = c.args.site.now.tables.now in
    let one = picks.first t f place state branches last c.in-Some.case.now c.in-Some.rest.now c.loop-case.left.now c.in-Some.ensures.cases.0
    (c.loop-case.invariant.0 f place state branches last stands each) in
    subst (IsFound src st at f state.own c.slot.result)
    (sym (picks.takes t f place state branches last c.in-Some.case.now _ one c.in-Val.x
    (ap is_zero (sym (to_z-of_z w64 c.in-Val.x c.in-Val.ensures.sized)) ∙ sym c.is_zero.ensures ∙ c.if-not-is_zero.true)
    (c.in-Val.ensures.value f state _ one.cond stands one.holds.cond)))
    (c.slot.ensures.found src st at f one.later state _ one.slot stands one.holds.slot shares)

pub returns-in-Fail-clause-found : goal.returns-in-Fail-clause-found
returns-in-Fail-clause-found g c src st at f place state branches last stands each holds shares =
    let t = c.args.site.now.tables.now in
    let one = picks.first t f place state branches last c.in-Some.case.now c.in-Some.rest.now c.loop-case.left.now c.in-Some.ensures.cases.0
    (c.loop-case.invariant.0 f place state branches last stands each) in
    picks.fails t f place state branches last c.in-Some.case.now _ one (c.in-Fail.ensures.value f state _ one.cond stands one.holds.cond)

pub returns-in-Range-clause-found : goal.returns-in-Range-clause-found
returns-in-Range-clause-found g c src st at f place state branches last stands each holds shares =
    let t = c.args.site.now.tables.now in
    let one = picks.first t f place state branches last c.in-Some.case.now c.in-Some.rest.now c.loop-case.left.now c.in-Some.ensures.cases.0
    (c.loop-case.invariant.0 f place state branches last stands each) in
    picks.ranges t f place state branches last c.in-Some.case.now _ one (c.in-Range.ensures.value f state _ one.cond stands one.holds.cond)

pub returns-clause-found : goal.returns-clause-found
returns-clause-found g c src st at f place state branches last stands each holds shares =
    let t = c.args.site.now.tables.now in
    let left = c.loop-case.invariant.0 f place state branches last stands each in
    subst (IsFound src st at f state.own c.slot-2.result)
    (sym (picks.at_last t f place state branches last c.loop-case.left.now (MatchOption-at_none _ _ c.in_default.is c.split_first.ensures.cases) left))
    (c.slot-2.ensures.found src st at f left.later state _ last stands holds shares)
