use Rattle.std.proofs.Common.{◌≡◌, ℕ, ◌+◌, List, length, reverse, arith, ap, sym, ◌∙◌, subst}
use Rattle.ipg_lin.specs.declared.formula.Formula.{Formula}
use Rattle.ipg_lin.specs.declared.formula.Boxed.{Boxed}
use Rattle.ipg_cert.specs.declared.refutation.Step.{Step}
use Rattle.ipg_solve.specs.declared.domain.Domain.{Domain}
use Rattle.ipg_solve.specs.Domains.{AreFull, ArePoints, rules_out}
use Rattle.ipg_solve.specs.Closes.{ClosesFormula}
use Rattle.std.proofs.lemmas.Result.{IfOk-weaker}
use Rattle.ipg_solve.specs.Cuts.{start_domains, Backs, Turns}
use Rattle.ipg_solve.proofs.Turning.{backs_turn, cut_turns}
use Rattle.ipg_solve.proofs.Solved.{halved_length, halved_full, point_solves}
use Rattle.ipg_solve.proofs.halving.advance.Goals as goal

-- what was closed, as the domains and the box are called here
same_closed : (f : Formula) (around box : Boxed) (domains lent : List Domain) (n : ℕ) (old new : List Step) → around ≡ box → lent ≡ domains
    → ClosesFormula lent (length box.bounds + length box.bounds) n f old new
    → ClosesFormula domains (length around.bounds + length around.bounds) n f old new
same_closed f around box domains lent n old new e is closes =
    subst (λ ss. ClosesFormula ss (length around.bounds + length around.bounds) n f old new) is
    (subst (λ b. ClosesFormula lent (length b.bounds + length b.bounds) n f old new) (sym e) closes)

pub rules_out-requires : goal.rules_out-requires
rules_out-requires g c =
    omega (
      arith,
      c.requires.1.0,
      ap length c.deref.ensures.value,
      halved_length c.args.root.f.now g.around c.args.root.facts c.args.domains.now.items
          (reverse c.args.cuts.now.items) c.args.steps.now.items c.requires.1.1.1,
    )

pub close_part-requires-clause-width : goal.close_part-requires-clause-width
close_part-requires-clause-width g c =
    omega (
      arith,
      c.requires.1.0,
      ap length c.deref-then-rules_out.ensures.value,
      halved_length c.args.root.f.now g.around c.args.root.facts c.args.domains.now.items
          (reverse c.args.cuts.now.items) c.args.steps.now.items c.requires.1.1.1,
    )

pub widest-requires : goal.widest-requires
widest-requires g c =
    subst AreFull (sym c.deref-else-rules_out.ensures.value)
    (halved_full c.args.root.f.now g.around c.args.root.facts c.args.domains.now.items (reverse c.args.cuts.now.items) c.args.steps.now.items c.requires.1.1.1
    c.requires.1.1.0)

pub returns-in_ok-close_part : goal.returns-in_ok-close_part
returns-in_ok-close_part g c =
    let n : ℕ = length c.deref-then-rules_out-2.result.now in
    let box = g.around in
    let entry = c.args.cuts.now.items in
    let rest = c.back.new.cuts.items in
    let next = c.back.new.domains.items in
    IfOk-weaker c.back.result (Backs c.args.root.facts (start_domains 0 box.bounds) next (reverse entry) (reverse rest))
    (Turns c.args.root.f.now box c.args.root.facts next entry rest c.close_part.new.steps.items)
    (λ turn backs. backs_turn c.args.root.f.now box c.args.root.facts n c.args.domains.now.items next entry rest c.args.steps.now.items
    c.close_part.new.steps.items c.requires.1.1.1
    (ap length c.deref-then-rules_out-2.ensures.value)
    (same_closed c.args.root.f.now box c.args.root.b.now c.args.domains.now.items c.deref-then-rules_out.result.now (c.args.root.facts + n)
    c.args.steps.now.items
    c.close_part.new.steps.items c.requires.0 c.deref-then-rules_out.ensures.value c.in_ok-close_part.ensures)
    turn backs) c.back.ensures

pub returns-in_ok-cut_at-in-Some : goal.returns-in_ok-cut_at-in-Some
returns-in_ok-cut_at-in-Some g c =
    cut_turns c.args.root.f.now g.around c.args.root.facts c.in-Some.x c.args.domains.now.items c.cut_at.new.domains.items c.args.cuts.now.items
    c.cut_at.new.cuts.items c.args.steps.now.items c.cut_at.new.steps.items c.requires.1.1.1
    (omega (arith, c.in-Some.ensures.0, ap length c.deref-else-rules_out.ensures.value)) c.in_ok-cut_at-in-Some.ensures

pub returns-in-None : goal.returns-in-None
returns-in-None g c =
    point_solves c.args.root.f.now g.around c.args.root.facts c.args.domains.now.items (reverse c.args.cuts.now.items) c.args.steps.now.items c.requires.1.1.1
    (subst ArePoints c.deref-else-rules_out.ensures.value c.in-None.ensures) c.requires.1.0
    (ap (λ ss. rules_out ss c.args.root.f.now) (sym c.deref.ensures.value) ∙ sym c.rules_out.ensures ∙ c.if-rules_out.false)
