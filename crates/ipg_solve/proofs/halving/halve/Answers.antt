use Rattle.std.proofs.Common.{map, length, arith, ap, sym, ◌∙◌, subst}
use Rattle.ipg_solve.specs.declared.domain.Domain.{Domain}
use Rattle.ipg_solve.specs.declared.halving.HalvingTurn.TheVariants.{Solved}
use Rattle.ipg_solve.specs.Decides.{Solves}
use Rattle.ipg_solve.specs.Cuts.{start_domains, Turns}
use Rattle.ipg_solve.proofs.Parts.{root_length, start_length}
use Rattle.ipg_solve.proofs.Turning.{begun}
use Rattle.ipg_solve.proofs.halving.halve.Goals as goal

pub loop-steps-init : goal.loop-steps-init
loop-steps-init c =
    let is = c.in_ok-domains.ensures ∙ ap (start_domains 0) c.as_slice.ensures in
    begun c.args.f.now c.args.b.now c.in_ok-first.first c.in_ok-domains.domains.items c.new-cuts.result.items c.new-steps.result.items
    (omega (
      arith,
      c.in_ok-first.ensures,
      c.in_ok-counted.ensures,
      c.len-vars.ensures,
      c.in_ok-count.ensures,
      c.in_ok-domains.domains.ok.0,
      ap length is,
      start_length 0 c.args.b.now.bounds,
      root_length c.args.f.now c.args.b.now,
    )) is
    c.new-cuts.ensures.items c.new-steps.ensures.items

pub returns-in-Solved : goal.returns-in-Solved
returns-in-Solved c =
    let solves : Turns c.args.f.now c.args.b.now c.in_ok-first.first c.advance.new.domains.items c.loop-steps.cuts.items c.advance.new.cuts.items
    c.advance.new.steps.items Solved =
    subst (Turns c.args.f.now c.args.b.now c.in_ok-first.first c.advance.new.domains.items c.loop-steps.cuts.items c.advance.new.cuts.items
    c.advance.new.steps.items) c.in-Solved.is c.in_ok-advance.ensures in
    subst (Solves c.args.f.now c.args.b.now) (sym (c.in_ok-point-in-Solved.ensures ∙ ap (map (λ (s : Domain). s.low)) c.deref.ensures.value)) solves
