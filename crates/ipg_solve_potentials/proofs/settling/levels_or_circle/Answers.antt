use Rattle.std.proofs.Common.{◌≡◌, pos, length, replicate, ap, sym, ◌∙◌, subst, arith}
use Rattle.std.proofs.lemmas.List.{length-replicate}
use Rattle.ipg_solve_potentials.specs.Trails.{AreSmall}
use Rattle.ipg_solve_potentials.proofs.Levels.{levels_small}
use Rattle.ipg_solve_potentials.proofs.Lowered.{start_state}
use Rattle.ipg_solve_potentials.proofs.settling.levels_or_circle.Goals as goal

pub loop-n-init : goal.loop-n-init
loop-n-init c =
    let is : c.in_ok-levels.levels.items ≡ replicate c.args.nodes (pos 0) = c.in_ok-levels.ensures.items_if_clones_equal (λ y e. e) in
    record {
      each = ap length is ∙ length-replicate c.args.nodes (pos 0);
      state = start_state c.args.edges.now c.args.nodes c.in_ok-levels.levels.items
          c.in_ok-trails.trails.items is c.in_ok-trails.ensures;
      within = omega arith;
    }

pub next_wrong-requires-clause-small : goal.next_wrong-requires-clause-small
next_wrong-requires-clause-small c = subst AreSmall (sym c.deref.ensures.value)
    (levels_small c.args.edges.now c.loop-n.levels.items c.loop-n.trails.items c.loop-n.invariant.state)
