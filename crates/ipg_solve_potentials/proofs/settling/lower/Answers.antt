use Rattle.std.proofs.Common.{◌≡◌, List, ap, ◌∙◌, arith}
use Rattle.std.proofs.lemmas.Int.{ints}
use Rattle.std.specs.Int.{w128}
use mir.Val.{to_z, of_z}
use Rattle.ipg_solve_potentials.specs.declared.trail.Stop.{Stop}
use Rattle.ipg_solve_potentials.specs.Falls.{edge_at}
use Rattle.ipg_solve_potentials.specs.Trails.{trail_at}
use Rattle.ipg_solve_potentials.proofs.Levels.{edge_fits}
use Rattle.ipg_solve_potentials.proofs.Circles.{circle_found}
use Rattle.ipg_solve_potentials.proofs.Lowered.{lowered_to}
use Rattle.ipg_solve_potentials.proofs.settling.lower.Goals as goal

pub reached-level-requires-clause-size : goal.reached-level-requires-clause-size
reached-level-requires-clause-size c =
    edge_fits c.args.edges.now c.args.levels.now.items c.deref.result.now c.args.trails.now.items c.args.n c.requires.edges c.requires.few c.requires.state
    c.requires.wrong.0 c.deref.ensures.value

pub returns-in-Some : goal.returns-in-Some
returns-in-Some c =
    circle_found c.args.edges.now c.args.levels.now.items c.args.trails.now.items c.args.n c.trail_of.result.now c.trail_of-in-Some.result.now c.in-Some.place
    c.in_ok-circle.circle c.requires.state c.requires.edges c.requires.wrong
    (c.trail_of.ensures ∙ ap (λ (ts : List (List Stop)). trail_at ts (edge_at c.args.edges.now c.args.n).from) c.deref-2.ensures.value)
    (c.trail_of-in-Some.ensures ∙ ap (λ (ts : List (List Stop)). trail_at ts (edge_at c.args.edges.now c.args.n).from) c.deref-in-Some.ensures.value)
    c.in-Some.ensures c.in_ok-circle.ensures

pub returns : goal.returns
returns c =
    let from = (edge_at c.args.edges.now c.args.n).from in
    let same : to_z w128 (of_z w128 c.reached-level.result) ≡ c.reached-level.result = omega (arith, ints, c.reached-level.type_inv) in
    lowered_to c.args.edges.now c.args.levels.now.items c.deref.result.now c.put_level.new.levels.items c.args.trails.now.items c.args.n c.trail_of.result.now
    c.trail_of-2.result.now (to_z w128 (of_z w128 c.reached-level.result)) c.in_ok-longer.longer
    c.requires.edges c.requires.state c.requires.wrong c.deref.ensures.value
    (c.trail_of.ensures ∙ ap (λ (ts : List (List Stop)). trail_at ts from) c.deref-2.ensures.value)
    (c.trail_of-2.ensures ∙ ap (λ (ts : List (List Stop)). trail_at ts from) c.deref-3.ensures.value)
    c.in_default.ensures (same ∙ c.reached-level.ensures) c.in_ok-longer.ensures c.put_level.ensures
