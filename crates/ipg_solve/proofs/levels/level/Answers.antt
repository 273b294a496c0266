use Rattle.std.proofs.Common.{ℕ, ◌+◌, length, sym, subst, ◌∙◌}
use Rattle.ipg_solve_potentials.specs.Falls.{AreEdges, Settles}
use Rattle.ipg_cert.specs.Checks.{root_facts}
use Rattle.ipg_solve.specs.Edges.{AreBetween, AreHeights}
use Rattle.ipg_solve.proofs.Graph.{joined, root_narrow}
use Rattle.ipg_solve.proofs.Leveled.{between, levels_solve, levels_fall, circle_refutes}
use Rattle.ipg_solve.proofs.levels.level.Goals as goal

pub settle-requires-clause-edges : goal.settle-requires-clause-edges
settle-requires-clause-edges c =
    subst (λ (n : ℕ). AreEdges (n + 1) c.deref.result.now) (sym c.len-vars.ensures)
    (subst (AreEdges (length c.args.b.now.bounds + 1)) (sym (c.deref.ensures.value ∙ c.in_ok-edges.ensures.edges))
    (joined (length c.args.b.now.bounds) (root_facts c.args.f.now c.args.b.now)
    (root_narrow c.args.f.now c.args.b.now c.requires.difference c.requires.valued) c.in_ok-edges.ensures.sized))

pub heights-requires-clause-between : goal.heights-requires-clause-between
heights-requires-clause-between c =
    subst (AreBetween c.as_slice.result.now) (sym c.as_slice-in-Levels.ensures)
    (between c.args.f.now c.args.b.now c.as_slice.result.now (root_narrow c.args.f.now c.args.b.now c.requires.difference c.requires.valued)
    (levels_fall _ (root_facts c.args.f.now c.args.b.now) c.in_ok-edges.edges.items c.deref.result.now c.in_ok-levels.field-0 c.in-Levels.levels
    c.as_slice.result.now c.in_ok-levels.ensures.settled c.in-Levels.is c.deref.ensures.value c.in_ok-edges.ensures.edges c.as_slice.ensures).1)

pub returns-in-Levels : goal.returns-in-Levels
returns-in-Levels c =
    levels_solve c.args.f.now c.args.b.now c.as_slice.result.now c.in_ok-values-in-Levels.values c.requires.difference
    (root_narrow c.args.f.now c.args.b.now c.requires.difference c.requires.valued)
    (levels_fall _ (root_facts c.args.f.now c.args.b.now) c.in_ok-edges.edges.items c.deref.result.now c.in_ok-levels.field-0 c.in-Levels.levels
    c.as_slice.result.now c.in_ok-levels.ensures.settled c.in-Levels.is c.deref.ensures.value c.in_ok-edges.ensures.edges c.as_slice.ensures).1
    (subst (λ bounds. AreHeights (length bounds) c.as_slice.result.now c.in_ok-values-in-Levels.values) c.as_slice-in-Levels.ensures
    c.in_ok-values-in-Levels.ensures)

pub returns : goal.returns
returns c =
    circle_refutes c.sum_takes.ensures c.cancelled_is_absurd.ensures
    c.args.f.now c.args.b.now c.in_ok-edges.edges.items c.deref.result.now c.in_ok-levels.field-0 c.in-Circle.circle
    (root_narrow c.args.f.now c.args.b.now c.requires.difference c.requires.valued) c.in_ok-edges.ensures.sized c.requires.few
    (subst (λ (n : ℕ). Settles (n + 1) c.deref.result.now c.in_ok-levels.field-0) c.len-vars.ensures c.in_ok-levels.ensures.settled) c.in-Circle.is
    c.deref.ensures.value c.in_ok-edges.ensures.edges
