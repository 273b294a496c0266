-- Where edges are reached on parts of one length, their conditions have a solution together.
use Rattle.std.proofs.Common.{ℕ, List, [], ◌∷◌, map, ap, ◌∙◌, pos}
use Rattle.std.specs.List.{AllByRecursion}
use Rattle.ipg_core.specs.Grammar.{Grammar}
use Rattle.ipg_core.specs.MustTouch.{Marks, AreLimit}
use Rattle.ipg_core.specs.Good.{Good}
use Rattle.ipg_core.specs.Laws.{LiesWithin, TouchingTouches}
use Rattle.ipg_graph.specs.declared.edge.Edge.{Edge}
use Rattle.ipg_facts.specs.Keep.{keep}
use Rattle.ipg_facts_laws.specs.Reached.{ReachedOn}
use Rattle.ipg_facts_laws.specs.Laws.{AllSolved, ReachedCyclesSolve}
use Rattle.ipg_facts_laws.proofs.Joints.{parts_solve_joint}
use Rattle.ipg_facts_laws.proofs.Widths.{conditions_are_parts}
use Rattle.ipg_facts_laws.proofs.Solved.{reached_edges_solve}

all_solved : LiesWithin → TouchingTouches → (g : Grammar) (marks : Marks) (edges : List Edge) (n : ℕ) → Good g → AreLimit g marks
    → AllByRecursion (ReachedOn g n) edges → AllSolved (pos n) (map (keep g marks) edges)
all_solved lies must g marks [] n good limit h = tt
all_solved lies must g marks (e ∷ edges) n good limit h =
    let on : ReachedOn g n e = h.0 in
    let is = reached_edges_solve lies must g marks e on.part on.outer on.height good limit on.input on.grown on.reached in
    (((conditions_are_parts g marks (e ∷ [])).0.0, (is.0, is.1, is.2 ∙ ap pos on.size)), all_solved lies must g marks edges n good limit h.1)

pub reached_cycles_solve : LiesWithin → TouchingTouches → ReachedCyclesSolve
reached_cycles_solve lies must g marks edges n good limit h =
    parts_solve_joint (map (keep g marks) edges) (pos n) (all_solved lies must g marks edges n good limit h)
