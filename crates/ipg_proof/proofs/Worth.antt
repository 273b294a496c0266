-- What a certificate is worth: a grammar that it proves is accepted, and so parsing by it ends.
use Rattle.std.proofs.Common.{ℕ, List, [], ◌∷◌, map, length, replicate, Bool, false, sym, subst}
use Rattle.std.specs.Prelude.{IsTrue}
use Rattle.std.specs.List.{AllByRecursion}
use Rattle.ipg_graph.specs.Answers.{RunsAreWhole}
use Rattle.ipg_facts_edges.specs.Edges.{edges_of}
use Rattle.ipg_lin.specs.Formula.{Solvable}
use Rattle.ipg_cert.specs.declared.refutation.Refutation.{Refutation}
use Rattle.ipg_cert.specs.Laws.{ChecksRefute}
use Rattle.ipg_facts_laws.specs.Ends.{EndsWhereNoneSolve}
use Rattle.ipg_proof.specs.Calls.{calls_of, joint_of, edge_checks, cycle_checks, dead_edges, cycles_of, live_graph}
use Rattle.ipg_proof.specs.Cycles.{LoopsAreLive}
use Rattle.ipg_proof.specs.Worth.{ProvesIsAccepted, ProvesIsTotal, AcceptsIsTotal}
use Rattle.ipg_proof.proofs.Lists.{all_front, all_back}
use Rattle.ipg_proof.proofs.Alive.{none_set, entry}

of_map : {A : Type 0} (f : A → Bool) (xs : List A) → AllByRecursion IsTrue (map f xs) → AllByRecursion (λ x. IsTrue (f x)) xs
of_map f [] all = tt
of_map f (x ∷ xs) all = (all.0, of_map f xs all.1)

pub proves_is_accepted : LoopsAreLive → RunsAreWhole → ChecksRefute → ProvesIsAccepted
proves_is_accepted loops runs refute g c proves =
    let checked = proves.1 in
    let calls = calls_of g checked.marks in
    let dead = of_map (edge_checks calls) c.dead (all_front IsTrue (map (edge_checks calls) c.dead) _ checked.all) in
    let cycles = of_map (cycle_checks calls) c.cycles (all_back IsTrue (map (edge_checks calls) c.dead) _ checked.all) in
    record {
      marks = checked.marks;
      limit = checked.limit;
      never = λ cycle simple can.
          let every = (runs (live_graph g (dead_edges c)) (cycles_of c) proves.0.cycles).every in
          let e = entry _ (λ (e : List ℕ × Refutation). e.0) c.cycles cycle cycles (every cycle (loops g checked.marks c.dead cycle dead simple can)) in
          refute _ _ e.0.1 e.2 (subst (λ k. Solvable (joint_of calls k).0 (joint_of calls k).1) (sym e.1) can);
    }

pub proves_is_total : AcceptsIsTotal → ProvesIsAccepted → ProvesIsTotal
proves_is_total total accepted g c good proves = total g good (accepted g c proves)

pub accepts_is_total : EndsWhereNoneSolve → AcceptsIsTotal
accepts_is_total ends g good accepts =
    ends g accepts.marks (replicate (length (edges_of g)) false) good accepts.limit
    (λ number part is at. absurd (none_set _ number is))
    accepts.never
