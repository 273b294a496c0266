-- A cycle that can be walked by the present conditions could be walked by the earlier ones.
use Rattle.std.proofs.Common.{◌≡◌, ℕ, List, [], ◌∷◌, ◌++◌, map, refl, sym, ap, subst, Option, Some, None}
use Rattle.std.specs.Prelude.{slice_get, option_map, option_to_list}
use Rattle.std.specs.List.{flat_map}
use Rattle.ipg_graph.specs.declared.edge.Edge.{Edge}
use Rattle.ipg_lin.specs.declared.formula.Formula.{Formula}
use Rattle.ipg_lin.specs.declared.formula.Boxed.{Boxed}
use Rattle.ipg_lin.specs.Formula.{Solvable}
use Rattle.ipg_facts.specs.Keep.{keep, keep_before}
use Rattle.ipg_facts_forms.specs.Joint.{joint}
use Rattle.ipg_facts_laws.specs.Before.{JointsSolveBefore}
use Rattle.ipg_proof.specs.Calls.{calls_of}
use Rattle.ipg_proof.specs.Wider.{AcceptedStays}

abbrev edges_at : List Edge → List ℕ → List Edge
edges_at edges cycle = flat_map (λ e. option_to_list (slice_get edges e)) cycle

of_one : (f : Edge → Formula × Boxed) (o : Option Edge) (rest : List (Formula × Boxed)) (more : List Edge) → rest ≡ map f more
    → option_to_list (option_map f o) ++ rest ≡ map f (option_to_list o ++ more)
of_one f None rest more e = e
of_one f (Some edge) rest more e = ap (λ xs. f edge ∷ xs) e

parts_of : (f : Edge → Formula × Boxed) (edges : List Edge) (cycle : List ℕ)
    → flat_map (λ e. option_to_list (option_map f (slice_get edges e))) cycle ≡ map f (edges_at edges cycle)
parts_of f edges [] = refl
parts_of f edges (e ∷ cycle) = of_one f (slice_get edges e) _ (edges_at edges cycle) (parts_of f edges cycle)

abbrev CanHold : Formula × Boxed → Type 0
CanHold part = Solvable part.0 part.1

pub accepted_stays : JointsSolveBefore → AcceptedStays
accepted_stays before g accepts = record {
  marks = accepts.marks;
  limit = accepts.limit;
  never = λ cycle simple can.
      let calls = calls_of g accepts.marks in
      let edges : List Edge = edges_at calls.edges cycle in
      let present : CanHold (joint (map (keep g accepts.marks) edges)) = subst CanHold (ap joint (parts_of (keep g accepts.marks) calls.edges cycle)) can in
      let is = before g accepts.marks edges present.0 (present.1, present.2) in
      accepts.never cycle simple
      (subst CanHold (sym (ap joint (parts_of (keep_before g accepts.marks) calls.edges cycle))) (is.0, is.1.0, is.1.1));
}
