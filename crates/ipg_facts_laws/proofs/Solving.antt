-- Edges whose conditions cannot hold are never reached.
use Rattle.std.proofs.Common.{◌≡◌, ℕ, List, [], ◌∷◌, ◌++◌, map, Some, None, Option, refl, ap, ◌∙◌, subst}
use Rattle.std.specs.Prelude.{slice_get, option_map, option_to_list}
use Rattle.std.specs.List.{flat_map}
use Rattle.ipg_core.specs.Grammar.{Grammar}
use Rattle.ipg_core.specs.MustTouch.{Marks}
use Rattle.ipg_graph.specs.declared.edge.Edge.{Edge}
use Rattle.ipg_facts_edges.specs.Edges.{edges_of}
use Rattle.ipg_facts.specs.Keep.{keep}
use Rattle.ipg_facts_forms.specs.Joint.{joint}
use Rattle.ipg_facts_laws.specs.Laws.{ReachedEdgesSolve, ReachedCyclesSolve}
use Rattle.ipg_facts_laws.specs.Along.{edges_at}
use Rattle.ipg_facts_laws.specs.Conditions.{keep_at, IsUnsolvable}
use Rattle.ipg_facts_laws.specs.Ends.{EndsWithoutCycles, EndsWhereNoneSolve}

module _ (g : Grammar) (marks : Marks) where
  one_kept : (o : Option Edge) (es : List Edge)
      → option_to_list (option_map (keep g marks) o) ++ map (keep g marks) es ≡ map (keep g marks) (option_to_list o ++ es)
  one_kept None es = refl
  one_kept (Some e) es = refl

  -- the conditions of the edges of these numbers
  kept : (numbers : List ℕ) → flat_map (λ e. option_to_list (keep_at g marks e)) numbers ≡ map (keep g marks) (edges_at g numbers)
  kept [] = refl
  kept (e ∷ numbers) = ap (λ parts. option_to_list (keep_at g marks e) ++ parts) (kept numbers) ∙ one_kept (slice_get (edges_of g) e) (edges_at g numbers)

pub ends_where_none_solve : EndsWithoutCycles → ReachedEdgesSolve → ReachedCyclesSolve → EndsWhereNoneSolve
ends_where_none_solve ends edge cycles g marks dead good limit no_edge no_cycle = ends g dead good
    (λ number n e at is on.
    let s = edge g marks e on.part on.outer on.height good limit on.input on.grown on.reached in
    no_edge number (keep g marks e) is (ap (option_map (keep g marks)) at) (s.0, s.1.0, s.1.1))
    (λ cycle n simple all.
    let s = cycles g marks (edges_at g cycle) n good limit all in
    subst (λ parts. IsUnsolvable (joint parts)) (kept g marks cycle) (no_cycle cycle simple) (s.0, s.1.0, s.1.1))
