-- The facts at the root of a formula of differences as edges of a graph.
use Rattle.std.proofs.Common.{◌≡◌, ℕ, zero, suc, ◌+◌, ◌^◌, ◌<◌, ◌≤◌, true, pos, negsuc, List, [], ◌∷◌, length, refl, sym, ap, subst, arith}
use Rattle.std.specs.Prelude.{Some, slice_get}
use Rattle.std.specs.Int.RustNames.{unsigned_abs}
use Rattle.std.specs.List.{AllByRecursion}
use Rattle.ipg_lin.specs.Form.{Form, terms_width}
use Rattle.ipg_lin.specs.Formula.{width}
use Rattle.ipg_lin.specs.declared.formula.Formula.{Formula}
use Rattle.ipg_lin.specs.declared.formula.Boxed.{Boxed}
use Rattle.ipg_cert.specs.Facts.{Fact, AtMost, Choice, facts_of, bound_facts}
use Rattle.ipg_cert.specs.Checks.{root_facts}
use Rattle.ipg_solve_potentials.specs.Falls.{edge_at, IsEdge, AreEdges}
use Rattle.ipg_solve.specs.Differences.{is_difference, are_differences}
use Rattle.ipg_solve.specs.Edges.{edge_of, edges_in, IsSized}
use Rattle.ipg_solve.proofs.Shapes.{node_below}
use Rattle.ipg_solve.proofs.Narrow.{IsNarrow, all_append, bounds_narrow, sure}

-- the edge of this number is the fact of this number
pub record IsFact (vars : ℕ) (facts : List Fact) (n : ℕ) : Type 0 where
  pub form : Form
  pub at : slice_get facts n ≡ Some (AtMost form)
  pub edge : edge_at (edges_in facts) n ≡ edge_of form
  pub difference : is_difference form.terms ≡ true
  pub narrow : terms_width form.terms ≤ vars
  pub sized : unsigned_abs form.constant ≤ 2 ^ 64

pub fact_at : (vars : ℕ) (facts : List Fact) (n : ℕ) → AllByRecursion (IsNarrow vars) facts → AllByRecursion IsSized facts
    → n < length (edges_in facts) → IsFact vars facts n
fact_at vars [] n narrow sized within = absurd (omega arith)
fact_at vars (AtMost form ∷ facts) zero narrow sized within =
    record { form = form; at = refl; edge = refl; difference = narrow.0.0; narrow = narrow.0.1; sized = sized.0 }
fact_at vars (AtMost form ∷ facts) (suc n) narrow sized within =
    let rest = fact_at vars facts n narrow.1 sized.1 (omega arith) in
    record { form = rest.form; at = rest.at; edge = rest.edge; difference = rest.difference; narrow = rest.narrow; sized = rest.sized }
fact_at vars (Choice members ∷ facts) n narrow sized within = absurd narrow.0

-- each fact is an edge
pub edge_is : (vars : ℕ) (facts : List Fact) (n : ℕ) (form : Form) → AllByRecursion (IsNarrow vars) facts → slice_get facts n ≡ Some (AtMost form)
    → (n < length (edges_in facts)) × (edge_at (edges_in facts) n ≡ edge_of form)
edge_is vars [] n form narrow at = absurd (cc)
edge_is vars (AtMost first ∷ facts) zero form narrow at = let same : first ≡ form = cc in (omega arith, ap edge_of same)
edge_is vars (AtMost first ∷ facts) (suc n) form narrow at = let rest = edge_is vars facts n form narrow.1 at in (omega (arith, rest.0), rest.1)
edge_is vars (Choice members ∷ facts) n form narrow at = absurd narrow.0

pub joined : (vars : ℕ) (facts : List Fact) → AllByRecursion (IsNarrow vars) facts → AllByRecursion IsSized facts → AreEdges (vars + 1) (edges_in facts)
joined vars facts narrow sized n within =
    let fact = fact_at vars facts n narrow sized within in
    subst (IsEdge (vars + 1)) (sym fact.edge) (
      omega (arith, fact.narrow, node_below (negsuc 0) fact.form.terms),
      omega (arith, fact.narrow, node_below (pos 1) fact.form.terms),
      fact.sized,
    )

pub root_narrow : (f : Formula) (box : Boxed) → are_differences f ≡ true → width f ≤ length box.bounds
    → AllByRecursion (IsNarrow (length box.bounds)) (root_facts f box)
root_narrow f box h w = all_append (IsNarrow (length box.bounds)) (bound_facts 0 box.bounds) (facts_of f)
    (bounds_narrow (length box.bounds) 0 box.bounds (omega arith)) ((sure f h).0 (length box.bounds) w)
