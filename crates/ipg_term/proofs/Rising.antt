-- Dead edges, one after another.
use Rattle.std.proofs.Common.{◌≡◌, ℕ, ◌+◌, ◌≤◌, List, [], ◌∷◌, ◌++◌, map, true, Some, ap, ◌∙◌, arith}
use Rattle.std.specs.Prelude.{IsTrue, option_map}
use Rattle.std.specs.List.{AllByRecursion}
use Rattle.ipg_lin.specs.declared.formula.Formula.{Formula}
use Rattle.ipg_lin.specs.declared.formula.Boxed.{Boxed}
use Rattle.ipg_core.specs.MustTouch.{or_false}
use Rattle.ipg_cert.specs.declared.refutation.Refutation.{Refutation}
use Rattle.ipg_proof.specs.Calls.{CallGraph, keep_of, is_checked, edge_checks}
use Rattle.ipg_proof.specs.Places.{Rise}
use Rattle.ipg_term.specs.Refuted.{AreDead}

pub pushed : {A : Type 0} (P : A → Type 0) (xs : List A) (x : A) → AllByRecursion P xs → P x → AllByRecursion P (xs ++ x ∷ [])
pushed P [] x h k = (k, tt)
pushed P (y ∷ xs) x h k = (h.0, pushed P xs x h.1 k)

rise_more : (edges low : ℕ) (dead : List ℕ) → Rise edges low dead → Rise (edges + 1) low dead
rise_more edges low [] h = tt
rise_more edges low (e ∷ dead) h = ((h.0.0, omega (arith, h.0.1)), rise_more edges (e + 1) dead h.1)

rise_last : (edges low : ℕ) (dead : List (ℕ × Refutation)) (r : Refutation) → low ≤ edges → Rise edges low (map (λ entry. entry.0) dead)
    → Rise (edges + 1) low (map (λ entry. entry.0) (dead ++ (edges, r) ∷ []))
rise_last edges low [] r l h = ((l, omega arith), tt)
rise_last edges low (e ∷ dead) r l h = ((h.0.0, omega (arith, h.0.1)), rise_last edges (e.0 + 1) dead r (omega (arith, h.0.1)) h.1)

pub none_dead : (calls : CallGraph) → AreDead calls 0 []
none_dead calls = record { rise = tt; check = tt }

pub more_alive : (calls : CallGraph) (edges : ℕ) (dead : List (ℕ × Refutation)) → AreDead calls edges dead → AreDead calls (edges + 1) dead
more_alive calls edges dead are = record { rise = rise_more edges 0 (map (λ entry. entry.0) dead) are.rise; check = are.check }

pub more_dead : (calls : CallGraph) (edges : ℕ) (dead : List (ℕ × Refutation)) (r : Refutation) → AreDead calls edges dead
    → IsTrue (edge_checks calls (edges, r))
    → AreDead calls (edges + 1) (dead ++ (edges, r) ∷ [])
more_dead calls edges dead r are on = record {
  rise = rise_last edges 0 dead r (omega arith) are.rise;
  check = pushed (λ entry. IsTrue (edge_checks calls entry)) dead (edges, r) are.check on;
}

pub edge_on : (calls : CallGraph) (e : ℕ) (part : Formula × Boxed) (r : Refutation) → keep_of calls e ≡ Some part → is_checked r part ≡ true
    → edge_checks calls (e, r) ≡ true
edge_on calls e part r is on = ap (λ o. or_false (option_map (is_checked r) o)) is ∙ on
