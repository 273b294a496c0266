-- The facts of a circle that falls sum up to a constant above 0.
use Rattle.std.proofs.Common.{◌≡◌, ℕ, ◌^◌, ◌≤◌, true, false, ◌&&◌, nat_le, ℤ, pos, ◌+ℤ◌, List, [], ◌∷◌, length, refl, sym, ◌∙◌, ap, arith}
use Rattle.std.specs.Prelude.{Some, option_and_then, int_lt, ◌<ℤ◌}
use Rattle.std.specs.List.{AllByRecursion}
use Rattle.std.proofs.lemmas.Int.{ints}
use Rattle.std.proofs.lemmas.List.{length-map}
use borrow.Author.Tests.{le-leb}
use borrow.Author.Differences.{same_in, product_is}
use Rattle.ipg_lin.specs.Form.{Form}
use Rattle.ipg_cert.specs.Facts.{Fact}
use Rattle.ipg_cert.specs.Checks.{atom_in, coefficient, plus_times, zero_form, sum_from, weighted_sum, is_absurd, combines}
use Rattle.ipg_cert.specs.Laws.{SumTakes, CancelledIsAbsurd}
use Rattle.ipg_solve_potentials.specs.declared.difference.Difference.{Difference}
use Rattle.ipg_solve_potentials.specs.Falls.{edge_at, LeadBack, fall_of, IsCircle}
use Rattle.ipg_solve.specs.Edges.{edges_in, IsSized, entries_of}
use Rattle.ipg_solve.proofs.Shapes.{unit, taken}
use Rattle.ipg_solve.proofs.Narrow.{IsNarrow}
use Rattle.ipg_solve.proofs.Graph.{fact_at}

-- The facts of edges that lead back were added to a sum.
record Summed (facts : List Fact) (node start : ℕ) (numbers : List ℕ) (sum : Form) : Type 0 where
  whole : Form
  leads : sum_from facts sum (entries_of numbers) ≡ Some whole
  terms : (y : ℕ) → coefficient y whole.terms +ℤ unit y start ≡ coefficient y sum.terms +ℤ unit y node
  constant : whole.constant ≡ sum.constant +ℤ fall_of (edges_in facts) numbers

summed : SumTakes → (vars : ℕ) (facts : List Fact) → AllByRecursion (IsNarrow vars) facts → AllByRecursion IsSized facts
    → (node start : ℕ) (numbers : List ℕ) (sum : Form) → LeadBack (edges_in facts) node numbers start → Summed facts node start numbers sum
summed takes vars facts narrow sized node start [] sum back =
    record { whole = sum; leads = refl; terms = λ y. ap (λ k. coefficient y sum.terms +ℤ unit y k) (sym back); constant = same_in _ _ (omega (arith, ints)) }
summed takes vars facts narrow sized node start (n ∷ numbers) sum back =
    let fact = fact_at vars facts n narrow sized back.0 in
    let edge = edge_at (edges_in facts) n in
    let rest = summed takes vars facts narrow sized edge.from start numbers (plus_times 1 fact.form sum) back.2 in
    record {
      whole = rest.whole;
      leads = ap (option_and_then (λ form. sum_from facts (plus_times 1 form sum) (entries_of numbers))) (ap atom_in fact.at) ∙ rest.leads;
      terms = λ y.
          same_in _ _ (omega (
            arith,
            ints,
            rest.terms y,
            takes y 1 fact.form sum,
            product_is (pos 1) (coefficient y fact.form.terms),
            taken fact.form.terms fact.difference y,
            ap (λ (e : Difference). unit y e.from) fact.edge,
            ap (λ (e : Difference). unit y e.to) fact.edge,
            ap (unit y) back.1,
          ));
      constant = same_in _ _ (omega (arith, ints, rest.constant, product_is (pos 1) fact.form.constant, ap (λ (e : Difference). e.fall) fact.edge));
    }

above_test : (z : ℤ) → pos 0 <ℤ z → int_lt (pos 0) z ≡ true
above_test z h = elim (int_lt (pos 0) z) as (λ r. int_lt (pos 0) z ≡ r → r ≡ true) [ true ↦ λ f. refl | false ↦ λ f. absurd (omega (arith, ints)) ] refl

some_edge : (facts : List Fact) (numbers : List ℕ) → pos 0 <ℤ fall_of (edges_in facts) numbers → 1 ≤ length numbers
some_edge facts [] h = absurd (omega (arith, ints))
some_edge facts (n ∷ numbers) h = omega arith

pub circle_combines : SumTakes → CancelledIsAbsurd → (vars : ℕ) (facts : List Fact) (circle : List ℕ)
    → AllByRecursion (IsNarrow vars) facts → AllByRecursion IsSized facts
    → IsCircle (edges_in facts) circle → length circle ≤ 2 ^ 21 → combines (entries_of circle) facts ≡ true
circle_combines takes cancelled vars facts circle narrow sized falls few =
    let entries : List (ℕ × ℕ) = entries_of circle in
    let sum = summed takes vars facts narrow sized falls.0 falls.0 circle zero_form falls.1 in
    let count : length entries ≡ length circle = length-map circle (λ (n : ℕ). (1, n)) in
    ap (λ b. b && (nat_le (length entries) (2 ^ 21) && is_absurd (weighted_sum facts entries)))
    (le-leb 1 (length entries) (omega (arith, count, some_edge facts circle falls.2)))
    ∙ ap (λ b. b && is_absurd (weighted_sum facts entries)) (le-leb (length entries) (2 ^ 21) (omega (arith, count)))
    ∙ ap is_absurd sum.leads
    ∙ cancelled sum.whole (λ y. same_in _ _ (omega (arith, ints, sum.terms y)))
    (above_test sum.whole.constant (omega (arith, ints, sum.constant, falls.2)))
