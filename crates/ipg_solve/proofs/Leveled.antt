-- What the levels or the circle of the graph say of the formula.
use Rattle.std.proofs.Common.{◌≡◌, ℕ, suc, ◌+◌, ◌^◌, ◌<◌, ◌≤◌, inl, inr, true, false, ◌&&◌, ℤ, pos, negsuc, neg_ℤ, ◌+ℤ◌, ◌-ℤ◌, List, [], ◌∷◌, ◌++◌, length}
use Rattle.std.proofs.Common.{get_or, refl, sym, ◌∙◌, ap, subst, arith}
use Rattle.std.specs.Prelude.{Some, slice_get, int_le, ◌≤ℤ◌}
use Rattle.std.specs.List.{AllByRecursion}
use Rattle.std.proofs.lemmas.Int.{ints}
use Rattle.std.proofs.lemmas.Bool.{cases_lt}
use Rattle.std.proofs.lemmas.List.{length_push, get_or_push, get_or_append_left}
use Rattle.std.proofs.lemmas.Option.{slice_get-get_or, slice_get_within, unwrap_or-slice_get, get_or_from_slice_get}
use Rattle.ipg_lin.specs.Form.{Form, Assignment, value_at}
use Rattle.ipg_lin.specs.Formula.{assigned}
use Rattle.ipg_lin.specs.declared.formula.Formula.{Formula}
use Rattle.ipg_lin.specs.declared.formula.Boxed.{Boxed}
use Rattle.ipg_cert.specs.Facts.{Fact, AtMost, Choice, all_hold, bound_facts, facts_of}
use Rattle.ipg_cert.specs.Checks.{root_facts, combines}
use Rattle.ipg_cert.specs.Laws.{SumTakes, CancelledIsAbsurd}
use Rattle.ipg_solve_potentials.specs.declared.difference.Difference.{Difference}
use Rattle.ipg_solve_potentials.specs.declared.settling.Potentials.{Potentials}
use Rattle.ipg_solve_potentials.specs.declared.settling.Potentials.TheVariants.{Levels, Circle}
use Rattle.ipg_solve_potentials.specs.Falls.{level_at, Falls, AllFall, Settles}
use Rattle.ipg_solve.specs.Decides.{Solves}
use Rattle.ipg_solve.specs.Differences.{are_differences}
use Rattle.ipg_solve.specs.Edges.{edge_of, edges_in, entries_of, IsSized, AreBetween, AreHeights}
use Rattle.ipg_solve.specs.Domains.{domain_at}
use Rattle.ipg_solve.specs.Cuts.{start_domains}
use Rattle.ipg_solve.specs.Within.{no_bounds}
use Rattle.ipg_solve.proofs.Parts.{start_length, start_at, start_domain, start_holds, Stands}
use Rattle.ipg_solve.proofs.Shapes.{AreLevels, valued}
use Rattle.ipg_solve.proofs.Narrow.{IsNarrow, all_hold-split, sure}
use Rattle.ipg_solve.proofs.Graph.{edge_is}
use Rattle.ipg_solve.proofs.Circling.{circle_combines}

-- along the edge of a fact among the facts the levels fall
fall_at : (vars : ℕ) (levels : List ℤ) (facts : List Fact) (n : ℕ) (form : Form) → AllByRecursion (IsNarrow vars) facts
    → AllFall levels (edges_in facts) → slice_get facts n ≡ Some (AtMost form) → Falls levels (edge_of form)
fall_at vars levels facts n form narrow falls at = let is = edge_is vars facts n form narrow at in subst (Falls levels) is.1 (falls n is.0)

pub between : (f : Formula) (box : Boxed) (levels : List ℤ) → AllByRecursion (IsNarrow (length box.bounds)) (root_facts f box)
    → AllFall levels (edges_in (root_facts f box)) → AreBetween levels box.bounds
between f box levels narrow falls x within =
    let facts = root_facts f box in
    let b = get_or box.bounds x no_bounds in
    let is : domain_at (start_domains 0 box.bounds) x ≡ start_domain (0 + x) b = start_at 0 box.bounds x b (slice_get-get_or box.bounds x no_bounds within) in
    let stands : Stands facts x (start_domain (0 + x) b) = subst (Stands facts x) is (start_holds f box x (omega (arith, start_length 0 box.bounds))) in
    let low : (level_at levels 0 +ℤ b.0) ≤ℤ level_at levels (x + 1) = fall_at (length box.bounds) levels facts _
    (record { terms = (x, negsuc 0) ∷ []; constant = b.0 }) narrow falls stands.0 in
    let high : (level_at levels (x + 1) +ℤ neg_ℤ b.1) ≤ℤ level_at levels 0 = fall_at (length box.bounds) levels facts _
    (record { terms = (x, pos 1) ∷ []; constant = neg_ℤ b.1 }) narrow falls stands.1 in
    (omega (arith, ints, low), omega (arith, ints, high))

form_holds : (vars : ℕ) (levels : List ℤ) (values : Assignment) (form : Form) → AreLevels vars levels values → IsNarrow vars (AtMost form)
    → Falls levels (edge_of form) → int_le (value_at values form) (pos 0) ≡ true
form_holds vars levels values form are narrow falls =
    elim (int_le (value_at values form) (pos 0)) as (λ r. int_le (value_at values form) (pos 0) ≡ r → r ≡ true) [
      | true ↦ λ e. refl
      | false ↦ λ e. absurd (omega (arith, ints, falls, valued vars levels values are form.terms narrow.0 narrow.1))
    ] refl

facts_hold : (vars : ℕ) (levels : List ℤ) (values : Assignment) (facts : List Fact) → AreLevels vars levels values
    → AllByRecursion (IsNarrow vars) facts → AllFall levels (edges_in facts) → all_hold values facts ≡ true
facts_hold vars levels values [] are narrow falls = refl
facts_hold vars levels values (AtMost form ∷ facts) are narrow falls =
    ap (λ b. b && all_hold values facts) (form_holds vars levels values form are narrow.0 (falls 0 (omega arith)))
    ∙ facts_hold vars levels values facts are narrow.1 (λ n within. falls (suc n) (omega arith))
facts_hold vars levels values (Choice members ∷ facts) are narrow falls = absurd narrow.0

pub levels_solve : (f : Formula) (box : Boxed) (levels values : List ℤ) → are_differences f ≡ true
    → AllByRecursion (IsNarrow (length box.bounds)) (root_facts f box) → AllFall levels (edges_in (root_facts f box))
    → AreHeights (length box.bounds) levels values → Solves f box values
levels_solve f box levels values difference narrow falls heights =
    let are : AreLevels (length box.bounds) levels (assigned values) = λ x within. unwrap_or-slice_get values x (pos 0) ∙ heights.1 x within in
    let hold = facts_hold (length box.bounds) levels (assigned values) (root_facts f box) are narrow falls in (
      heights.0,
      λ x low high at.
          let within : x < length box.bounds = slice_get_within box.bounds x (low, high) at in
          let b = between f box levels narrow falls x within in
          let is : get_or box.bounds x no_bounds ≡ (low, high) = get_or_from_slice_get box.bounds x (low, high) no_bounds at in
          let value = are x within in
          (omega (arith, ints, b.0, value, ap (λ (p : ℤ × ℤ). p.0) is), omega (arith, ints, b.1, value, ap (λ (p : ℤ × ℤ). p.1) is)),
      (sure f difference).1 (assigned values) (all_hold-split (assigned values) (bound_facts 0 box.bounds) (facts_of f) hold).1,
    )

pub height_more : (vars : ℕ) (levels old new : List ℤ) (value : ℤ) → AreHeights vars levels old → new ≡ old ++ value ∷ []
    → value ≡ level_at levels (vars + 1) -ℤ level_at levels 0 → AreHeights (vars + 1) levels new
height_more vars levels old new value heights is here = (
  ap length is ∙ length_push old value ∙ ap (λ k. k + 1) heights.0,
  λ x within.
      ap (λ vs. get_or vs x (pos 0)) is
      ∙ elim (cases_lt x vars) [
        | inl below ↦ get_or_append_left old (value ∷ []) (pos 0) x (omega (arith, heights.0)) ∙ heights.1 x below
        | inr past ↦
            let last : x ≡ vars = omega arith in
            get_or_push old value (pos 0) x (heights.0 ∙ sym last) ∙ here ∙ ap (λ k. level_at levels (k + 1) -ℤ level_at levels 0) (sym last)
      ],
)

pub levels_fall : (nodes : ℕ) (facts : List Fact) (edges lent : List Difference) (settled : Potentials) (levels seen : List ℤ) → Settles nodes lent settled
    → settled ≡ Levels levels → lent ≡ edges → edges ≡ edges_in facts → seen ≡ levels
    → (length seen ≡ nodes) × AllFall seen (edges_in facts)
levels_fall nodes facts edges lent settled levels seen settles is lent_is edges_are seen_are =
    subst (λ ls. (length ls ≡ nodes) × AllFall ls (edges_in facts)) (sym seen_are)
    (subst (λ es. Settles nodes es (Levels levels)) (lent_is ∙ edges_are) (subst (Settles nodes lent) is settles))

pub circle_refutes : SumTakes → CancelledIsAbsurd → (f : Formula) (box : Boxed) (edges lent : List Difference) (settled : Potentials) (circle : List ℕ)
    → AllByRecursion (IsNarrow (length box.bounds)) (root_facts f box) → AllByRecursion IsSized (root_facts f box) → length box.bounds < 2 ^ 21
    → Settles (length box.bounds + 1) lent settled → settled ≡ Circle circle → lent ≡ edges → edges ≡ edges_in (root_facts f box)
    → (combines (entries_of circle) (root_facts f box) ≡ true) × (length circle ≤ length box.bounds + 1)
circle_refutes takes cancelled f box edges lent settled circle narrow sized few settles is lent_is edges_are =
    let here : Settles (length box.bounds + 1) (edges_in (root_facts f box)) (Circle circle) =
    subst (λ es. Settles (length box.bounds + 1) es (Circle circle)) (lent_is ∙ edges_are) (subst (Settles (length box.bounds + 1) lent) is settles)
    in
    (circle_combines takes cancelled (length box.bounds) (root_facts f box) circle narrow sized here.0 (omega (arith, here.1)), here.1)
