-- The box with a variable that can have no value.
use Rattle.std.proofs.Common.{◌≡◌, ℕ, ◌+◌, ◌<◌, max, true, false, ◌&&◌, ℤ, pos, negsuc, ◌+ℤ◌, ◌*ℤ◌, List, [], ◌∷◌, length, get_or, refl, sym, ◌∙◌, ap}
use Rattle.std.proofs.Common.{subst, arith}
use Rattle.std.specs.Prelude.{Some, int_lt, ◌≤ℤ◌, ◌<ℤ◌}
use Rattle.std.proofs.lemmas.Int.{ints}
use Rattle.std.proofs.lemmas.Option.{slice_get-get_or, slice_get_within}
use borrow.Author.Tests.{le-leb}
use borrow.Author.Differences.{product_is}
use Rattle.ipg_lin.specs.Form.{Form, in_rule}
use Rattle.ipg_lin.specs.Formula.{assigned}
use Rattle.ipg_lin.specs.declared.formula.Formula.{Formula}
use Rattle.ipg_lin.specs.declared.formula.Boxed.{Boxed}
use Rattle.ipg_cert.specs.Facts.{at_least}
use Rattle.ipg_cert.specs.Checks.{combines, checks, root_facts}
use Rattle.ipg_cert.specs.declared.refutation.Refutation.{Refutation}
use Rattle.ipg_cert.specs.declared.refutation.Step.TheVariants.{Combine}
use Rattle.ipg_cert.specs.Laws.{ChecksRefute}
use Rattle.ipg_solve.specs.declared.decision.Decision.{Decision}
use Rattle.ipg_solve.specs.declared.decision.Decision.TheVariants.{Solution, Refuted}
use Rattle.ipg_solve.specs.declared.domain.Domain.{Domain}
use Rattle.ipg_solve.specs.Decides.{Decides, IsExact}
use Rattle.ipg_solve.specs.Differences.{IsShort}
use Rattle.ipg_solve.specs.Laws.{EndsCombine}
use Rattle.ipg_solve.specs.Crossed.{IsCrossed}
use Rattle.ipg_solve.specs.Domains.{domain_at, least_of, AreFull}
use Rattle.ipg_solve.specs.Cuts.{start_domains}
use Rattle.ipg_solve.proofs.Ends.{atom_combines}
use Rattle.ipg_solve.proofs.Parts.{start_length, start_at, start_domain, start_holds, Stands}

abbrev pub no_bounds : ℤ × ℤ
no_bounds = (pos 0, pos 0)

pub full_start : (bounds : List (ℤ × ℤ)) → ((k : ℕ) → k < length bounds → int_lt (get_or bounds k no_bounds).1 (get_or bounds k no_bounds).0 ≡ false)
    → AreFull (start_domains 0 bounds)
full_start bounds none x within =
    let inside : x < length bounds = omega (arith, start_length 0 bounds) in
    let b = get_or bounds x no_bounds in
    let apart : int_lt b.1 b.0 ≡ false = none x inside in
    let low : b.0 ≤ℤ b.1 = omega (arith, ints) in
    subst (λ (s : Domain). s.low ≤ℤ s.high) (sym (start_at 0 bounds x b (slice_get-get_or bounds x no_bounds inside))) low

pub cross_here : (bounds : List (ℤ × ℤ)) (x : ℕ) → x < length bounds → int_lt (get_or bounds x no_bounds).1 (get_or bounds x no_bounds).0 ≡ true
    → IsCrossed bounds x
cross_here bounds x within h = let b = get_or bounds x no_bounds in (b.0, b.1, slice_get-get_or bounds x no_bounds within, omega (arith, ints, h))

is_above_zero : (domains : List Domain) (x : ℕ) (low high : ℤ) → (domain_at domains x).high ≡ high → high <ℤ low
    → int_lt (pos 0) (least_of domains (record { terms = (x, negsuc 0) ∷ []; constant = low })) ≡ true
is_above_zero domains x low high e h =
    let z = ((negsuc 0 *ℤ (domain_at domains x).high) +ℤ pos 0) +ℤ low in
    elim (int_lt (pos 0) z) as (λ r. int_lt (pos 0) z ≡ r
    → r ≡ true) [ true ↦ λ f. refl | false ↦ λ f. absurd (omega (arith, ints, product_is (negsuc 0) (domain_at domains x).high)) ] refl

crossed_combines : EndsCombine → (f : Formula) (box : Boxed) (x : ℕ) → IsCrossed box.bounds x
    → combines ((1, x + x) ∷ (1, x + x + 1) ∷ []) (root_facts f box) ≡ true
crossed_combines law f box x c =
    let domains = start_domains 0 box.bounds in
    let within : x < length domains = omega (arith, start_length 0 box.bounds, slice_get_within box.bounds x (c.0, c.1) c.2) in
    let is : domain_at domains x ≡ start_domain (0 + x) (c.0, c.1) = start_at 0 box.bounds x (c.0, c.1) c.2 in
    let held : Stands (root_facts f box) x (domain_at domains x) = start_holds f box x within in
    let form : Form = record { terms = (x, negsuc 0) ∷ []; constant = c.0 } in
    let rule : in_rule form.terms ≡ true = ap (λ b. (b && true) && true) (le-leb 0 x (omega arith)) in
    let e : (x + x ≡ (domain_at domains x).low_at) × (x + x + 1 ≡ (domain_at domains x).high_at) =
    (omega (arith, ap (λ (s : Domain). s.low_at) is), omega (arith, ap (λ (s : Domain). s.high_at) is)) in
    ap (λ n. combines ((1, n) ∷ (1, x + x + 1) ∷ []) (root_facts f box)) e.0
    ∙ ap (λ n. combines ((1, (domain_at domains x).low_at) ∷ (1, n) ∷ []) (root_facts f box)) e.1
    ∙ atom_combines law (root_facts f box) domains (domain_at domains x).low_at form (start_holds f box) (omega arith) rule
    (held.0 ∙ ap (λ (s : Domain). Some (at_least x s.low)) is)
    (is_above_zero domains x c.0 c.1 (ap (λ (s : Domain). s.high) is) c.3)

pub crossed_checks : EndsCombine → (f : Formula) (box : Boxed) (x : ℕ) (r : Refutation) → IsCrossed box.bounds x
    → r ≡ record { steps = Combine ((1, x + x) ∷ (1, x + x + 1) ∷ []) ∷ [] } → checks f box r ≡ true
crossed_checks law f box x r c is = ap (checks f box) is ∙ ap (λ b. b && true) (crossed_combines law f box x c)

pub crossed_short : (vars x : ℕ) (r : Refutation) → r ≡ record { steps = Combine ((1, x + x) ∷ (1, x + x + 1) ∷ []) ∷ [] } → IsShort (max 1 vars) (Refuted r)
crossed_short vars x r is = ((1, x + x) ∷ (1, x + x + 1) ∷ [], ap (λ (s : Refutation). s.steps) is, omega arith)

pub is_exact : ChecksRefute → (f : Formula) (box : Boxed) (decision : Decision) → Decides f box decision → IsExact f box decision
is_exact law f box (Solution values) d = (λ _. (assigned values, d.1, d.2), λ _. refl)
is_exact law f box (Refuted r) d = (λ h. absurd (cc), λ s. absurd (law f box r d s))
