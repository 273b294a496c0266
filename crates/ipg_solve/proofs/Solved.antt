-- A point that the domains don't rule out solves the formula.
use Rattle.std.proofs.Common.{◌≡◌, ℕ, zero, suc, ◌+◌, ◌<◌, ◌≤◌, Bool, true, false, ◌&&◌, ◌||◌, not, ℤ, pos, negsuc, ◌+ℤ◌, ◌*ℤ◌, List, [], ◌∷◌, map}
use Rattle.std.proofs.Common.{length, refl, sym, ◌∙◌, ap, subst, arith}
use Rattle.std.specs.Prelude.{int_le, int_lt, ◌≤ℤ◌}
use Rattle.std.proofs.lemmas.Int.{ints}
use Rattle.std.proofs.lemmas.List.{length-map}
use Rattle.std.proofs.lemmas.Option.{slice_get_within}
use Rattle.ipg_lin.specs.Form.{Form, sum_at, value_at, terms_width}
use Rattle.ipg_lin.specs.Formula.{holds_at, holds_step, every, some, greatest, width, width_step, assigned, LiesIn}
use Rattle.ipg_lin.specs.declared.formula.Formula.{Formula}
use Rattle.ipg_lin.specs.declared.formula.Formula.TheVariants as formula
use Rattle.ipg_lin.specs.Members.{by_members, folds-Atom, folds-All, folds-Any}
use Rattle.std.specs.List.{AllByRecursion}
use Rattle.ipg_lin.specs.declared.formula.Boxed.{Boxed}
use Rattle.ipg_cert.specs.declared.refutation.Step.{Step}
use Rattle.ipg_solve.specs.declared.domain.Domain.{Domain}
use Rattle.ipg_solve.specs.declared.domain_cut.DomainCut.{DomainCut}
use Rattle.ipg_solve.specs.Decides.{Solves}
use Rattle.ipg_solve.specs.Domains.{domain_at, end_of, least, rules_out, rules_out_step, AreFull, ArePoints}
use Rattle.ipg_solve.specs.Cuts.{start_domains, Halved}
use Rattle.ipg_solve.proofs.Parts.{length_after, start_length, start_at, within_after, full_after, start_domain, LiesWithin}

-- the lower ends as values
abbrev lows : List Domain → List ℤ
lows domains = map (λ (s : Domain). s.low) domains

assigned_low : (domains : List Domain) (x : ℕ) → x < length domains → assigned (lows domains) x ≡ (domain_at domains x).low
assigned_low [] x h = absurd (omega arith)
assigned_low (s ∷ domains) zero h = refl
assigned_low (s ∷ domains) (suc x) h = assigned_low domains x (omega arith)

point_end : (domain : Domain) (c : ℤ) → domain.low ≡ domain.high → end_of domain c ≡ domain.low
point_end domain (pos c) e = refl
point_end domain (negsuc c) e = sym e

point_least : (domains : List Domain) (terms : List (ℕ × ℤ)) → ArePoints domains → terms_width terms ≤ length domains
    → least domains terms ≡ sum_at (assigned (lows domains)) terms
point_least domains [] points h = refl
point_least domains (t ∷ terms) points h =
    let within : t.0 < length domains = omega arith in
    ap (λ z. (t.1 *ℤ z) +ℤ least domains terms) (point_end (domain_at domains t.0) t.1 (points t.0 within) ∙ sym (assigned_low domains t.0 within))
    ∙ ap (λ z. (t.1 *ℤ assigned (lows domains) t.0) +ℤ z) (point_least domains terms points (omega arith))

not_above : (z : ℤ) → int_lt (pos 0) z ≡ not (int_le z (pos 0))
not_above z =
    elim (int_le z (pos 0)) as (λ b. int_le z (pos 0) ≡ b → int_lt (pos 0) z ≡ not b) [
      | true ↦ λ e. elim (int_lt (pos 0) z) as (λ r. int_lt (pos 0) z ≡ r → r ≡ false) [ true ↦ λ f. absurd (omega (arith, ints)) | false ↦ λ f. refl ] refl
      | false ↦ λ e. elim (int_lt (pos 0) z) as (λ r. int_lt (pos 0) z ≡ r → r ≡ true) [ true ↦ λ f. refl | false ↦ λ f. absurd (omega (arith, ints)) ] refl
    ] refl

-- at the point the formula is ruled out exactly where it fails
abbrev IsJudged : List Domain → Formula → Type 0
IsJudged domains f = width f ≤ length domains → rules_out domains f ≡ not (holds_at (assigned (lows domains)) f)

judged_some : (domains : List Domain) (fs : List Formula) → AllByRecursion (IsJudged domains) fs → greatest (map width fs) ≤ length domains
    → some (map (rules_out domains) fs) ≡ not (every (map (holds_at (assigned (lows domains))) fs))
judged_some domains [] each h = refl
judged_some domains (f ∷ fs) each h =
    let v = assigned (lows domains) in
    ap (λ b. b || some (map (rules_out domains) fs)) (each.0 (omega arith))
    ∙ ap (λ b. not (holds_at v f) || b) (judged_some domains fs each.1 (omega arith))
    ∙ elim (holds_at v f) as (λ b. (not b || not (every (map (holds_at v) fs))) ≡ not (b && every (map (holds_at v) fs))) [ true ↦ refl | false ↦ refl ]

judged_every : (domains : List Domain) (fs : List Formula) → AllByRecursion (IsJudged domains) fs → greatest (map width fs) ≤ length domains
    → every (map (rules_out domains) fs) ≡ not (some (map (holds_at (assigned (lows domains))) fs))
judged_every domains [] each h = refl
judged_every domains (f ∷ fs) each h =
    let v = assigned (lows domains) in
    ap (λ b. b && every (map (rules_out domains) fs)) (each.0 (omega arith))
    ∙ ap (λ b. not (holds_at v f) && b) (judged_every domains fs each.1 (omega arith))
    ∙ elim (holds_at v f) as (λ b. (not b && not (some (map (holds_at v) fs))) ≡ not (b || some (map (holds_at v) fs))) [ true ↦ refl | false ↦ refl ]

on_atom : (domains : List Domain) → ArePoints domains → (form : Form) → IsJudged domains (formula.Atom form)
on_atom domains points form h =
    let v = assigned (lows domains) in
    let within : terms_width form.terms ≤ length domains = subst (λ n. n ≤ length domains) (folds-Atom ℕ width_step form) h in
    folds-Atom Bool (rules_out_step domains) form
    ∙ ap (λ z. int_lt (pos 0) (z +ℤ form.constant)) (point_least domains form.terms points within)
    ∙ not_above (value_at v form)
    ∙ ap not (sym (folds-Atom Bool (holds_step v) form))

on_all : (domains : List Domain) (fs : List Formula) → AllByRecursion (IsJudged domains) fs → IsJudged domains (formula.All fs)
on_all domains fs each h =
    let within : greatest (map width fs) ≤ length domains = subst (λ n. n ≤ length domains) (folds-All ℕ width_step fs) h in
    folds-All Bool (rules_out_step domains) fs ∙ judged_some domains fs each within ∙ ap not (sym (folds-All Bool (holds_step (assigned (lows domains))) fs))

on_any : (domains : List Domain) (fs : List Formula) → AllByRecursion (IsJudged domains) fs → IsJudged domains (formula.Any fs)
on_any domains fs each h =
    let within : greatest (map width fs) ≤ length domains = subst (λ n. n ≤ length domains) (folds-Any ℕ width_step fs) h in
    folds-Any Bool (rules_out_step domains) fs ∙ judged_every domains fs each within ∙ ap not (sym (folds-Any Bool (holds_step (assigned (lows domains))) fs))

judged : (domains : List Domain) → ArePoints domains → (f : Formula) → IsJudged domains f
judged domains points = by_members (IsJudged domains) (on_atom domains points) (on_all domains) (on_any domains)

not_false : (a b : Bool) → a ≡ not b → a ≡ false → b ≡ true
not_false a true e h = refl
not_false a false e h = absurd (cc)

pub halved_length : (f : Formula) (box : Boxed) (first : ℕ) (domains : List Domain) (cuts : List DomainCut) (steps : List Step)
    → Halved f box first domains cuts steps → length domains ≡ length box.bounds
halved_length f box first domains cuts steps h = ap length h.domains_are ∙ length_after first (start_domains 0 box.bounds) cuts ∙ start_length 0 box.bounds

pub halved_full : (f : Formula) (box : Boxed) (first : ℕ) (domains : List Domain) (cuts : List DomainCut) (steps : List Step)
    → Halved f box first domains cuts steps → AreFull (start_domains 0 box.bounds) → AreFull domains
halved_full f box first domains cuts steps h full = subst AreFull (sym h.domains_are) (full_after first (start_domains 0 box.bounds) cuts full h.cuts_are)

lies_in : (f : Formula) (box : Boxed) (first : ℕ) (domains : List Domain) (cuts : List DomainCut) (steps : List Step) → Halved f box first domains cuts steps
    → ArePoints domains → LiesIn (assigned (lows domains)) box
lies_in f box first domains cuts steps h points x low high at =
    let n = halved_length f box first domains cuts steps h in
    let inside : x < length domains = omega (arith, n, slice_get_within box.bounds x (low, high) at) in
    let start = start_domains 0 box.bounds in
    let within : LiesWithin start x (domain_at domains x) =
    subst (λ ss. LiesWithin start x (domain_at ss x)) (sym h.domains_are)
    (within_after first start cuts h.cuts_are x (omega (arith, length_after first start cuts, start_length 0 box.bounds))) in
    let is : domain_at start x ≡ start_domain (0 + x) (low, high) = start_at 0 box.bounds x (low, high) at in
    let value = assigned_low domains x inside in (
      subst (λ z. low ≤ℤ z) (sym value) (subst (λ s. s.low ≤ℤ (domain_at domains x).low) is within.0),
      subst (λ z. z ≤ℤ high) (sym (value ∙ points x inside)) (subst (λ s. (domain_at domains x).high ≤ℤ s.high) is within.1),
    )

pub point_solves : (f : Formula) (box : Boxed) (first : ℕ) (domains : List Domain) (cuts : List DomainCut) (steps : List Step)
    → Halved f box first domains cuts steps → ArePoints domains → width f ≤ length box.bounds → rules_out domains f ≡ false
    → Solves f box (lows domains)
point_solves f box first domains cuts steps h points valued left =
    let n = halved_length f box first domains cuts steps h in (
      length-map domains (λ (s : Domain). s.low) ∙ n,
      lies_in f box first domains cuts steps h points,
      not_false (rules_out domains f) (holds_at (assigned (lows domains)) f) (judged domains points f (omega (arith, n))) left,
    )
