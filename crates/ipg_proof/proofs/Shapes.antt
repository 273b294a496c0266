-- A refutation that checks is one whole tree, whose counts are within their ranges.
use Rattle.std.proofs.Common.{◌≡◌, ℕ, zero, suc, ◌+◌, ◌≤◌, ◌<◌, ◌^◌, Bool, true, List, [], ◌∷◌, ◌++◌, map, length, refl, sym, ap, subst, ◌∙◌, arith}
use Rattle.std.proofs.Common.{ℤ, pos, ◌+ℤ◌, Option, Some, None, length-append, nat_le}
use Rattle.std.proofs.lemmas.List.{length-map}
use Rattle.std.specs.Prelude.{slice_get, nat_eq, flat_map}
use Rattle.std.specs.List.{AllByRecursion}
use Rattle.std.proofs.lemmas.Bool.{and_parts}
use Rattle.std.proofs.lemmas.Bool.Decides.{nat_tests}
use Rattle.ipg_lin.specs.Form as lin
use Rattle.ipg_lin.specs.Formula.{every}
use Rattle.ipg_lin.specs.Members.{by_members, folds-Atom, folds-All, folds-Any}
use Rattle.ipg_lin.specs.declared.formula.Formula.{Formula, fold-Formula}
use Rattle.ipg_lin.specs.declared.formula.Formula.TheVariants as formula
use Rattle.ipg_lin.specs.declared.formula.Boxed.{Boxed}
use Rattle.ipg_cert.specs.Facts.{Fact, AtMost, Choice, Told, told_step, facts_of, at_least, at_most, bound_facts}
use Rattle.ipg_cert.specs.Checks.{refutes, checks, combines, is_choice, members_in, cases_of, root_facts}
use Rattle.ipg_cert.specs.declared.refutation.Step.{Step}
use Rattle.ipg_cert.specs.declared.refutation.Step.TheVariants.{Combine, Split, Either}
use Rattle.ipg_cert.specs.declared.refutation.Refutation.{Refutation}
use Rattle.ipg_cert.specs.Texts.{AreTrees, IsInRange}
use Rattle.ipg_facts_laws.specs.Offers.{offers, offers_step, some_and_every}
use Rattle.ipg_proof.specs.Texts.{IsTree}
use Rattle.ipg_proof.specs.Speaks.{HasWords, HaveWords}
use Rattle.ipg_proof.proofs.Lists.{all_join}

-- an Any among facts has a member, and so have those in it
abbrev FactOffers : Fact → Type 0
FactOffers (AtMost form) = Unit {0}
FactOffers (Choice members) = (1 ≤ length members) × AllByRecursion (λ m. offers m ≡ true) members

abbrev Offer : List Fact → Type 0
Offer facts = AllByRecursion FactOffers facts

-- ---- the facts of a formula

each_offers : (fs : List Formula) → every (map offers fs) ≡ true → AllByRecursion (λ m. offers m ≡ true) fs
each_offers [] e = tt
each_offers (f ∷ fs) e = let parts = and_parts _ _ e in (parts.0, each_offers fs parts.1)

choice_offers : (fs : List Formula) → some_and_every (map offers fs) ≡ true → FactOffers (Choice fs)
choice_offers [] e = cc
choice_offers (f ∷ fs) e = (omega arith, each_offers (f ∷ fs) e)

abbrev told : Formula → Told
told f = fold-Formula Told told_step f

pub record Tells (f : Formula) : Type 0 where
  pub whole : (told f).whole ≡ f
  pub facts : offers f ≡ true → Offer (told f).facts

wholes : (fs : List Formula) → AllByRecursion Tells fs → map (λ m. m.whole) (map told fs) ≡ fs
wholes [] all = refl
wholes (f ∷ fs) all = ap (λ w. w ∷ map (λ m. m.whole) (map told fs)) all.0.whole ∙ ap (λ ws. f ∷ ws) (wholes fs all.1)

joined : (fs : List Formula) → AllByRecursion Tells fs → AllByRecursion (λ m. offers m ≡ true) fs → Offer (flat_map (λ m. m.facts) (map told fs))
joined [] all h = tt
joined (f ∷ fs) all h = all_join FactOffers (told f).facts _ (all.0.facts h.0) (joined fs all.1 h.1)

tells_atom : (form : lin.Form) → Tells (formula.Atom form)
tells_atom form =
    let is : told (formula.Atom form) ≡ _ = folds-Atom Told told_step form in
    record { whole = ap (λ (t : Told). t.whole) is; facts = λ e. subst Offer (sym (ap (λ (t : Told). t.facts) is)) (tt, tt) }

tells_all : (fs : List Formula) → AllByRecursion Tells fs → Tells (formula.All fs)
tells_all fs all =
    let is : told (formula.All fs) ≡ _ = folds-All Told told_step fs in
    record {
      whole = ap (λ (t : Told). t.whole) is ∙ ap formula.All (wholes fs all);
      facts = λ e. subst Offer (sym (ap (λ (t : Told). t.facts) is)) (joined fs all (each_offers fs (sym (folds-All Bool offers_step fs) ∙ e)));
    }

tells_any : (fs : List Formula) → AllByRecursion Tells fs → Tells (formula.Any fs)
tells_any fs all =
    let is : told (formula.Any fs) ≡ _ = folds-Any Told told_step fs in
    record {
      whole = ap (λ (t : Told). t.whole) is ∙ ap formula.Any (wholes fs all);
      facts = λ e.
          let choice : FactOffers (Choice fs) = choice_offers fs (sym (folds-Any Bool offers_step fs) ∙ e) in
          subst Offer (sym (ap (λ (t : Told). t.facts) is)) (subst (λ ms. FactOffers (Choice ms)) (sym (wholes fs all)) choice, tt);
    }

tells : (f : Formula) → Tells f
tells = by_members Tells tells_atom tells_all tells_any

facts_offer : (f : Formula) → offers f ≡ true → Offer (facts_of f)
facts_offer f e = (tells f).facts e

bounds_offer : (x : ℕ) (bounds : List (ℤ × ℤ)) → Offer (bound_facts x bounds)
bounds_offer x [] = tt
bounds_offer x (b ∷ bounds) = (tt, (tt, bounds_offer (x + 1) bounds))

-- ---- steps

-- a step's counts are within their ranges
abbrev pub HasCounts : Step → Type 0
HasCounts (Combine entries) = (1 ≤ length entries) × (length entries ≤ 2 ^ 21)
HasCounts (Split x at) = Unit {0}
HasCounts (Either fact parts) = 1 ≤ parts

pub record Shaped (n : ℕ) (steps : List Step) : Type 0 where
  pub trees : AreTrees n steps
  pub counts : AllByRecursion HasCounts steps

abbrev Goals : List (List Fact) → Type 0
Goals goals = AllByRecursion Offer goals

up_to : (m n : ℕ) → nat_le m n ≡ true → m ≤ n
up_to m n e = grind (arith, nat_tests)

is_same : (m n : ℕ) → nat_eq m n ≡ true → m ≡ n
is_same m n e = grind (arith, nat_tests)

combined : (entries : List (ℕ × ℕ)) (facts : List Fact) → combines entries facts ≡ true → HasCounts (Combine entries)
combined entries facts e =
    let one = and_parts _ _ e in
    let two = and_parts _ _ one.1 in
    (up_to 1 (length entries) one.0, up_to (length entries) (2 ^ 21) two.0)

fact_at : (facts : List Fact) (n : ℕ) (f : Fact) → Offer facts → slice_get facts n ≡ Some f → FactOffers f
fact_at [] n f h e = absurd (cc)
fact_at (x ∷ facts) zero f h e = let same : x ≡ f = cc in subst FactOffers same h.0
fact_at (x ∷ facts) (suc n) f h e = fact_at facts n f h.1 e

cases_offer : (facts : List Fact) (members : List Formula) → Offer facts → AllByRecursion (λ m. offers m ≡ true) members → Goals (cases_of facts members)
cases_offer facts [] h all = tt
cases_offer facts (m ∷ members) h all = (all_join FactOffers facts (facts_of m) h (facts_offer m all.0), cases_offer facts members h all.1)

-- a fact that is chosen from: how many parts it has, and what is left to refute
pub record Chosen (facts : List Fact) (parts : ℕ) (members : List Formula) : Type 0 where
  pub some : 1 ≤ parts
  pub size : length members ≡ parts
  pub goals : Goals (cases_of facts members)

chosen : (facts : List Fact) (parts : ℕ) (fact : ℕ) (at : Option Fact) → Offer facts → slice_get facts fact ≡ at → is_choice parts at ≡ true
    → Chosen facts parts (members_in at)
chosen facts parts fact None h is e = absurd (cc)
chosen facts parts fact (Some (AtMost form)) h is e = absurd (cc)
chosen facts parts fact (Some (Choice members)) h is e =
    let offer = fact_at facts fact (Choice members) h is in
    let size : length members ≡ parts = is_same (length members) parts e in
    record { some = subst (λ n. 1 ≤ n) size offer.0; size = size; goals = cases_offer facts members h offer.1 }

goals_join : (one two : List (List Fact)) → Goals one → Goals two → Goals (one ++ two)
goals_join one two h k = all_join Offer one two h k

shaped : (vars : ℕ) (steps : List Step) (goals : List (List Fact)) → Goals goals → refutes vars steps goals ≡ true → Shaped (length goals) steps
shaped vars [] [] h e = record { trees = refl; counts = tt }
shaped vars [] (facts ∷ goals) h e = absurd (cc)
shaped vars (step ∷ steps) [] h e = absurd (cc)
shaped vars (Combine entries ∷ steps) (facts ∷ goals) h e =
    let parts = and_parts _ _ e in
    let rest = shaped vars steps goals h.1 parts.1 in
    let size : length goals ≡ length goals + 0 = omega arith in
    record { trees = subst (λ n. AreTrees n steps) size rest.trees; counts = (combined entries facts parts.0, rest.counts) }
shaped vars (Split x at ∷ steps) (facts ∷ goals) h e =
    let parts = and_parts _ _ e in
    let below = all_join FactOffers facts (at_most x at ∷ []) h.0 (tt, tt) in
    let above = all_join FactOffers facts (at_least x (at +ℤ pos 1) ∷ []) h.0 (tt, tt) in
    let rest = shaped vars steps ((facts ++ at_most x at ∷ []) ∷ (facts ++ at_least x (at +ℤ pos 1) ∷ []) ∷ goals) (below, (above, h.1)) parts.1 in
    let size : suc (suc (length goals)) ≡ length goals + 2 = omega arith in
    record { trees = subst (λ n. AreTrees n steps) size rest.trees; counts = (tt, rest.counts) }
shaped vars (Either fact count ∷ steps) (facts ∷ goals) h e =
    let parts = and_parts _ _ e in
    let choice = chosen facts count fact (slice_get facts fact) h.0 refl parts.0 in
    let cases : List (List Fact) = cases_of facts (members_in (slice_get facts fact)) in
    let rest = shaped vars steps (cases ++ goals) (goals_join cases goals choice.goals h.1) parts.1 in
    let made : length cases ≡ length (members_in (slice_get facts fact)) = length-map (members_in (slice_get facts fact)) _ in
    let size : length (cases ++ goals) ≡ length goals + count = omega (arith, length-append cases goals, made, choice.size) in
    record { trees = subst (λ n. AreTrees n steps) size rest.trees; counts = (choice.some, rest.counts) }

pub checked_shape : (f : Formula) (box : Boxed) (r : Refutation) → offers f ≡ true → checks f box r ≡ true → Shaped 1 r.steps
checked_shape f box r e h =
    shaped (length box.bounds) r.steps (root_facts f box ∷ [])
    (all_join FactOffers (bound_facts 0 box.bounds) (facts_of f) (bounds_offer 0 box.bounds) (facts_offer f e), tt) h

in_range : (step : Step) → HasWords step → HasCounts step → IsInRange step
in_range (Combine entries) words counts = (counts.0, (let s : length entries < 2 ^ 64 = omega (arith, counts.1) in s), words)
in_range (Split x at) words counts = words
in_range (Either fact parts) words counts = (words.0, counts, words.1)

in_ranges : (steps : List Step) → AllByRecursion HasWords steps → AllByRecursion HasCounts steps → AllByRecursion IsInRange steps
in_ranges [] words counts = tt
in_ranges (step ∷ steps) words counts = (in_range step words.0 counts.0, in_ranges steps words.1 counts.1)

-- so a text can say it
pub tree_of : (r : Refutation) → HaveWords r → Shaped 1 r.steps → IsTree r
tree_of r words shape = record { tree = shape.trees; ranges = in_ranges r.steps words shape.counts }
