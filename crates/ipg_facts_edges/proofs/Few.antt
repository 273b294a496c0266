-- The parts of a good grammar are few.
use Rattle.std.proofs.Common.{◌≡◌, ℕ, zero, suc, ◌<◌, ◌≤◌, ◌^◌, List, [], ◌∷◌, length, refl, arith, Some}
use Rattle.std.specs.Prelude.{slice_get, sum_by}
use Rattle.std.specs.List.{AllByRecursion}
use Rattle.std.proofs.lemmas.List.Sums.{sum_by-cons}
use Rattle.ipg_core.specs.declared.grammar.CoreTerm.{CoreTerm}
use Rattle.ipg_core.specs.declared.grammar.CoreAlt.{CoreAlt}
use Rattle.ipg_core.specs.declared.grammar.CoreRule.{CoreRule}
use Rattle.ipg_core.specs.Grammar.{Grammar, rule_at}
use Rattle.ipg_core.specs.Good.{Good, slots_in, slots_of}
use Rattle.ipg_facts_edges.specs.Few.{FewSlots, FewTerms, FewAlts}

-- what holds at each place holds of each
at_each : {A : Type 0} (P : A → Type 0) (xs : List A) → ((i : ℕ) (x : A) → slice_get xs i ≡ Some x → P x) → AllByRecursion P xs
at_each P [] h = tt
at_each P (x ∷ xs) h = (h zero x refl, at_each P xs (λ i y e. h (suc i) y e))

-- no part of a sum is larger than the sum
part_of_sum : {A : Type 0} (f : A → ℕ) (xs : List A) (i : ℕ) (x : A) → slice_get xs i ≡ Some x → f x ≤ sum_by f xs
part_of_sum f [] i x e = cc
part_of_sum f (y ∷ xs) zero x e = let h : y ≡ x = cc in rw (← h) (omega (arith, sum_by-cons f y xs))
part_of_sum f (y ∷ xs) (suc i) x e = let h : f x ≤ sum_by f xs = part_of_sum f xs i x e in omega (arith, sum_by-cons f y xs)

module _ (g : Grammar) (good : Good g) (r : ℕ) (rule : CoreRule) (is : rule_at g r ≡ Some rule) where
  few_slots : (a : ℕ) (alt : CoreAlt) → slice_get rule.alts a ≡ Some alt → (u : ℕ) (term : CoreTerm) → slice_get alt.terms u ≡ Some term → FewSlots term
  few_slots a alt e u term f =
      let x : slots_in term ≤ sum_by slots_in alt.terms = part_of_sum slots_in alt.terms u term f in
      let y : sum_by slots_in alt.terms ≤ sum_by (λ alt. sum_by slots_in alt.terms) rule.alts =
      part_of_sum (λ (alt : CoreAlt). sum_by slots_in alt.terms) rule.alts a alt e in
      let z : sum_by (λ alt. sum_by slots_in alt.terms) rule.alts ≤ slots_of g =
      part_of_sum (λ (rule : CoreRule). sum_by (λ (alt : CoreAlt). sum_by slots_in alt.terms) rule.alts) g.rules r rule is in
      let w : slots_of g < 2 ^ 32 = good.well_formed.few_slots in
      omega arith

  few_terms : (a : ℕ) (alt : CoreAlt) → slice_get rule.alts a ≡ Some alt → FewTerms alt.terms
  few_terms a alt e = record {
    few = let h : length alt.terms ≤ 256 = (good.well_formed.alts (r, a) rule alt (record { is_rule = is; is_alt = e })).limit in omega arith;
    each = at_each FewSlots alt.terms (few_slots a alt e);
  }

  pub few_alts : FewAlts rule.alts
  few_alts = record {
    few = let h : length rule.alts ≤ 64 = (good.well_formed.rules r rule is).limit in omega arith;
    each = at_each (λ (alt : CoreAlt). FewTerms alt.terms) rule.alts few_terms;
  }
