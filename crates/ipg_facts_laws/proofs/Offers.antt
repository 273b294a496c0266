-- Conditions leave no empty choice.
use Rattle.std.proofs.Common.{◌≡◌, ℕ, ◌+◌, Bool, true, false, ◌&&◌, List, [], ◌∷◌, map, refl, sym, ap, subst, ◌∙◌}
use Rattle.std.specs.List.{AllByRecursion}
use Rattle.ipg_facts.specs.declared.edition.Edition.TheVariants.{Later}
use Rattle.ipg_facts_forms.specs.declared.fact.Fact.{Fact, roll-Fact, map-Fact, fold-Fact, fold-roll-Fact, ind-Fact}
use Rattle.ipg_facts_forms.specs.declared.fact.Fact.TheVariants as facts
use Rattle.ipg_facts_forms.specs.declared.fact.Fact.TheOpen.{Fact-F}
use Rattle.ipg_facts_forms.specs.declared.fact.Draft.{Draft}
use Rattle.ipg_facts_variables.specs.declared.variable.Variable.{Variable}
use Rattle.ipg_facts.specs.Members.{members}
use Rattle.ipg_facts.specs.Keep.{edge_facts}
use Rattle.ipg_facts_forms.specs.Numbers.{variables_of, formula_of, formula_step}
use Rattle.ipg_facts.specs.Keep.{keep}
use Rattle.ipg_facts_forms.specs.Joint.{apart, apart_step, parts_apart, own_variables, joint}
use Rattle.ipg_lin.specs.Form as lin
use Rattle.ipg_lin.specs.Formula.{every}
use Rattle.ipg_lin.specs.Members.{by_members, folds-Atom, folds-All, folds-Any}
use Rattle.ipg_lin.specs.declared.formula.Formula.{Formula}
use Rattle.ipg_lin.specs.declared.formula.Formula.TheVariants as formula
use Rattle.ipg_lin.specs.declared.formula.Boxed.{Boxed}
use Rattle.ipg_facts_laws.specs.Offers.{offers, offers_step, some_and_every, ConditionsOffer, JointsOffer}
use Rattle.ipg_facts_laws.proofs.Stated.{drafted, IsSure, of_edge}

abbrev offers_fact_step : Fact-F Bool → Bool
offers_fact_step (Fact-F.Atom draft) = true
offers_fact_step (Fact-F.All members) = every members
offers_fact_step (Fact-F.Any members) = some_and_every members

-- each Any of a fact has a member
abbrev offers_fact : Fact → Bool
offers_fact = fold-Fact Bool offers_fact_step

abbrev Offer : List Fact → Type 0
Offer fs = AllByRecursion (λ f. offers_fact f ≡ true) fs

both : (a b : Bool) → a ≡ true → b ≡ true → a && b ≡ true
both true b e f = f
both false b e f = cc

every_offers : (fs : List Fact) → Offer fs → every (map offers_fact fs) ≡ true
every_offers [] h = refl
every_offers (f ∷ fs) h = both _ _ h.0 (every_offers fs h.1)

offers_atom : (draft : Draft) → offers_fact (facts.Atom draft) ≡ true
offers_atom draft = ap offers_fact (sym (facts.rolls-Atom draft)) ∙ fold-roll-Fact Bool offers_fact_step (Fact-F.Atom draft)

offers_all : (fs : List Fact) → Offer fs → offers_fact (facts.All fs) ≡ true
offers_all fs h = ap offers_fact (sym (facts.rolls-All fs)) ∙ fold-roll-Fact Bool offers_fact_step (Fact-F.All fs) ∙ every_offers fs h

offers_any : (f : Fact) (fs : List Fact) → Offer (f ∷ fs) → offers_fact (facts.Any (f ∷ fs)) ≡ true
offers_any f fs h =
    ap offers_fact (sym (facts.rolls-Any (f ∷ fs))) ∙ fold-roll-Fact Bool offers_fact_step (Fact-F.Any (f ∷ fs)) ∙ every_offers (f ∷ fs) h

is_sure : IsSure (λ f. offers_fact f ≡ true)
is_sure = record { atom = λ a e. offers_atom (drafted a); all = offers_all; any = offers_any }

-- ---- numbers in place of variables

module _ (variables : List Variable) where
  abbrev Keeps : Fact → Type 0
  Keeps f = offers (formula_of variables f) ≡ offers_fact f

  abbrev facts_in : List ((f : Fact) × Keeps f) → List Fact
  facts_in ms = map (λ (m : (f : Fact) × Keeps f). m.0) ms

  members_keep : (ms : List ((f : Fact) × Keeps f)) → map offers (map (formula_of variables) (facts_in ms)) ≡ map offers_fact (facts_in ms)
  members_keep [] = refl
  members_keep (m ∷ ms) = rw (m.1) (ap (λ bs. offers_fact m.0 ∷ bs) (members_keep ms))

  on_atom : (draft : Draft) → Keeps (roll-Fact (Fact-F.Atom draft))
  unfolding formula_of
  on_atom draft =
      ap offers (fold-roll-Fact Formula (formula_step variables) (Fact-F.Atom draft)) ∙ folds-Atom Bool offers_step _
      ∙ sym (fold-roll-Fact Bool offers_fact_step (Fact-F.Atom draft))

  on_all : (ms : List ((f : Fact) × Keeps f)) → Keeps (roll-Fact (Fact-F.All (facts_in ms)))
  unfolding formula_of
  on_all ms =
      ap offers (fold-roll-Fact Formula (formula_step variables) (Fact-F.All (facts_in ms))) ∙ folds-All Bool offers_step _
      ∙ ap every (members_keep ms) ∙ sym (fold-roll-Fact Bool offers_fact_step (Fact-F.All (facts_in ms)))

  on_any : (ms : List ((f : Fact) × Keeps f)) → Keeps (roll-Fact (Fact-F.Any (facts_in ms)))
  unfolding formula_of
  on_any ms =
      ap offers (fold-roll-Fact Formula (formula_step variables) (Fact-F.Any (facts_in ms))) ∙ folds-Any Bool offers_step _
      ∙ ap some_and_every (members_keep ms) ∙ sym (fold-roll-Fact Bool offers_fact_step (Fact-F.Any (facts_in ms)))

  on_layer : (y : Fact-F ((f : Fact) × Keeps f)) (x : Fact-F Fact) → map-Fact ((f : Fact) × Keeps f) Fact (λ m. m.0) y ≡ x → Keeps (roll-Fact x)
  on_layer (Fact-F.Atom draft) x is = subst (λ z. Keeps (roll-Fact z)) is (on_atom draft)
  on_layer (Fact-F.All ms) x is = subst (λ z. Keeps (roll-Fact z)) is (on_all ms)
  on_layer (Fact-F.Any ms) x is = subst (λ z. Keeps (roll-Fact z)) is (on_any ms)

  keeps : (f : Fact) → Keeps f
  keeps = ind-Fact Keeps (λ x y is. on_layer y x is)

  formulas_offer : (fs : List Fact) → Offer fs → every (map offers (map (formula_of variables) fs)) ≡ true
  formulas_offer [] h = refl
  formulas_offer (f ∷ fs) h = both _ _ (keeps f ∙ h.0) (formulas_offer fs h.1)

pub conditions_offer : ConditionsOffer
unfolding keep
conditions_offer g marks e =
    let fs : List Fact = edge_facts g marks Later e in
    folds-All Bool offers_step (map (formula_of (variables_of fs)) fs)
    ∙ formulas_offer (variables_of fs) fs (of_edge (λ f. offers_fact f ≡ true) is_sure g marks Later e)

-- ---- parts together

abbrev StaysOffering : Formula → Type 0
StaysOffering f = (n : ℕ) → offers (apart n f) ≡ offers f

apart_members : (n : ℕ) (fs : List Formula) → AllByRecursion StaysOffering fs → map offers (map (apart n) fs) ≡ map offers fs
apart_members n [] each = refl
apart_members n (f ∷ fs) each = rw (each.0 n) (ap (λ bs. offers f ∷ bs) (apart_members n fs each.1))

apart_atom : (linear : lin.Form) → StaysOffering (formula.Atom linear)
unfolding apart
apart_atom linear n =
    ap offers (folds-Atom Formula (apart_step n) linear) ∙ folds-Atom Bool offers_step _ ∙ sym (folds-Atom Bool offers_step linear)

apart_all : (fs : List Formula) → AllByRecursion StaysOffering fs → StaysOffering (formula.All fs)
unfolding apart
apart_all fs each n =
    ap offers (folds-All Formula (apart_step n) fs) ∙ folds-All Bool offers_step _ ∙ ap every (apart_members n fs each) ∙ sym (folds-All Bool offers_step fs)

apart_any : (fs : List Formula) → AllByRecursion StaysOffering fs → StaysOffering (formula.Any fs)
unfolding apart
apart_any fs each n =
    ap offers (folds-Any Formula (apart_step n) fs) ∙ folds-Any Bool offers_step _
    ∙ ap some_and_every (apart_members n fs each) ∙ sym (folds-Any Bool offers_step fs)

stays : (f : Formula) → StaysOffering f
stays = by_members StaysOffering apart_atom apart_all apart_any

parts_offer : (n : ℕ) (parts : List (Formula × Boxed)) → AllByRecursion (λ part. offers part.0 ≡ true) parts → every (map offers (parts_apart n parts)) ≡ true
parts_offer n [] h = refl
parts_offer n (part ∷ parts) h = both _ _ (stays part.0 n ∙ h.0) (parts_offer (n + own_variables part) parts h.1)

pub joints_offer : JointsOffer
unfolding joint
joints_offer parts h = folds-All Bool offers_step (parts_apart 0 parts) ∙ parts_offer 0 parts h
