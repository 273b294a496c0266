-- The search for a loose repetition finds the first, exactly where there is one.
use Rattle.std.proofs.Common.{◌≡◌, ℕ, ◌+◌, ◌<◌, ◌⊎◌, inl, inr, List, [], ◌∷◌, Bool, true, false, not, Option, Some, None, if◌then◌else◌}
use Rattle.std.proofs.Common.{refl, sym, ap, ◌∙◌, subst, slice_get, length, nat_lt, arith}
use Rattle.std.proofs.lemmas.Bool.{cases_order}
use Rattle.ipg_core.specs.declared.grammar.Primitive.TheVariants.{U8, U16LE, U16BE, U32LE, U32BE, U64LE, U64BE, Bytes}
use Rattle.ipg_core.specs.declared.grammar.Sym.{Sym}
use Rattle.ipg_core.specs.declared.grammar.Sym.TheVariants.{Text, Prim, Rule}
use Rattle.ipg_core.specs.declared.grammar.CoreTerm.{CoreTerm}
use Rattle.ipg_core.specs.declared.grammar.CoreTerm.TheVariants.{Slot, Set, Test, Repeat, Many, Pick}
use Rattle.ipg_core.specs.declared.grammar.CoreAlt.{CoreAlt}
use Rattle.ipg_core.specs.declared.grammar.CoreRule.{CoreRule}
use Rattle.ipg_core.specs.MustTouch.{Marks, sym_marked}
use Rattle.ipg_touch.specs.Loose.{is_loose, or_later, loose_term, loose_alt, loose_rule, placed, loose}
use Rattle.ipg_touch.specs.First.{MayNotTouch, IsLoose, IsEarlier, IsFirstLoose, IsTight, LooseIsFirst}
use Rattle.ipg_touch.proofs.Searches.{first, finds, finds_none}

-- ---- a term is loose where the test says so

touches_none : (marks : Marks) (sym : Sym) → not (sym_marked marks sym) ≡ true → MayNotTouch marks sym
touches_none marks (Text []) e = refl
touches_none marks (Text (b ∷ bs)) e = absurd (grind (arith, e))
touches_none marks (Prim Bytes) e = refl
touches_none marks (Prim U8) e = absurd (cc)
touches_none marks (Prim U16LE) e = absurd (cc)
touches_none marks (Prim U16BE) e = absurd (cc)
touches_none marks (Prim U32LE) e = absurd (cc)
touches_none marks (Prim U32BE) e = absurd (cc)
touches_none marks (Prim U64LE) e = absurd (cc)
touches_none marks (Prim U64BE) e = absurd (cc)
touches_none marks (Rule r) e = unmarked (sym_marked marks (Rule r)) e
  where
    unmarked : (b : Bool) → not b ≡ true → b ≡ false
    unmarked true e = absurd (cc)
    unmarked false e = refl

touches_some : (marks : Marks) (sym : Sym) → MayNotTouch marks sym → not (sym_marked marks sym) ≡ true
touches_some marks (Text bytes) e = ap (λ bs. not (nat_lt 0 (length bs))) e
touches_some marks (Prim prim) e = ap (λ p. not (sym_marked marks (Prim p))) e
touches_some marks (Rule r) e = ap not e

loose_is : (marks : Marks) (term : CoreTerm) → is_loose marks term ≡ true → IsLoose marks term
loose_is marks (Many item from to) e = touches_none marks item e
loose_is marks (Slot slot) e = absurd (cc)
loose_is marks (Set attr x) e = absurd (cc)
loose_is marks (Test x) e = absurd (cc)
loose_is marks (Repeat a b item from to) e = absurd (cc)
loose_is marks (Pick cases other) e = absurd (cc)

is_loose_of : (marks : Marks) (term : CoreTerm) → IsLoose marks term → is_loose marks term ≡ true
is_loose_of marks (Many item from to) h = touches_some marks item h
is_loose_of marks (Slot slot) h = absurd h
is_loose_of marks (Set attr x) h = absurd h
is_loose_of marks (Test x) h = absurd h
is_loose_of marks (Repeat a b item from to) h = absurd h
is_loose_of marks (Pick cases other) h = absurd h

-- ---- each level is a search

abbrev tag : Bool → Option (Unit {0})
tag true = Some tt
tag false = None

abbrev number_of : Option (ℕ × Unit {0}) → Option ℕ
number_of None = None
number_of (Some at) = Some at.0

abbrev flagged : Marks → CoreTerm → Option (Unit {0})
flagged marks term = tag (is_loose marks term)

term_step : (n : ℕ) (b : Bool) (later : Option ℕ) (behind : Option (ℕ × Unit {0})) → later ≡ number_of behind
    → (if b then Some n else later) ≡ number_of (or_later n (tag b) behind)
term_step n true later behind e = refl
term_step n false later behind e = e

term_search : (marks : Marks) (n : ℕ) (terms : List CoreTerm) → loose_term marks n terms ≡ number_of (first (flagged marks) n terms)
term_search marks n [] = refl
term_search marks n (t ∷ ts) = term_step n (is_loose marks t) (loose_term marks (n + 1) ts) (first (flagged marks) (n + 1) ts) (term_search marks (n + 1) ts)

alt_search : (marks : Marks) (n : ℕ) (alts : List CoreAlt) → loose_alt marks n alts ≡ first (λ (alt : CoreAlt). loose_term marks 0 alt.terms) n alts
alt_search marks n [] = refl
alt_search marks n (alt ∷ alts) = ap (or_later n (loose_term marks 0 alt.terms)) (alt_search marks (n + 1) alts)

rule_search : (marks : Marks) (n : ℕ) (rules : List CoreRule) → loose_rule marks n rules ≡ first (λ (rule : CoreRule). loose_alt marks 0 rule.alts) n rules
rule_search marks n [] = refl
rule_search marks n (rule ∷ rules) = ap (or_later n (loose_alt marks 0 rule.alts)) (rule_search marks (n + 1) rules)

-- ---- nothing is found where no term is loose

tag_none : (b : Bool) → tag b ≡ None → b ≡ true → ⊥
tag_none true e h = cc
tag_none false e h = cc

number_none : (o : Option (ℕ × Unit {0})) → number_of o ≡ None → o ≡ None
number_none None e = refl
number_none (Some at) e = absurd (cc)

terms_tight : (marks : Marks) (terms : List CoreTerm) → loose_term marks 0 terms ≡ None → (k : ℕ) (t : CoreTerm) → slice_get terms k ≡ Some t
    → IsLoose marks t → ⊥
terms_tight marks terms e k t is h =
    let none = finds_none (flagged marks) 0 terms (number_none _ (sym (term_search marks 0 terms) ∙ e)) k t is in
    tag_none (is_loose marks t) none (is_loose_of marks t h)

alts_tight : (marks : Marks) (alts : List CoreAlt) → loose_alt marks 0 alts ≡ None → (a : ℕ) (alt : CoreAlt) (k : ℕ) (t : CoreTerm)
    → slice_get alts a ≡ Some alt → slice_get alt.terms k ≡ Some t → IsLoose marks t → ⊥
alts_tight marks alts e a alt k t is_alt is h =
    let find = λ (x : CoreAlt). loose_term marks 0 x.terms in
    terms_tight marks alt.terms (finds_none find 0 alts (sym (alt_search marks 0 alts) ∙ e) a alt is_alt) k t is h

rules_tight : (marks : Marks) (rules : List CoreRule) → loose_rule marks 0 rules ≡ None → IsTight marks rules
rules_tight marks rules e at t there h =
    let find = λ (x : CoreRule). loose_alt marks 0 x.alts in
    let none = finds_none find 0 rules (sym (rule_search marks 0 rules) ∙ e) at.0 there.rule there.is_rule in
    alts_tight marks there.rule.alts none at.1 there.alt at.2 t there.is_alt there.is_term h

-- ---- what is found is the first

record FoundTerm (marks : Marks) (terms : List CoreTerm) (k : ℕ) : Type 0 where
  term : CoreTerm
  there : slice_get terms k ≡ Some term
  loose : IsLoose marks term
  before : (j : ℕ) (y : CoreTerm) → j < k → slice_get terms j ≡ Some y → IsLoose marks y → ⊥

tag_some : (b : Bool) (u : Unit {0}) → tag b ≡ Some u → b ≡ true
tag_some true u e = refl
tag_some false u e = absurd (cc)

number_some : (o : Option (ℕ × Unit {0})) (k : ℕ) → number_of o ≡ Some k → o ≡ Some (k, tt)
number_some None k e = absurd (cc)
number_some (Some at) k e = let same : at.0 ≡ k = cc in ap (λ m. Some (m, tt)) same

term_found : (marks : Marks) (terms : List CoreTerm) (k : ℕ) → loose_term marks 0 terms ≡ Some k → FoundTerm marks terms k
term_found marks terms k e =
    let f = finds (flagged marks) 0 terms (k, tt) (number_some _ k (sym (term_search marks 0 terms) ∙ e)) in
    let same : f.place ≡ k = omega (arith, f.number) in
    record {
      term = f.item;
      there = subst (λ m. slice_get terms m ≡ Some f.item) same f.there;
      loose = loose_is marks f.item (tag_some (is_loose marks f.item) tt f.found);
      before = λ j y less is h. tag_none (is_loose marks y) (f.before j y (omega (arith, less, same)) is) (is_loose_of marks y h);
    }

pub placed_some : (o : Option (ℕ × (ℕ × ℕ))) (at : ℕ × ℕ × ℕ) → placed o ≡ Some at → o ≡ Some (at.0, (at.1, at.2))
placed_some None at e = absurd (cc)
placed_some (Some p) at e = let same : (p.0, p.1.0, p.1.1) ≡ at = cc in ap (λ (q : ℕ × ℕ × ℕ). Some (q.0, (q.1, q.2))) same

placed_none : (o : Option (ℕ × (ℕ × ℕ))) → placed o ≡ None → o ≡ None
placed_none None e = refl
placed_none (Some p) e = absurd (cc)

record FoundAlt (marks : Marks) (alts : List CoreAlt) (at : ℕ × ℕ) : Type 0 where
  alt : CoreAlt
  there : slice_get alts at.0 ≡ Some alt
  inside : FoundTerm marks alt.terms at.1
  before : (j : ℕ) (y : CoreAlt) → j < at.0 → slice_get alts j ≡ Some y → loose_term marks 0 y.terms ≡ None

alt_found : (marks : Marks) (alts : List CoreAlt) (at : ℕ × ℕ) → loose_alt marks 0 alts ≡ Some at → FoundAlt marks alts at
alt_found marks alts at e =
    let f = finds (λ (alt : CoreAlt). loose_term marks 0 alt.terms) 0 alts at (sym (alt_search marks 0 alts) ∙ e) in
    let same : f.place ≡ at.0 = omega (arith, f.number) in
    record {
      alt = f.item;
      there = subst (λ m. slice_get alts m ≡ Some f.item) same f.there;
      inside = term_found marks f.item.terms at.1 f.found;
      before = λ j y less is. f.before j y (omega (arith, less, same)) is;
    }

one_item : {A : Type 0} (xs : List A) (i j : ℕ) → i ≡ j → (x y : A) → slice_get xs i ≡ Some x → slice_get xs j ≡ Some y → x ≡ y
one_item xs i j e x y a b = let at_j : slice_get xs j ≡ Some x = subst (λ m. slice_get xs m ≡ Some x) e a in cc

within_rule : (marks : Marks) (alts : List CoreAlt) (at : ℕ × ℕ) → FoundAlt marks alts at → (to : ℕ × ℕ × ℕ) (other : CoreTerm) (alt : CoreAlt)
    → (to.1 < at.0) ⊎ ((to.1 ≡ at.0) × (to.2 < at.1)) → slice_get alts to.1 ≡ Some alt → slice_get alt.terms to.2 ≡ Some other → IsLoose marks other → ⊥
within_rule marks alts at f to other alt (inl less) is_alt is_term h = terms_tight marks alt.terms (f.before to.1 alt less is_alt) to.2 other is_term h
within_rule marks alts at f to other alt (inr here) is_alt is_term h =
    let same : alt ≡ f.alt = one_item alts to.1 at.0 here.0 alt f.alt is_alt f.there in
    f.inside.before to.2 other here.1 (subst (λ (a : CoreAlt). slice_get a.terms to.2 ≡ Some other) same is_term) h

rule_found : (marks : Marks) (rules : List CoreRule) (at : ℕ × (ℕ × ℕ)) → loose_rule marks 0 rules ≡ Some at → IsFirstLoose marks rules (at.0, at.1.0, at.1.1)
rule_found marks rules at e =
    let f = finds (λ (rule : CoreRule). loose_alt marks 0 rule.alts) 0 rules at (sym (rule_search marks 0 rules) ∙ e) in
    let same : f.place ≡ at.0 = omega (arith, f.number) in
    let a = alt_found marks f.item.alts at.1 f.found in
    let is_rule = subst (λ m. slice_get rules m ≡ Some f.item) same f.there in
    record {
      term = a.inside.term;
      there = record { rule = f.item; alt = a.alt; is_rule = is_rule; is_alt = a.there; is_term = a.inside.there };
      loose = a.inside.loose;
      before = λ to other earlier there h. elim earlier [
        | inl less ↦
            let none = f.before to.0 there.rule (omega (arith, less, same)) there.is_rule in
            alts_tight marks there.rule.alts none to.1 there.alt to.2 other there.is_alt there.is_term h
        | inr here ↦
            let rule : there.rule ≡ f.item = one_item rules to.0 at.0 here.0 there.rule f.item there.is_rule is_rule in
            let is_alt = subst (λ (r : CoreRule). slice_get r.alts to.1 ≡ Some there.alt) rule there.is_alt in
            within_rule marks f.item.alts at.1 a to other there.alt here.1 is_alt there.is_term h
      ];
    }

-- ---- exactly where there is one

to_first : (marks : Marks) (rules : List CoreRule) (at : ℕ × ℕ × ℕ) → loose marks rules ≡ Some at → IsFirstLoose marks rules at
to_first marks rules at e = rule_found marks rules (at.0, (at.1, at.2)) (placed_some _ at e)

-- two places are one, or one is before the other
data Apart (at to : ℕ × ℕ × ℕ) : Type 0 where
  same : at ≡ to → Apart at to
  earlier : IsEarlier at to → Apart at to
  later : IsEarlier to at → Apart at to

apart : (at to : ℕ × ℕ × ℕ) → Apart at to
apart at to = by_rule (cases_order at.0 to.0)
  where
    by_term : at.0 ≡ to.0 → at.1 ≡ to.1 → (at.2 ≡ to.2) ⊎ ((at.2 < to.2) ⊎ (to.2 < at.2)) → Apart at to
    by_term r a (inl t) = same (ap (λ x. (x, at.1, at.2)) r ∙ ap (λ y. (to.0, y, at.2)) a ∙ ap (λ z. (to.0, to.1, z)) t)
    by_term r a (inr (inl less)) = earlier (inr (r, inr (a, less)))
    by_term r a (inr (inr more)) = later (inr (sym r, inr (sym a, more)))

    by_alt : at.0 ≡ to.0 → (at.1 ≡ to.1) ⊎ ((at.1 < to.1) ⊎ (to.1 < at.1)) → Apart at to
    by_alt r (inl a) = by_term r a (cases_order at.2 to.2)
    by_alt r (inr (inl less)) = earlier (inr (r, inl less))
    by_alt r (inr (inr more)) = later (inr (sym r, inl more))

    by_rule : (at.0 ≡ to.0) ⊎ ((at.0 < to.0) ⊎ (to.0 < at.0)) → Apart at to
    by_rule (inl r) = by_alt r (cases_order at.1 to.1)
    by_rule (inr (inl less)) = earlier (inl less)
    by_rule (inr (inr more)) = later (inl more)

first_once : (marks : Marks) (rules : List CoreRule) (at to : ℕ × ℕ × ℕ) → IsFirstLoose marks rules at → IsFirstLoose marks rules to → at ≡ to
first_once marks rules at to h k = elim (apart at to) [
  | same e ↦ e
  | earlier less ↦ absurd (k.before at h.term less h.there h.loose)
  | later more ↦ absurd (h.before to k.term more k.there k.loose)
]

from_first : (marks : Marks) (rules : List CoreRule) (at : ℕ × ℕ × ℕ) → IsFirstLoose marks rules at
    → (o : Option (ℕ × ℕ × ℕ)) → loose marks rules ≡ o → loose marks rules ≡ Some at
from_first marks rules at h None e = absurd (rules_tight marks rules (placed_none _ e) at h.term h.there h.loose)
from_first marks rules at h (Some to) e = e ∙ ap Some (first_once marks rules to at (to_first marks rules to e) h)

from_tight : (marks : Marks) (rules : List CoreRule) → IsTight marks rules → (o : Option (ℕ × ℕ × ℕ)) → loose marks rules ≡ o → loose marks rules ≡ None
from_tight marks rules h None e = e
from_tight marks rules h (Some at) e = let f = to_first marks rules at e in absurd (h at f.term f.there f.loose)

pub loose_is_first : LooseIsFirst
loose_is_first = record {
  first = λ marks rules at. ((λ e. to_first marks rules at e), λ h. from_first marks rules at h (loose marks rules) refl);
  none = λ marks rules. ((λ e. rules_tight marks rules (placed_none _ e)), λ h. from_tight marks rules h (loose marks rules) refl);
}
