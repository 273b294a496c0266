-- What the tests of attributes tell: which are set, and that none is set twice.
use Rattle.std.proofs.Common.{◌≡◌, ℕ, zero, suc, not, inl, inr, List, [], ◌∷◌, length, Option}
use Rattle.std.proofs.Common.{Some, None, slice_get, refl, sym, ap, subst, ◌∙◌, nat_eq, nat_lt, arith, ◌⊎◌}
use Rattle.std.specs.Bool.{Decides}
use Rattle.std.proofs.lemmas.Option.{slice_get_within}
use Rattle.std.proofs.lemmas.Bool.Decides.{Decides-and, Decides-or, Decides-not, Decides-like, Decides-eqb, Decides-ltb}
use Rattle.ipg_core.specs.declared.grammar.CoreExpr.{CoreExpr}
use Rattle.ipg_core.specs.declared.grammar.CoreTerm.{CoreTerm}
use Rattle.ipg_core.specs.declared.grammar.CoreTerm.TheVariants.{Slot, Set, Test, Repeat, Many, Pick}
use Rattle.ipg_core.specs.declared.grammar.CoreAlt.{CoreAlt}
use Rattle.ipg_core.specs.declared.grammar.CoreRule.{CoreRule}
use Rattle.ipg_core.specs.Grammar.{Grammar, rule_at}
use Rattle.ipg_core.specs.Order.{Sets}
use Rattle.ipg_core.specs.Good.{AltAt, SetsSome, HolderSets, IsGlobalAlt}
use Rattle.ipg_store_adopt.specs.WellFormed.{sets_attr, sets_some, sets_again, sets_once, terms_or_none}
use Rattle.ipg_store_adopt.specs.WellFormed.{terms_in, holder_sets, is_global, has_global_alt, is_holder, starts_global}
use Rattle.ipg_store_adopt.proofs.Tests.{never, always, some_same, there}

-- ---- in an alternative

abbrev set_number : CoreTerm → ℕ
set_number (Set a e) = a
set_number (Slot slot) = 0
set_number (Test e) = 0
set_number (Repeat first last item from to) = 0
set_number (Many item from to) = 0
set_number (Pick cases other) = 0

abbrev IsSet : ℕ → CoreTerm → Type 0
IsSet attr t = (e : CoreExpr) × (t ≡ Set attr e)

attr_tells : (attr : ℕ) (t : CoreTerm) → Decides (sets_attr attr t) (IsSet attr t)
attr_tells attr (Set a e) = Decides-like (nat_eq a attr) (λ h. (e, ap (λ n. Set n e) h)) (λ h. ap set_number h.1) (Decides-eqb a attr)
attr_tells attr (Slot slot) = never (λ h. let e = h.1 in absurd (cc))
attr_tells attr (Test c) = never (λ h. let e = h.1 in absurd (cc))
attr_tells attr (Repeat first last item from to) = never (λ h. let e = h.1 in absurd (cc))
attr_tells attr (Many item from to) = never (λ h. let e = h.1 in absurd (cc))
attr_tells attr (Pick cases other) = never (λ h. let e = h.1 in absurd (cc))

pub some_tells : (terms : List CoreTerm) (attr : ℕ) → Decides (sets_some terms attr) (SetsSome terms attr)
some_tells [] attr = never (λ h. let e = h.1.1 in absurd (cc))
some_tells (t ∷ ts) attr =
    Decides-like (sets_some (t ∷ ts) attr) to from (Decides-or (sets_attr attr t) (sets_some ts attr) (attr_tells attr t) (some_tells ts attr))
  where
    to : IsSet attr t ⊎ SetsSome ts attr → SetsSome (t ∷ ts) attr
    to (inl h) = (0, (h.0, ap Some h.1))
    to (inr h) = (suc h.0, h.1)

    from_at : (v : ℕ) → Sets (t ∷ ts) v attr → IsSet attr t ⊎ SetsSome ts attr
    from_at zero s = inl (s.0, some_same t (Set attr s.0) s.1)
    from_at (suc v) s = inr (v, s)

    from : SetsSome (t ∷ ts) attr → IsSet attr t ⊎ SetsSome ts attr
    from h = from_at h.0 h.1

abbrev SetsAgain : CoreTerm → List CoreTerm → Type 0
SetsAgain t ts = (attr : ℕ) × IsSet attr t × SetsSome ts attr

again_tells : (t : CoreTerm) (ts : List CoreTerm) → Decides (sets_again t ts) (SetsAgain t ts)
again_tells (Set a e) ts =
    Decides-like (sets_some ts a) (λ h. (a, (e, refl), h)) (λ h. subst (SetsSome ts) (sym (ap set_number h.1.1)) h.2) (some_tells ts a)
again_tells (Slot slot) ts = never (λ h. let e = h.1.1 in absurd (cc))
again_tells (Test c) ts = never (λ h. let e = h.1.1 in absurd (cc))
again_tells (Repeat first last item from to) ts = never (λ h. let e = h.1.1 in absurd (cc))
again_tells (Many item from to) ts = never (λ h. let e = h.1.1 in absurd (cc))
again_tells (Pick cases other) ts = never (λ h. let e = h.1.1 in absurd (cc))

abbrev SetsOnce : List CoreTerm → Type 0
SetsOnce terms = (attr u v : ℕ) → Sets terms u attr → Sets terms v attr → u ≡ v

pub once_tells : (terms : List CoreTerm) → Decides (sets_once terms) (SetsOnce terms)
once_tells [] = always (λ attr u v s w. let e = s.1 in absurd (cc))
once_tells (t ∷ ts) =
    Decides-like (sets_once (t ∷ ts)) to from
    (Decides-and (not (sets_again t ts)) (sets_once ts) (Decides-not (sets_again t ts) (again_tells t ts)) (once_tells ts))
  where
    twice : (attr v : ℕ) → Sets (t ∷ ts) 0 attr → Sets ts v attr → SetsAgain t ts
    twice attr v s w = (attr, (s.0, some_same t (Set attr s.0) s.1), (v, w))

    to : (SetsAgain t ts → ⊥) × SetsOnce ts → SetsOnce (t ∷ ts)
    to h attr zero zero s w = refl
    to h attr zero (suc v) s w = absurd (h.0 (twice attr v s w))
    to h attr (suc u) zero s w = absurd (h.0 (twice attr u w s))
    to h attr (suc u) (suc v) s w = ap suc (h.1 attr u v s w)

    from : SetsOnce (t ∷ ts) → (SetsAgain t ts → ⊥) × SetsOnce ts
    from once = (
      λ h. let e = once h.0 0 (suc h.2.0) (h.1.0, ap Some h.1.1) h.2.1 in absurd (omega arith),
      λ attr u v s w. let e = once attr (suc u) (suc v) s w in (let q : u ≡ v = omega arith in q),
    )

-- ---- in a holder

module _ (g : Grammar) (at : ℕ × ℕ) where
  rule_is : (rule other : CoreRule) (alt : CoreAlt) → rule_at g at.0 ≡ Some rule → AltAt g other alt at → other ≡ rule
  rule_is rule other alt e h = some_same other rule (sym h.is_rule ∙ e)

  alt_is : (rule other : CoreRule) (alt : CoreAlt) → rule_at g at.0 ≡ Some rule → AltAt g other alt at → slice_get rule.alts at.1 ≡ Some alt
  alt_is rule other alt e h = subst (λ r. slice_get r.alts at.1 ≡ Some alt) (rule_is rule other alt e h) h.is_alt

  outer_tells : (attr : ℕ) (o : Option CoreRule) → rule_at g at.0 ≡ o → Decides (sets_some (terms_in o at.1) attr) (HolderSets g (Some at) attr)
  outer_tells attr None e = never (λ h. let k = h.2.is_rule in absurd (cc))
  outer_tells attr (Some rule) e = by (slice_get rule.alts at.1) refl
    where
      by : (o : Option CoreAlt) → slice_get rule.alts at.1 ≡ o → Decides (sets_some (terms_or_none o) attr) (HolderSets g (Some at) attr)
      by None k = never (λ h. let is = alt_is rule h.0 h.1 e h.2 in absurd (cc))
      by (Some alt) k =
          Decides-like (sets_some alt.terms attr)
          (λ s. (rule, alt, record { is_rule = e; is_alt = k }, s))
          (λ h. subst (λ a. SetsSome a.terms attr) (some_same h.1 alt (sym (alt_is rule h.0 h.1 e h.2) ∙ k)) h.3)
          (some_tells alt.terms attr)

  global_tells : (holder : Option (ℕ × ℕ)) → Decides (is_global holder) (holder ≡ None)
  global_tells None = always refl
  global_tells (Some h) = never (λ e. absurd (cc))

  global_alt_tells : (o : Option CoreRule) → rule_at g at.0 ≡ o → Decides (has_global_alt o at.1) (IsGlobalAlt g at)
  global_alt_tells None e = never (λ h. let k = h.2.is_rule in absurd (cc))
  global_alt_tells (Some rule) e =
      Decides-like (has_global_alt (Some rule) at.1)
      (λ h. let w = there rule.alts at.1 h.0 in (rule, w.0, record { is_rule = e; is_alt = w.1 }, h.1))
      (λ h. (
        slice_get_within rule.alts at.1 h.1 (alt_is rule h.0 h.1 e h.2),
        subst (λ r. r.holder ≡ None) (rule_is rule h.0 h.1 e h.2) h.3,
      ))
      (Decides-and (nat_lt at.1 (length rule.alts)) (is_global rule.holder) (Decides-ltb at.1 (length rule.alts)) (global_tells rule.holder))

pub holder_sets_tells : (g : Grammar) (holder : Option (ℕ × ℕ)) (attr : ℕ) → Decides (holder_sets g holder attr) (HolderSets g holder attr)
holder_sets_tells g None attr = never (λ h. h)
holder_sets_tells g (Some at) attr = outer_tells g at attr (rule_at g at.0) refl

-- each holder that the rule names is an alternative of a global rule
abbrev pub HasHolder : Grammar → Option (ℕ × ℕ) → Type 0
HasHolder g holder = (at : ℕ × ℕ) → holder ≡ Some at → IsGlobalAlt g at

pub holder_tells : (g : Grammar) (holder : Option (ℕ × ℕ)) → Decides (is_holder g holder) (HasHolder g holder)
holder_tells g None = always (λ at e. absurd (cc))
holder_tells g (Some h) =
    Decides-like (is_holder g (Some h)) (λ s at e. subst (IsGlobalAlt g) (some_same h at e) s) (λ k. k h refl)
    (global_alt_tells g h (rule_at g h.0) refl)

pub first_tells : (rules : List CoreRule) → Decides (starts_global rules) ((rule : CoreRule) × (slice_get rules 0 ≡ Some rule) × (rule.holder ≡ None))
first_tells [] = never (λ h. let e = h.1 in absurd (cc))
first_tells (rule ∷ rules) = by rule.holder refl
  where
    by : (o : Option (ℕ × ℕ)) → rule.holder ≡ o
        → Decides (is_global o) ((r : CoreRule) × (slice_get (rule ∷ rules) 0 ≡ Some r) × (r.holder ≡ None))
    by None e = always (rule, refl, e)
    by (Some at) e = never (λ h. let k : rule.holder ≡ None = subst (λ r. r.holder ≡ None) (sym (some_same rule h.0 h.1)) h.2 in absurd (cc))
