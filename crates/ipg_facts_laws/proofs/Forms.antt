-- Forms that have a value, and the facts that they make.
use Rattle.std.proofs.Common.{◌≡◌, ℕ, zero, suc, Bool, true, false, not, ◌&&◌, ◌||◌, List, [], ◌∷◌, ◌++◌, map, length, refl, sym, ap, subst, ◌∙◌}
use Rattle.std.proofs.Common.{arith, ℤ, pos, negsuc, ◌+ℤ◌, ◌*ℤ◌, ◌-ℤ◌, if◌then◌else◌}
use Rattle.std.proofs.lemmas.Bool.Decides.{nat_tests}
use Rattle.std.specs.Prelude.{nat_le, int_le, ◌≤ℤ◌, ◌<ℤ◌, flat_map}
use Rattle.std.specs.List.{filter}
use Rattle.std.proofs.lemmas.Int.{ints}
use Rattle.ipg_lin.specs.Formula.{some}
use Rattle.ipg_facts_forms.specs.declared.fact.Draft.{Draft}
use Rattle.ipg_facts_forms.specs.declared.fact.Part.{Part}
use Rattle.ipg_facts_forms.specs.declared.fact.Form.{Form}
use Rattle.ipg_facts_forms.specs.declared.fact.Fact.{Fact, fold-roll-Fact}
use Rattle.ipg_facts_forms.specs.declared.fact.Fact.TheVariants as facts
use Rattle.ipg_facts_forms.specs.declared.fact.Fact.TheOpen.{Fact-F}
use Rattle.ipg_facts_variables.specs.declared.variable.Variable.{Variable}
use Rattle.ipg_facts_variables.specs.Variable.{same_variable}
use Rattle.ipg_facts_variables.specs.Equality.{same_variables_are_equal}
use Rattle.ipg_facts_forms.specs.Form.{mention, number, add_part, add_parts, plus, minus, scaled, scaled_part, shifted, is_zero, counts, is_constant}
use Rattle.ipg_facts_forms.specs.Form.{mentioned, in_limits, facts_of, bare, at_most_zero, leq, less, both_at_most_zero, equal, choice, differ}
use Rattle.ipg_facts_laws.specs.Valued.{Valuation, sum_of, so_step, is_so, are_so}
use Rattle.ipg_facts_laws.specs.Known.{AreSo, AreTrue, parts_sum, Stands}
use Rattle.ipg_facts_laws.proofs.Whole.{times_plus, scale, zero_times, one_times, times_minus_one}

left : (a b : Bool) → a && b ≡ true → a ≡ true
left true b e = refl
left false b e = cc

right : (a b : Bool) → a && b ≡ true → b ≡ true
right true b e = e
right false b e = cc

both : (a b : Bool) → a ≡ true → b ≡ true → a && b ≡ true
both a b e f = rw (e, f) refl

no_less : (n : ℕ) → nat_le (suc n) 0 ≡ true → ⊥
no_less n e = grind (arith, nat_tests)

at_most : (x : ℤ) → x ≤ℤ pos 0 → int_le x (pos 0) ≡ true
at_most x h = grind (arith, ints)

module _ (v : Valuation) where
  pub so_append : (xs ys : List Fact) → AreSo v xs → AreSo v ys → AreSo v (xs ++ ys)
  so_append [] ys e f = f
  so_append (x ∷ xs) ys e f = both _ _ (left _ _ e) (so_append xs ys (right _ _ e) f)

  pub stands_at : (a : Form) (y z : ℤ) → y ≡ z → Stands v a y → Stands v a z
  stands_at a y z e s = record { value = s.value ∙ e; facts = s.facts }

  pub stands_number : (z : ℤ) → Stands v (number z) z
  stands_number z = record { value = omega (arith, ints); facts = tt }

  pub stands_mention : (variable : Variable) (fs : List Fact) → AreSo v fs → Stands v (mention variable fs) (v variable)
  stands_mention variable fs h = record { value = ap (λ z. (z +ℤ pos 0) +ℤ pos 0) (one_times (v variable)) ∙ omega (arith, ints); facts = (h, tt) }

  -- a part more
  added : (b : Bool) (q p : Part) (qs more : List Part) → same_variable q.variable p.variable ≡ b
      → parts_sum v more ≡ parts_sum v qs +ℤ (p.factor *ℤ v p.variable)
      → parts_sum v (if b then record q { factor = q.factor +ℤ p.factor } ∷ qs else q ∷ more) ≡ parts_sum v (q ∷ qs) +ℤ (p.factor *ℤ v p.variable)
  added true q p qs more e f =
      let same : q.variable ≡ p.variable = (same_variables_are_equal q.variable p.variable).0 e in
      ap (λ z. z +ℤ parts_sum v qs) (times_plus q.factor p.factor (v q.variable))
      ∙ ap (λ k. ((q.factor *ℤ v q.variable) +ℤ (p.factor *ℤ v k)) +ℤ parts_sum v qs) same
      ∙ omega (arith, ints)
  added false q p qs more e f = ap (λ z. (q.factor *ℤ v q.variable) +ℤ z) f ∙ omega (arith, ints)

  sum_added : (ps : List Part) (p : Part) → parts_sum v (add_part ps p) ≡ parts_sum v ps +ℤ (p.factor *ℤ v p.variable)
  unfolding add_part
  sum_added [] p = omega (arith, ints)
  sum_added (q ∷ qs) p = added (same_variable q.variable p.variable) q p qs (add_part qs p) refl (sum_added qs p)

  true_chosen : (b : Bool) (q p : Part) (qs more : List Part) → AreTrue v (q ∷ qs) → AreTrue v more
      → AreTrue v (if b then record q { factor = q.factor +ℤ p.factor } ∷ qs else q ∷ more)
  true_chosen true q p qs more h k = h
  true_chosen false q p qs more h k = (h.0, k)

  true_added : (ps : List Part) (p : Part) → AreTrue v ps → AreSo v p.facts → AreTrue v (add_part ps p)
  unfolding add_part
  true_added [] p h k = (k, tt)
  true_added (q ∷ qs) p h k = true_chosen (same_variable q.variable p.variable) q p qs (add_part qs p) h (true_added qs p h.1 k)

  sums_added : (ps qs : List Part) → parts_sum v (add_parts ps qs) ≡ parts_sum v ps +ℤ parts_sum v qs
  unfolding add_parts
  sums_added ps [] = omega (arith, ints)
  sums_added ps (q ∷ qs) = sums_added (add_part ps q) qs ∙ ap (λ z. z +ℤ parts_sum v qs) (sum_added ps q) ∙ omega (arith, ints)

  trues_added : (ps qs : List Part) → AreTrue v ps → AreTrue v qs → AreTrue v (add_parts ps qs)
  unfolding add_parts
  trues_added ps [] h k = h
  trues_added ps (q ∷ qs) h k = trues_added (add_part ps q) qs (true_added ps q h k.0) k.1

  regroup : (a b c d x y : ℤ) → a +ℤ c ≡ x → b +ℤ d ≡ y → (a +ℤ b) +ℤ (c +ℤ d) ≡ x +ℤ y
  regroup a b c d x y e f = omega (arith, ints)

  pub stands_plus : (a b : Form) (x y : ℤ) → Stands v a x → Stands v b y → Stands v (plus a b) (x +ℤ y)
  unfolding plus
  stands_plus a b x y s t = record {
    value = ap (λ z. z +ℤ (a.constant +ℤ b.constant)) (sums_added a.parts b.parts)
        ∙ regroup (parts_sum v a.parts) (parts_sum v b.parts) a.constant b.constant x y s.value t.value;
    facts = trues_added a.parts b.parts s.facts t.facts;
  }

  sum_scaled : (k : ℤ) (ps : List Part) → parts_sum v (map (scaled_part k) ps) ≡ parts_sum v ps *ℤ k
  sum_scaled k [] = sym (zero_times k)
  sum_scaled k (p ∷ ps) =
      ap (λ z. z +ℤ parts_sum v (map (scaled_part k) ps)) (scale p.factor k (v p.variable))
      ∙ ap (λ z. ((p.factor *ℤ v p.variable) *ℤ k) +ℤ z) (sum_scaled k ps) ∙ sym (times_plus (p.factor *ℤ v p.variable) (parts_sum v ps) k)

  true_scaled : (k : ℤ) (ps : List Part) → AreTrue v ps → AreTrue v (map (scaled_part k) ps)
  true_scaled k [] h = tt
  true_scaled k (p ∷ ps) h = (h.0, true_scaled k ps h.1)

  pub stands_scaled : (k : ℤ) (a : Form) (x : ℤ) → Stands v a x → Stands v (scaled k a) (x *ℤ k)
  unfolding scaled
  stands_scaled k a x s = record {
    value = ap (λ z. z +ℤ (a.constant *ℤ k)) (sum_scaled k a.parts) ∙ sym (times_plus (parts_sum v a.parts) a.constant k) ∙ ap (λ z. z *ℤ k) s.value;
    facts = true_scaled k a.parts s.facts;
  }

  pub stands_negated : (a : Form) (x : ℤ) → Stands v a x → Stands v (scaled (negsuc 0) a) (pos 0 -ℤ x)
  stands_negated a x s = stands_at _ _ _ (times_minus_one x) (stands_scaled (negsuc 0) a x s)

  pub stands_minus : (a b : Form) (x y : ℤ) → Stands v a x → Stands v b y → Stands v (minus a b) (x -ℤ y)
  unfolding minus
  stands_minus a b x y s t =
      stands_at _ _ _ (let e : x +ℤ (pos 0 -ℤ y) ≡ x -ℤ y = omega (arith, ints) in e)
      (stands_plus a (scaled (negsuc 0) b) x (pos 0 -ℤ y) s (stands_negated b y t))

  pub stands_shifted : (a : Form) (k x : ℤ) → Stands v a x → Stands v (shifted a k) (x +ℤ k)
  unfolding shifted
  stands_shifted a k x s = record {
    value = let e : parts_sum v a.parts +ℤ a.constant ≡ x = s.value in omega (arith, ints);
    facts = s.facts;
  }

  -- what a form mentions gives its value
  not_counted : (f z : ℤ) → is_zero f ≡ true → f *ℤ z ≡ pos 0
  not_counted (pos zero) z e = zero_times z
  not_counted (pos (suc n)) z e = absurd (no_less n e)
  not_counted (negsuc n) z e = cc

  counted : (b : Bool) (p : Part) (ps : List Part) → is_zero p.factor ≡ b
      → sum_of v (map (λ (p : Part). (p.variable, p.factor)) (filter counts ps)) ≡ parts_sum v ps
      → sum_of v (map (λ (p : Part). (p.variable, p.factor)) (if not b then p ∷ filter counts ps else filter counts ps)) ≡ parts_sum v (p ∷ ps)
  counted true p ps e f = f ∙ sym (ap (λ z. z +ℤ parts_sum v ps) (not_counted p.factor (v p.variable) e) ∙ omega (arith, ints))
  counted false p ps e f = ap (λ z. (p.factor *ℤ v p.variable) +ℤ z) f

  sum_counted : (ps : List Part) → sum_of v (map (λ (p : Part). (p.variable, p.factor)) (filter counts ps)) ≡ parts_sum v ps
  sum_counted [] = refl
  sum_counted (p ∷ ps) = counted (is_zero p.factor) p ps refl (sum_counted ps)

  facts_chosen : (b : Bool) (p : Part) (ps : List Part) → AreSo v p.facts → AreSo v (flat_map (λ p. p.facts) ps)
      → AreSo v (flat_map (λ p. p.facts) (if b then p ∷ ps else ps))
  facts_chosen true p ps h k = so_append p.facts _ h k
  facts_chosen false p ps h k = k

  facts_counted : (ps : List Part) → AreTrue v ps → AreSo v (flat_map (λ p. p.facts) (filter counts ps))
  facts_counted [] h = refl
  facts_counted (p ∷ ps) h = facts_chosen (counts p) p (filter counts ps) h.0 (facts_counted ps h.1)

  pub so_facts_of : (a : Form) (z : ℤ) → Stands v a z → AreSo v (facts_of a)
  unfolding facts_of mentioned
  so_facts_of a z s = facts_counted a.parts s.facts

  atom_so : (draft : Draft) → (sum_of v draft.terms +ℤ draft.constant) ≤ℤ pos 0 → is_so v (facts.Atom draft) ≡ true
  atom_so draft h = ap (is_so v) (sym (facts.rolls-Atom draft)) ∙ fold-roll-Fact Bool (so_step v) (Fact-F.Atom draft) ∙ at_most _ h

  bare_so : (b : Bool) (draft : Draft) → (sum_of v draft.terms +ℤ draft.constant) ≤ℤ pos 0 → AreSo v (if b then facts.Atom draft ∷ [] else [])
  bare_so true draft h = both _ _ (atom_so draft h) refl
  bare_so false draft h = refl

  pub so_bare : (a : Form) (z : ℤ) → Stands v a z → z ≤ℤ pos 0 → AreSo v (bare a)
  unfolding bare mentioned
  so_bare a z s h =
      bare_so (in_limits a) (record { terms = map (λ (p : Part). (p.variable, p.factor)) (filter counts a.parts); constant = a.constant })
      (subst (λ y. y ≤ℤ pos 0) (sym (ap (λ y. y +ℤ a.constant) (sum_counted a.parts) ∙ s.value)) h)

  chosen_so : (b : Bool) (fs : List Fact) → AreSo v fs → AreSo v (if b then fs else [])
  chosen_so true fs h = h
  chosen_so false fs h = refl

  pub so_at_most_zero : (a : Form) (z : ℤ) → Stands v a z → z ≤ℤ pos 0 → AreSo v (at_most_zero a)
  unfolding at_most_zero
  so_at_most_zero a z s h = chosen_so (in_limits a) _ (so_append (facts_of a) (bare a) (so_facts_of a z s) (so_bare a z s h))

  pub so_leq : (a b : Form) (x y : ℤ) → Stands v a x → Stands v b y → x ≤ℤ y → AreSo v (leq a b)
  unfolding leq
  so_leq a b x y s t h = so_at_most_zero (minus a b) (x -ℤ y) (stands_minus a b x y s t) (omega (arith, ints))

  pub so_less : (a b : Form) (x y : ℤ) → Stands v a x → Stands v b y → x <ℤ y → AreSo v (less a b)
  unfolding less
  so_less a b x y s t h =
      so_at_most_zero (shifted (minus a b) (pos 1)) ((x -ℤ y) +ℤ pos 1) (stands_shifted (minus a b) (pos 1) (x -ℤ y) (stands_minus a b x y s t))
      (omega (arith, ints))

  one_or_other : (b : Bool) (xs ys : List Fact) → AreSo v xs → AreSo v ys → AreSo v (if b then xs else ys)
  one_or_other true xs ys h k = h
  one_or_other false xs ys h k = k

  so_both : (d n : Form) → Stands v d (pos 0) → Stands v n (pos 0) → AreSo v (both_at_most_zero d n)
  unfolding both_at_most_zero
  so_both d n s t =
      one_or_other (in_limits d) _ _
      (so_append (at_most_zero d) (bare n) (so_at_most_zero d _ s (omega (arith, ints))) (so_bare n _ t (omega (arith, ints))))
      (so_at_most_zero n _ t (omega (arith, ints)))

  pub so_equal : (a b : Form) (x y : ℤ) → Stands v a x → Stands v b y → x ≡ y → AreSo v (equal a b)
  unfolding equal
  so_equal a b x y s t h =
      so_both (minus a b) (minus b a)
      (stands_at _ _ _ (let e : x -ℤ y ≡ pos 0 = omega (arith, ints) in e) (stands_minus a b x y s t))
      (stands_at _ _ _ (let e : y -ℤ x ≡ pos 0 = omega (arith, ints) in e) (stands_minus b a y x t s))

  pub all_is : (fs : List Fact) → is_so v (facts.All fs) ≡ are_so v fs
  all_is fs = ap (is_so v) (sym (facts.rolls-All fs)) ∙ fold-roll-Fact Bool (so_step v) (Fact-F.All fs)

  pub any_is : (fs : List Fact) → is_so v (facts.Any fs) ≡ some (map (is_so v) fs)
  any_is fs = ap (is_so v) (sym (facts.rolls-Any fs)) ∙ fold-roll-Fact Bool (so_step v) (Fact-F.Any fs)

  -- one of two holds
  pub so_first : (xs ys : List Fact) → AreSo v xs → AreSo v (choice xs ys)
  unfolding choice
  so_first xs ys h =
      both _ _ (any_is (facts.All xs ∷ facts.All ys ∷ []) ∙ ap (λ b. b || (is_so v (facts.All ys) || false)) (all_is xs ∙ h)) refl

  or_true : (a : Bool) → a || true ≡ true
  or_true true = refl
  or_true false = refl

  pub so_second : (xs ys : List Fact) → AreSo v ys → AreSo v (choice xs ys)
  unfolding choice
  so_second xs ys h =
      both _ _ (any_is (facts.All xs ∷ facts.All ys ∷ []) ∙ ap (λ b. is_so v (facts.All xs) || (b || false)) (all_is ys ∙ h)
      ∙ or_true (is_so v (facts.All xs))) refl

  pub so_below : (a b : Form) (x y : ℤ) → Stands v a x → Stands v b y → x <ℤ y → AreSo v (differ a b)
  unfolding differ
  so_below a b x y s t h = so_first (less a b) (less b a) (so_less a b x y s t h)

  pub so_above : (a b : Form) (x y : ℤ) → Stands v a x → Stands v b y → y <ℤ x → AreSo v (differ a b)
  unfolding differ
  so_above a b x y s t h = so_second (less a b) (less b a) (so_less b a y x t s h)

  none_left : (ps : List Part) → nat_le (length ps) 0 ≡ true → sum_of v (map (λ (p : Part). (p.variable, p.factor)) ps) ≡ pos 0
  none_left [] e = refl
  none_left (p ∷ ps) e = absurd (no_less (length ps) e)

  -- a form that mentions nothing has its constant's value
  none_counted : (ps : List Part) → nat_le (length (filter counts ps)) 0 ≡ true → parts_sum v ps ≡ pos 0
  none_counted ps e = sym (sum_counted ps) ∙ none_left (filter counts ps) e

  pub constant_value : (a : Form) (x : ℤ) → is_constant a ≡ true → Stands v a x → a.constant ≡ x
  unfolding is_constant mentioned
  constant_value a x c s =
      let e : parts_sum v a.parts ≡ pos 0 = none_counted a.parts c in
      let f : parts_sum v a.parts +ℤ a.constant ≡ x = s.value in
      omega (arith, ints)
