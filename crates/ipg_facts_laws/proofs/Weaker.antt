-- Forms that are alike but for the facts of their variables, and the facts that they make: those of the second follow from those of the first.
use Rattle.std.proofs.Common.{◌≡◌, suc, Bool, true, false, not, ◌&&◌, ◌||◌, List, [], ◌∷◌, ◌++◌, map, length, refl, sym, ap, subst, ◌∙◌, ◌⊎◌, inl, inr}
use Rattle.std.proofs.Common.{Option, Some, None, ℤ, pos, negsuc, ◌+ℤ◌, ◌*ℤ◌, if◌then◌else◌}
use Rattle.std.specs.Prelude.{◌^◌, nat_le, flat_map}
use Rattle.std.specs.List.{filter, list_all}
use Rattle.std.specs.Int.RustNames.{unsigned_abs}
use Rattle.ipg_facts_forms.specs.declared.fact.Part.{Part}
use Rattle.ipg_facts_forms.specs.declared.fact.Form.{Form}
use Rattle.ipg_facts_forms.specs.declared.fact.Fact.{Fact}
use Rattle.ipg_facts_forms.specs.declared.fact.Fact.TheVariants as facts
use Rattle.ipg_facts_variables.specs.declared.variable.Variable.{Variable}
use Rattle.ipg_facts_variables.specs.Variable.{same_variable}
use Rattle.ipg_facts_forms.specs.Form.{mention, add_part, add_parts, plus, minus, scaled, scaled_part, shifted, is_zero, counts, is_light, is_constant}
use Rattle.ipg_facts_forms.specs.Form.{mentioned, in_limits, facts_of, bare, at_most_zero, leq, less, both_at_most_zero, equal, choice, differ}
use Rattle.ipg_facts_laws.specs.Valued.{Valuation, is_so}
use Rattle.ipg_facts_laws.specs.Known.{AreSo}
use Rattle.ipg_facts_laws.proofs.Forms.{so_append, so_first, so_second, any_is, all_is}

left : (a b : Bool) → a && b ≡ true → a ≡ true
left true b e = refl
left false b e = cc

right : (a b : Bool) → a && b ≡ true → b ≡ true
right true b e = e
right false b e = cc

both : (a b : Bool) → a ≡ true → b ≡ true → a && b ≡ true
both a b e f = rw (e, f) refl

one_of : (a b : Bool) → a || (b || false) ≡ true → (a ≡ true) ⊎ (b ≡ true)
one_of true b e = inl refl
one_of false true e = inr refl
one_of false false e = absurd (cc)

-- if some facts hold, so do others
abbrev pub Gives : Valuation → List Fact → List Fact → Type 0
Gives v xs ys = AreSo v xs → AreSo v ys

pub record PartGives (v : Valuation) (p q : Part) : Type 0 where
  pub variable : p.variable ≡ q.variable
  pub factor : p.factor ≡ q.factor
  pub facts : Gives v p.facts q.facts

abbrev pub PartsGive : Valuation → List Part → List Part → Type 0
PartsGive v [] [] = Unit {0}
PartsGive v [] (q ∷ qs) = ⊥
PartsGive v (p ∷ ps) [] = ⊥
PartsGive v (p ∷ ps) (q ∷ qs) = PartGives v p q × PartsGive v ps qs

pub record FormGives (v : Valuation) (a b : Form) : Type 0 where
  pub parts : PartsGive v a.parts b.parts
  pub constant : a.constant ≡ b.constant

-- both forms, or neither
abbrev pub SomeGives : Valuation → Option Form → Option Form → Type 0
SomeGives v None None = Unit {0}
SomeGives v None (Some b) = ⊥
SomeGives v (Some a) None = ⊥
SomeGives v (Some a) (Some b) = FormGives v a b

module _ (v : Valuation) where
  so_left : (xs ys : List Fact) → AreSo v (xs ++ ys) → AreSo v xs
  so_left [] ys h = refl
  so_left (x ∷ xs) ys h = both _ _ (left _ _ h) (so_left xs ys (right _ _ h))

  pub so_right : (xs ys : List Fact) → AreSo v (xs ++ ys) → AreSo v ys
  so_right [] ys h = h
  so_right (x ∷ xs) ys h = so_right xs ys (right _ _ h)

  pub gives_append : (xs ys xs' ys' : List Fact) → Gives v xs xs' → Gives v ys ys' → Gives v (xs ++ ys) (xs' ++ ys')
  gives_append xs ys xs' ys' f g h = so_append v xs' ys' (f (so_left xs ys h)) (g (so_right xs ys h))

  so_either : (xs ys : List Fact) → AreSo v (choice xs ys) → AreSo v xs ⊎ AreSo v ys
  unfolding choice
  so_either xs ys h =
      by_members (one_of (is_so v (facts.All xs)) (is_so v (facts.All ys)) (sym (any_is v (facts.All xs ∷ facts.All ys ∷ [])) ∙ left _ _ h)) where
        by_members : (is_so v (facts.All xs) ≡ true) ⊎ (is_so v (facts.All ys) ≡ true) → AreSo v xs ⊎ AreSo v ys
        by_members (inl e) = inl (sym (all_is v xs) ∙ e)
        by_members (inr e) = inr (sym (all_is v ys) ∙ e)

  pub gives_choice : (xs ys xs' ys' : List Fact) → Gives v xs xs' → Gives v ys ys' → Gives v (choice xs ys) (choice xs' ys')
  gives_choice xs ys xs' ys' f g h = chosen (so_either xs ys h) where
    chosen : AreSo v xs ⊎ AreSo v ys → AreSo v (choice xs' ys')
    chosen (inl k) = so_first v xs' ys' (f k)
    chosen (inr k) = so_second v xs' ys' (g k)

  -- ---- parts

  pub part_self : (p : Part) → PartGives v p p
  part_self p = record { variable = refl; factor = refl; facts = λ h. h }

  parts_self : (ps : List Part) → PartsGive v ps ps
  parts_self [] = tt
  parts_self (p ∷ ps) = (part_self p, parts_self ps)

  pub form_self : (a : Form) → FormGives v a a
  form_self a = record { parts = parts_self a.parts; constant = refl }

  pub gives_mention : (variable variable' : Variable) (xs ys : List Fact) → variable ≡ variable' → Gives v xs ys
      → FormGives v (mention variable xs) (mention variable' ys)
  gives_mention variable variable' xs ys e f = record { parts = (record { variable = e; factor = refl; facts = f }, tt); constant = refl }

  more_factor : (x y p q : Part) → PartGives v x y → PartGives v p q
      → PartGives v (record x { factor = x.factor +ℤ p.factor }) (record y { factor = y.factor +ℤ q.factor })
  more_factor x y p q h r = record {
    variable = h.variable;
    factor = ap (λ k. k +ℤ p.factor) h.factor ∙ ap (λ k. y.factor +ℤ k) r.factor;
    facts = h.facts;
  }

  added_here : (b : Bool) (x y p q : Part) (xs ys more more' : List Part) → PartGives v x y → PartGives v p q → PartsGive v xs ys → PartsGive v more more'
      → PartsGive v (if b then record x { factor = x.factor +ℤ p.factor } ∷ xs else x ∷ more)
      (if b then record y { factor = y.factor +ℤ q.factor } ∷ ys else y ∷ more')
  added_here true x y p q xs ys more more' h r rest k = (more_factor x y p q h r, rest)
  added_here false x y p q xs ys more more' h r rest k = (h, k)

  added : (ps qs : List Part) (p q : Part) → PartsGive v ps qs → PartGives v p q → PartsGive v (add_part ps p) (add_part qs q)
  unfolding add_part
  added [] [] p q h r = (r, tt)
  added [] (y ∷ ys) p q h r = absurd h
  added (x ∷ xs) [] p q h r = absurd h
  added (x ∷ xs) (y ∷ ys) p q h r =
      subst (λ c. PartsGive v (if same_variable x.variable p.variable then record x { factor = x.factor +ℤ p.factor } ∷ xs else x ∷ add_part xs p)
      (if c then record y { factor = y.factor +ℤ q.factor } ∷ ys else y ∷ add_part ys q))
      (ap (λ k. same_variable k p.variable) h.0.variable ∙ ap (same_variable y.variable) r.variable)
      (added_here (same_variable x.variable p.variable) x y p q xs ys (add_part xs p) (add_part ys q) h.0 r h.1 (added xs ys p q h.1 r))

  all_added : (ps ps' qs qs' : List Part) → PartsGive v ps ps' → PartsGive v qs qs' → PartsGive v (add_parts ps qs) (add_parts ps' qs')
  unfolding add_parts
  all_added ps ps' [] [] h k = h
  all_added ps ps' [] (y ∷ ys) h k = absurd k
  all_added ps ps' (x ∷ xs) [] h k = absurd k
  all_added ps ps' (x ∷ xs) (y ∷ ys) h k = all_added (add_part ps x) (add_part ps' y) xs ys (added ps ps' x y h k.0) k.1

  pub gives_plus : (a a' b b' : Form) → FormGives v a a' → FormGives v b b' → FormGives v (plus a b) (plus a' b')
  unfolding plus
  gives_plus a a' b b' h k = record {
    parts = all_added a.parts a'.parts b.parts b'.parts h.parts k.parts;
    constant = ap (λ z. z +ℤ b.constant) h.constant ∙ ap (λ z. a'.constant +ℤ z) k.constant;
  }

  all_scaled : (k : ℤ) (ps qs : List Part) → PartsGive v ps qs → PartsGive v (map (scaled_part k) ps) (map (scaled_part k) qs)
  all_scaled k [] [] h = tt
  all_scaled k [] (q ∷ qs) h = absurd h
  all_scaled k (p ∷ ps) [] h = absurd h
  all_scaled k (p ∷ ps) (q ∷ qs) h =
      (record { variable = h.0.variable; factor = ap (λ f. f *ℤ k) h.0.factor; facts = h.0.facts }, all_scaled k ps qs h.1)

  pub gives_scaled : (k : ℤ) (a a' : Form) → FormGives v a a' → FormGives v (scaled k a) (scaled k a')
  unfolding scaled
  gives_scaled k a a' h = record { parts = all_scaled k a.parts a'.parts h.parts; constant = ap (λ z. z *ℤ k) h.constant }

  pub gives_minus : (a a' b b' : Form) → FormGives v a a' → FormGives v b b' → FormGives v (minus a b) (minus a' b')
  unfolding minus
  gives_minus a a' b b' h k = gives_plus a a' (scaled (negsuc 0) b) (scaled (negsuc 0) b') h (gives_scaled (negsuc 0) b b' k)

  pub gives_shifted : (a a' : Form) (k : ℤ) → FormGives v a a' → FormGives v (shifted a k) (shifted a' k)
  unfolding shifted
  gives_shifted a a' k h = record { parts = h.parts; constant = ap (λ z. z +ℤ k) h.constant }

  -- ---- what they mention

  chosen_too : (b : Bool) (p q : Part) (ps qs : List Part) → PartGives v p q → PartsGive v ps qs
      → PartsGive v (if b then p ∷ ps else ps) (if b then q ∷ qs else qs)
  chosen_too true p q ps qs h k = (h, k)
  chosen_too false p q ps qs h k = k

  counted : (ps qs : List Part) → PartsGive v ps qs → PartsGive v (filter counts ps) (filter counts qs)
  counted [] [] h = tt
  counted [] (q ∷ qs) h = absurd h
  counted (p ∷ ps) [] h = absurd h
  counted (p ∷ ps) (q ∷ qs) h =
      subst (λ c. PartsGive v (if counts p then p ∷ filter counts ps else filter counts ps) (if c then q ∷ filter counts qs else filter counts qs))
      (ap (λ z. not (is_zero z)) h.0.factor)
      (chosen_too (counts p) p q (filter counts ps) (filter counts qs) h.0 (counted ps qs h.1))

  as_many : (ps qs : List Part) → PartsGive v ps qs → length ps ≡ length qs
  as_many [] [] h = refl
  as_many [] (q ∷ qs) h = absurd h
  as_many (p ∷ ps) [] h = absurd h
  as_many (p ∷ ps) (q ∷ qs) h = ap suc (as_many ps qs h.1)

  as_light : (ps qs : List Part) → PartsGive v ps qs → list_all is_light ps ≡ list_all is_light qs
  as_light [] [] h = refl
  as_light [] (q ∷ qs) h = absurd h
  as_light (p ∷ ps) [] h = absurd h
  as_light (p ∷ ps) (q ∷ qs) h =
      ap (λ b. b && list_all is_light ps) (ap (λ z. nat_le (unsigned_abs z) (2 ^ 40)) h.0.factor) ∙ ap (λ b. is_light q && b) (as_light ps qs h.1)

  same_terms : (ps qs : List Part) → PartsGive v ps qs
      → map {B = Variable × ℤ} (λ (p : Part). (p.variable, p.factor)) ps ≡ map {B = Variable × ℤ} (λ (p : Part). (p.variable, p.factor)) qs
  same_terms [] [] h = refl
  same_terms [] (q ∷ qs) h = absurd h
  same_terms (p ∷ ps) [] h = absurd h
  same_terms (p ∷ ps) (q ∷ qs) h = rw (h.0.variable, h.0.factor, same_terms ps qs h.1) refl

  give_facts : (ps qs : List Part) → PartsGive v ps qs → Gives v (flat_map (λ p. p.facts) ps) (flat_map (λ p. p.facts) qs)
  give_facts [] [] h k = refl
  give_facts [] (q ∷ qs) h k = absurd h
  give_facts (p ∷ ps) [] h k = absurd h
  give_facts (p ∷ ps) (q ∷ qs) h k =
      gives_append p.facts (flat_map (λ p. p.facts) ps) q.facts (flat_map (λ p. p.facts) qs) h.0.facts (give_facts ps qs h.1) k

  pub as_constant : (a b : Form) → FormGives v a b → is_constant a ≡ is_constant b
  unfolding is_constant mentioned
  as_constant a b h = ap (λ n. nat_le n 0) (as_many (filter counts a.parts) (filter counts b.parts) (counted a.parts b.parts h.parts))

  pub as_limited : (a b : Form) → FormGives v a b → in_limits a ≡ in_limits b
  unfolding in_limits mentioned
  as_limited a b h =
      let m = counted a.parts b.parts h.parts in
      rw (as_many (filter counts a.parts) (filter counts b.parts) m, as_light (filter counts a.parts) (filter counts b.parts) m, h.constant) refl

  same_bare : (a b : Form) → FormGives v a b → bare a ≡ bare b
  unfolding bare mentioned
  same_bare a b h =
      rw (as_limited a b h, same_terms (filter counts a.parts) (filter counts b.parts) (counted a.parts b.parts h.parts), h.constant) refl

  gives_bare : (a b : Form) → FormGives v a b → Gives v (bare a) (bare b)
  gives_bare a b h k = subst (λ fs. AreSo v fs) (same_bare a b h) k

  gives_facts : (a b : Form) → FormGives v a b → Gives v (facts_of a) (facts_of b)
  unfolding facts_of mentioned
  gives_facts a b h = give_facts (filter counts a.parts) (filter counts b.parts) (counted a.parts b.parts h.parts)

  -- ---- the facts that they make

  pub gives_if : (b c : Bool) (xs ys xs' ys' : List Fact) → b ≡ c → Gives v xs xs' → Gives v ys ys'
      → Gives v (if b then xs else ys) (if c then xs' else ys')
  gives_if true true xs ys xs' ys' e f g = f
  gives_if false false xs ys xs' ys' e f g = g
  gives_if true false xs ys xs' ys' e f g = absurd (cc)
  gives_if false true xs ys xs' ys' e f g = absurd (cc)

  gives_at_most_zero : (a b : Form) → FormGives v a b → Gives v (at_most_zero a) (at_most_zero b)
  unfolding at_most_zero
  gives_at_most_zero a b h =
      gives_if (in_limits a) (in_limits b) _ _ _ _ (as_limited a b h)
      (gives_append (facts_of a) (bare a) (facts_of b) (bare b) (gives_facts a b h) (gives_bare a b h)) (λ k. k)

  pub gives_leq : (a a' b b' : Form) → FormGives v a a' → FormGives v b b' → Gives v (leq a b) (leq a' b')
  unfolding leq
  gives_leq a a' b b' h k = gives_at_most_zero (minus a b) (minus a' b') (gives_minus a a' b b' h k)

  pub gives_less : (a a' b b' : Form) → FormGives v a a' → FormGives v b b' → Gives v (less a b) (less a' b')
  unfolding less
  gives_less a a' b b' h k =
      gives_at_most_zero (shifted (minus a b) (pos 1)) (shifted (minus a' b') (pos 1))
      (gives_shifted (minus a b) (minus a' b') (pos 1) (gives_minus a a' b b' h k))

  gives_both : (d d' n n' : Form) → FormGives v d d' → FormGives v n n' → Gives v (both_at_most_zero d n) (both_at_most_zero d' n')
  unfolding both_at_most_zero
  gives_both d d' n n' h k =
      gives_if (in_limits d) (in_limits d') _ _ _ _ (as_limited d d' h)
      (gives_append (at_most_zero d) (bare n) (at_most_zero d') (bare n') (gives_at_most_zero d d' h) (gives_bare n n' k))
      (gives_at_most_zero n n' k)

  pub gives_equal : (a a' b b' : Form) → FormGives v a a' → FormGives v b b' → Gives v (equal a b) (equal a' b')
  unfolding equal
  gives_equal a a' b b' h k =
      gives_both (minus a b) (minus a' b') (minus b a) (minus b' a') (gives_minus a a' b b' h k) (gives_minus b b' a a' k h)

  pub gives_differ : (a a' b b' : Form) → FormGives v a a' → FormGives v b b' → Gives v (differ a b) (differ a' b')
  unfolding differ
  gives_differ a a' b b' h k =
      gives_choice (less a b) (less b a) (less a' b') (less b' a') (gives_less a a' b b' h k) (gives_less b b' a a' k h)
