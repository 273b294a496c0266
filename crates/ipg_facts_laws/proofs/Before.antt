-- What the earlier conditions ask follows from what the later ones do, at each value of the variables.
use Rattle.std.proofs.Common.{◌≡◌, ℕ, Bool, true, false, List, [], ◌++◌, refl, sym, ap, subst}
use Rattle.std.proofs.Common.{Option, Some, None, pos, negsuc, if◌then◌else◌, nat_lt}
use Rattle.std.specs.Prelude.{slice_get}
use Rattle.ipg_num.specs.declared.op.Op2.{Op2}
use Rattle.ipg_num.specs.declared.op.Op2.TheVariants as ops
use Rattle.ipg_core.specs.declared.grammar.CoreExpr.{CoreExpr, map-CoreExpr, roll-CoreExpr, fold-roll-CoreExpr}
use Rattle.ipg_core.specs.declared.grammar.CoreExpr.TheOpen.{CoreExpr-F}
use Rattle.ipg_facts.specs.declared.edition.Edition.TheVariants.{Earlier, Later}
use Rattle.ipg_facts_forms.specs.declared.fact.Form.{Form}
use Rattle.ipg_facts_forms.specs.declared.fact.Fact.{Fact}
use Rattle.ipg_facts.specs.declared.bounds.Bounds.{Bounds}
use Rattle.ipg_facts_variables.specs.Variable.{value}
use Rattle.ipg_facts_forms.specs.Form.{mention, number, scaled, is_constant, in_limits, leq, less, equal, differ, choice}
use Rattle.ipg_facts.specs.Reading.{Scope, Reading, length_of, opaque, nought, plain, least_width, item_at, inside, if_there}
use Rattle.ipg_facts.specs.Reading.{touching, after_facts, product, computed, limited, asserted, denied, reading, read}
use Rattle.ipg_facts_laws.specs.Valued.{Valuation}
use Rattle.ipg_facts_variables.specs.Induct.{Sure, bare, induct}
use Rattle.ipg_facts_laws.proofs.Weaker.{Gives, FormGives, SomeGives, so_right, gives_append, gives_choice, form_self, gives_mention, gives_plus}
use Rattle.ipg_facts_laws.proofs.Weaker.{gives_scaled, gives_minus, as_constant, as_limited, gives_leq, gives_equal, gives_less, gives_differ}

-- what an expression is to the later conditions gives what it is to the earlier ones
pub record Weakens (v : Valuation) (late early : Reading) : Type 0 where
  pub said : late.said ≡ early.said
  pub form : FormGives v late.form early.form
  pub holds : Gives v late.holds early.holds
  pub fails : Gives v late.fails early.fails

-- the bounds of no array are known
abbrev pub NoneKnown : List (Option Bounds) → Type 0
NoneKnown arrays = (t : ℕ) → if_there (slice_get arrays t) ≡ None

none_touching : (b : Bool) (o : Option Bounds) → o ≡ None → (if b then o else None) ≡ None
none_touching true o e = e
none_touching false o e = refl

module _ (v : Valuation) where
  form_if : (b c : Bool) (a a' o o' : Form) → b ≡ c → FormGives v a a' → FormGives v o o' → FormGives v (if b then a else o) (if c then a' else o')
  form_if true true a a' o o' e f g = f
  form_if false false a a' o o' e f g = g
  form_if true false a a' o o' e f g = absurd (cc)
  form_if false true a a' o o' e f g = absurd (cc)

  some_if : (b c : Bool) (a a' o o' : Option Form) → b ≡ c → SomeGives v a a' → SomeGives v o o'
      → SomeGives v (if b then a else o) (if c then a' else o')
  some_if true true a a' o o' e f g = f
  some_if false false a a' o o' e f g = g
  some_if true false a a' o o' e f g = absurd (cc)
  some_if false true a a' o o' e f g = absurd (cc)

  gives_times : (a a' b b' : Form) → FormGives v a a' → FormGives v b b' → FormGives v (scaled a.constant b) (scaled a'.constant b')
  gives_times a a' b b' h k = subst (λ z. FormGives v (scaled a.constant b) (scaled z b')) h.constant (gives_scaled v a.constant b b' k)

  gives_product : (a a' b b' : Form) → FormGives v a a' → FormGives v b b' → SomeGives v (product a b) (product a' b')
  unfolding product
  gives_product a a' b b' h k =
      some_if (is_constant a) (is_constant a') _ _ _ _ (as_constant v a a' h)
      (gives_plus v (scaled (pos 0) a) (scaled (pos 0) a') (scaled a.constant b) (scaled a'.constant b') (gives_scaled v (pos 0) a a' h)
      (gives_times a a' b b' h k))
      (some_if (is_constant b) (is_constant b') _ _ None None (as_constant v b b' k)
      (gives_plus v (scaled b.constant a) (scaled b'.constant a') (scaled (pos 0) b) (scaled (pos 0) b') (gives_times b b' a a' k h)
      (gives_scaled v (pos 0) b b' k)) tt)

  gives_computed : (op : Op2) (a a' b b' : Form) → FormGives v a a' → FormGives v b b' → SomeGives v (computed op a b) (computed op a' b')
  unfolding computed
  gives_computed ops.Add a a' b b' h k = gives_plus v a a' b b' h k
  gives_computed ops.Sub a a' b b' h k = gives_minus v a a' b b' h k
  gives_computed ops.Mul a a' b b' h k = gives_product a a' b b' h k
  gives_computed _ a a' b b' h k = tt

  gives_other : (a a' : Form) → FormGives v a a' → Gives v (differ a nought) (differ a' nought)
  gives_other a a' h = gives_differ v a a' nought nought h (form_self v nought)

  gives_nought : (a a' : Form) → FormGives v a a' → Gives v (equal a nought) (equal a' nought)
  gives_nought a a' h = gives_equal v a a' nought nought h (form_self v nought)

  weakens_plain : (said said' : CoreExpr) (a a' : Form) → said ≡ said' → FormGives v a a' → Weakens v (plain said a) (plain said' a')
  unfolding plain
  weakens_plain said said' a a' e h = record { said = e; form = h; holds = gives_other a a' h; fails = gives_nought a a' h }

  -- the value of an operator
  module _ (a a' b b' e e' : Form) (h : FormGives v a a') (k : FormGives v b b') (l : FormGives v e e') where
    gives_asserted : (op : Op2) → Gives v (asserted op a b e) (asserted op a' b' e')
    unfolding asserted
    gives_asserted ops.Eq = gives_equal v a a' b b' h k
    gives_asserted ops.Ne = gives_differ v a a' b b' h k
    gives_asserted ops.Lt = gives_less v a a' b b' h k
    gives_asserted ops.Le = gives_leq v a a' b b' h k
    gives_asserted ops.Gt = gives_less v b b' a a' k h
    gives_asserted ops.Ge = gives_leq v b b' a a' k h
    gives_asserted _ = gives_other e e' l

    gives_denied : (op : Op2) → Gives v (denied op a b e) (denied op a' b' e')
    unfolding denied
    gives_denied ops.Eq = gives_differ v a a' b b' h k
    gives_denied ops.Ne = gives_equal v a a' b b' h k
    gives_denied ops.Lt = gives_leq v b b' a a' k h
    gives_denied ops.Le = gives_less v b b' a a' k h
    gives_denied ops.Gt = gives_leq v a a' b b' h k
    gives_denied ops.Ge = gives_less v a a' b b' h k
    gives_denied _ = gives_nought e e' l

  -- one alternative, as the later and as the earlier conditions know it
  module _ (scope : Scope) (arrays : List (Option Bounds)) (none : NoneKnown arrays) where
    abbrev late : Scope
    late = record scope { edition = Later }

    abbrev early : Scope
    early = record scope { edition = Earlier; arrays = arrays }

    gives_opaque : (said said' : CoreExpr) → said ≡ said' → FormGives v (opaque late said) (opaque early said')
    gives_opaque said said' e = gives_mention v (value scope.side said) (value scope.side said') [] [] (ap (value scope.side) e) (λ h. h)

    gives_limited : (said said' : CoreExpr) (a a' : Option Form) → said ≡ said' → SomeGives v a a'
        → FormGives v (limited late said a) (limited early said' a')
    unfolding limited
    gives_limited said said' None None e h = gives_opaque said said' e
    gives_limited said said' None (Some a') e h = absurd h
    gives_limited said said' (Some a) None e h = absurd h
    gives_limited said said' (Some a) (Some a') e h =
        form_if (in_limits a) (in_limits a') a a' _ _ (as_limited v a a' h) h (gives_opaque said said' e)

    gives_inside : (a a' : Form) → FormGives v a a' → Gives v (inside late a) (inside early a')
    unfolding inside
    gives_inside a a' h =
        gives_append v (leq (number (pos 1)) a) (leq a (length_of late)) (leq (number (pos 1)) a') (leq a' (length_of early))
        (gives_leq v (number (pos 1)) (number (pos 1)) a a' (form_self v (number (pos 1))) h)
        (gives_leq v a a' (length_of late) (length_of early) h (form_self v (length_of late)))

    gives_after : (bounds : Option Bounds) (a a' left left' : Form) → FormGives v a a' → FormGives v left left'
        → Gives v (after_facts late bounds a left) (after_facts early None a' left')
    unfolding after_facts
    gives_after None a a' left left' h k =
        gives_choice v (inside late a) (equal a left) (inside early a') (equal a' left') (gives_inside a a' h) (gives_equal v a a' left left' h k)
    gives_after (Some bounds) a a' left left' h k =
        gives_choice v (less bounds.first bounds.last ++ inside late a) (leq bounds.last bounds.first ++ equal a left) (inside early a') (equal a' left')
        (λ so. gives_inside a a' h (so_right v (less bounds.first bounds.last) (inside late a) so))
        (λ so. gives_equal v a a' left left' h k (so_right v (leq bounds.last bounds.first) (equal a left) so))

    weakens_item : (said said' : CoreExpr) (xs : List Fact) → said ≡ said'
        → Weakens v (plain said (mention (value scope.side said) xs)) (plain said' (mention (value scope.side said') []))
    weakens_item said said' xs e =
        weakens_plain said said' _ _ e
        (gives_mention v (value scope.side said) (value scope.side said') xs [] (ap (value scope.side) e) (λ h. refl))

    weakens_after : (said said' : CoreExpr) (term : ℕ) (left left' : Form) → said ≡ said' → FormGives v left left'
        → Weakens v (plain said (mention (value scope.side said) (after_facts late (touching late term) (opaque late said) left)))
        (plain said' (mention (value scope.side said') (after_facts early (touching early term) (opaque early said') left')))
    weakens_after said said' term left left' e h =
        weakens_plain said said' _ _ e
        (gives_mention v (value scope.side said) (value scope.side said') _ _ (ap (value scope.side) e)
        (subst (λ o. Gives v (after_facts late (touching late term) (opaque late said) left) (after_facts early o (opaque early said') left'))
        (sym (none_touching (nat_lt 0 (least_width scope.marks (item_at scope term))) (if_there (slice_get arrays term)) (none term)))
        (gives_after (touching late term) (opaque late said) (opaque early said') left left' (gives_opaque said said' e) h)))

    abbrev IsWeaker : CoreExpr → Type 0
    IsWeaker e = Weakens v (read late e) (read early e)

    abbrev lates : CoreExpr-F (Sure IsWeaker) → CoreExpr-F Reading
    lates y = map-CoreExpr CoreExpr Reading (read late) (bare y)

    abbrev earlies : CoreExpr-F (Sure IsWeaker) → CoreExpr-F Reading
    earlies y = map-CoreExpr CoreExpr Reading (read early) (bare y)

    said_of : (y : CoreExpr-F (Sure IsWeaker)) → (reading late (lates y)).said ≡ (reading early (earlies y)).said
    unfolding reading plain
    said_of (CoreExpr-F.Num z) = refl
    said_of CoreExpr-F.Eoi = refl
    said_of (CoreExpr-F.Own a) = refl
    said_of (CoreExpr-F.Outer a) = refl
    said_of CoreExpr-F.Loop = refl
    said_of (CoreExpr-F.Seen term sym field) = refl
    said_of (CoreExpr-F.Item term index field) = ap (λ i. roll-CoreExpr (CoreExpr-F.Item term i field)) index.1.said
    said_of (CoreExpr-F.After term left) = ap (λ i. roll-CoreExpr (CoreExpr-F.After term i)) left.1.said
    said_of (CoreExpr-F.Neg a) = ap (λ i. roll-CoreExpr (CoreExpr-F.Neg i)) a.1.said
    said_of (CoreExpr-F.Not a) = ap (λ i. roll-CoreExpr (CoreExpr-F.Not i)) a.1.said
    said_of (CoreExpr-F.Two op a b) = rw (a.1.said, b.1.said) refl
    said_of (CoreExpr-F.Both a b) = rw (a.1.said, b.1.said) refl
    said_of (CoreExpr-F.Either a b) = rw (a.1.said, b.1.said) refl
    said_of (CoreExpr-F.Cond c a b) = rw (c.1.said, a.1.said, b.1.said) refl

    case_gives : (c c' a a' : List Fact) → Gives v c c' → Gives v a a' → Gives v (c ++ a) (c' ++ a')
    case_gives c c' a a' h k = gives_append v c a c' a' h k

    two_gives : (c c' d d' a a' b b' : List Fact) → Gives v c c' → Gives v d d' → Gives v a a' → Gives v b b'
        → Gives v (choice (c ++ a) (d ++ b)) (choice (c' ++ a') (d' ++ b'))
    two_gives c c' d d' a a' b b' h k l m =
        gives_choice v (c ++ a) (d ++ b) (c' ++ a') (d' ++ b') (case_gives c c' a a' h l) (case_gives d d' b b' k m)

    layer : (y : CoreExpr-F (Sure IsWeaker)) → (reading late (lates y)).said ≡ (reading early (earlies y)).said
        → Weakens v (reading late (lates y)) (reading early (earlies y))
    unfolding reading plain
    layer (CoreExpr-F.Num z) e = weakens_plain _ _ (number z) (number z) e (form_self v (number z))
    layer CoreExpr-F.Eoi e = weakens_plain _ _ (length_of late) (length_of early) e (form_self v (length_of late))
    layer (CoreExpr-F.Own a) e = weakens_plain _ _ _ _ e (form_self v _)
    layer (CoreExpr-F.Outer a) e = weakens_plain _ _ _ _ e (form_self v _)
    layer CoreExpr-F.Loop e = weakens_plain _ _ _ _ e (form_self v _)
    layer (CoreExpr-F.Seen term sym f) e = weakens_plain _ _ _ _ e (form_self v _)
    layer (CoreExpr-F.Item term index f) e = weakens_item _ _ _ e
    layer (CoreExpr-F.After term left) e = weakens_after _ _ term (read late left.0).form (read early left.0).form e left.1.form
    layer (CoreExpr-F.Neg a) e =
        weakens_plain _ _ _ _ e
        (gives_limited _ _ (Some (scaled (negsuc 0) (read late a.0).form)) (Some (scaled (negsuc 0) (read early a.0).form)) e
        (gives_scaled v (negsuc 0) (read late a.0).form (read early a.0).form a.1.form))
    layer (CoreExpr-F.Not a) e = record { said = e; form = gives_opaque _ _ e; holds = a.1.fails; fails = a.1.holds }
    layer (CoreExpr-F.Two op a b) e =
        let made =
        gives_limited _ _ (computed op (read late a.0).form (read late b.0).form) (computed op (read early a.0).form (read early b.0).form) e
        (gives_computed op (read late a.0).form (read early a.0).form (read late b.0).form (read early b.0).form a.1.form b.1.form) in
        record {
          said = e;
          form = made;
          holds = gives_asserted _ _ _ _ _ _ a.1.form b.1.form made op;
          fails = gives_denied _ _ _ _ _ _ a.1.form b.1.form made op;
        }
    layer (CoreExpr-F.Both a b) e = record {
      said = e;
      form = gives_opaque _ _ e;
      holds = case_gives _ _ _ _ a.1.holds b.1.holds;
      fails = gives_choice v _ _ _ _ a.1.fails (case_gives _ _ _ _ a.1.holds b.1.fails);
    }
    layer (CoreExpr-F.Either a b) e = record {
      said = e;
      form = gives_opaque _ _ e;
      holds = gives_choice v _ _ _ _ a.1.holds (case_gives _ _ _ _ a.1.fails b.1.holds);
      fails = case_gives _ _ _ _ a.1.fails b.1.fails;
    }
    layer (CoreExpr-F.Cond c a b) e = record {
      said = e;
      form = gives_mention v _ _ _ _ (ap (value scope.side) e)
          (two_gives _ _ _ _ _ _ _ _ c.1.holds c.1.fails (gives_equal v _ _ _ _ (gives_opaque _ _ e) a.1.form)
          (gives_equal v _ _ _ _ (gives_opaque _ _ e) b.1.form));
      holds = two_gives _ _ _ _ _ _ _ _ c.1.holds c.1.fails a.1.holds b.1.holds;
      fails = two_gives _ _ _ _ _ _ _ _ c.1.holds c.1.fails a.1.fails b.1.fails;
    }

    rolled : (y : CoreExpr-F (Sure IsWeaker)) → IsWeaker (roll-CoreExpr (bare y))
    unfolding read
    rolled y =
        let l : read late (roll-CoreExpr (bare y)) ≡ reading late (lates y) = fold-roll-CoreExpr Reading (reading late) (bare y) in
        let m : read early (roll-CoreExpr (bare y)) ≡ reading early (earlies y) = fold-roll-CoreExpr Reading (reading early) (bare y) in
        subst (λ r. Weakens v r (read early (roll-CoreExpr (bare y)))) (sym l)
        (subst (λ r. Weakens v (reading late (lates y)) r) (sym m) (layer y (said_of y)))

    pub weaker : (e : CoreExpr) → IsWeaker e
    weaker = induct IsWeaker rolled
