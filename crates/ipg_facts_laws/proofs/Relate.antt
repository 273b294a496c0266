-- What an expression is to the conditions holds of its value.
use Rattle.std.proofs.Common.{◌≡◌, ℕ, Bool, true, false, not, List, [], ◌++◌, refl, sym, ap, subst, ◌∙◌, ℤ, pos, negsuc, neg_ℤ, ◌+ℤ◌, ◌*ℤ◌, ◌-ℤ◌}
use Rattle.std.proofs.lemmas.Int.{ints}
use Rattle.std.proofs.Common.{arith, Option, Some, None, if◌then◌else◌, ◌⊎◌, inl, inr}
use Rattle.std.specs.Prelude.{int_le, int_lt, ◌<ℤ◌}
use Rattle.std.specs.Ordering.{int_eq}
use Rattle.std.proofs.Math.IntN.{*ℤ_comm}
use Rattle.ipg_num.specs.Number.{flag, apply_of, negate_of}
use Rattle.ipg_num.specs.declared.op.Op2.{Op2}
use Rattle.ipg_num.specs.declared.op.Op2.TheVariants as ops
use Rattle.ipg_num.specs.declared.op.Answer.{Answer}
use Rattle.ipg_num.specs.declared.op.Answer.TheVariants.{Val}
use Rattle.ipg_core.specs.declared.grammar.CoreField.{CoreField}
use Rattle.ipg_core.specs.declared.grammar.CoreField.TheVariants.{Attr, Start, End}
use Rattle.ipg_core.specs.declared.grammar.Sym.{Sym}
use Rattle.ipg_core.specs.declared.grammar.CoreExpr.{CoreExpr, map-CoreExpr, roll-CoreExpr, fold-roll-CoreExpr}
use Rattle.ipg_core.specs.declared.grammar.CoreExpr.TheOpen.{CoreExpr-F}
use Rattle.ipg_core.specs.Grammar.{name_at}
use Rattle.ipg_core.specs.Environment.{Environment, done_at, items_so_far, field_of_item}
use Rattle.ipg_core.specs.Eval as core
use Rattle.ipg_core.specs.Eval.{eval, on_value, found, is_zero, behind, greatest_end, limited_reading}
use Rattle.ipg_facts_forms.specs.declared.fact.Form.{Form}
use Rattle.ipg_facts_forms.specs.declared.fact.Fact.{Fact}
use Rattle.ipg_facts.specs.declared.bounds.Bounds.{Bounds}
use Rattle.ipg_facts.specs.declared.edition.Edition.{Edition}
use Rattle.ipg_facts.specs.declared.edition.Edition.TheVariants.{Earlier, Later}
use Rattle.ipg_facts_variables.specs.declared.variable.Variable.{Variable}
use Rattle.ipg_facts_variables.specs.Variable.{whole, attribute, loop, field, value, holder_side}
use Rattle.ipg_facts_forms.specs.Form.{mention, number, plus, minus, scaled, shifted, is_constant, in_limits, leq, less, equal, differ, choice}
use Rattle.ipg_facts.specs.Reading.{Scope, Reading, length_of, opaque, nought, plain, least_width, item_at, greatest_of, ranges, item_facts, inside}
use Rattle.ipg_facts.specs.Reading.{if_later, touching, after_facts, product, computed, limited, asserted, denied, reading, read}
use Rattle.ipg_facts_laws.specs.Valued.{Valuation}
use Rattle.ipg_facts_laws.specs.Known.{AreSo, Stands, Knows, IsRanged, IsItemField, IsPlace, IsBehind, Fits}
use Rattle.ipg_facts_laws.specs.Laws.{ValuesAreKnown}
use Rattle.ipg_facts_variables.specs.Induct.{Sure, bare, induct}
use Rattle.ipg_facts.specs.Said.{said_is}
use Rattle.ipg_facts_laws.proofs.Forms.{stands_at, stands_number, stands_mention, stands_plus, stands_minus, stands_scaled, stands_negated}
use Rattle.ipg_facts_laws.proofs.Forms.{stands_shifted, so_append, so_leq, so_less, so_equal, so_first, so_second, so_below, so_above, constant_value}
use Rattle.ipg_facts_laws.proofs.Answers.{found_is, limited_is, Kept, kept, first_of, flag_is, not_true, not_false, eq_true, eq_false, lt_true, lt_false}
use Rattle.ipg_facts_laws.proofs.Whole.{zero_times}
use Rattle.ipg_facts_laws.proofs.Answers.{le_true, le_false, not_zero, zero_is, minus_is}

differs : (b : Bool) → b ≡ true → b ≡ false → ⊥
differs b e f = cc

module _ (v : Valuation) where
  pub stands_nought : Stands v nought (pos 0)
  stands_nought = stands_number v (pos 0)

  -- a form other than 0, and one that is 0
  so_other : (a : Form) (z : ℤ) → Stands v a z → (z <ℤ pos 0) ⊎ (pos 0 <ℤ z) → AreSo v (differ a nought)
  so_other a z s (inl h) = so_below v a nought z (pos 0) s stands_nought h
  so_other a z s (inr h) = so_above v a nought z (pos 0) s stands_nought h

  pub knows_plain : (said : CoreExpr) (a : Form) (z : ℤ) → Stands v a z → Knows v (plain said a) z
  unfolding plain
  knows_plain said a z s = record {
    form = s;
    holds = λ e. so_other a z s (not_zero z e);
    fails = λ e. so_equal v a nought z (pos 0) s stands_nought (zero_is z e);
  }

  pub stands_variable : (variable : Variable) (fs : List Fact) (z : ℤ) → AreSo v fs → v variable ≡ z → Stands v (mention variable fs) z
  stands_variable variable fs z h e = stands_at v (mention variable fs) (v variable) z e (stands_mention v variable fs h)

  stands_chosen : (b : Bool) (a o : Form) (z : ℤ) → Stands v a z → Stands v o z → Stands v (if b then a else o) z
  stands_chosen true a o z s t = s
  stands_chosen false a o z s t = t

  -- a form, where there is one
  abbrev StandsSome : Option Form → ℤ → Type 0
  StandsSome None z = Unit {0}
  StandsSome (Some a) z = Stands v a z

  pub stands_limited : (scope : Scope) (said : CoreExpr) (a : Option Form) (z : ℤ) → v (value scope.side said) ≡ z → StandsSome a z
      → Stands v (limited scope said a) z
  unfolding limited
  stands_limited scope said None z e s = stands_variable (value scope.side said) [] z refl e
  stands_limited scope said (Some a) z e s = stands_chosen (in_limits a) a _ z s (stands_variable (value scope.side said) [] z refl e)

  -- a form without variables has its constant's value
  constant_is : (a : Form) (x : ℤ) → is_constant a ≡ true → Stands v a x → a.constant ≡ x
  constant_is a x c s = constant_value v a x c s

  -- a form taken no time
  stands_none : (a : Form) (x : ℤ) → Stands v a x → Stands v (scaled (pos 0) a) (pos 0)
  stands_none a x s = stands_at v (scaled (pos 0) a) (x *ℤ pos 0) (pos 0) (*ℤ_comm x (pos 0) ∙ zero_times x) (stands_scaled v (pos 0) a x s)

  none_first : (z : ℤ) → pos 0 +ℤ z ≡ z
  none_first z = omega (arith, ints)

  none_last : (z : ℤ) → z +ℤ pos 0 ≡ z
  none_last z = omega (arith, ints)

  product_chosen : (p q : Bool) (a b : Form) (x y z : ℤ) → is_constant a ≡ p → is_constant b ≡ q → Stands v a x → Stands v b y → x *ℤ y ≡ z
      → StandsSome (if p then Some (plus (scaled (pos 0) a) (scaled a.constant b))
      else if q then Some (plus (scaled b.constant a) (scaled (pos 0) b)) else None) z
  product_chosen true q a b x y z e f s t h =
      stands_at v (plus (scaled (pos 0) a) (scaled a.constant b)) (pos 0 +ℤ z) z (none_first z)
      (stands_plus v (scaled (pos 0) a) (scaled a.constant b) (pos 0) z (stands_none a x s)
      (stands_at v (scaled a.constant b) (y *ℤ a.constant) z (ap (λ k. y *ℤ k) (constant_is a x e s) ∙ *ℤ_comm y x ∙ h) (stands_scaled v a.constant b y t)))
  product_chosen false true a b x y z e f s t h =
      stands_at v (plus (scaled b.constant a) (scaled (pos 0) b)) (z +ℤ pos 0) z (none_last z)
      (stands_plus v (scaled b.constant a) (scaled (pos 0) b) z (pos 0)
      (stands_at v (scaled b.constant a) (x *ℤ b.constant) z (ap (λ k. x *ℤ k) (constant_is b y f t) ∙ h) (stands_scaled v b.constant a x s))
      (stands_none b y t))
  product_chosen false false a b x y z e f s t h = tt

  stands_product : (a b : Form) (x y z : ℤ) → Stands v a x → Stands v b y → x *ℤ y ≡ z → StandsSome (product a b) z
  unfolding product
  stands_product a b x y z s t h = product_chosen (is_constant a) (is_constant b) a b x y z refl refl s t h

  -- an operator's value, where its form is computed
  stands_computed : (op : Op2) (a b : Form) (x y z : ℤ) → apply_of op x y ≡ Val z → Stands v a x → Stands v b y → StandsSome (computed op a b) z
  unfolding computed
  stands_computed ops.Add a b x y z e s t = stands_at v (plus a b) (x +ℤ y) z (limited_is _ z e) (stands_plus v a b x y s t)
  stands_computed ops.Sub a b x y z e s t = stands_at v (minus a b) (x -ℤ y) z (limited_is _ z e) (stands_minus v a b x y s t)
  stands_computed ops.Mul a b x y z e s t = stands_product a b x y z s t (limited_is _ z e)
  stands_computed _ a b x y z e s t = tt

  -- what two forms are to one another
  module _ (a b : Form) (x y : ℤ) (s : Stands v a x) (t : Stands v b y) where
    when_equal : int_eq x y ≡ true → AreSo v (equal a b)
    when_equal e = so_equal v a b x y s t (eq_true x y e)

    apart_so : (x <ℤ y) ⊎ (y <ℤ x) → AreSo v (differ a b)
    apart_so (inl h) = so_below v a b x y s t h
    apart_so (inr h) = so_above v a b x y s t h

    when_apart : int_eq x y ≡ false → AreSo v (differ a b)
    when_apart e = apart_so (eq_false x y e)

    when_less : int_lt x y ≡ true → AreSo v (less a b)
    when_less e = so_less v a b x y s t (lt_true x y e)

    when_not_less : int_lt x y ≡ false → AreSo v (leq b a)
    when_not_less e = so_leq v b a y x t s (lt_false x y e)

    when_leq : int_le x y ≡ true → AreSo v (leq a b)
    when_leq e = so_leq v a b x y s t (le_true x y e)

    when_above : int_le x y ≡ false → AreSo v (less b a)
    when_above e = so_less v b a y x t s (le_false x y e)

  not_not : (b : Bool) → not (not b) ≡ b
  not_not true = refl
  not_not false = refl

  -- an operator's value that isn't 0
  so_asserted : (op : Op2) (a b e : Form) (x y z : ℤ) → apply_of op x y ≡ Val z → Stands v a x → Stands v b y → Stands v e z → is_zero z ≡ false
      → AreSo v (asserted op a b e)
  unfolding asserted
  so_asserted ops.Eq a b e x y z f s t u h = when_equal a b x y s t (not_false _ (int_eq x y) (flag_is (int_eq x y) z f) h)
  so_asserted ops.Ne a b e x y z f s t u h = when_apart a b x y s t (sym (not_not (int_eq x y)) ∙ sym (flag_is (not (int_eq x y)) z f) ∙ h)
  so_asserted ops.Lt a b e x y z f s t u h = when_less a b x y s t (not_false _ (int_lt x y) (flag_is (int_lt x y) z f) h)
  so_asserted ops.Le a b e x y z f s t u h = when_leq a b x y s t (not_false _ (int_le x y) (flag_is (int_le x y) z f) h)
  so_asserted ops.Gt a b e x y z f s t u h = when_less b a y x t s (not_false _ (int_lt y x) (flag_is (int_lt y x) z f) h)
  so_asserted ops.Ge a b e x y z f s t u h = when_leq b a y x t s (not_false _ (int_le y x) (flag_is (int_le y x) z f) h)
  so_asserted _ a b e x y z f s t u h = so_other e z u (not_zero z h)

  so_nought : (e : Form) (z : ℤ) → Stands v e z → is_zero z ≡ true → AreSo v (equal e nought)
  so_nought e z u h = so_equal v e nought z (pos 0) u stands_nought (zero_is z h)

  so_denied : (op : Op2) (a b e : Form) (x y z : ℤ) → apply_of op x y ≡ Val z → Stands v a x → Stands v b y → Stands v e z → is_zero z ≡ true
      → AreSo v (denied op a b e)
  unfolding denied
  so_denied ops.Eq a b e x y z f s t u h = when_apart a b x y s t (not_true _ (int_eq x y) (flag_is (int_eq x y) z f) h)
  so_denied ops.Ne a b e x y z f s t u h = when_equal a b x y s t (sym (not_not (int_eq x y)) ∙ sym (flag_is (not (int_eq x y)) z f) ∙ h)
  so_denied ops.Lt a b e x y z f s t u h = when_not_less a b x y s t (not_true _ (int_lt x y) (flag_is (int_lt x y) z f) h)
  so_denied ops.Le a b e x y z f s t u h = when_above a b x y s t (not_true _ (int_le x y) (flag_is (int_le x y) z f) h)
  so_denied ops.Gt a b e x y z f s t u h = when_not_less b a y x t s (not_true _ (int_lt y x) (flag_is (int_lt y x) z f) h)
  so_denied ops.Ge a b e x y z f s t u h = when_above b a y x t s (not_true _ (int_le y x) (flag_is (int_le y x) z f) h)
  so_denied _ a b e x y z f s t u h = so_nought e z u h

  pub so_ranges : (a : Form) (most : Option ℕ) (z : ℤ) → Stands v a z → IsRanged most z → AreSo v (ranges a most)
  unfolding ranges
  so_ranges a None z s h = refl
  so_ranges a (Some n) z s h =
      so_append v (leq nought a) (leq a (number (pos n))) (so_leq v nought a (pos 0) z stands_nought s h.0)
      (so_leq v a (number (pos n)) z (pos n) s (stands_number v (pos n)) h.1)

  so_later : (edition : Edition) (fs : List Fact) → AreSo v fs → AreSo v (if_later edition fs)
  so_later Earlier fs h = refl
  so_later Later fs h = h

  module _ (scope : Scope) (env : Environment) (fits : Fits v scope env) where
    pub stands_length : Stands v (length_of scope) (pos env.eoi)
    stands_length = stands_variable (whole scope.side) [] (pos env.eoi) refl fits.length

    stands_opaque : (said : CoreExpr) (z : ℤ) → v (value scope.side said) ≡ z → Stands v (opaque scope said) z
    stands_opaque said z e = stands_variable (value scope.side said) [] z refl e

    so_item : (item : Option Sym) (f : CoreField) (a : Form) (z : ℤ) → Stands v a z → IsItemField scope env.eoi item f z → AreSo v (item_facts scope item f a)
    unfolding item_facts
    so_item item (Attr b) a z s h = so_ranges a (greatest_of item (name_at scope.names b)) z s h
    so_item item Start a z s h =
        let w : ℤ = pos (least_width scope.marks item) in
        so_append v (leq nought a) (leq (shifted a w) (length_of scope)) (so_leq v nought a (pos 0) z stands_nought s h.0)
        (so_leq v (shifted a w) (length_of scope) (z +ℤ w) (pos env.eoi) (stands_shifted v a w z s) stands_length h.1)
    so_item item End a z s h =
        let w : ℤ = pos (least_width scope.marks item) in
        so_append v (leq (number w) a) (leq a (length_of scope)) (so_leq v (number w) a w z (stands_number v w) s h.0)
        (so_leq v a (length_of scope) z (pos env.eoi) s stands_length h.1)

    so_inside : (a : Form) (end : ℕ) → Stands v a (pos end) → IsPlace env.eoi end → AreSo v (inside scope a)
    unfolding inside
    so_inside a end s h =
        so_append v (leq (number (pos 1)) a) (leq a (length_of scope)) (so_leq v (number (pos 1)) a (pos 1) (pos end) (stands_number v (pos 1)) s h.0)
        (so_leq v a (length_of scope) (pos end) (pos env.eoi) s stands_length h.1)

    -- the place behind items: the greatest end, else that of `left`
    so_after : (bounds : Option Bounds) (found : Option ℕ) (a left : Form) (answer : Answer) (z : ℤ) → IsBehind v env.eoi bounds found
        → behind found answer ≡ Val z → Stands v a z
        → (answer ≡ Val z → Stands v left z) → AreSo v (after_facts scope bounds a left)
    unfolding after_facts
    so_after None None a left answer z h e s l = so_second v (inside scope a) (equal a left) (so_equal v a left z z s (l e) refl)
    so_after None (Some end) a left answer z h e s l =
        let f : z ≡ pos end = cc in so_first v (inside scope a) (equal a left) (so_inside a end (stands_at v a z (pos end) f s) h)
    so_after (Some bounds) None a left answer z h e s l =
        so_second v (less bounds.first bounds.last ++ inside scope a) (leq bounds.last bounds.first ++ equal a left)
        (so_append v (leq bounds.last bounds.first) (equal a left) (so_leq v bounds.last bounds.first h.1 h.0 h.3 h.2 h.4) (so_equal v a left z z s (l e) refl))
    so_after (Some bounds) (Some end) a left answer z h e s l =
        let f : z ≡ pos end = cc in
        so_first v (less bounds.first bounds.last ++ inside scope a) (leq bounds.last bounds.first ++ equal a left)
        (so_append v (less bounds.first bounds.last) (inside scope a) (so_less v bounds.first bounds.last h.0 h.1 h.2 h.3 h.4)
        (so_inside a end (stands_at v a z (pos end) f s) h.5))

    -- an expression that has a value is known
    abbrev IsKnown : CoreExpr → Type 0
    IsKnown e = (z : ℤ) → eval e env ≡ Val z → Knows v (read scope e) z

    abbrev readings : CoreExpr-F (Sure IsKnown) → CoreExpr-F Reading
    readings y = map-CoreExpr CoreExpr Reading (read scope) (bare y)

    abbrev evals : CoreExpr-F (Sure IsKnown) → CoreExpr-F core.Reading
    evals y = map-CoreExpr CoreExpr core.Reading eval (bare y)

    knows_negated : (a : Form) (said : CoreExpr) (x z : ℤ) → negate_of x ≡ Val z → Stands v a x → v (value scope.side said) ≡ z
        → Knows v (plain said (limited scope said (Some (scaled (negsuc 0) a)))) z
    knows_negated a said x z e s h =
        knows_plain said (limited scope said (Some (scaled (negsuc 0) a))) z
        (stands_limited scope said (Some (scaled (negsuc 0) a)) z h
        (stands_at v (scaled (negsuc 0) a) (pos 0 -ℤ x) z (minus_is x ∙ limited_is (neg_ℤ x) z e) (stands_negated v a x s)))

    knows_not : (r : Reading) (said : CoreExpr) (x z : ℤ) → flag (is_zero x) ≡ Val z → Knows v r x → v (value scope.side said) ≡ z
        → Knows v (record { said = said; form = opaque scope said; holds = r.fails; fails = r.holds }) z
    knows_not r said x z e k h = record {
      form = stands_opaque said z h;
      holds = λ f. k.fails (not_false (is_zero z) (is_zero x) (flag_is (is_zero x) z e) f);
      fails = λ f. k.holds (not_true (is_zero z) (is_zero x) (flag_is (is_zero x) z e) f);
    }

    knows_two : (op : Op2) (a b : Reading) (said : CoreExpr) (x y z : ℤ) → apply_of op x y ≡ Val z → Knows v a x → Knows v b y → v (value scope.side said) ≡ z
        → (let form = limited scope said (computed op a.form b.form) in
        Knows v (record { said = said; form = form; holds = asserted op a.form b.form form; fails = denied op a.form b.form form }) z)
    knows_two op a b said x y z e k l h =
        let form : Form = limited scope said (computed op a.form b.form) in
        let s : Stands v form z = stands_limited scope said (computed op a.form b.form) z h (stands_computed op a.form b.form x y z e k.form l.form) in
        record { form = s; holds = so_asserted op a.form b.form form x y z e k.form l.form s; fails = so_denied op a.form b.form form x y z e k.form l.form s }

    -- of two conditions both: the second is evaluated where the first isn't 0
    both_on : (zero : Bool) (a b : Reading) (rest : Answer) (said : CoreExpr) (x z : ℤ) → is_zero x ≡ zero → Knows v a x
        → (if zero then flag false else on_value rest (λ y. flag (not (is_zero y)))) ≡ Val z → ((y : ℤ) → rest ≡ Val y → Knows v b y)
        → v (value scope.side said) ≡ z
        → Knows v (record { said = said; form = opaque scope said; holds = a.holds ++ b.holds; fails = choice a.fails (a.holds ++ b.fails) }) z
    both_on true a b rest said x z f k e l h = record {
      form = stands_opaque said z h;
      holds = λ g. (let t : is_zero z ≡ true = flag_is false z e in absurd (differs (is_zero z) t g));
      fails = λ g. so_first v a.fails (a.holds ++ b.fails) (k.fails f);
    }
    both_on false a b rest said x z f k e l h =
        let y = first_of rest (λ y. flag (not (is_zero y))) z e in
        let same : is_zero z ≡ is_zero y.first = flag_is (not (is_zero y.first)) z y.goes ∙ not_not (is_zero y.first) in
        let m = l y.first y.is in
        record {
          form = stands_opaque said z h;
          holds = λ g. so_append v a.holds b.holds (k.holds f) (m.holds (sym same ∙ g));
          fails = λ g. so_second v a.fails (a.holds ++ b.fails) (so_append v a.holds b.fails (k.holds f) (m.fails (sym same ∙ g)));
        }

    either_on : (zero : Bool) (a b : Reading) (rest : Answer) (said : CoreExpr) (x z : ℤ) → is_zero x ≡ zero → Knows v a x
        → (if zero then on_value rest (λ y. flag (not (is_zero y))) else flag true) ≡ Val z → ((y : ℤ) → rest ≡ Val y → Knows v b y)
        → v (value scope.side said) ≡ z
        → Knows v (record { said = said; form = opaque scope said; holds = choice a.holds (a.fails ++ b.holds); fails = a.fails ++ b.fails }) z
    either_on false a b rest said x z f k e l h = record {
      form = stands_opaque said z h;
      holds = λ g. so_first v a.holds (a.fails ++ b.holds) (k.holds f);
      fails = λ g. (let t : is_zero z ≡ false = flag_is true z e in absurd (differs (is_zero z) g t));
    }
    either_on true a b rest said x z f k e l h =
        let y = first_of rest (λ y. flag (not (is_zero y))) z e in
        let same : is_zero z ≡ is_zero y.first = flag_is (not (is_zero y.first)) z y.goes ∙ not_not (is_zero y.first) in
        let m = l y.first y.is in
        record {
          form = stands_opaque said z h;
          holds = λ g. so_second v a.holds (a.fails ++ b.holds) (so_append v a.fails b.holds (k.fails f) (m.holds (sym same ∙ g)));
          fails = λ g. so_append v a.fails b.fails (k.fails f) (m.fails (sym same ∙ g));
        }

    abbrev conditional : CoreExpr → Reading → Reading → Reading → Reading
    conditional said c a b = record {
      said = said;
      form = mention (value scope.side said) (choice (c.holds ++ equal (opaque scope said) a.form) (c.fails ++ equal (opaque scope said) b.form));
      holds = choice (c.holds ++ a.holds) (c.fails ++ b.holds);
      fails = choice (c.holds ++ a.fails) (c.fails ++ b.fails);
    }

    cond_on : (zero : Bool) (c a b : Reading) (one two : Answer) (said : CoreExpr) (x z : ℤ) → is_zero x ≡ zero → Knows v c x
        → (if zero then two else one) ≡ Val z → (one ≡ Val z → Knows v a z) → (two ≡ Val z → Knows v b z) → v (value scope.side said) ≡ z
        → Knows v (conditional said c a b) z
    cond_on false c a b one two said x z f k e l m h =
        let t = l e in
        record {
          form = stands_variable (value scope.side said) _ z
              (so_first v (c.holds ++ equal (opaque scope said) a.form) (c.fails ++ equal (opaque scope said) b.form)
              (so_append v c.holds (equal (opaque scope said) a.form) (k.holds f)
              (so_equal v (opaque scope said) a.form z z (stands_opaque said z h) t.form refl))) h;
          holds = λ g. so_first v (c.holds ++ a.holds) (c.fails ++ b.holds) (so_append v c.holds a.holds (k.holds f) (t.holds g));
          fails = λ g. so_first v (c.holds ++ a.fails) (c.fails ++ b.fails) (so_append v c.holds a.fails (k.holds f) (t.fails g));
        }
    cond_on true c a b one two said x z f k e l m h =
        let t = m e in
        record {
          form = stands_variable (value scope.side said) _ z
              (so_second v (c.holds ++ equal (opaque scope said) a.form) (c.fails ++ equal (opaque scope said) b.form)
              (so_append v c.fails (equal (opaque scope said) b.form) (k.fails f)
              (so_equal v (opaque scope said) b.form z z (stands_opaque said z h) t.form refl))) h;
          holds = λ g. so_second v (c.holds ++ a.holds) (c.fails ++ b.holds) (so_append v c.fails b.holds (k.fails f) (t.holds g));
          fails = λ g. so_second v (c.holds ++ a.fails) (c.fails ++ b.fails) (so_append v c.fails b.fails (k.fails f) (t.fails g));
        }

    -- one level of an expression
    layer : (y : CoreExpr-F (Sure IsKnown)) (z : ℤ) → Kept (core.reading (evals y) env) z → v (value scope.side (reading scope (readings y)).said) ≡ z
        → Knows v (reading scope (readings y)) z
    unfolding reading plain
    layer (CoreExpr-F.Num n) z k h = knows_plain _ (number n) z (stands_at v (number n) n z (let e : Val n ≡ Val z = k.is in cc) (stands_number v n))
    layer CoreExpr-F.Eoi z k h =
        knows_plain _ (length_of scope) z (stands_at v (length_of scope) (pos env.eoi) z (let e : Val (pos env.eoi) ≡ Val z = k.is in cc) stands_length)
    layer (CoreExpr-F.Own a) z k h = knows_plain _ _ z (stands_variable (attribute scope.side a) [] z refl (fits.own a z (found_is _ z k.is) k.number))
    layer (CoreExpr-F.Outer a) z k h = knows_plain _ _ z (stands_variable (attribute holder_side a) [] z refl (fits.outer a z (found_is _ z k.is) k.number))
    layer CoreExpr-F.Loop z k h = knows_plain _ _ z (stands_variable (loop scope.side) [] z refl (fits.turn z (found_is _ z k.is) k.number))
    layer (CoreExpr-F.Seen term sym f) z k h =
        knows_plain _ _ z (stands_variable (field scope.names scope.side term f) [] z refl (fits.results term sym f z (found_is _ z k.is) k.number))
    layer (CoreExpr-F.Item term index f) z k h =
        let i = first_of (eval index.0 env) (λ i. found (field_of_item env.names f (core.item_at (items_so_far (done_at env.done term)) i))) z k.is in
        knows_plain _ _ z (stands_variable _ _ z
        (so_later scope.edition _ (so_item (item_at scope term) f _ z (stands_opaque _ z h) (fits.items term f i.first z (found_is _ z i.goes)))) h)
    layer (CoreExpr-F.After term left) z k h =
        knows_plain _ _ z (stands_variable _ _ z
        (so_after (touching scope term) (greatest_end (items_so_far (done_at env.done term))) _ (read scope left.0).form (eval left.0 env) z
        (fits.ends term) k.is (stands_opaque _ z h) (λ e. (left.1 z e).form)) h)
    layer (CoreExpr-F.Neg a) z k h =
        let x = first_of (eval a.0 env) negate_of z k.is in
        knows_negated (read scope a.0).form _ x.first z x.goes (a.1 x.first x.is).form h
    layer (CoreExpr-F.Not a) z k h =
        let x = first_of (eval a.0 env) (λ x. flag (is_zero x)) z k.is in
        knows_not (read scope a.0) _ x.first z x.goes (a.1 x.first x.is) h
    layer (CoreExpr-F.Two op a b) z k h =
        let x = first_of (eval a.0 env) (λ x. on_value (eval b.0 env) (λ y. apply_of op x y)) z k.is in
        let y = first_of (eval b.0 env) (λ y. apply_of op x.first y) z x.goes in
        knows_two op (read scope a.0) (read scope b.0) _ x.first y.first z y.goes (a.1 x.first x.is) (b.1 y.first y.is) h
    layer (CoreExpr-F.Both a b) z k h =
        let x = first_of (eval a.0 env) (λ x. if is_zero x then flag false else on_value (eval b.0 env) (λ y. flag (not (is_zero y)))) z k.is in
        both_on (is_zero x.first) (read scope a.0) (read scope b.0) (eval b.0 env) _ x.first z refl (a.1 x.first x.is) x.goes b.1 h
    layer (CoreExpr-F.Either a b) z k h =
        let x = first_of (eval a.0 env) (λ x. if is_zero x then on_value (eval b.0 env) (λ y. flag (not (is_zero y))) else flag true) z k.is in
        either_on (is_zero x.first) (read scope a.0) (read scope b.0) (eval b.0 env) _ x.first z refl (a.1 x.first x.is) x.goes b.1 h
    layer (CoreExpr-F.Cond c a b) z k h =
        let x = first_of (eval c.0 env) (λ x. if is_zero x then eval b.0 env else eval a.0 env) z k.is in
        cond_on (is_zero x.first) (read scope c.0) (read scope a.0) (read scope b.0) (eval a.0 env) (eval b.0 env) _ x.first z refl (c.1 x.first x.is) x.goes
        (a.1 z) (b.1 z) h

    rolled : (y : CoreExpr-F (Sure IsKnown)) → IsKnown (roll-CoreExpr (bare y))
    unfolding read eval
    rolled y z e =
        let made : read scope (roll-CoreExpr (bare y)) ≡ reading scope (readings y) = fold-roll-CoreExpr Reading (reading scope) (bare y) in
        let valued : eval (roll-CoreExpr (bare y)) env ≡ limited_reading (evals y) env = ap (λ f. f env)
        (fold-roll-CoreExpr core.Reading limited_reading (bare y)) in
        subst (λ r. Knows v r z) (sym made)
        (layer y z (kept (core.reading (evals y) env) z (sym valued ∙ e))
        (ap (λ (r : Reading). v (value scope.side r.said)) (sym made) ∙ ap (λ ws. v (value scope.side ws)) (said_is scope (roll-CoreExpr (bare y)))
        ∙ fits.opaques (roll-CoreExpr (bare y)) z e))

    pub known : (e : CoreExpr) → IsKnown e
    known = induct IsKnown rolled

pub values_are_known : ValuesAreKnown
values_are_known v scope env fits e z h = known v scope env fits e z h
