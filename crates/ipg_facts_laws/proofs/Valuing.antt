-- Values for the variables of conditions: those of what they stand for, in the caller's environment and in its holder's.
use Rattle.std.proofs.Common.{◌≡◌, ℕ, zero, suc, ◌+◌, ◌<◌, ◌≤◌, ◌^◌, refl, sym, ap, ◌∙◌, subst, arith, List, [], ◌∷◌, length, Option, Some, None}
use Rattle.std.proofs.Common.{Bool, true, false, not, cond, true≢false, if◌then◌else◌, ℤ, pos, negsuc}
use Rattle.std.specs.Prelude.{slice_get, nat_lt, bytes_eq, ◌≤ℤ◌}
use Rattle.std.specs.List.{IsDistinct, AllByRecursion, position_or_len}
use Rattle.std.proofs.lemmas.Int.{ints}
use Rattle.std.proofs.lemmas.Bool.{ltb-true, lt-ltb}
use Rattle.std.proofs.lemmas.Slice.Eq.{bytes_eq-Decides}
use Rattle.std.proofs.lemmas.Map.Keys.{IsDistinct-tail, IsDistinct-head}
use Rattle.ipg_num.specs.Number.{limited}
use Rattle.ipg_num.specs.declared.op.Answer.{Answer}
use Rattle.ipg_num.specs.declared.op.Answer.TheVariants.{Val, Fail, Range}
use Rattle.ipg_core.specs.declared.grammar.Primitive.{Primitive}
use Rattle.ipg_core.specs.declared.grammar.CoreField.{CoreField}
use Rattle.ipg_core.specs.declared.grammar.CoreField.TheVariants.{Attr, Start, End}
use Rattle.ipg_core.specs.declared.grammar.Sym.{Sym}
use Rattle.ipg_core.specs.declared.grammar.CoreExpr.{CoreExpr}
use Rattle.ipg_core.specs.Grammar.{name_at}
use Rattle.ipg_core.specs.Tree.{Kid, Sub, Token, Number, Raw, Array, Many as Repetition, attrs_of}
use Rattle.ipg_core.specs.Touch.{ends_of}
use Rattle.ipg_core.specs.Environment.{Environment, Done, value_at, done_at, items_so_far, is_read_by, seen, field_of, field_of_item, number_attr}
use Rattle.ipg_core.specs.Eval as core
use Rattle.ipg_core.specs.Eval.{eval, greatest_end}
use Rattle.ipg_facts_variables.specs.declared.variable.Side.{Side}
use Rattle.ipg_facts_variables.specs.declared.variable.Side.TheVariants.{Caller, Holder, Point}
use Rattle.ipg_facts_variables.specs.declared.variable.Quantity.{Quantity}
use Rattle.ipg_facts_variables.specs.declared.variable.Quantity.TheVariants as quantities
use Rattle.ipg_facts_variables.specs.declared.variable.Quantity.TheVariants.{Whole, Attribute, Loop, Named, Value}
use Rattle.ipg_facts_variables.specs.declared.variable.Variable.{Variable}
use Rattle.ipg_facts_variables.specs.Variable.{attribute, field, named, value, holder_side}
use Rattle.ipg_facts.specs.Reading.{Scope, item_at, item_of, touching}
use Rattle.ipg_facts_laws.specs.Valued.{Valuation}
use Rattle.ipg_facts_laws.specs.Known.{Fits, IsItemField, IsBehind}
use Rattle.ipg_facts_laws.proofs.Answers.{is_limited}
use Rattle.ipg_facts_laws.proofs.Results.{KidNamed}
use Rattle.ipg_facts_laws.proofs.Items.{ItemsOf, IsPlaced, placed, items_fields, start_is, end_is}

-- ---- numbers of 64 bits

abbrev value_by : Answer → ℤ
value_by (Val z) = z
value_by Fail = pos 0
value_by Range = pos 0

-- a number of 64 bits, or 0
abbrev pub clamped : ℤ → ℤ
clamped z = value_by (limited z)

pub clamped_is : (z : ℤ) → limited z ≡ Val z → clamped z ≡ z
clamped_is z e = ap value_by e

abbrev IsNumber : ℤ → Type 0
IsNumber z = (negsuc 9223372036854775807 ≤ℤ z) × (z ≤ℤ pos 9223372036854775807)

by_size : (n : ℕ) (b : Bool) → nat_lt n (2 ^ 63) ≡ b → IsNumber (value_by (if b then Val (pos n) else Range))
by_size n true e = let lt : n < 2 ^ 63 = ltb-true _ _ e in (omega (arith, ints), omega (arith, ints))
by_size n false e = (omega (arith, ints), omega (arith, ints))

by_size_below : (n : ℕ) (b : Bool) → nat_lt n (2 ^ 63) ≡ b → IsNumber (value_by (if b then Val (negsuc n) else Range))
by_size_below n true e = let lt : n < 2 ^ 63 = ltb-true _ _ e in (omega (arith, ints), omega (arith, ints))
by_size_below n false e = (omega (arith, ints), omega (arith, ints))

pub is_number : (z : ℤ) → (negsuc 9223372036854775807 ≤ℤ clamped z) × (clamped z ≤ℤ pos 9223372036854775807)
is_number (pos n) = by_size n _ refl
is_number (negsuc n) = by_size_below n _ refl

-- ---- the number of a name

by_first : (names : List (List ℕ)) (name x : List ℕ) (k : ℕ) (b : Bool) → bytes_eq name x ≡ b → b ≡ false → position_or_len (bytes_eq name) names ≡ k
    → cond (not (bytes_eq name x)) (1 + position_or_len (bytes_eq name) names) 0 ≡ suc k
by_first names name x k b e f h =
    ap (λ t. cond (not t) (1 + position_or_len (bytes_eq name) names) 0) (e ∙ f)
    ∙ (let n : 1 + position_or_len (bytes_eq name) names ≡ suc k = omega (arith, h) in n)

all_at : (P : List ℕ → Type 0) (names : List (List ℕ)) (k : ℕ) → k < length names → AllByRecursion P names → P (name_at names k)
all_at P [] k lt h = absurd (omega arith)
all_at P (x ∷ names) zero lt h = h.0
all_at P (x ∷ names) (suc k) lt h = all_at P names k (omega arith) h.1

other_way : (a b : List ℕ) (t : Bool) → bytes_eq b a ≡ t → bytes_eq a b ≡ false → t ≡ false
other_way a b true e f = absurd (true≢false (sym ((bytes_eq-Decides a b).1 (sym ((bytes_eq-Decides b a).0 e))) ∙ f))
other_way a b false e f = refl

number_of : (names : List (List ℕ)) (a : ℕ) → IsDistinct bytes_eq names → a < length names → position_or_len (bytes_eq (name_at names a)) names ≡ a
number_of [] a d lt = absurd (omega arith)
number_of (x ∷ names) zero d lt = ap (λ t. cond (not t) (1 + position_or_len (bytes_eq x) names) 0) ((bytes_eq-Decides x x).1 refl)
number_of (x ∷ names) (suc k) d lt =
    let below : k < length names = omega arith in
    let name : List ℕ = name_at names k in
    by_first names name x k (bytes_eq name x) refl
    (other_way x name (bytes_eq name x) refl (all_at (λ y. bytes_eq x y ≡ false) names k below (IsDistinct-head bytes_eq x names d)))
    (number_of names k (IsDistinct-tail bytes_eq x names d) below)

-- ---- what a variable stands for in an environment

abbrev pub or_zero : Option ℤ → ℤ
or_zero None = pos 0
or_zero (Some z) = z

abbrev start_in : Option Done → ℤ
start_in None = pos 0
start_in (Some d) = pos (ends_of d.kid).start

abbrev end_in : Option Done → ℤ
end_in None = pos 0
end_in (Some d) = pos (ends_of d.kid).end

abbrev attr_named : List (List ℕ) → List ℕ → Kid → Option ℤ
attr_named names name (Sub from to tree) = value_at (attrs_of tree) (position_or_len (bytes_eq name) names)
attr_named names name (Number from to prim high low) = number_attr prim name high low
attr_named names name (Token from to bytes) = None
attr_named names name (Raw from to bytes) = None
attr_named names name (Array one items) = None
attr_named names name (Repetition one items) = None

abbrev named_in : List (List ℕ) → List ℕ → Option Done → ℤ
named_in names name None = pos 0
named_in names name (Some d) = or_zero (attr_named names name d.kid)

-- what is known so
abbrev pub of_quantity : Environment → Quantity → ℤ
of_quantity env Whole = pos env.eoi
of_quantity env (Attribute a) = or_zero (value_at env.own a)
of_quantity env Loop = or_zero env.item
of_quantity env (quantities.Start term) = start_in (done_at env.done term)
of_quantity env (quantities.End term) = end_in (done_at env.done term)
of_quantity env (Named term name) = named_in env.names name (done_at env.done term)
of_quantity env (Value e) = value_by (eval e env)

abbrev of_side : Environment → Environment → Side → Environment
of_side caller holder Caller = caller
of_side caller holder Holder = holder
of_side caller holder Point = holder

abbrev pub variable_of : Side → Quantity → Variable
variable_of side quantity = record { side = side; of = quantity }

abbrev of_variable : Environment → Environment → Variable → ℤ
of_variable caller holder variable = of_quantity (of_side caller holder variable.side) variable.of

unfoldable pub values_of : Environment → Environment → Valuation
values_of caller holder variable = clamped (of_variable caller holder variable)

pub are_numbers : (caller holder : Environment) (variable : Variable)
    → (negsuc 9223372036854775807 ≤ℤ values_of caller holder variable) × (values_of caller holder variable ≤ℤ pos 9223372036854775807)
unfolding values_of
are_numbers caller holder variable = is_number (of_variable caller holder variable)

-- ---- it fits

behind_none : (v : Valuation) (eoi : ℕ) (o : Option ℕ) → IsPlaced eoi o → IsBehind v eoi None o
behind_none v eoi None h = tt
behind_none v eoi (Some end) h = h

pub small : (n : ℕ) → n ≤ 2 ^ 30 → limited (pos n) ≡ Val (pos n)
small n h = ap (λ b. if b then Val (pos n) else Range) (lt-ltb n (2 ^ 63) (omega arith))

if_read : (b : Bool) (o : Option ℤ) (z : ℤ) → (if b then o else None) ≡ Some z → o ≡ Some z
if_read true o z e = e
if_read false o z e = absurd (cc)

seen_is : (names : List (List ℕ)) (one : Sym) (f : CoreField) (d : Option Done) (z : ℤ) → seen names one f d ≡ Some z
    → (done : Done) × (d ≡ Some done) × (field_of names f done.kid ≡ Some z)
seen_is names one f None z e = absurd (cc)
seen_is names one f (Some d) z e = (d, refl, if_read (is_read_by d one) (field_of names f d.kid) z e)

module _ (v : Valuation) (scope : Scope) (env : Environment) (names : ℕ)
    (agree : (quantity : Quantity) → v (variable_of scope.side quantity) ≡ clamped (of_quantity env quantity))
    (distinct : IsDistinct bytes_eq env.names) (same : env.names ≡ scope.names) (few : length env.names ≡ names)
    (named_kids : (t : ℕ) (d : Done) → done_at env.done t ≡ Some d → KidNamed names d.kid) where
  -- by the value that a variable stands for
  stands_for : (quantity : Quantity) (z : ℤ) → of_quantity env quantity ≡ z → limited z ≡ Val z → v (variable_of scope.side quantity) ≡ z
  stands_for quantity z e n = agree quantity ∙ ap clamped e ∙ clamped_is z n

  kid_attr : (a : ℕ) (k : Kid) (z : ℤ) → KidNamed names k → field_of env.names (Attr a) k ≡ Some z → attr_named env.names (name_at env.names a) k ≡ Some z
  kid_attr a (Sub from to tree) z h e =
      ap (value_at (attrs_of tree)) (number_of env.names a distinct (let lt = h a z e in omega arith)) ∙ e
  kid_attr a (Number from to prim high low) z h e = e
  kid_attr a (Token from to bytes) z h e = absurd (cc)
  kid_attr a (Raw from to bytes) z h e = absurd (cc)
  kid_attr a (Array one items) z h e = absurd (cc)
  kid_attr a (Repetition one items) z h e = absurd (cc)

  result_is : (term : ℕ) (f : CoreField) (z : ℤ) (d : Done) → done_at env.done term ≡ Some d → field_of env.names f d.kid ≡ Some z → limited z ≡ Val z
      → v (field env.names scope.side term f) ≡ z
  result_is term (Attr a) z d there e n =
      stands_for (Named term (name_at env.names a)) z
      (ap (named_in env.names (name_at env.names a)) there ∙ ap or_zero (kid_attr a d.kid z (named_kids term d there) e)) n
  result_is term Start z d there e n = stands_for (quantities.Start term) z (ap start_in there ∙ start_is env.names d.kid z e) n
  result_is term End z d there e n = stands_for (quantities.End term) z (ap end_in there ∙ end_is env.names d.kid z e) n

  number_is : (term : ℕ) (d : Done) (from to : ℕ) (prim : Primitive) (high low : ℕ) (name : List ℕ) (z : ℤ) → done_at env.done term ≡ Some d
      → d.kid ≡ Number from to prim high low → number_attr prim name high low ≡ Some z → limited z ≡ Val z → v (named scope.side term name) ≡ z
  number_is term d from to prim high low name z there is e n =
      stands_for (Named term name) z (ap (named_in env.names name) there ∙ ap (λ k. or_zero (attr_named env.names name k)) is ∙ ap or_zero e) n

  opaque_is : (e : CoreExpr) (z : ℤ) → eval e env ≡ Val z → v (value scope.side e) ≡ z
  opaque_is e z h = stands_for (Value e) z (ap value_by h) (is_limited e env z h)

  module _ (size : env.eoi ≤ 2 ^ 30)
      (outer : (a : ℕ) (z : ℤ) → value_at env.outer a ≡ Some z → limited z ≡ Val z → v (attribute holder_side a) ≡ z)
      (items : (t : ℕ) → ItemsOf scope.marks names env.eoi (item_of (slice_get scope.terms t)) (items_so_far (done_at env.done t)))
      (opening : (t : ℕ) → touching scope t ≡ None) where
    item_is : (term : ℕ) (f : CoreField) (i z : ℤ) → field_of_item env.names f (core.item_at (items_so_far (done_at env.done term)) i) ≡ Some z
        → IsItemField scope env.eoi (item_at scope term) f z
    item_is term f i z e =
        items_fields scope names env.eoi (item_of (slice_get scope.terms term)) (items_so_far (done_at env.done term)) f i z (items term)
        (subst (λ ns. field_of_item ns f (core.item_at (items_so_far (done_at env.done term)) i) ≡ Some z) same e)

    end_of : (term : ℕ) → IsBehind v env.eoi (touching scope term) (greatest_end (items_so_far (done_at env.done term)))
    end_of term =
        subst (λ o. IsBehind v env.eoi o (greatest_end (items_so_far (done_at env.done term)))) (sym (opening term))
        (behind_none v env.eoi _ (placed scope.marks names env.eoi (item_of (slice_get scope.terms term)) (items_so_far (done_at env.done term)) (items term)))

    result_fits : (term : ℕ) (one : Sym) (f : CoreField) (z : ℤ) → seen env.names one f (done_at env.done term) ≡ Some z → limited z ≡ Val z
        → v (field scope.names scope.side term f) ≡ z
    result_fits term one f z e n =
        let s = seen_is env.names one f (done_at env.done term) z e in
        subst (λ ns. v (field ns scope.side term f) ≡ z) same (result_is term f z s.0 s.1 s.2 n)

    pub fits : Fits v scope env
    fits = record {
      length = stands_for Whole (pos env.eoi) refl (small env.eoi size);
      own = λ a z e n. stands_for (Attribute a) z (ap or_zero e) n;
      outer = outer;
      turn = λ z e n. stands_for Loop z (ap or_zero e) n;
      results = result_fits;
      numbers = number_is;
      opaques = opaque_is;
      items = item_is;
      ends = end_of;
    }
