-- Variables that are the same are equal.
use Rattle.std.proofs.Common.{◌≡◌, ℕ, zero, suc, List, [], ◌∷◌, Bool, true, false, ◌&&◌, refl, sym, ap, ◌∙◌, subst}
use Rattle.std.specs.Prelude.{nat_eq}
use Rattle.std.specs.Cmp.{unsigned_Decides, signed_Decides}
use Rattle.std.proofs.lemmas.Slice.Eq.{bytes_eq-Decides}
use Rattle.ipg_num.specs.declared.op.Op2.{Op2}
use Rattle.ipg_num.specs.declared.op.Op2.TheVariants.{Add, Sub, Mul, Div, Mod, Shl, Shr, BitAnd, BitOr, BitXor, Eq, Ne, Lt, Le, Gt, Ge}
use Rattle.ipg_core.specs.declared.grammar.Primitive.{Primitive}
use Rattle.ipg_core.specs.declared.grammar.Primitive.TheVariants.{U8, U16LE, U16BE, U32LE, U32BE, U64LE, U64BE, Bytes}
use Rattle.ipg_core.specs.declared.grammar.CoreField.{CoreField}
use Rattle.ipg_core.specs.declared.grammar.CoreField.TheVariants as fields
use Rattle.ipg_core.specs.declared.grammar.Sym.{Sym}
use Rattle.ipg_core.specs.declared.grammar.Sym.TheVariants.{Text, Prim, Rule}
use Rattle.ipg_core.specs.declared.grammar.CoreExpr.{CoreExpr, map-CoreExpr, roll-CoreExpr, fold-roll-CoreExpr}
use Rattle.ipg_core.specs.declared.grammar.CoreExpr.{out-CoreExpr, out-roll-CoreExpr, roll-out-CoreExpr}
use Rattle.ipg_core.specs.declared.grammar.CoreExpr.TheOpen.{CoreExpr-F}
use Rattle.ipg_core.specs.Grammar.{primitive_number}
use Rattle.ipg_facts_variables.specs.declared.variable.Side.{Side}
use Rattle.ipg_facts_variables.specs.declared.variable.Side.TheVariants.{Caller, Holder, Point}
use Rattle.ipg_facts_variables.specs.declared.variable.Quantity.{Quantity}
use Rattle.ipg_facts_variables.specs.declared.variable.Quantity.TheVariants.{Whole, Attribute, Loop, Start, End, Named, Value}
use Rattle.ipg_facts_variables.specs.Variable.{Variable, operator_number, same_operator, same_field, same_sym, same_layer, same_expr, same_side}
use Rattle.ipg_facts_variables.specs.Variable.{same_quantity, same_variable, SameVariablesAreEqual}
use Rattle.ipg_facts_variables.specs.Induct.{Sure, bare, induct}

-- nothing is both
abbrev Told : Bool → Type 0
Told true = ⊥
Told false = Unit {0}

apart : {A : Type 0} → false ≡ true → A
apart e = absurd (subst Told e tt)

two : {A B C : Type 0} (f : A → B → C) (a c : A) (b d : B) → a ≡ c → b ≡ d → f a b ≡ f c d
two f a c b d e h = ap (λ x. f x b) e ∙ ap (f c) h

three : {A B C D : Type 0} (f : A → B → C → D) (a x : A) (b y : B) (c z : C) → a ≡ x → b ≡ y → c ≡ z → f a b c ≡ f x y z
three f a x b y c z e h k = ap (λ i. f i b c) e ∙ two (f x) b y c z h k

both : (a b : Bool) → a && b ≡ true → (a ≡ true) × (b ≡ true)
both true b e = (refl, e)
both false b e = apart e

join : (a b : Bool) → a ≡ true → b ≡ true → a && b ≡ true
join a b e f = ap (λ x. x && b) e ∙ f

nat_is : (a b : ℕ) → nat_eq a b ≡ true → a ≡ b
nat_is a b e = (unsigned_Decides a b).0 e

nat_same : (a : ℕ) → nat_eq a a ≡ true
nat_same a = (unsigned_Decides a a).1 refl

nth : {A : Type 0} → A → List A → ℕ → A
nth d [] n = d
nth d (x ∷ xs) zero = x
nth d (x ∷ xs) (suc n) = nth d xs n

operator_at : ℕ → Op2
operator_at = nth Add (Add ∷ Sub ∷ Mul ∷ Div ∷ Mod ∷ Shl ∷ Shr ∷ BitAnd ∷ BitOr ∷ BitXor ∷ Eq ∷ Ne ∷ Lt ∷ Le ∷ Gt ∷ Ge ∷ [])

operator_back : (op : Op2) → operator_at (operator_number op) ≡ op
unfolding operator_at nth
operator_back Add = refl
operator_back Sub = refl
operator_back Mul = refl
operator_back Div = refl
operator_back Mod = refl
operator_back Shl = refl
operator_back Shr = refl
operator_back BitAnd = refl
operator_back BitOr = refl
operator_back BitXor = refl
operator_back Eq = refl
operator_back Ne = refl
operator_back Lt = refl
operator_back Le = refl
operator_back Gt = refl
operator_back Ge = refl

primitive_at : ℕ → Primitive
primitive_at = nth U8 (U8 ∷ U16LE ∷ U16BE ∷ U32LE ∷ U32BE ∷ U64LE ∷ U64BE ∷ Bytes ∷ [])

primitive_back : (prim : Primitive) → primitive_at (primitive_number prim) ≡ prim
unfolding primitive_at nth
primitive_back U8 = refl
primitive_back U16LE = refl
primitive_back U16BE = refl
primitive_back U32LE = refl
primitive_back U32BE = refl
primitive_back U64LE = refl
primitive_back U64BE = refl
primitive_back Bytes = refl

operator_is : (a b : Op2) → same_operator a b ≡ true → a ≡ b
operator_is a b e = sym (operator_back a) ∙ ap operator_at (nat_is _ _ e) ∙ operator_back b

primitive_is : (a b : Primitive) → nat_eq (primitive_number a) (primitive_number b) ≡ true → a ≡ b
primitive_is a b e = sym (primitive_back a) ∙ ap primitive_at (nat_is _ _ e) ∙ primitive_back b

field_is : (f g : CoreField) → same_field f g ≡ true → f ≡ g
field_is (fields.Attr a) (fields.Attr b) e = ap fields.Attr (nat_is a b e)
field_is fields.Start fields.Start e = refl
field_is fields.End fields.End e = refl
field_is _ _ e = apart e

field_same : (f : CoreField) → same_field f f ≡ true
field_same (fields.Attr a) = nat_same a
field_same fields.Start = refl
field_same fields.End = refl

sym_is : (s r : Sym) → same_sym s r ≡ true → s ≡ r
sym_is (Text a) (Text b) e = ap Text ((bytes_eq-Decides a b).0 e)
sym_is (Prim a) (Prim b) e = ap Prim (primitive_is a b e)
sym_is (Rule a) (Rule b) e = ap Rule (nat_is a b e)
sym_is _ _ e = apart e

sym_same : (s : Sym) → same_sym s s ≡ true
sym_same (Text a) = (bytes_eq-Decides a a).1 refl
sym_same (Prim a) = nat_same (primitive_number a)
sym_same (Rule a) = nat_same a

-- the one that an expression is the same as
abbrev IsItself : CoreExpr → Type 0
IsItself e = (f : CoreExpr) → same_expr e f ≡ true → e ≡ f

layer_is : (y : CoreExpr-F (Sure IsItself)) (z : CoreExpr-F CoreExpr)
    → same_layer (map-CoreExpr CoreExpr (CoreExpr → Bool) same_expr (bare y)) z ≡ true → bare y ≡ z
layer_is (CoreExpr-F.Num x) (CoreExpr-F.Num y) e = ap CoreExpr-F.Num ((signed_Decides x y).0 e)
layer_is CoreExpr-F.Eoi CoreExpr-F.Eoi e = refl
layer_is (CoreExpr-F.Own a) (CoreExpr-F.Own b) e = ap CoreExpr-F.Own (nat_is a b e)
layer_is (CoreExpr-F.Outer a) (CoreExpr-F.Outer b) e = ap CoreExpr-F.Outer (nat_is a b e)
layer_is CoreExpr-F.Loop CoreExpr-F.Loop e = refl
layer_is (CoreExpr-F.Seen t s f) (CoreExpr-F.Seen u r g) e =
    let one = both _ _ e in
    let more = both _ _ one.1 in
    three CoreExpr-F.Seen t u s r f g (nat_is t u one.0) (sym_is s r more.0) (field_is f g more.1)
layer_is (CoreExpr-F.Item t i f) (CoreExpr-F.Item u j g) e =
    let one = both _ _ e in
    let more = both _ _ one.1 in
    three CoreExpr-F.Item t u i.0 j f g (nat_is t u one.0) (i.1 j more.1) (field_is f g more.0)
layer_is (CoreExpr-F.After t l) (CoreExpr-F.After u m) e =
    let one = both _ _ e in two CoreExpr-F.After t u l.0 m (nat_is t u one.0) (l.1 m one.1)
layer_is (CoreExpr-F.Neg a) (CoreExpr-F.Neg b) e = ap CoreExpr-F.Neg (a.1 b e)
layer_is (CoreExpr-F.Not a) (CoreExpr-F.Not b) e = ap CoreExpr-F.Not (a.1 b e)
layer_is (CoreExpr-F.Two o a b) (CoreExpr-F.Two p c d) e =
    let one = both _ _ e in
    let more = both _ _ one.1 in
    three CoreExpr-F.Two o p a.0 c b.0 d (operator_is o p one.0) (a.1 c more.0) (b.1 d more.1)
layer_is (CoreExpr-F.Both a b) (CoreExpr-F.Both c d) e =
    let one = both _ _ e in two CoreExpr-F.Both a.0 c b.0 d (a.1 c one.0) (b.1 d one.1)
layer_is (CoreExpr-F.Either a b) (CoreExpr-F.Either c d) e =
    let one = both _ _ e in two CoreExpr-F.Either a.0 c b.0 d (a.1 c one.0) (b.1 d one.1)
layer_is (CoreExpr-F.Cond c a b) (CoreExpr-F.Cond d x y) e =
    let one = both _ _ e in
    let more = both _ _ one.1 in
    three CoreExpr-F.Cond c.0 d a.0 x b.0 y (c.1 d one.0) (a.1 x more.0) (b.1 y more.1)
layer_is _ _ e = apart e

opened : (y : CoreExpr-F CoreExpr) (f : CoreExpr)
    → same_expr (roll-CoreExpr y) f ≡ same_layer (map-CoreExpr CoreExpr (CoreExpr → Bool) same_expr y) (out-CoreExpr f)
unfolding same_expr
opened y f = ap (λ (same : CoreExpr → Bool). same f) (fold-roll-CoreExpr (CoreExpr → Bool) (λ layer other. same_layer layer (out-CoreExpr other)) y)

expr_is : (e : CoreExpr) → IsItself e
expr_is = induct IsItself (λ y f e. ap roll-CoreExpr (layer_is y (out-CoreExpr f) (sym (opened (bare y) f) ∙ e)) ∙ roll-out-CoreExpr f)

abbrev IsSame : CoreExpr → Type 0
IsSame e = same_expr e e ≡ true

layer_same : (y : CoreExpr-F (Sure IsSame)) → same_layer (map-CoreExpr CoreExpr (CoreExpr → Bool) same_expr (bare y)) (bare y) ≡ true
layer_same (CoreExpr-F.Num x) = (signed_Decides x x).1 refl
layer_same CoreExpr-F.Eoi = refl
layer_same (CoreExpr-F.Own a) = nat_same a
layer_same (CoreExpr-F.Outer a) = nat_same a
layer_same CoreExpr-F.Loop = refl
layer_same (CoreExpr-F.Seen t s f) = join _ _ (nat_same t) (join _ _ (sym_same s) (field_same f))
layer_same (CoreExpr-F.Item t i f) = join _ _ (nat_same t) (join _ _ (field_same f) i.1)
layer_same (CoreExpr-F.After t l) = join _ _ (nat_same t) l.1
layer_same (CoreExpr-F.Neg a) = a.1
layer_same (CoreExpr-F.Not a) = a.1
layer_same (CoreExpr-F.Two o a b) = join _ _ (nat_same (operator_number o)) (join _ _ a.1 b.1)
layer_same (CoreExpr-F.Both a b) = join _ _ a.1 b.1
layer_same (CoreExpr-F.Either a b) = join _ _ a.1 b.1
layer_same (CoreExpr-F.Cond c a b) = join _ _ c.1 (join _ _ a.1 b.1)

expr_same : (e : CoreExpr) → same_expr e e ≡ true
expr_same = induct IsSame (λ y. opened (bare y) (roll-CoreExpr (bare y))
    ∙ ap (same_layer (map-CoreExpr CoreExpr (CoreExpr → Bool) same_expr (bare y))) (out-roll-CoreExpr (bare y)) ∙ layer_same y)

side_is : (a b : Side) → same_side a b ≡ true → a ≡ b
side_is Caller Caller e = refl
side_is Holder Holder e = refl
side_is Point Point e = refl
side_is _ _ e = apart e

side_same : (a : Side) → same_side a a ≡ true
side_same Caller = refl
side_same Holder = refl
side_same Point = refl

known_is : (a b : Quantity) → same_quantity a b ≡ true → a ≡ b
known_is Whole Whole e = refl
known_is (Attribute a) (Attribute b) e = ap Attribute (nat_is a b e)
known_is Loop Loop e = refl
known_is (Start a) (Start b) e = ap Start (nat_is a b e)
known_is (End a) (End b) e = ap End (nat_is a b e)
known_is (Named t n) (Named u m) e =
    let one = both _ _ e in two Named t u n m (nat_is t u one.0) ((bytes_eq-Decides n m).0 one.1)
known_is (Value a) (Value b) e = ap Value (expr_is a b e)
known_is _ _ e = apart e

known_same : (a : Quantity) → same_quantity a a ≡ true
known_same Whole = refl
known_same (Attribute a) = nat_same a
known_same Loop = refl
known_same (Start a) = nat_same a
known_same (End a) = nat_same a
known_same (Named t n) = join _ _ (nat_same t) ((bytes_eq-Decides n n).1 refl)
known_same (Value a) = expr_same a

variable_is : (a b : Variable) → same_variable a b ≡ true → a ≡ b
unfolding same_variable
variable_is a b e =
    let one = both _ _ e in
    two (λ side of. record { side = side; of = of }) a.side b.side a.of b.of (side_is a.side b.side one.0) (known_is a.of b.of one.1)

variable_same : (a : Variable) → same_variable a a ≡ true
unfolding same_variable
variable_same a = join _ _ (side_same a.side) (known_same a.of)

pub same_variables_are_equal : SameVariablesAreEqual
same_variables_are_equal a b = (variable_is a b, λ e. subst (λ c. same_variable a c ≡ true) e (variable_same a))
