-- What the items of an array or a repetition say of their ends and fields.
use Rattle.std.proofs.Common.{◌≡◌, ℕ, zero, suc, ◌+◌, ◌-◌, ◌<◌, ◌≤◌, refl, sym, ap, ◌∙◌, subst, arith, List, [], ◌∷◌, length, Option, Some, None}
use Rattle.std.proofs.Common.{Bool, true, false, if◌then◌else◌, max, ℤ, pos, negsuc, ◌+ℤ◌, ◌-ℤ◌}
use Rattle.std.specs.Prelude.{nat_eq, nat_lt, ◌≤ℤ◌, ◌<ℤ◌}
use Rattle.std.specs.List.{AllByRecursion}
use Rattle.std.proofs.lemmas.Int.{ints}
use Rattle.std.proofs.lemmas.Bool.{ltb-true, lt-ltb}
use Rattle.std.proofs.lemmas.Bool.Decides.{nat_tests}
use Rattle.ipg_core.specs.declared.grammar.Primitive.{Primitive}
use Rattle.ipg_core.specs.declared.grammar.Primitive.TheVariants.{U8, U16LE, U16BE, U32LE, U32BE, U64LE, U64BE, Bytes}
use Rattle.ipg_core.specs.declared.grammar.CoreField.{CoreField}
use Rattle.ipg_core.specs.declared.grammar.CoreField.TheVariants.{Attr, Start, End}
use Rattle.ipg_core.specs.declared.grammar.Sym.{Sym}
use Rattle.ipg_core.specs.declared.grammar.Sym.TheVariants.{Text, Prim, Rule}
use Rattle.ipg_core.specs.Grammar.{name_at}
use Rattle.ipg_core.specs.Tree.{Tree, Kid, Sub, Token, Number, Raw, Array, Many as Repetition, Kids, no_kids, kid, kids_of, kid_at, items_of}
use Rattle.ipg_core.specs.Touch.{width, Ends, touches, moved, first_of, untouched, ends_of}
use Rattle.ipg_core.specs.MustTouch.{is_marked}
use Rattle.ipg_core.specs.Environment.{field_of, field_of_item, number_attr}
use Rattle.ipg_core.specs.Eval as core
use Rattle.ipg_core.specs.Eval.{greatest_end, later}
use Rattle.ipg_core.specs.Meaning.{times}
use Rattle.ipg_facts.specs.Reading.{Scope, least_width, greatest_of, greatest}
use Rattle.ipg_facts_laws.specs.Known.{IsRanged, IsItemField, IsPlace, AreRanged, IsTreeOf, IsResult}
use Rattle.ipg_facts_laws.specs.Ran.{AreBetween}
use Rattle.ipg_facts_laws.proofs.Results.{result_ends, IsItem}

-- the items of a term, which are none where it has none
abbrev pub ItemsOf : List Bool → ℕ → ℕ → Option Sym → Kids → Type 0
ItemsOf marks names eoi one no_kids = Unit {0}
ItemsOf marks names eoi None (kid k ks) = ⊥
ItemsOf marks names eoi (Some one) (kid k ks) = IsItem marks names eoi one k × ItemsOf marks names eoi (Some one) ks

pub items_of_list : (marks : List Bool) (names eoi : ℕ) (one : Sym) (items : List Kid) → AllByRecursion (IsItem marks names eoi one) items
    → ItemsOf marks names eoi (Some one) (kids_of items)
items_of_list marks names eoi one [] h = tt
items_of_list marks names eoi one (k ∷ items) h = (h.0, items_of_list marks names eoi one items h.1)

-- the result of a slot has no items
pub no_items : (marks : List Bool) (one : Sym) (l r : ℕ) (k : Kid) → IsResult marks one l r k → items_of k ≡ no_kids
no_items marks one l r (Sub from to tree) e = refl
no_items marks one l r (Token from to bytes) e = refl
no_items marks one l r (Number from to prim high low) e = refl
no_items marks one l r (Raw from to bytes) e = refl
no_items marks (Text bytes) l r (Array item items) e = absurd e
no_items marks (Prim U8) l r (Array item items) e = absurd e
no_items marks (Prim U16LE) l r (Array item items) e = absurd e
no_items marks (Prim U16BE) l r (Array item items) e = absurd e
no_items marks (Prim U32LE) l r (Array item items) e = absurd e
no_items marks (Prim U32BE) l r (Array item items) e = absurd e
no_items marks (Prim U64LE) l r (Array item items) e = absurd e
no_items marks (Prim U64BE) l r (Array item items) e = absurd e
no_items marks (Prim Bytes) l r (Array item items) e = absurd e
no_items marks (Rule callee) l r (Array item items) e = absurd e
no_items marks (Text bytes) l r (Repetition item items) e = absurd e
no_items marks (Prim U8) l r (Repetition item items) e = absurd e
no_items marks (Prim U16LE) l r (Repetition item items) e = absurd e
no_items marks (Prim U16BE) l r (Repetition item items) e = absurd e
no_items marks (Prim U32LE) l r (Repetition item items) e = absurd e
no_items marks (Prim U32BE) l r (Repetition item items) e = absurd e
no_items marks (Prim U64LE) l r (Repetition item items) e = absurd e
no_items marks (Prim U64BE) l r (Repetition item items) e = absurd e
no_items marks (Prim Bytes) l r (Repetition item items) e = absurd e
no_items marks (Rule callee) l r (Repetition item items) e = absurd e

-- ---- the greatest end

abbrev pub IsPlaced : ℕ → Option ℕ → Type 0
IsPlaced eoi None = Unit {0}
IsPlaced eoi (Some end) = IsPlace eoi end

is_place : (eoi end : ℕ) → 0 < end → end ≤ eoi → IsPlace eoi end
is_place eoi end h k = (omega (arith, ints), omega (arith, ints))

place_of : (eoi end : ℕ) → IsPlace eoi end → end ≤ eoi
place_of eoi end h = let a : pos end ≤ℤ pos eoi = h.1 in omega (arith, ints)

later_placed : (eoi : ℕ) (e : Ends) (o : Option ℕ) (b : Bool) → touches e ≡ b → e.end ≤ eoi → IsPlaced eoi o → IsPlaced eoi (later e o)
later_placed eoi e None true t h k = let a = ltb-true _ _ t in rw t (is_place eoi e.end (omega arith) h)
later_placed eoi e None false t h k = rw t tt
later_placed eoi e (Some end) true t h k =
    let a = ltb-true _ _ t in let b = place_of eoi end k in rw t (is_place eoi (max e.end end) (omega arith) (omega arith))
later_placed eoi e (Some end) false t h k = rw t k

pub placed : (marks : List Bool) (names eoi : ℕ) (one : Option Sym) (ks : Kids) → ItemsOf marks names eoi one ks → IsPlaced eoi (greatest_end ks)
placed marks names eoi one no_kids h = tt
placed marks names eoi None (kid k ks) h = elim h [ ]
placed marks names eoi (Some one) (kid k ks) h =
    let i = h.0 in let r : i.r ≤ eoi = i.inside in
    let ends : (ends_of k).end ≤ i.r = (result_ends marks one i.l i.r k i.order i.kid.result).2 in
    later_placed eoi (ends_of k) (greatest_end ks) _ refl (omega arith) (placed marks names eoi (Some one) ks h.1)

-- ---- the items of an array each of which touches

number_touch : (prim p : Primitive) (l r from to high low : ℕ) (b : Bool) → nat_eq (width prim) 0 ≡ b → nat_lt 0 (width prim) ≡ true
    → (from ≡ l) × (to ≡ r) × (p ≡ prim) × (width prim ≤ r - l) × AreRanged prim high low → touches (ends_of (Number from to p high low)) ≡ true
unfolding moved first_of untouched
number_touch prim p l r from to high low true z w e = absurd (let none : width prim ≡ 0 = grind (arith, nat_tests) in let some = ltb-true _ _ w in omega arith)
number_touch prim p l r from to high low false z w e =
    subst (λ q. touches (moved from (first_of (to - from) (width q))) ≡ true) (sym e.2)
    (let some = ltb-true _ _ w in rw z (lt-ltb _ _ (omega arith)))

rule_touch : (marks : List Bool) (callee n from to : ℕ) (tree : Tree) (b : Bool) → is_marked marks callee ≡ b → nat_lt 0 (if b then 1 else 0) ≡ true
    → IsTreeOf marks callee n tree → touches (ends_of (Sub from to tree)) ≡ true
unfolding moved
rule_touch marks callee n from to tree true m w is = let t = ltb-true _ _ (is.must m) in lt-ltb _ _ (omega arith)
rule_touch marks callee n from to tree false m w is = absurd (cc)

result_touches : (marks : List Bool) (one : Sym) (l r : ℕ) (k : Kid) → nat_lt 0 (least_width marks (Some one)) ≡ true → IsResult marks one l r k
    → touches (ends_of k) ≡ true
result_touches marks (Text bytes) l r (Token from to token) w e = absurd (cc)
result_touches marks (Prim U8) l r (Number from to p high low) w e = number_touch U8 p l r from to high low _ refl w e
result_touches marks (Prim U16LE) l r (Number from to p high low) w e = number_touch U16LE p l r from to high low _ refl w e
result_touches marks (Prim U16BE) l r (Number from to p high low) w e = number_touch U16BE p l r from to high low _ refl w e
result_touches marks (Prim U32LE) l r (Number from to p high low) w e = number_touch U32LE p l r from to high low _ refl w e
result_touches marks (Prim U32BE) l r (Number from to p high low) w e = number_touch U32BE p l r from to high low _ refl w e
result_touches marks (Prim U64LE) l r (Number from to p high low) w e = number_touch U64LE p l r from to high low _ refl w e
result_touches marks (Prim U64BE) l r (Number from to p high low) w e = number_touch U64BE p l r from to high low _ refl w e
result_touches marks (Prim Bytes) l r (Raw from to bytes) w e = absurd (cc)
result_touches marks (Rule callee) l r (Sub from to tree) w e = rule_touch marks callee (r - l) from to tree _ refl w e.2
result_touches marks _ l r _ w e = absurd e

later_is : (e : Ends) (o : Option ℕ) → touches e ≡ true → (end : ℕ) × (later e o ≡ Some end)
later_is e None t = (e.end, rw t refl)
later_is e (Some end) t = (max e.end end, rw t refl)

no_turns : (a b d : ℤ) → (b -ℤ a) ≡ d → 0 ≡ times d → b ≤ℤ a
no_turns a b (pos n) e h = omega (arith, ints)
no_turns a b (negsuc n) e h = omega (arith, ints)

some_turns : (a b d : ℤ) (n : ℕ) → (b -ℤ a) ≡ d → suc n ≡ times d → a <ℤ b
some_turns a b (pos m) n e h = omega (arith, ints)
some_turns a b (negsuc m) n e h = absurd (omega arith)

between_some : (eoi : ℕ) (a b : ℤ) (o : Option ℕ) → IsPlaced eoi o → (end : ℕ) × (o ≡ Some end) → a <ℤ b → AreBetween eoi a b o
between_some eoi a b None p s lt = absurd (let e = s.1 in cc)
between_some eoi a b (Some end) p s lt = (lt, p)

pub between : (marks : List Bool) (names eoi : ℕ) (one : Sym) (items : List Kid) (a b : ℤ) → AllByRecursion (IsItem marks names eoi one) items
    → length items ≡ times (b -ℤ a) → nat_lt 0 (least_width marks (Some one)) ≡ true → AreBetween eoi a b (greatest_end (kids_of items))
between marks names eoi one [] a b h n w = no_turns a b (b -ℤ a) refl n
between marks names eoi one (k ∷ items) a b h n w =
    between_some eoi a b (greatest_end (kids_of (k ∷ items)))
    (placed marks names eoi (Some one) (kids_of (k ∷ items)) (items_of_list marks names eoi one (k ∷ items) h))
    (later_is (ends_of k) (greatest_end (kids_of items)) (result_touches marks one h.0.l h.0.r k w h.0.kid.result))
    (some_turns a b (b -ℤ a) (length items) refl n)

-- ---- the fields of an item

item_there : (marks : List Bool) (names eoi : ℕ) (one : Option Sym) (ks : Kids) (n : ℕ) (k : Kid) → ItemsOf marks names eoi one ks → kid_at ks n ≡ Some k
    → (s : Sym) × (one ≡ Some s) × IsItem marks names eoi s k
item_there marks names eoi one no_kids n k h e = absurd (cc)
item_there marks names eoi None (kid x ks) n k h e = elim h [ ]
item_there marks names eoi (Some one) (kid x ks) zero k h e = let same : x ≡ k = cc in (one, refl, subst (IsItem marks names eoi one) same h.0)
item_there marks names eoi (Some one) (kid x ks) (suc n) k h e = item_there marks names eoi (Some one) ks n k h.1 e

some_item : (marks : List Bool) (names eoi : ℕ) (one : Option Sym) (ks : Kids) (i : ℤ) (k : Kid) → ItemsOf marks names eoi one ks → core.item_at ks i ≡ Some k
    → (s : Sym) × (one ≡ Some s) × IsItem marks names eoi s k
some_item marks names eoi one ks (pos n) k h e = item_there marks names eoi one ks n k h e
some_item marks names eoi one ks (negsuc n) k h e = absurd (cc)

prim_ranged : (prim p : Primitive) (name : List ℕ) (high low : ℕ) (z : ℤ) → p ≡ prim → AreRanged prim high low → number_attr p name high low ≡ Some z
    → IsRanged (greatest prim name) z
prim_ranged prim p name high low z same h e = h name z (ap (λ q. number_attr q name high low) (sym same) ∙ e)

attr_ranged : (scope : Scope) (a l r : ℕ) (one : Sym) (k : Kid) (z : ℤ) → IsResult scope.marks one l r k → field_of scope.names (Attr a) k ≡ Some z
    → IsRanged (greatest_of (Some one) (name_at scope.names a)) z
attr_ranged scope a l r (Text bytes) k z e f = tt
attr_ranged scope a l r (Rule callee) k z e f = tt
attr_ranged scope a l r (Prim Bytes) k z e f = tt
attr_ranged scope a l r (Prim U8) (Number from to p high low) z e f = prim_ranged U8 p (name_at scope.names a) high low z e.2 e.4 f
attr_ranged scope a l r (Prim U16LE) (Number from to p high low) z e f = prim_ranged U16LE p (name_at scope.names a) high low z e.2 e.4 f
attr_ranged scope a l r (Prim U16BE) (Number from to p high low) z e f = prim_ranged U16BE p (name_at scope.names a) high low z e.2 e.4 f
attr_ranged scope a l r (Prim U32LE) (Number from to p high low) z e f = prim_ranged U32LE p (name_at scope.names a) high low z e.2 e.4 f
attr_ranged scope a l r (Prim U32BE) (Number from to p high low) z e f = prim_ranged U32BE p (name_at scope.names a) high low z e.2 e.4 f
attr_ranged scope a l r (Prim U64LE) (Number from to p high low) z e f = prim_ranged U64LE p (name_at scope.names a) high low z e.2 e.4 f
attr_ranged scope a l r (Prim U64BE) (Number from to p high low) z e f = prim_ranged U64BE p (name_at scope.names a) high low z e.2 e.4 f
attr_ranged scope a l r _ _ z e f = absurd e

pub start_is : (names : List (List ℕ)) (k : Kid) (z : ℤ) → field_of names Start k ≡ Some z → pos (ends_of k).start ≡ z
start_is names (Sub from to tree) z e = let same : pos (ends_of (Sub from to tree)).start ≡ z = cc in same
start_is names (Token from to bytes) z e = let same : pos (ends_of (Token from to bytes)).start ≡ z = cc in same
start_is names (Number from to prim high low) z e = let same : pos (ends_of (Number from to prim high low)).start ≡ z = cc in same
start_is names (Raw from to bytes) z e = let same : pos (ends_of (Raw from to bytes)).start ≡ z = cc in same
start_is names (Array one items) z e = absurd (cc)
start_is names (Repetition one items) z e = absurd (cc)

pub end_is : (names : List (List ℕ)) (k : Kid) (z : ℤ) → field_of names End k ≡ Some z → pos (ends_of k).end ≡ z
end_is names (Sub from to tree) z e = let same : pos (ends_of (Sub from to tree)).end ≡ z = cc in same
end_is names (Token from to bytes) z e = let same : pos (ends_of (Token from to bytes)).end ≡ z = cc in same
end_is names (Number from to prim high low) z e = let same : pos (ends_of (Number from to prim high low)).end ≡ z = cc in same
end_is names (Raw from to bytes) z e = let same : pos (ends_of (Raw from to bytes)).end ≡ z = cc in same
end_is names (Array one items) z e = absurd (cc)
end_is names (Repetition one items) z e = absurd (cc)

starts_inside : (n w r eoi : ℕ) (z : ℤ) → pos n ≡ z → n + w ≤ r → r ≤ eoi → (pos 0 ≤ℤ z) × ((z +ℤ pos w) ≤ℤ pos eoi)
starts_inside n w r eoi z e h k = (omega (arith, ints), omega (arith, ints))

ends_inside : (n w r eoi : ℕ) (z : ℤ) → pos n ≡ z → w ≤ n → n ≤ r → r ≤ eoi → (pos w ≤ℤ z) × (z ≤ℤ pos eoi)
ends_inside n w r eoi z e h k m = (omega (arith, ints), omega (arith, ints))

field_is : (scope : Scope) (names eoi : ℕ) (one : Sym) (k : Kid) (f : CoreField) (z : ℤ) → IsItem scope.marks names eoi one k
    → field_of scope.names f k ≡ Some z → IsItemField scope eoi (Some one) f z
field_is scope names eoi one k (Attr a) z i e = attr_ranged scope a i.l i.r one k z i.kid.result e
field_is scope names eoi one k Start z i e =
    let ends = result_ends scope.marks one i.l i.r k i.order i.kid.result in
    starts_inside (ends_of k).start (least_width scope.marks (Some one)) i.r eoi z (start_is scope.names k z e) ends.0 i.inside
field_is scope names eoi one k End z i e =
    let ends = result_ends scope.marks one i.l i.r k i.order i.kid.result in
    ends_inside (ends_of k).end (least_width scope.marks (Some one)) i.r eoi z (end_is scope.names k z e) ends.1 ends.2 i.inside

item_field : (scope : Scope) (names eoi : ℕ) (one : Option Sym) (ks : Kids) (f : CoreField) (i z : ℤ) (k : Option Kid) → core.item_at ks i ≡ k
    → ItemsOf scope.marks names eoi one ks → field_of_item scope.names f k ≡ Some z → IsItemField scope eoi one f z
item_field scope names eoi one ks f i z None e h there = absurd (cc)
item_field scope names eoi one ks f i z (Some k) e h there =
    let found = some_item scope.marks names eoi one ks i k h e in
    subst (λ o. IsItemField scope eoi o f z) (sym found.1) (field_is scope names eoi found.0 k f z found.2 there)

pub items_fields : (scope : Scope) (names eoi : ℕ) (one : Option Sym) (ks : Kids) (f : CoreField) (i z : ℤ) → ItemsOf scope.marks names eoi one ks
    → field_of_item scope.names f (core.item_at ks i) ≡ Some z → IsItemField scope eoi one f z
items_fields scope names eoi one ks f i z h there = item_field scope names eoi one ks f i z (core.item_at ks i) refl h there
