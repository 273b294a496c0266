-- What a term that has run puts: one table for the caller's terms and for the holder's.
use Rattle.std.specs.Prelude.{ℕ, zero, suc, List, [], ◌∷◌, ◌++◌, length, Option, Some, None, Bool, pos, slice_get, slice_set, codes, if◌then◌else◌}
use Rattle.ipg_core.specs.declared.grammar.Primitive.{Primitive}
use Rattle.ipg_core.specs.declared.grammar.Primitive.TheVariants.{Bytes}
use Rattle.ipg_core.specs.declared.grammar.Sym.{Sym}
use Rattle.ipg_core.specs.declared.grammar.Sym.TheVariants.{Text, Prim, Rule}
use Rattle.ipg_core.specs.declared.grammar.CoreExpr.{CoreExpr}
use Rattle.ipg_core.specs.declared.grammar.CoreSlot.{CoreSlot}
use Rattle.ipg_core.specs.declared.grammar.CoreTerm.{CoreTerm}
use Rattle.ipg_core.specs.declared.grammar.CoreTerm.TheVariants.{Slot, Set, Test, Repeat, Many, Pick}
use Rattle.ipg_core.specs.Touch.{width}
use Rattle.ipg_core.specs.MustTouch.{is_marked}
use Rattle.ipg_facts_forms.specs.declared.fact.Form.{Form}
use Rattle.ipg_facts_forms.specs.declared.fact.Fact.{Fact}
use Rattle.ipg_facts_forms.specs.declared.fact.Fact.TheVariants.{All, Any}
use Rattle.ipg_facts.specs.declared.bounds.Bounds.{Bounds}
use Rattle.ipg_facts.specs.declared.edition.Edition.{Edition}
use Rattle.ipg_facts.specs.declared.edition.Edition.TheVariants.{Earlier, Later}
use Rattle.ipg_facts_variables.specs.Variable.{start, end, named, attribute, loop}
use Rattle.ipg_facts_forms.specs.Form.{mention, shifted, leq, less, equal, choice}
use Rattle.ipg_facts.specs.Reading.{Scope, length_of, nought, ranges, greatest, read, form}

-- the interval [l, r] is valid
unfoldable pub is_valid : Scope → Form → Form → List Fact
is_valid scope l r = leq nought l ++ (leq l r ++ leq r (length_of scope))

abbrev pub start_of : Scope → ℕ → Form
start_of scope term = mention (start scope.side term) []

abbrev pub end_of : Scope → ℕ → Form
end_of scope term = mention (end scope.side term) []

-- the result of a term on [l, r] touches nothing
unfoldable pub touches_none : Scope → ℕ → Form → Form → List Fact
touches_none scope term l r = equal (start_of scope term) r ++ equal (end_of scope term) l

-- it touches a byte
unfoldable pub touches_some : Scope → ℕ → Form → Form → List Fact
touches_some scope term l r =
    leq l (start_of scope term) ++ (less (start_of scope term) (end_of scope term) ++ leq (end_of scope term) r)

-- it touches the first w bytes
unfoldable pub touches_first : Scope → ℕ → Form → Form → ℕ → List Fact
touches_first scope term l r w =
    equal (start_of scope term) l ++ (equal (end_of scope term) (shifted l (pos w)) ++ leq (end_of scope term) r)

-- it touches all bytes
unfoldable pub touches_all : Scope → ℕ → Form → Form → List Fact
touches_all scope term l r = equal (start_of scope term) l ++ equal (end_of scope term) r

unfoldable pub attr_ranges : Scope → ℕ → Primitive → List ℕ → List Fact
attr_ranges scope term prim name = ranges (mention (named scope.side term name) []) (greatest prim name)

-- a number's attributes are from 0 to their greatest values
unfoldable pub number_ranges : Scope → ℕ → Primitive → List Fact
number_ranges scope term prim =
    attr_ranges scope term prim (codes "hi") ++ (attr_ranges scope term prim (codes "lo") ++ attr_ranges scope term prim (codes "val"))

unfoldable pub text_touches : Scope → ℕ → Form → Form → ℕ → List Fact
text_touches scope term l r zero = touches_none scope term l r
text_touches scope term l r (suc w) = touches_first scope term l r (suc w)

unfoldable pub number_touches : Scope → ℕ → Form → Form → Primitive → List Fact
number_touches scope term l r prim = touches_first scope term l r (width prim) ++ number_ranges scope term prim

unfoldable pub primitive_touches : Scope → ℕ → Form → Form → Primitive → List Fact
primitive_touches scope term l r Bytes = touches_all scope term l r
primitive_touches scope term l r prim = number_touches scope term l r prim

unfoldable pub rule_touches : Scope → ℕ → Form → Form → Bool → List Fact
rule_touches scope term l r must =
    if must then touches_some scope term l r
    else choice (touches_some scope term l r) (touches_none scope term l r)

-- what a result touches, by its symbol
unfoldable pub touches : Scope → ℕ → Sym → Form → Form → List Fact
touches scope term (Text bytes) l r = text_touches scope term l r (length bytes)
touches scope term (Prim prim) l r = primitive_touches scope term l r prim
touches scope term (Rule callee) l r = rule_touches scope term l r (is_marked scope.marks callee)

unfoldable pub on_interval : Scope → ℕ → Sym → Form → Form → List Fact
on_interval scope term sym l r = is_valid scope l r ++ touches scope term sym l r

abbrev pub slot_members : Scope → ℕ → CoreSlot → List Fact
slot_members scope term slot = on_interval scope term slot.sym (form scope slot.from) (form scope slot.to)

-- one member for each branch: the conditions before it false, its own true, and what the branch puts as a slot
unfoldable pub branches : Scope → ℕ → List Fact → List (CoreExpr × CoreSlot) → CoreSlot → List Fact
branches scope term earlier [] other = All (earlier ++ slot_members scope term other) ∷ []
branches scope term earlier (c ∷ cases) other =
    All (earlier ++ ((read scope c.0).holds ++ slot_members scope term c.1))
    ∷ branches scope term (earlier ++ (read scope c.0).fails) cases other

unfoldable pub members : Scope → ℕ → Option CoreTerm → List Fact
members scope term None = []
members scope term (Some (Slot slot)) = slot_members scope term slot
members scope term (Some (Set attr e)) = equal (mention (attribute scope.side attr) []) (form scope e)
members scope term (Some (Test e)) = (read scope e).holds
members scope term (Some (Repeat first last item from to)) = []
members scope term (Some (Many item from to)) = is_valid scope (form scope from) (form scope to)
members scope term (Some (Pick cases other)) = Any (branches scope term [] cases other) ∷ []

-- the bounds of arrays, one more of which has run; the earlier conditions know of none
abbrev pub with_bounds : Edition → Scope → ℕ → CoreExpr → CoreExpr → List (Option Bounds)
with_bounds Earlier scope term first last = scope.arrays
with_bounds Later scope term first last = slice_set scope.arrays term (Some (record { first = form scope first; last = form scope last }))

unfoldable pub arrays_with : Scope → ℕ → Option CoreTerm → List (Option Bounds)
arrays_with scope term (Some (Repeat first last item from to)) = with_bounds scope.edition scope term first last
arrays_with scope term _ = scope.arrays

-- the bounds of an array that has run are known from then on
unfoldable pub passed : Scope → ℕ → Scope
passed scope term = record scope { arrays = arrays_with scope term (slice_get scope.terms term) }

unfoldable pub passed_all : Scope → List ℕ → Scope
passed_all scope [] = scope
passed_all scope (term ∷ order) = passed_all (passed scope term) order

-- the members of terms that run one after another
unfoldable pub terms_members : Scope → List ℕ → List Fact
terms_members scope [] = []
terms_members scope (term ∷ order) = members scope term (slice_get scope.terms term) ++ terms_members (passed scope term) order

-- the call is made on the whole part
unfoldable pub is_whole : Scope → CoreExpr → CoreExpr → List Fact
is_whole scope from to = equal (form scope from) nought ++ equal (form scope to) (length_of scope)

-- the branch b of a switch is taken, and on the whole part
unfoldable pub takes : Scope → List (CoreExpr × CoreSlot) → CoreSlot → ℕ → List Fact
takes scope [] other b = is_whole scope other.from other.to
takes scope (c ∷ cases) other zero = (read scope c.0).holds ++ is_whole scope c.1.from c.1.to
takes scope (c ∷ cases) other (suc b) = (read scope c.0).fails ++ takes scope cases other b

-- the loop variable is within the bounds
unfoldable pub runs : Scope → CoreExpr → CoreExpr → List Fact
runs scope first last =
    leq (form scope first) (mention (loop scope.side) []) ++ less (mention (loop scope.side) []) (form scope last)

-- the edge's own members: its call is made on the whole part; of a repetition that is the first item's
unfoldable pub own_members : Scope → ℕ → Option CoreTerm → List Fact
own_members scope branch None = []
own_members scope branch (Some (Slot slot)) = is_whole scope slot.from slot.to
own_members scope branch (Some (Set attr e)) = []
own_members scope branch (Some (Test e)) = []
own_members scope branch (Some (Repeat first last item from to)) = runs scope first last ++ is_whole scope from to
own_members scope branch (Some (Many item from to)) = is_whole scope from to
own_members scope branch (Some (Pick cases other)) = takes scope cases other branch

abbrev pub own_at : Scope → ℕ → ℕ → List Fact
own_at scope term branch = own_members scope branch (slice_get scope.terms term)
