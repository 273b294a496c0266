-- What a grammar means: the tree that a rule has on a part, found to a height.
use Rattle.std.specs.Prelude.{◌≡◌, ◌≢◌, ℕ, zero, suc, ◌+◌, List, [], ◌∷◌, ◌++◌, Result, Ok, Err, Option, Some, None, Bool, true, false, ℤ, pos, negsuc}
use Rattle.std.specs.Prelude.{◌+ℤ◌, ◌-ℤ◌, ◌-◌, drop, length, replicate, nat_lt, nat_le, bytes_eq, take, if◌then◌else◌, slice_get, slice_set}
use Rattle.std.specs.Int.{w8, w16, w32, from_le_bytes, from_be_bytes}
use Rattle.ipg_core.specs.declared.grammar.Primitive.{Primitive}
use Rattle.ipg_core.specs.declared.grammar.Primitive.TheVariants.{U8, U16LE, U16BE, U32LE, U32BE, U64LE, U64BE, Bytes}
use Rattle.ipg_core.specs.declared.grammar.Sym.{Sym}
use Rattle.ipg_core.specs.declared.grammar.Sym.TheVariants.{Text, Prim, Rule}
use Rattle.ipg_core.specs.declared.grammar.CoreExpr.{CoreExpr}
use Rattle.ipg_core.specs.declared.grammar.CoreSlot.{CoreSlot}
use Rattle.ipg_core.specs.declared.grammar.CoreTerm.{CoreTerm}
use Rattle.ipg_core.specs.declared.grammar.CoreTerm.TheVariants.{Slot, Set, Test, Repeat, Many, Pick}
use Rattle.ipg_core.specs.declared.grammar.CoreAlt.{CoreAlt}
use Rattle.ipg_core.specs.declared.grammar.CoreRule.{CoreRule}
use Rattle.ipg_core.specs.Grammar.{Grammar, rule_at, holder_of, same_place}
use Rattle.ipg_core.specs.Part.{part, interval}
use Rattle.ipg_core.specs.Tree.{Tree, Node, Kid, Sub, Token, Number, Raw, Array, Many as Repetition, kids_of}
use Rattle.ipg_core.specs.Touch.{width, untouched, touches, ends_of, kids_touch}
use Rattle.ipg_core.specs.Environment.{Values, value_at, Done, Environment}
use Rattle.ipg_core.specs.Eval.{eval, is_zero}
use Rattle.ipg_core.specs.Run.{Stop, NoTree, OutOfRange, Deep, Run, finish, stop, after, ◌>>=◌, or_else, value_of, some_of}

-- what a call answers: a rule on a part, with the holder's attributes
abbrev pub Call : Type 0
Call = ℕ → List ℕ → Values → Result Tree Stop

-- an alternative at work: the grammar, the rule and the alternative by number, the part, the holder's attributes
pub record Frame : Type 0 where
  pub grammar : Grammar
  pub rule : ℕ
  pub alt : ℕ
  pub bytes : List ℕ
  pub outer : Values

-- how far an alternative has come: the attributes set, and the results by the terms' numbers
pub record State : Type 0 where
  pub own : Values
  pub done : List (Option Done)

abbrev pub start : ℕ → State
start terms = record { own = []; done = replicate terms None }

unfoldable pub with_value : State → ℕ → ℤ → State
with_value state attr z = record state { own = state.own ++ (attr, z) ∷ [] }

unfoldable pub with_kid : State → ℕ → Bool → Kid → State
with_kid state term is_switch kid = record state { done = slice_set state.done term (Some (record { is_switch = is_switch; kid = kid })) }

unfoldable pub environment : Frame → State → Option ℤ → Environment
environment f state item = record { eoi = length f.bytes; own = state.own; outer = f.outer; item = item; done = state.done; names = f.grammar.names }

-- the value of an expression in a state
unfoldable pub value_in : Frame → State → Option ℤ → CoreExpr → Run ℤ
value_in f state item e = value_of (eval e (environment f state item))

-- the attributes that a rule called from here may read as its holder's: none for a global rule, those set so far
-- for a local rule of this alternative, and those that this rule was called with for one of the same holder
abbrev pub outer_for : Frame → Values → Option (ℕ × ℕ) → Values
outer_for f own None = []
outer_for f own (Some holder) = if same_place holder (f.rule, f.alt) then own else f.outer

-- where a slot stands: its term, and its branch in a switch
pub record Place : Type 0 where
  pub term : ℕ
  pub branch : ℕ

-- makes a call, and logs it
unfoldable pub ask : Call → Frame → Place → ℕ → ℕ → ℕ → Values → Run Tree
ask call f place callee from to outer = record {
  answer = call callee (part f.bytes from to) outer;
  asked = record { alt = f.alt; term = place.term; branch = place.branch; callee = callee; from = from; to = to; outer = outer } ∷ [];
}

-- the number that the first bytes hold, in halves of 32 bits where it has 64
abbrev pub halves : Primitive → List ℕ → ℕ × ℕ
halves U8 bytes = (0, from_le_bytes w8 bytes)
halves U16LE bytes = (0, from_le_bytes w16 bytes)
halves U16BE bytes = (0, from_be_bytes w16 bytes)
halves U32LE bytes = (0, from_le_bytes w32 bytes)
halves U32BE bytes = (0, from_be_bytes w32 bytes)
halves U64LE bytes = (from_le_bytes w32 (drop 4 bytes), from_le_bytes w32 bytes)
halves U64BE bytes = (from_be_bytes w32 bytes, from_be_bytes w32 (drop 4 bytes))
halves Bytes bytes = (0, 0)

-- a terminal, where the bytes begin with it
unfoldable pub token_on : ℕ → ℕ → List ℕ → List ℕ → Run Kid
token_on from to bytes token = if bytes_eq token (take (length token) bytes) then finish (Token from to token) else stop NoTree

-- a number, where there are enough bytes
unfoldable pub number_on : ℕ → ℕ → List ℕ → Primitive → Run Kid
number_on from to bytes prim =
    if nat_lt (length bytes) (width prim) then stop NoTree
    else (let h = halves prim bytes in finish (Number from to prim h.0 h.1))

abbrev pub primitive_on : ℕ → ℕ → List ℕ → Primitive → Run Kid
primitive_on from to bytes Bytes = finish (Raw from to bytes)
primitive_on from to bytes prim = number_on from to bytes prim

-- a symbol on a valid interval
abbrev pub symbol_on : Call → Frame → Place → Values → ℕ → ℕ → Sym → Run Kid
symbol_on call f place own from to (Text token) = token_on from to (part f.bytes from to) token
symbol_on call f place own from to (Prim prim) = primitive_on from to (part f.bytes from to) prim
symbol_on call f place own from to (Rule callee) = do
  tree ← ask call f place callee from to (outer_for f own (holder_of (rule_at f.grammar callee)))
  finish (Sub from to tree)

-- a slot: its left end, its right end, a valid interval, its symbol
unfoldable pub slot_on : Call → Frame → Place → State → Option ℤ → CoreSlot → Run Kid
slot_on call f place state item slot = do
  from ← value_in f state item slot.from
  to ← value_in f state item slot.to
  ends ← some_of (interval (length f.bytes) from to)
  symbol_on call f place state.own ends.0 ends.1 slot.sym

-- the items of an array, of which n are left, the next with the loop variable i
unfoldable pub items_on : Call → Frame → ℕ → State → CoreSlot → ℕ → ℤ → List Kid → Run (List Kid)
items_on call f term state slot zero i items = finish items
items_on call f term state slot (suc n) i items = do
  item ← slot_on call f (record { term = term; branch = 0 }) (with_kid state term false (Array slot.sym (kids_of items))) (Some i) slot
  items_on call f term state slot n (i +ℤ pos 1) (items ++ item ∷ [])

-- how many items an array has
abbrev pub times : ℤ → ℕ
times (pos n) = n
times (negsuc n) = 0

-- where an item of a repetition from p to r ends its part: a number takes its width, all else what is left
abbrev pub item_end : ℕ → ℕ → Sym → Option ℕ
item_end p r (Text token) = Some r
item_end p r (Rule callee) = Some r
item_end p r (Prim Bytes) = Some r
item_end p r (Prim prim) = if nat_le (p + width prim) r then Some (p + width prim) else None

-- an item of a repetition
unfoldable pub item_on : Call → Frame → Place → Values → ℕ → ℕ → Sym → Run Kid
item_on call f place own p r sym = do
  to ← some_of (item_end p r sym)
  symbol_on call f place own p to sym

-- an item that touches a byte is kept, and the repetition goes on from its end; one that touches none, or has no tree,
-- ends the repetition
unfoldable pub kept : Result Kid Stop → List Kid → (ℕ → List Kid → Run (List Kid)) → Run (List Kid)
kept (Ok item) items go = if touches (ends_of item) then go (ends_of item).end (items ++ item ∷ []) else finish items
kept (Err NoTree) items go = finish items
kept (Err OutOfRange) items go = stop OutOfRange
kept (Err Deep) items go = stop Deep

-- the items of a repetition from p to r, in n turns at most
unfoldable pub many_on : Call → Frame → Place → Values → Sym → ℕ → ℕ → ℕ → List Kid → Run (List Kid)
many_on call f place own sym zero p r items = finish items
many_on call f place own sym (suc n) p r items =
    let item = item_on call f place own p r sym in
    after item.asked (kept item.answer items (λ end more. many_on call f place own sym n end r more))

-- each item that is kept touches a byte, so these turns suffice
abbrev pub turns : ℕ → ℕ → ℕ
turns l r = (r - l) + 1

-- a repetition: its left end, its right end, a valid interval, its items
unfoldable pub repetition_on : Call → Frame → Place → State → CoreSlot → Run (List Kid)
repetition_on call f place state slot = do
  from ← value_in f state None slot.from
  to ← value_in f state None slot.to
  ends ← some_of (interval (length f.bytes) from to)
  many_on call f place state.own slot.sym (turns ends.0 ends.1) ends.0 ends.1 []

-- the first branch whose condition isn't 0, else the last one
unfoldable pub pick_on : Call → Frame → Place → State → List (CoreExpr × CoreSlot) → CoreSlot → Run Kid
pick_on call f place state [] other = slot_on call f place state None other
pick_on call f place state (c ∷ cases) other = do
  x ← value_in f state None c.0
  if is_zero x then pick_on call f (record place { branch = place.branch + 1 }) state cases other
      else slot_on call f place state None c.1

-- a term leads from one state to the next
abbrev pub term_on : Call → Frame → State → ℕ → Option CoreTerm → Run State
term_on call f state u None = stop NoTree
term_on call f state u (Some (Slot slot)) = do
  kid ← slot_on call f (record { term = u; branch = 0 }) state None slot
  finish (with_kid state u false kid)
term_on call f state u (Some (Set attr e)) = do
  z ← value_in f state None e
  finish (with_value state attr z)
term_on call f state u (Some (Test e)) = do
  z ← value_in f state None e
  if is_zero z then stop NoTree else finish state
term_on call f state u (Some (Repeat first last sym from to)) = do
  a ← value_in f state None first
  b ← value_in f state None last
  items ← items_on call f u state (record { sym = sym; from = from; to = to }) (times (b -ℤ a)) a []
  finish (with_kid state u false (Array sym (kids_of items)))
term_on call f state u (Some (Many sym from to)) = do
  items ← repetition_on call f (record { term = u; branch = 0 }) state (record { sym = sym; from = from; to = to })
  finish (with_kid state u false (Repetition sym (kids_of items)))
term_on call f state u (Some (Pick cases other)) = do
  kid ← pick_on call f (record { term = u; branch = 0 }) state cases other
  finish (with_kid state u true kid)

-- terms one after another
unfoldable pub terms_on : Call → Frame → List CoreTerm → List ℕ → State → Run State
terms_on call f terms [] state = finish state
terms_on call f terms (u ∷ order) state = do
  next ← term_on call f state u (slice_get terms u)
  terms_on call f terms order next

-- the children in text order
abbrev pub kids_done : List (Option Done) → List Kid
kids_done [] = []
kids_done (None ∷ ds) = kids_done ds
kids_done (Some d ∷ ds) = d.kid ∷ kids_done ds

-- an attribute with its value, where it has one
abbrev pub entry : ℕ → Option ℤ → Values
entry a None = []
entry a (Some z) = (a, z) ∷ []

-- the attributes in text order
abbrev pub attrs_set : List CoreTerm → Values → Values
attrs_set [] own = []
attrs_set (Set a e ∷ terms) own = entry a (value_at own a) ++ attrs_set terms own
attrs_set (Slot s ∷ terms) own = attrs_set terms own
attrs_set (Test e ∷ terms) own = attrs_set terms own
attrs_set (Repeat first last sym from to ∷ terms) own = attrs_set terms own
attrs_set (Many sym from to ∷ terms) own = attrs_set terms own
attrs_set (Pick cases other ∷ terms) own = attrs_set terms own

-- the node of an alternative whose terms have all run
unfoldable pub node_of : Frame → List CoreTerm → State → Tree
node_of f terms state =
    let kids = kids_of (kids_done state.done) in
    let ends = kids_touch kids (untouched (length f.bytes)) in
    Node f.rule (length f.bytes) (attrs_set terms state.own) ends.start ends.end kids

unfoldable pub alt_on : Call → Frame → CoreAlt → Run Tree
alt_on call f alt = do
  state ← terms_on call f alt.terms alt.order (start (length alt.terms))
  finish (node_of f alt.terms state)

-- the first alternative that answers other than NoTree
unfoldable pub alts_on : Call → Frame → List CoreAlt → Run Tree
alts_on call f [] = stop NoTree
alts_on call f (alt ∷ alts) = or_else (alt_on call f alt) (alts_on call (record f { alt = f.alt + 1 }) alts)

abbrev pub rule_run : Call → Frame → Option CoreRule → Run Tree
rule_run call f None = stop NoTree
rule_run call f (Some rule) = alts_on call f rule.alts

-- a rule on a part
unfoldable pub rule_on : Call → Grammar → ℕ → List ℕ → Values → Run Tree
rule_on call g r s outer = rule_run call (record { grammar = g; rule = r; alt = 0; bytes = s; outer = outer }) (rule_at g r)

-- the answer of a rule on a part where calls nest at most h deep
unfoldable pub den : Grammar → ℕ → Call
den g zero r s outer = Err Deep
den g (suc h) r s outer = (rule_on (den g h) g r s outer).answer

-- the answer of the first rule on the whole input, at some height that suffices
pub record Means (g : Grammar) (s : List ℕ) (answer : Result Tree Stop) : Type 0 where
  pub height : ℕ
  pub is : den g height 0 s [] ≡ answer
  pub settled : answer ≢ Err Deep
