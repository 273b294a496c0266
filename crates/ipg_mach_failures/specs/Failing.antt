-- When the term at hand of an open call fails by itself, why, and where.
use Rattle.std.specs.Prelude.{ℕ, suc, ◌+◌, ◌-◌, max, List, [], ◌∷◌, length, take, Option, Some, None, false, if◌then◌else◌, ℤ}
use Rattle.std.specs.Prelude.{nat_eq, nat_lt, bytes_eq, slice_get}
use Rattle.ipg_num.specs.declared.op.Answer.{Answer}
use Rattle.ipg_num.specs.declared.op.Answer.TheVariants.{Val, Fail, Range}
use Rattle.ipg_core.specs.declared.grammar.Primitive.{Primitive}
use Rattle.ipg_core.specs.declared.grammar.Sym.{Sym}
use Rattle.ipg_core.specs.declared.grammar.Sym.TheVariants.{Text, Prim, Rule}
use Rattle.ipg_core.specs.declared.grammar.CoreExpr.{CoreExpr}
use Rattle.ipg_core.specs.declared.grammar.CoreSlot.{CoreSlot}
use Rattle.ipg_core.specs.declared.grammar.CoreTerm.{CoreTerm}
use Rattle.ipg_core.specs.declared.grammar.CoreTerm.TheVariants.{Slot, Set, Test, Repeat, Many, Pick}
use Rattle.ipg_core.specs.Part.{part, interval}
use Rattle.ipg_core.specs.Tree.{Kid, kid, Array, kids_of, items_of}
use Rattle.ipg_core.specs.Touch.{width}
use Rattle.ipg_core.specs.Environment.{Done}
use Rattle.ipg_core.specs.Eval.{eval, is_zero, greatest_end}
use Rattle.ipg_core.specs.Meaning.{Frame, State, environment, with_kid, item_end}
use Rattle.ipg_mach_moves.specs.Moves.{Entry, Outside, Items, Turns, OpenCall}
use Rattle.ipg_mach_failures.specs.declared.failure.Cause.{Cause}
use Rattle.ipg_mach_failures.specs.declared.failure.Cause.TheVariants.{Differs, CutShort, NoInterval, IsZero, NoValue}
use Rattle.ipg_mach_failures.specs.declared.failure.Miss.{Miss}
use Rattle.ipg_mach_failures.specs.declared.failure.Failure.{Failure}

abbrev pub miss : ℕ → Cause → Option ℕ → Miss
miss branch cause place = record { branch = branch; cause = cause; place = place }

-- ---- how far a call has come

abbrev pub or_zero : Option ℕ → ℕ
or_zero None = 0
or_zero (Some n) = n

-- the greatest end of a result that touches, its items among them; 0 where none does
abbrev pub end_in : Option Done → ℕ
end_in None = 0
end_in (Some d) = or_zero (greatest_end (kid d.kid (items_of d.kid)))

abbrev pub reach_of : List (Option Done) → ℕ
reach_of [] = 0
reach_of (d ∷ done) = max (end_in d) (reach_of done)

-- the items of the term at hand so far
abbrev pub items_so_far : Entry → List Kid
items_so_far Outside = []
items_so_far (Items n i items) = items
items_so_far (Turns p r items) = items

-- the end of what an alternative has touched so far, in its part
abbrev pub reached : State → Entry → ℕ
reached state entry = max (reach_of state.done) (or_zero (greatest_end (kids_of (items_so_far entry))))

-- ---- symbols

-- how many bytes agree with those that are wanted, before the first that doesn't
abbrev pub agreed : List ℕ → List ℕ → ℕ
agreed [] bytes = 0
agreed (want ∷ wanted) [] = 0
agreed (want ∷ wanted) (byte ∷ bytes) = if nat_eq want byte then suc (agreed wanted bytes) else 0

-- a terminal, at the first byte that differs or is lacking
abbrev pub token_fails : ℕ → ℕ → List ℕ → List ℕ → Option Miss
token_fails branch from bytes token =
    if bytes_eq token (take (length token) bytes) then None
    else Some (miss branch (Differs (agreed token bytes)) (Some (from + agreed token bytes)))

-- a number, at the end of the bytes, which agree with whatever number is wanted
abbrev pub number_fails : ℕ → ℕ → List ℕ → Primitive → Option Miss
number_fails branch from bytes prim =
    if nat_lt (length bytes) (width prim) then Some (miss branch (CutShort (length bytes)) (Some (from + length bytes))) else None

-- a symbol on a valid interval of the part; a call of a rule doesn't fail by itself
abbrev pub symbol_fails : ℕ → List ℕ → ℕ → ℕ → Sym → Option Miss
symbol_fails branch bytes from to (Text token) = token_fails branch from (part bytes from to) token
symbol_fails branch bytes from to (Prim prim) = number_fails branch from (part bytes from to) prim
symbol_fails branch bytes from to (Rule callee) = None

-- ---- expressions and intervals

-- an expression without a value has no place of its own; where it has one, the rest of the term decides
abbrev pub on_value : ℕ → Answer → (ℤ → Option Miss) → Option Miss
on_value branch (Val z) rest = rest z
on_value branch Fail rest = Some (miss branch NoValue None)
on_value branch Range rest = None

-- two values that are no ends of an interval have no place of their own
abbrev pub on_interval : ℕ → ℤ → ℤ → Option (ℕ × ℕ) → (ℕ → ℕ → Option Miss) → Option Miss
on_interval branch l r None rest = Some (miss branch (NoInterval l r) None)
on_interval branch l r (Some ends) rest = rest ends.0 ends.1

abbrev pub zero_fails : ℤ → Option Miss
zero_fails z = if is_zero z then Some (miss 0 IsZero None) else None

-- ---- terms

module _ (f : Frame) (state : State) where
  abbrev pub slot_fails : ℕ → Option ℤ → CoreSlot → Option Miss
  slot_fails branch item slot =
      on_value branch (eval slot.from (environment f state item)) (λ l.
      on_value branch (eval slot.to (environment f state item)) (λ r.
      on_interval branch l r (interval (length f.bytes) l r) (λ from to. symbol_fails branch f.bytes from to slot.sym)))

  -- the first branch whose condition isn't 0, else the last one
  abbrev pub pick_fails : ℕ → List (CoreExpr × CoreSlot) → CoreSlot → Option Miss
  pick_fails branch [] other = slot_fails branch None other
  pick_fails branch (c ∷ cases) other =
      on_value branch (eval c.0 (environment f state None)) (λ x.
      if is_zero x then pick_fails (branch + 1) cases other else slot_fails branch None c.1)

  abbrev pub test_fails : CoreExpr → Option Miss
  test_fails e = on_value 0 (eval e (environment f state None)) zero_fails

  -- an array as it is entered
  abbrev pub bounds_fail : CoreExpr → CoreExpr → Option Miss
  bounds_fail first last = on_value 0 (eval first (environment f state None)) (λ a. on_value 0 (eval last (environment f state None)) (λ b. None))

  -- a repetition as it is entered
  abbrev pub ends_fail : CoreExpr → CoreExpr → Option Miss
  ends_fail from to =
      on_value 0 (eval from (environment f state None)) (λ l.
      on_value 0 (eval to (environment f state None)) (λ r.
      on_interval 0 l r (interval (length f.bytes) l r) (λ from to. None)))

-- the next item of a repetition from p to r
abbrev pub item_fails : List ℕ → ℕ → ℕ → Sym → Option ℕ → Option Miss
item_fails bytes p r sym None = Some (miss 0 (CutShort (r - p)) (Some r))
item_fails bytes p r sym (Some to) = symbol_fails 0 bytes p to sym

-- a term, or its next item
abbrev pub term_fails : Frame → State → ℕ → Entry → CoreTerm → Option Miss
term_fails f state u Outside (Slot slot) = slot_fails f state 0 None slot
term_fails f state u Outside (Pick cases other) = pick_fails f state 0 cases other
term_fails f state u Outside (Set attr e) = on_value 0 (eval e (environment f state None)) (λ z. None)
term_fails f state u Outside (Test e) = test_fails f state e
term_fails f state u Outside (Repeat first last sym from to) = bounds_fail f state first last
term_fails f state u Outside (Many sym from to) = ends_fail f state from to
term_fails f state u (Items (suc n) i items) (Repeat first last sym from to) =
    slot_fails f (with_kid state u false (Array sym (kids_of items))) 0 (Some i) (record { sym = sym; from = from; to = to })
term_fails f state u (Turns p r items) (Many sym from to) = item_fails f.bytes p r sym (item_end p r sym)
term_fails f state u entry term = None

abbrev pub given_fails : Frame → State → ℕ → Entry → Option CoreTerm → Option Miss
given_fails f state u entry None = None
given_fails f state u entry (Some term) = term_fails f state u entry term

-- ---- an open call

-- which item of an array or a repetition is at hand
abbrev pub item_at_hand : Entry → Option ℕ
item_at_hand Outside = None
item_at_hand (Items n i items) = Some (length items)
item_at_hand (Turns p r items) = Some (length items)

-- in its part; what has no place of its own is told where the alternative has come to
abbrev pub place_of : OpenCall → Option ℕ → ℕ
place_of c None = reached c.state c.entry
place_of c (Some place) = place

-- the miss of its term u, as a failure at a place of the input
abbrev pub failure_at : OpenCall → ℕ → Option Miss → Option Failure
failure_at c u None = None
failure_at c u (Some m) = Some (record {
  rule = c.frame.rule;
  alt = c.frame.alt;
  from = c.from;
  to = c.from + length c.frame.bytes;
  term = u;
  branch = m.branch;
  item = item_at_hand c.entry;
  cause = m.cause;
  place = c.from + place_of c m.place;
})

abbrev pub first_fails : OpenCall → List ℕ → Option Failure
first_fails c [] = None
first_fails c (u ∷ left) = failure_at c u (given_fails c.frame c.state u c.entry (slice_get c.terms u))

-- its term at hand, where that fails by itself
abbrev pub call_fails : OpenCall → Option Failure
call_fails c = first_fails c c.left
