-- A call of an edge that is made on its caller's whole part.
use Rattle.std.specs.Prelude.{◌≡◌, ℕ, List, [], ◌∷◌, ◌++◌, length, Some, None, Ok, false, Contains, slice_get, ℤ, ◌≤ℤ◌, ◌<ℤ◌}
use Rattle.ipg_num.specs.declared.op.Answer.TheVariants.{Val}
use Rattle.ipg_core.specs.declared.grammar.CoreSlot.{CoreSlot}
use Rattle.ipg_core.specs.declared.grammar.CoreTerm.TheVariants.{Repeat}
use Rattle.ipg_core.specs.Tree.{Kid, Array, kids_of}
use Rattle.ipg_core.specs.Eval.{eval}
use Rattle.ipg_facts_laws.specs.Ran.{IsWholeCall, CallsWhole}
use Rattle.ipg_core.specs.declared.grammar.CoreTerm.{CoreTerm}
use Rattle.ipg_core.specs.declared.grammar.CoreAlt.{CoreAlt}
use Rattle.ipg_core.specs.declared.grammar.CoreRule.{CoreRule}
use Rattle.ipg_core.specs.Grammar.{Grammar}
use Rattle.ipg_core.specs.Environment.{Values}
use Rattle.ipg_core.specs.Run.{Asked}
use Rattle.ipg_core.specs.Meaning.{Call, Frame, State, environment, with_kid, start, items_on, term_on, terms_on, den}
use Rattle.ipg_core.specs.Good.{AltAt}
use Rattle.ipg_core.specs.Grown.{IsInput, Grown}
use Rattle.ipg_graph.specs.declared.edge.Edge.{Edge}

-- the caller's alternative at work on s
abbrev pub frame_of : Grammar → Edge → List ℕ → Values → Frame
frame_of g e s outer = record { grammar = g; rule = e.caller; alt = e.alt; bytes = s; outer = outer }

-- a call that stands where the edge does, on an interval from the first to behind the last of n bytes: an item's of an
-- array, the first item's of a repetition, the taken branch's of a switch
pub record IsCallOf (e : Edge) (n : ℕ) (asked : Asked) : Type 0 where
  pub alt : asked.alt ≡ e.alt
  pub term : asked.term ≡ e.term
  pub branch : asked.branch ≡ e.branch
  pub callee : asked.callee ≡ e.callee
  pub from : asked.from ≡ 0
  pub to : asked.to ≡ n

-- an item of an array from a to b is called on the whole part, behind the items that were before it
pub record ItemCalls (call : Call) (f : Frame) (state : State) (term : ℕ) (slot : CoreSlot) (a b : ℤ) : Type 0 where
  pub count : ℕ
  pub items : List Kid
  pub came : (items_on call f term state slot count a []).answer ≡ Ok items
  pub turn : ℤ
  pub begun : a ≤ℤ turn
  pub ends : turn <ℤ b
  pub whole : IsWholeCall (environment f (with_kid state term false (Array slot.sym (kids_of items))) (Some turn)) slot.from slot.to

-- in this state a term makes a call of that branch on the whole part
abbrev pub CallsAt : Call → Frame → State → ℕ → ℕ → CoreTerm → Type 0
CallsAt call f state term b (Repeat first last item from to) =
    (ends : ℤ × ℤ) × (eval first (environment f state None) ≡ Val ends.0) × (eval last (environment f state None) ≡ Val ends.1)
    × ItemCalls call f state term (record { sym = item; from = from; to = to }) ends.0 ends.1
CallsAt call f state term b other = CallsWhole (environment f state None) b other

-- the terms before the edge's have results, and the edge's term then makes that call
pub record Reached (g : Grammar) (e : Edge) (s : List ℕ) (outer : Values) (height : ℕ) : Type 0 where
  pub rule : CoreRule
  pub alt : CoreAlt
  pub at : AltAt g rule alt (e.caller, e.alt)
  -- the terms that have run, and those behind the edge's
  pub before : List ℕ
  pub behind : List ℕ
  pub splits : alt.order ≡ before ++ e.term ∷ behind
  pub state : State
  pub came : (terms_on (den g height) (frame_of g e s outer) alt.terms before (start (length alt.terms))).answer ≡ Ok state
  pub term : CoreTerm
  pub is_term : slice_get alt.terms e.term ≡ Some term
  pub asked : Asked
  pub asks : Contains (term_on (den g height) (frame_of g e s outer) state e.term (Some term)).asked asked
  pub is_call : IsCallOf e (length s) asked

-- an edge is reached on some part of n bytes
pub record ReachedOn (g : Grammar) (n : ℕ) (e : Edge) : Type 0 where
  pub part : List ℕ
  pub input : IsInput part
  pub size : length part ≡ n
  pub outer : Values
  pub grown : Grown g e.caller part outer
  pub height : ℕ
  pub reached : Reached g e part outer height
