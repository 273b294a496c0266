-- The open evaluation: a stack of calls that goes on move by move, and comes to what the grammar means.
use Rattle.std.specs.Prelude.{ℕ, zero, suc, ◌+◌, max, List, [], ◌∷◌, ◌++◌, length, drop, Result, Ok, Err, Option, Some, None, Bool, false, ◌&&◌}
use Rattle.std.specs.Prelude.{nat_eq, if◌then◌else◌, ℤ, pos, ◌+ℤ◌, ◌-ℤ◌, slice_get, true}
use Rattle.ipg_core.specs.declared.grammar.Sym.{Sym}
use Rattle.ipg_core.specs.declared.grammar.CoreTerm.{CoreTerm}
use Rattle.ipg_core.specs.declared.grammar.CoreTerm.TheVariants.{Slot, Set, Test, Repeat, Many, Pick}
use Rattle.ipg_core.specs.declared.grammar.CoreAlt.{CoreAlt}
use Rattle.ipg_core.specs.declared.grammar.CoreRule.{CoreRule}
use Rattle.ipg_core.specs.Grammar.{Grammar, rule_at, holder_of}
use Rattle.ipg_core.specs.Part.{part, interval}
use Rattle.ipg_core.specs.Tree.{Tree, Kid, Array, Many as Repetition, kids_of}
use Rattle.ipg_core.specs.Touch.{touches, ends_of}
use Rattle.ipg_core.specs.Environment.{Values}
use Rattle.ipg_core.specs.Eval.{is_zero}
use Rattle.ipg_core.specs.Run.{Stop, NoTree, OutOfRange, Deep, Asked, Run, finish, stop, ◌>>=◌, some_of}
use Rattle.ipg_core.specs.Meaning.{Call, Frame, State, start, with_kid, with_value, value_in, slot_on, times, item_on, pick_on, node_of}

-- a rule on an interval of the input
pub record Key : Type 0 where
  pub rule : ℕ
  pub from : ℕ
  pub to : ℕ

-- where the term at hand was entered, and what it has come to since
pub data Entry : Type 0 where
  Outside : Entry
  -- an array: so many items are left, the next with this loop variable, behind those done
  Items : ℕ → ℤ → List Kid → Entry
  -- a repetition: its next item begins here, its interval ends there, behind the items done
  Turns : ℕ → ℕ → List Kid → Entry

-- an open call: an alternative of its rule at work on a part that begins at `from` in the input, what its terms have come
-- to, the terms that haven't run, the one at hand first, and the alternatives after this one
pub record OpenCall : Type 0 where
  pub frame : Frame
  pub from : ℕ
  pub terms : List CoreTerm
  pub alts : List CoreAlt
  pub state : State
  pub left : List ℕ
  pub entry : Entry

-- the highest call goes on, or holds its answer
pub data Highest : Type 0 where
  Works : OpenCall → Highest
  Holds : Key → Result Tree Stop → Highest

-- answers of calls of global rules
abbrev pub Known : Type 0
Known = List (Key × Result Tree Stop)

-- what has been counted so far: calls of global rules that were opened, answers that were known, the most calls open at once
pub record Tally : Type 0 where
  pub bodies : ℕ
  pub hits : ℕ
  pub deepest : ℕ

-- the calls that wait for the one above them, the nearest first; with a memo what is known
pub record Evaluation : Type 0 where
  pub lower : List OpenCall
  pub highest : Highest
  pub known : Option Known
  pub tally : Tally

-- ---- what is known

abbrev pub same_key : Key → Key → Bool
same_key a b = nat_eq a.rule b.rule && nat_eq a.from b.from && nat_eq a.to b.to

abbrev pub find : Known → Key → Option (Result Tree Stop)
find [] key = None
find (entry ∷ known) key = if same_key entry.0 key then Some entry.1 else find known key

-- the answer that is known of a call; without a memo none is
abbrev pub known_of : Option Known → Key → Option (Result Tree Stop)
known_of None key = None
known_of (Some known) key = find known key

abbrev pub learned : Option (ℕ × ℕ) → Known → Key → Result Tree Stop → Known
learned None known key answer = (key, answer) ∷ known
learned (Some holder) known key answer = known

-- an answer more, where the rule is global and there is a memo
abbrev pub learn : Grammar → Option Known → Key → Result Tree Stop → Option Known
learn g None key answer = None
learn g (Some known) key answer = Some (learned (holder_of (rule_at g key.rule)) known key answer)

-- ---- the term at hand

-- the term at hand, or its next item, has its result: the term goes on inside, or is past
pub data Advance : Type 0 where
  Inside : Entry → Advance
  Past : State → Advance

abbrev pub lifted : {A B : Type 0} → (A → B) → Result A Stop → Result B Stop
lifted k (Ok a) = Ok (k a)
lifted k (Err why) = Err why

-- an array is past with its last item
abbrev pub array_on : State → ℕ → Sym → ℕ → ℤ → List Kid → Advance
array_on state u sym zero i items = Past (with_kid state u false (Array sym (kids_of items)))
array_on state u sym (suc n) i items = Inside (Items (suc n) i items)

-- an item that touches a byte is kept; one that touches none, or has no tree, ends the repetition
abbrev pub repeated : State → ℕ → Sym → ℕ → List Kid → Result Kid Stop → Result Advance Stop
repeated state u sym r items (Ok item) =
    Ok (if touches (ends_of item) then Inside (Turns (ends_of item).end r (items ++ item ∷ []))
    else Past (with_kid state u false (Repetition sym (kids_of items))))
repeated state u sym r items (Err NoTree) = Ok (Past (with_kid state u false (Repetition sym (kids_of items))))
repeated state u sym r items (Err OutOfRange) = Err OutOfRange
repeated state u sym r items (Err Deep) = Err Deep

-- what is parsed next: the slot, the branch of the switch that is taken, the next item
abbrev pub parsed : Call → Frame → State → ℕ → Entry → CoreTerm → Run Kid
parsed call f state u Outside (Slot slot) = slot_on call f (record { term = u; branch = 0 }) state None slot
parsed call f state u Outside (Pick cases other) = pick_on call f (record { term = u; branch = 0 }) state cases other
parsed call f state u (Items (suc n) i items) (Repeat first last sym from to) =
    slot_on call f (record { term = u; branch = 0 }) (with_kid state u false (Array sym (kids_of items))) (Some i) (record { sym = sym; from = from; to = to })
parsed call f state u (Turns p r items) (Many sym from to) = item_on call f (record { term = u; branch = 0 }) state.own p r sym
parsed call f state u entry term = stop NoTree

-- what the term makes of that
abbrev pub taken : State → ℕ → Entry → CoreTerm → Result Kid Stop → Result Advance Stop
taken state u Outside (Slot slot) kid = lifted (λ k. Past (with_kid state u false k)) kid
taken state u Outside (Pick cases other) kid = lifted (λ k. Past (with_kid state u true k)) kid
taken state u (Items (suc n) i items) (Repeat first last sym from to) kid = lifted (λ k. array_on state u sym n (i +ℤ pos 1) (items ++ k ∷ [])) kid
taken state u (Turns p r items) (Many sym from to) kid = repeated state u sym r items kid
taken state u entry term kid = Err NoTree

-- an attribute and a test have their value, an array is entered by its bounds, a repetition by its ends; all else parses
abbrev pub advance : Call → Frame → State → ℕ → Entry → Option CoreTerm → Run Advance
advance call f state u entry None = stop NoTree
advance call f state u Outside (Some (Set attr e)) = do
  z ← value_in f state None e
  finish (Past (with_value state attr z))
advance call f state u Outside (Some (Test e)) = do
  z ← value_in f state None e
  if is_zero z then stop NoTree else finish (Past state)
advance call f state u Outside (Some (Repeat first last sym from to)) = do
  a ← value_in f state None first
  b ← value_in f state None last
  finish (array_on state u sym (times (b -ℤ a)) a [])
advance call f state u Outside (Some (Many sym from to)) = do
  l ← value_in f state None from
  r ← value_in f state None to
  ends ← some_of (interval (length f.bytes) l r)
  finish (Inside (Turns ends.0 ends.1 []))
advance call f state u entry (Some term) =
    let kid = parsed call f state u entry term in record { answer = taken state u entry term kid.answer; asked = kid.asked }

abbrev pub first_left : Call → OpenCall → List ℕ → Run Advance
first_left call c [] = stop NoTree
first_left call c (u ∷ left) = advance call c.frame c.state u c.entry (slice_get c.terms u)

-- what the call makes of its term at hand; it asks one call at most
abbrev pub at_hand : Call → OpenCall → Run Advance
at_hand call c = first_left call c c.left

-- ---- one move

abbrev pub key_at : Frame → ℕ → Key
key_at f from = record { rule = f.rule; from = from; to = from + length f.bytes }

-- with these terms left: the first of them, or the node
abbrev pub runs_on : OpenCall → State → List ℕ → Highest
runs_on c state [] = Holds (key_at c.frame c.from) (Ok (node_of c.frame c.terms state))
runs_on c state (u ∷ left) = Works (record c { state = state; left = u ∷ left; entry = Outside })

-- the first of the alternatives, with no term done; where there is none, there is no tree
abbrev pub begins : Frame → ℕ → List CoreAlt → Highest
begins f from [] = Holds (key_at f from) (Err NoTree)
begins f from (alt ∷ alts) =
    let fresh = start (length alt.terms) in
    runs_on (record { frame = f; from = from; terms = alt.terms; alts = alts; state = fresh; left = []; entry = Outside }) fresh alt.order

abbrev pub alts_of : Option CoreRule → List CoreAlt
alts_of None = []
alts_of (Some rule) = rule.alts

-- a call of a rule on a part that begins at `from`
abbrev pub opened : Grammar → ℕ → List ℕ → ℕ → Values → Highest
opened g r bytes from outer = begins (record { grammar = g; rule = r; alt = 0; bytes = bytes; outer = outer }) from (alts_of (rule_at g r))

-- the term at hand has come to this: the call goes on, with its next alternative where there is no tree
abbrev pub turned : OpenCall → Result Advance Stop → Highest
turned c (Ok (Inside entry)) = Works (record c { entry = entry })
turned c (Ok (Past state)) = runs_on c state (drop 1 c.left)
turned c (Err NoTree) = begins (record c.frame { alt = c.frame.alt + 1 }) c.from c.alts
turned c (Err OutOfRange) = Holds (key_at c.frame c.from) (Err OutOfRange)
turned c (Err Deep) = Holds (key_at c.frame c.from) (Err Deep)

-- whatever is called, this is the answer
abbrev pub always : Result Tree Stop → Call
always answer r s outer = answer

-- whatever is called isn't answered yet
abbrev pub silent : Call
silent = always (Err Deep)

-- the part and the key of a call that an open call makes
abbrev pub asked_part : OpenCall → Asked → List ℕ
asked_part c ask = part c.frame.bytes ask.from ask.to

abbrev pub asked_key : OpenCall → Asked → Key
asked_key c ask = record { rule = ask.callee; from = c.from + ask.from; to = c.from + ask.from + length (asked_part c ask) }

-- one more body, where the rule is global
abbrev pub body : Option (ℕ × ℕ) → ℕ
body None = 1
body (Some holder) = 0

-- one call more is open, so many with it
abbrev pub one_opened : Tally → Option (ℕ × ℕ) → ℕ → Tally
one_opened t holder open_calls = record t { bodies = t.bodies + body holder; deepest = max t.deepest open_calls }

abbrev pub one_known : Tally → Tally
one_known t = record t { hits = t.hits + 1 }

-- a call that is known has its answer at once; any other is opened
abbrev pub asks : Evaluation → OpenCall → Asked → Option (Result Tree Stop) → Evaluation
asks e c ask (Some answer) = record e { highest = turned c (at_hand (always answer) c).answer; tally = one_known e.tally }
asks e c ask None = record e {
  lower = c ∷ e.lower;
  highest = opened c.frame.grammar ask.callee (asked_part c ask) (c.from + ask.from) ask.outer;
  tally = one_opened e.tally (holder_of (rule_at c.frame.grammar ask.callee)) (length e.lower + 2);
}

-- the highest call works on its term at hand: it makes no call, or makes one
abbrev pub works : Evaluation → OpenCall → Result Advance Stop → List Asked → Evaluation
works e c answer [] = record e { highest = turned c answer }
works e c answer (ask ∷ more) = asks e c ask (known_of e.known (asked_key c ask))

-- the highest call is taken away, and its answer goes to the one below
abbrev pub returns : Evaluation → Key → Result Tree Stop → List OpenCall → Evaluation
returns e key answer [] = e
returns e key answer (c ∷ lower) = record e {
  lower = lower;
  highest = turned c (at_hand (always answer) c).answer;
  known = learn c.frame.grammar e.known key answer;
}

abbrev pub move_by : Evaluation → Highest → Evaluation
move_by e (Works c) = let run = at_hand silent c in works e c run.answer run.asked
move_by e (Holds key (Err OutOfRange)) = e
move_by e (Holds key answer) = returns e key answer e.lower

-- an evaluation that has ended stays
unfoldable pub move : Evaluation → Evaluation
move e = move_by e e.highest

unfoldable pub moves : ℕ → Evaluation → Evaluation
moves zero e = e
moves (suc n) e = moves n (move e)

-- the first rule on the whole input, with what is known beforehand
unfoldable pub opening : Grammar → List ℕ → Option Known → Evaluation
opening g s known = record { lower = []; highest = opened g 0 s 0 []; known = known; tally = record { bodies = 1; hits = 0; deepest = 1 } }

abbrev pub ended_by : List OpenCall → Highest → Option (Result Tree Stop)
ended_by lower (Works c) = None
ended_by lower (Holds key (Err OutOfRange)) = Some (Err OutOfRange)
ended_by [] (Holds key answer) = Some answer
ended_by (c ∷ lower) (Holds key answer) = None

-- the answer with which it has ended: the lowest call holds it, or a value left 64 bits
abbrev pub ended : Evaluation → Option (Result Tree Stop)
ended e = ended_by e.lower e.highest
