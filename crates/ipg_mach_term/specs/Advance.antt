-- What the term at hand of an open call makes of it, as rows say it.
use Rattle.std.specs.Prelude.{◌≡◌, ℕ, suc, ◌-◌, ◌≤◌, List, [], ◌∷◌, ◌++◌, slice_get, Result, Ok, Err, Option, Some, None, false, pos, ◌+ℤ◌, FitsSigned}
use Rattle.std.specs.Int.{w64}
use Rattle.ipg_core.specs.declared.grammar.Sym.{Sym}
use Rattle.ipg_core.specs.declared.grammar.CoreTerm.{CoreTerm}
use Rattle.ipg_core.specs.declared.grammar.CoreTerm.TheVariants as core
use Rattle.ipg_core.specs.Tree as tree
use Rattle.ipg_core.specs.Tree.{Tree, kids_of}
use Rattle.ipg_core.specs.Touch.{ends_of}
use Rattle.ipg_core.specs.Within.{TreeWithin, KidWithin}
use Rattle.ipg_core.specs.Environment as environment
use Rattle.ipg_core.specs.Environment.{Environment}
use Rattle.ipg_core.specs.Run.{Stop, NoTree, OutOfRange, Asked, Run}
use Rattle.ipg_core.specs.Meaning as meaning
use Rattle.ipg_core.specs.Meaning.{Frame, State, with_kid, with_value}
use Rattle.ipg_mach_moves.specs.Moves as moves
use Rattle.ipg_mach_moves.specs.Moves.{Past}
use Rattle.ipg_mach_nodes.specs.declared.kid.Kid.{Kid}
use Rattle.ipg_mach_nodes.specs.Stored.{Stored, Source, StandsKid}
use Rattle.ipg_mach_results.specs.Flat.{has_items}
use Rattle.ipg_mach_slot.specs.Found.{Calls}
use Rattle.ipg_mach_slot.specs.Now.{IsDone}
use Rattle.ipg_mach_term.specs.declared.entry.TermEntry.{TermEntry}
use Rattle.ipg_mach_term.specs.declared.entry.TermEntry.TheVariants as entry
use Rattle.ipg_mach_term.specs.declared.advance.Advance.{Advance}
use Rattle.ipg_mach_term.specs.declared.advance.Advance.TheVariants as advance
use Rattle.ipg_mach_term.specs.declared.advance.AtHand.{AtHand}
use Rattle.ipg_mach_term.specs.declared.advance.AtHand.TheVariants as hand

-- where the term at hand was entered in a part of n bytes, with its items so far
abbrev pub IsEntry : ℕ → TermEntry → List tree.Kid → moves.Entry → Type 0
IsEntry n entry.Outside items e = (items ≡ []) × (e ≡ moves.Outside)
IsEntry n (entry.Items left item) items e =
    (k : ℕ) × (left ≡ suc k) × (e ≡ moves.Items (suc k) item items) × FitsSigned w64 item × FitsSigned w64 (item +ℤ pos left)
IsEntry n (entry.Turns at to) items e = (e ≡ moves.Turns at to items) × (at ≤ to) × (to ≤ n)

-- where a repetition was entered, its items end by the end of its interval
abbrev pub EndsBy : TermEntry → ℕ → Type 0
EndsBy (entry.Turns at to) end = end ≤ to
EndsBy entry.Outside end = Unit {0}
EndsBy (entry.Items left item) end = Unit {0}

-- what expressions of the term at hand are evaluated in; in an array its items so far stand for its result
abbrev pub environment_at : Frame → State → ℕ → moves.Entry → CoreTerm → Environment
environment_at f state u (moves.Items n i items) (core.Repeat first last sym from to) =
    meaning.environment f (with_kid state u false (tree.Array sym (kids_of items))) (Some i)
environment_at f state u e term = meaning.environment f state None

-- a row of what was parsed in a part of n bytes, which is no array and no repetition
pub record IsItem (src : Source) (st : Stored) (at n : ℕ) (row : Kid) (one : tree.Kid) : Type 0 where
  pub stands : StandsKid src st at row one
  pub within : KidWithin n one
  pub single : has_items one ≡ false

-- what was parsed for a term entered there, or that there is none
abbrev pub IsParsed : Source → Stored → ℕ → ℕ → TermEntry → Option Kid → Result tree.Kid Stop → Type 0
IsParsed src st at n e None answer = answer ≡ Err NoTree
IsParsed src st at n e (Some row) answer = (one : tree.Kid) × IsItem src st at n row one × EndsBy e (ends_of one).end × (answer ≡ Ok one)

-- what the term u makes of the call, its items so far at hand
module _ (src : Source) (st : Stored) (at n u : ℕ) (state : State) (items : List tree.Kid) where
  abbrev pub IsAdvance : Advance → Result moves.Advance Stop → Type 0
  IsAdvance (advance.Value attr z) result = FitsSigned w64 z × (result ≡ Ok (Past (with_value state attr z)))
  IsAdvance advance.Passed result = result ≡ Ok (Past state)
  IsAdvance (advance.Result row) result =
      (one : environment.Done) × IsDone src st at n row one × (result ≡ Ok (Past (with_kid state u one.is_switch one.kid)))
  IsAdvance (advance.Array sym) result =
      (one : Sym) × (slice_get src.syms sym ≡ Some one) × (result ≡ Ok (Past (with_kid state u false (tree.Array one (kids_of items)))))
  IsAdvance (advance.Last sym row) result =
      (one : Sym) × (slice_get src.syms sym ≡ Some one) × (item : tree.Kid) × IsItem src st at n row item
      × (result ≡ Ok (Past (with_kid state u false (tree.Array one (kids_of (items ++ item ∷ []))))))
  IsAdvance (advance.Many sym) result =
      (one : Sym) × (slice_get src.syms sym ≡ Some one) × (result ≡ Ok (Past (with_kid state u false (tree.Many one (kids_of items)))))
  IsAdvance (advance.Inside entry) result = (e : moves.Entry) × IsEntry n entry items e × (result ≡ Ok (moves.Inside e))
  IsAdvance (advance.Item row entry) result =
      (item : tree.Kid) × IsItem src st at n row item × (e : moves.Entry) × IsEntry n entry (items ++ item ∷ []) e × (result ≡ Ok (moves.Inside e))
  IsAdvance advance.NoTree result = result ≡ Err NoTree
  IsAdvance advance.Range result = result ≡ Err OutOfRange

  -- it makes no call, and comes to this
  abbrev pub IsMade : Advance → Run moves.Advance → Type 0
  IsMade adv run = (run.asked ≡ []) × IsAdvance adv run.answer

  -- it comes to this with no call, or makes one; an item's lies in the interval of its repetition
  abbrev pub IsAtHand : Frame → TermEntry → AtHand → Run moves.Advance → Type 0
  IsAtHand f entry (hand.Makes adv) run = IsMade adv run
  IsAtHand f entry (hand.Calls rule from to) run = Calls f state.own rule from to run.asked × EndsBy entry to

-- a tree that a call on an interval gives, as a child, ends by where the interval does
abbrev pub SubEndsBy : Type 0
SubEndsBy = (e : TermEntry) (from to : ℕ) (one : Tree) → from ≤ to → EndsBy e to → TreeWithin (to - from) one → EndsBy e (ends_of (tree.Sub from to one)).end

-- a move that makes a call is, once that is answered, what the term makes of the tree as a child, or of that there is none
abbrev pub AnsweredIsTaken : Type 0
AnsweredIsTaken = (f : Frame) (state : State) (u : ℕ) (e : moves.Entry) (term : CoreTerm) (ask : Asked) (answer : Result Tree Stop)
    → (moves.advance moves.silent f state u e (Some term)).asked ≡ ask ∷ []
    → (moves.advance (moves.always answer) f state u e (Some term)).answer
    ≡ moves.taken state u e term (moves.lifted (tree.Sub ask.from ask.to) answer)
