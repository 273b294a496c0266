-- What it says of an environment that a term has run, and that a term makes a call on the whole part.
use Rattle.std.specs.Prelude.{◌≡◌, ℕ, zero, suc, ◌≤◌, List, [], ◌∷◌, Option, Some, None, Bool, true, false, ℤ, pos, ◌≤ℤ◌, ◌<ℤ◌, nat_lt, slice_get}
use Rattle.ipg_num.specs.Number.{limited}
use Rattle.ipg_num.specs.declared.op.Answer.TheVariants.{Val}
use Rattle.ipg_core.specs.declared.grammar.Sym.{Sym}
use Rattle.ipg_core.specs.declared.grammar.CoreExpr.{CoreExpr}
use Rattle.ipg_core.specs.declared.grammar.CoreSlot.{CoreSlot}
use Rattle.ipg_core.specs.declared.grammar.CoreTerm.{CoreTerm}
use Rattle.ipg_core.specs.declared.grammar.CoreTerm.TheVariants.{Slot, Set, Test, Repeat, Many, Pick}
use Rattle.ipg_core.specs.Environment.{Environment, Done, value_at, done_at, items_so_far}
use Rattle.ipg_core.specs.Eval.{eval, is_zero, greatest_end}
use Rattle.ipg_facts.specs.Reading.{Scope, least_width}
use Rattle.ipg_facts_laws.specs.Known.{IsPlace, IsResult}

-- the ends of an interval that is valid
pub record IsValid (env : Environment) (from to : CoreExpr) : Type 0 where
  pub l : ℕ
  pub r : ℕ
  pub is_left : eval from env ≡ Val (pos l)
  pub is_right : eval to env ≡ Val (pos r)
  pub order : l ≤ r
  pub inside : r ≤ env.eoi

-- the term's slot has a result
pub record SlotRan (marks : List Bool) (env : Environment) (term : ℕ) (slot : CoreSlot) : Type 0 where
  pub valid : IsValid env slot.from slot.to
  pub done : Done
  pub there : done_at env.done term ≡ Some done
  pub result : IsResult marks slot.sym valid.l valid.r done.kid

-- by a condition's value: it is taken where that isn't 0, else the rest goes on
abbrev pub Chosen : Bool → Type 0 → Type 0 → Type 0
Chosen false taken rest = taken
Chosen true taken rest = rest

-- the first branch whose condition isn't 0 has a result, else the last one
abbrev pub PickRan : List Bool → Environment → ℕ → List (CoreExpr × CoreSlot) → CoreSlot → Type 0
PickRan marks env term [] other = SlotRan marks env term other
PickRan marks env term (c ∷ cases) other =
    (x : ℤ) × (eval c.0 env ≡ Val x) × Chosen (is_zero x) (SlotRan marks env term c.1) (PickRan marks env term cases other)

-- what two bounds say of the items between them, each of which touches: there are some where they are apart
abbrev pub AreBetween : ℕ → ℤ → ℤ → Option ℕ → Type 0
AreBetween eoi a b None = b ≤ℤ a
AreBetween eoi a b (Some end) = (a <ℤ b) × IsPlace eoi end

-- an array that has run
pub record ArrayRan (marks : List Bool) (env : Environment) (term : ℕ) (first last : CoreExpr) (item : Sym) : Type 0 where
  pub a : ℤ
  pub b : ℤ
  pub is_first : eval first env ≡ Val a
  pub is_last : eval last env ≡ Val b
  pub between : nat_lt 0 (least_width marks (Some item)) ≡ true → AreBetween env.eoi a b (greatest_end (items_so_far (done_at env.done term)))

abbrev pub TermRan : List Bool → Environment → ℕ → CoreTerm → Type 0
TermRan marks env term (Slot slot) = SlotRan marks env term slot
TermRan marks env term (Set attr e) = (z : ℤ) × (eval e env ≡ Val z) × (value_at env.own attr ≡ Some z)
TermRan marks env term (Test e) = (z : ℤ) × (eval e env ≡ Val z) × (is_zero z ≡ false)
TermRan marks env term (Repeat first last item from to) = ArrayRan marks env term first last item
TermRan marks env term (Many item from to) = IsValid env from to
TermRan marks env term (Pick cases other) = PickRan marks env term cases other

abbrev pub AtRan : List Bool → Environment → ℕ → Option CoreTerm → Type 0
AtRan marks env term None = Unit {0}
AtRan marks env term (Some t) = TermRan marks env term t

-- the terms of these numbers have run
abbrev pub AllRan : Scope → Environment → List ℕ → Type 0
AllRan scope env [] = Unit {0}
AllRan scope env (term ∷ order) = AtRan scope.marks env term (slice_get scope.terms term) × AllRan scope env order

-- an interval is the whole part
pub record IsWholeCall (env : Environment) (from to : CoreExpr) : Type 0 where
  pub is_left : eval from env ≡ Val (pos 0)
  pub is_right : eval to env ≡ Val (pos env.eoi)

-- the loop variable is within the bounds of the array
pub record Turns (env : Environment) (first last : CoreExpr) : Type 0 where
  pub a : ℤ
  pub b : ℤ
  pub turn : ℤ
  pub is_first : eval first env ≡ Val a
  pub is_last : eval last env ≡ Val b
  pub is_turn : env.item ≡ Some turn
  pub number : limited turn ≡ Val turn
  pub begun : a ≤ℤ turn
  pub ends : turn <ℤ b

-- the branch of that number is taken, and calls on the whole part
abbrev pub TakesWhole : Environment → List (CoreExpr × CoreSlot) → CoreSlot → ℕ → Type 0
TakesWhole env [] other b = IsWholeCall env other.from other.to
TakesWhole env (c ∷ cases) other zero = (x : ℤ) × (eval c.0 env ≡ Val x) × (is_zero x ≡ false) × IsWholeCall env c.1.from c.1.to
TakesWhole env (c ∷ cases) other (suc b) = (x : ℤ) × (eval c.0 env ≡ Val x) × (is_zero x ≡ true) × TakesWhole env cases other b

-- a term's call in that branch is made on the whole part
abbrev pub CallsWhole : Environment → ℕ → CoreTerm → Type 0
CallsWhole env b (Slot slot) = IsWholeCall env slot.from slot.to
CallsWhole env b (Set attr e) = Unit {0}
CallsWhole env b (Test e) = Unit {0}
CallsWhole env b (Repeat first last item from to) = Turns env first last × IsWholeCall env from to
CallsWhole env b (Many item from to) = IsWholeCall env from to
CallsWhole env b (Pick cases other) = TakesWhole env cases other b
