-- A call of a global rule is passed no attributes.
use Rattle.std.proofs.Common.{◌≡◌, ℕ, suc, ◌+◌, ℤ, sym, ap, subst, List, [], ◌∷◌, ◌++◌, Option, Some, None, Result, Ok, Err, Bool, true, false}
use Rattle.std.proofs.Common.{if◌then◌else◌, length}
use Rattle.std.specs.Prelude.{slice_get}
use Rattle.std.specs.List.{AllByRecursion}
use Rattle.ipg_core.specs.declared.grammar.Primitive.{Primitive}
use Rattle.ipg_core.specs.declared.grammar.Primitive.TheVariants.{Bytes}
use Rattle.ipg_core.specs.declared.grammar.Sym.{Sym}
use Rattle.ipg_core.specs.declared.grammar.Sym.TheVariants.{Text, Prim, Rule}
use Rattle.ipg_core.specs.declared.grammar.CoreExpr.{CoreExpr}
use Rattle.ipg_core.specs.declared.grammar.CoreSlot.{CoreSlot}
use Rattle.ipg_core.specs.declared.grammar.CoreTerm.{CoreTerm}
use Rattle.ipg_core.specs.declared.grammar.CoreTerm.TheVariants.{Slot, Set, Test, Repeat, Many, Pick}
use Rattle.ipg_core.specs.Grammar.{Grammar, rule_at, holder_of}
use Rattle.ipg_core.specs.Part.{interval}
use Rattle.ipg_core.specs.Environment.{Values}
use Rattle.ipg_core.specs.Eval.{eval, is_zero}
use Rattle.ipg_core.specs.Run.{Stop, NoTree, Asked, Run, finish, stop, after, go_on, ◌>>=◌}
use Rattle.ipg_core.specs.Meaning.{Frame, State, Place, environment, value_in, outer_for, ask, token_on, number_on, primitive_on, symbol_on, slot_on}
use Rattle.ipg_core.specs.Meaning.{item_end, item_on, pick_on}
use Rattle.ipg_mach_moves.specs.Moves.{Entry, Outside, Items, Turns, OpenCall, silent, parsed, advance, first_left, at_hand}
use Rattle.ipg_mach_count_laws.specs.Standing.{CallsSit}
use Rattle.ipg_mach_count_laws.proofs.Follows.{value_asks, some_asks}
use Rattle.ipg_mach_count_laws.proofs.Parts.{part_stands}

abbrev pub IsPlain : Grammar → Asked → Type 0
IsPlain g ask = holder_of (rule_at g ask.callee) ≡ None → ask.outer ≡ []

module _ (f : Frame) where
  record Plain {A : Type 0} (run : Run A) : Type 0 where
    all : AllByRecursion (IsPlain f.grammar) run.asked

  plain_stop : {A : Type 0} (why : Stop) → Plain {A = A} (stop why)
  unfolding stop
  plain_stop why = record { all = tt }

  plain_finish : {A : Type 0} (a : A) → Plain (finish a)
  unfolding finish
  plain_finish a = record { all = tt }

  plain_go : {A B : Type 0} (answer : Result A Stop) (go : A → Run B) → ((a : A) → Plain (go a)) → Plain (go_on answer go)
  unfolding go_on stop
  plain_go (Ok a) go h = h a
  plain_go (Err why) go h = plain_stop why

  plain_then : {A B : Type 0} (run : Run A) (go : A → Run B) → run.asked ≡ [] → ((a : A) → Plain (go a)) → Plain (run >>= go)
  unfolding ◌>>=◌ after
  plain_then run go e h = record {
    all = subst (λ xs. AllByRecursion (IsPlain f.grammar) (xs ++ (go_on run.answer go).asked)) (sym e) (plain_go run.answer go h).all;
  }

  plain_value : {A : Type 0} (state : State) (item : Option ℤ) (e : CoreExpr) (go : ℤ → Run A) → ((z : ℤ) → Plain (go z))
      → Plain (value_in f state item e >>= go)
  unfolding value_in
  plain_value state item e go h = plain_then _ go (value_asks (eval e (environment f state item))) h

  plain_chosen : {A : Type 0} (b : Bool) (x y : Run A) → Plain x → Plain y → Plain (if b then x else y)
  plain_chosen true x y h k = h
  plain_chosen false x y h k = k

  plain_number : (from to : ℕ) (bytes : List ℕ) (prim : Primitive) → Plain (number_on from to bytes prim)
  unfolding number_on
  plain_number from to bytes prim = plain_chosen _ _ _ (plain_stop _) (plain_finish _)

  plain_primitive : (from to : ℕ) (bytes : List ℕ) (prim : Primitive) → Plain (primitive_on from to bytes prim)
  plain_primitive from to bytes Bytes = plain_finish _
  plain_primitive from to bytes prim = plain_number from to bytes prim

  plain_symbol : (p : Place) (own : Values) (from to : ℕ) (one : Sym) → Plain (symbol_on silent f p own from to one)
  unfolding token_on stop ask ◌>>=◌ after go_on
  plain_symbol p own from to (Text token) = plain_chosen _ _ _ (plain_finish _) (plain_stop _)
  plain_symbol p own from to (Prim prim) = plain_primitive from to _ prim
  plain_symbol p own from to (Rule callee) = record { all = (λ e. ap (outer_for f own) e, tt) }

  plain_slot : (p : Place) (state : State) (item : Option ℤ) (slot : CoreSlot) → Plain (slot_on silent f p state item slot)
  unfolding slot_on
  plain_slot p state item slot =
      plain_value state item slot.from _ (λ from. plain_value state item slot.to _ (λ to.
      plain_then _ _ (some_asks (interval (length f.bytes) from to)) (λ ends. plain_symbol p state.own ends.0 ends.1 slot.sym)))

  plain_item : (p : Place) (own : Values) (from to : ℕ) (one : Sym) → Plain (item_on silent f p own from to one)
  unfolding item_on
  plain_item p own from to one = plain_then _ _ (some_asks (item_end from to one)) (λ end. plain_symbol p own from end one)

  plain_pick : (p : Place) (state : State) (cases : List (CoreExpr × CoreSlot)) (other : CoreSlot) → Plain (pick_on silent f p state cases other)
  unfolding pick_on
  plain_pick p state [] other = plain_slot p state None other
  plain_pick p state (c ∷ cases) other =
      plain_value state None c.0 _ (λ x.
      plain_chosen (is_zero x) _ _ (plain_pick (record p { branch = p.branch + 1 }) state cases other) (plain_slot p state None c.1))

  plain_parsed : (state : State) (u : ℕ) (entry : Entry) (term : CoreTerm) → Plain (parsed silent f state u entry term)
  plain_parsed state u Outside (Slot slot) = plain_slot _ state None slot
  plain_parsed state u Outside (Pick cases other) = plain_pick _ state cases other
  plain_parsed state u (Items (suc n) i items) (Repeat first last one from to) = plain_slot _ _ (Some i) _
  plain_parsed state u (Turns p r items) (Many one from to) = plain_item _ state.own p r one
  plain_parsed state u entry term = plain_stop _

  pub plain_one : (state : State) (u : ℕ) (entry : Entry) (term : CoreTerm) (one : Asked) → (parsed silent f state u entry term).asked ≡ one ∷ []
      → IsPlain f.grammar one
  plain_one state u entry term one e = (subst (AllByRecursion (IsPlain f.grammar)) e (plain_parsed state u entry term).all).0

  plain_advance : (state : State) (u : ℕ) (entry : Entry) (term : Option CoreTerm) → Plain (advance silent f state u entry term)
  plain_advance state u entry None = plain_stop NoTree
  plain_advance state u Outside (Some (Set attr e)) = plain_value state None e _ (λ z. plain_finish _)
  plain_advance state u Outside (Some (Test e)) =
      plain_value state None e _ (λ z. plain_chosen _ _ _ (plain_stop NoTree) (plain_finish _))
  plain_advance state u Outside (Some (Repeat first last one from to)) =
      plain_value state None first _ (λ a. plain_value state None last _ (λ b. plain_finish _))
  plain_advance state u Outside (Some (Many one from to)) =
      plain_value state None from _ (λ l. plain_value state None to _ (λ r.
      plain_then _ _ (some_asks (interval (length f.bytes) l r)) (λ ends. plain_finish _)))
  plain_advance state u entry (Some term) = record { all = (plain_parsed state u entry term).all }

plain_left : (c : OpenCall) (left : List ℕ) → AllByRecursion (IsPlain c.frame.grammar) (first_left silent c left).asked
unfolding stop
plain_left c [] = tt
plain_left c (u ∷ left) = (plain_advance c.frame c.state u c.entry (slice_get c.terms u)).all

-- each call that the term at hand makes
plain_hand : (c : OpenCall) (ask : Asked) (more : List Asked) → (at_hand silent c).asked ≡ ask ∷ more → IsPlain c.frame.grammar ask
plain_hand c ask more e = (subst (AllByRecursion (IsPlain c.frame.grammar)) e (plain_left c c.left)).0

pub calls_sit : CallsSit
calls_sit s c ask more stands asked = (part_stands s c.from ask.from ask.to c.frame.bytes stands, plain_hand c ask more asked)
