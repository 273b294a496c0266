-- A term fails by itself exactly where the meaning gives it no result.
use Rattle.std.proofs.Common.{◌≡◌, ℕ, zero, suc, ◌+◌, refl, sym, ◌∙◌, arith, List, [], ◌∷◌, Option, Some, None, Result, Ok, Err, Bool, true, false, length, ℤ}
use Rattle.std.specs.Prelude.{is_some, nat_lt, bytes_eq, take, if◌then◌else◌}
use Rattle.std.proofs.lemmas.Bool.{le-ltb}
use Rattle.ipg_num.specs.declared.op.Answer.{Answer}
use Rattle.ipg_num.specs.declared.op.Answer.TheVariants.{Val, Fail, Range}
use Rattle.ipg_core.specs.declared.grammar.Primitive.{Primitive}
use Rattle.ipg_core.specs.declared.grammar.Primitive.TheVariants.{U8, U16LE, U16BE, U32LE, U32BE, U64LE, U64BE, Bytes}
use Rattle.ipg_core.specs.declared.grammar.Sym.{Sym}
use Rattle.ipg_core.specs.declared.grammar.Sym.TheVariants.{Text, Prim, Rule}
use Rattle.ipg_core.specs.declared.grammar.CoreExpr.{CoreExpr}
use Rattle.ipg_core.specs.declared.grammar.CoreSlot.{CoreSlot}
use Rattle.ipg_core.specs.declared.grammar.CoreTerm.{CoreTerm}
use Rattle.ipg_core.specs.declared.grammar.CoreTerm.TheVariants.{Slot, Set, Test, Repeat, Many, Pick}
use Rattle.ipg_core.specs.Part.{part, interval}
use Rattle.ipg_core.specs.Tree.{Tree, Sub, Array, kids_of}
use Rattle.ipg_core.specs.Touch.{width}
use Rattle.ipg_core.specs.Eval.{eval, is_zero}
use Rattle.ipg_core.specs.Environment.{Values}
use Rattle.ipg_core.specs.Run.{Stop, NoTree, OutOfRange, Deep, Run, finish, stop, after, go_on, value_of, some_of, ◌>>=◌}
use Rattle.ipg_core.specs.Meaning.{Call, Frame, State, Place, environment, with_kid, value_in, ask, slot_on, pick_on, item_on, item_end, symbol_on}
use Rattle.ipg_core.specs.Meaning.{token_on, number_on, primitive_on}
use Rattle.ipg_mach_moves.specs.Moves.{Entry, Outside, Items, Turns, lifted, advance}
use Rattle.ipg_mach_failures.specs.declared.failure.Miss.{Miss}
use Rattle.ipg_mach_failures.specs.Failing.{token_fails, number_fails, symbol_fails, on_value, on_interval, slot_fails, pick_fails, test_fails}
use Rattle.ipg_mach_failures.specs.Failing.{bounds_fail, ends_fail, item_fails, term_fails}
use Rattle.ipg_mach_failures.specs.Laws.{MayEnter, NeverNone, is_no_tree, has_none, FailsWhereNone}

-- ---- one step of a run

of_value : {A : Type 0} (branch : ℕ) (a : Answer) (go : ℤ → Run A) (rest : ℤ → Option Miss)
    → ((z : ℤ) → is_some (rest z) ≡ is_no_tree (go z).answer) → is_some (on_value branch a rest) ≡ is_no_tree (value_of a >>= go).answer
unfolding ◌>>=◌ after go_on finish stop
of_value branch (Val z) go rest each = each z
of_value branch Fail go rest each = refl
of_value branch Range go rest each = refl

of_interval : {A : Type 0} (branch : ℕ) (l r : ℤ) (ends : Option (ℕ × ℕ)) (go : ℕ × ℕ → Run A) (rest : ℕ → ℕ → Option Miss)
    → ((e : ℕ × ℕ) → is_some (rest e.0 e.1) ≡ is_no_tree (go e).answer)
    → is_some (on_interval branch l r ends rest) ≡ is_no_tree (some_of ends >>= go).answer
unfolding ◌>>=◌ after go_on finish stop
of_interval branch l r None go rest each = refl
of_interval branch l r (Some ends) go rest each = each ends

of_lifted : {A B : Type 0} (k : A → B) (r : Result A Stop) → is_no_tree (lifted k r) ≡ is_no_tree r
of_lifted k (Ok a) = refl
of_lifted k (Err NoTree) = refl
of_lifted k (Err OutOfRange) = refl
of_lifted k (Err Deep) = refl

-- ---- symbols

of_token : (branch from to : ℕ) (bytes token : List ℕ) (b : Bool) → bytes_eq token (take (length token) bytes) ≡ b
    → is_some (token_fails branch from bytes token) ≡ is_no_tree (token_on from to bytes token).answer
unfolding token_on finish stop
of_token branch from to bytes token true e = rw e refl
of_token branch from to bytes token false e = rw e refl

of_number : (branch from to : ℕ) (bytes : List ℕ) (prim : Primitive) (b : Bool) → nat_lt (length bytes) (width prim) ≡ b
    → is_some (number_fails branch from bytes prim) ≡ is_no_tree (number_on from to bytes prim).answer
unfolding number_on finish stop
of_number branch from to bytes prim true e = rw e refl
of_number branch from to bytes prim false e = rw e refl

of_raw : (branch from to : ℕ) (bytes : List ℕ) → is_some (number_fails branch from bytes Bytes) ≡ is_no_tree (primitive_on from to bytes Bytes).answer
unfolding finish
of_raw branch from to bytes = let enough : nat_lt (length bytes) 0 ≡ false = le-ltb (length bytes) 0 (omega arith) in rw enough refl

of_primitive : (branch from to : ℕ) (bytes : List ℕ) (prim : Primitive)
    → is_some (number_fails branch from bytes prim) ≡ is_no_tree (primitive_on from to bytes prim).answer
of_primitive branch from to bytes Bytes = of_raw branch from to bytes
of_primitive branch from to bytes U8 = of_number branch from to bytes U8 _ refl
of_primitive branch from to bytes U16LE = of_number branch from to bytes U16LE _ refl
of_primitive branch from to bytes U16BE = of_number branch from to bytes U16BE _ refl
of_primitive branch from to bytes U32LE = of_number branch from to bytes U32LE _ refl
of_primitive branch from to bytes U32BE = of_number branch from to bytes U32BE _ refl
of_primitive branch from to bytes U64LE = of_number branch from to bytes U64LE _ refl
of_primitive branch from to bytes U64BE = of_number branch from to bytes U64BE _ refl

of_sub : (from to : ℕ) (answer : Result Tree Stop) → is_no_tree answer ≡ false
    → false ≡ is_no_tree (go_on answer (λ tree. finish (Sub from to tree))).answer
unfolding go_on finish stop
of_sub from to (Ok tree) h = refl
of_sub from to (Err NoTree) h = sym h
of_sub from to (Err OutOfRange) h = refl
of_sub from to (Err Deep) h = refl

module _ (call : Call) (never : NeverNone call) where
  of_symbol : (branch : ℕ) (f : Frame) (place : Place) (own : Values) (from to : ℕ) (one : Sym)
      → is_some (symbol_fails branch f.bytes from to one) ≡ is_no_tree (symbol_on call f place own from to one).answer
  unfolding ◌>>=◌ after go_on finish stop ask
  of_symbol branch f place own from to (Text token) = of_token branch from to (part f.bytes from to) token _ refl
  of_symbol branch f place own from to (Prim prim) = of_primitive branch from to (part f.bytes from to) prim
  of_symbol branch f place own from to (Rule callee) = of_sub from to (call callee (part f.bytes from to) _) (never callee _ _)

  -- ---- slots

  module _ (f : Frame) (state : State) where
    of_slot : (branch : ℕ) (place : Place) (item : Option ℤ) (slot : CoreSlot)
        → is_some (slot_fails f state branch item slot) ≡ is_no_tree (slot_on call f place state item slot).answer
    unfolding slot_on value_in
    of_slot branch place item slot =
        of_value branch (eval slot.from (environment f state item)) _ _ (λ l.
        of_value branch (eval slot.to (environment f state item)) _ _ (λ r.
        of_interval branch l r (interval (length f.bytes) l r) _ _ (λ e. of_symbol branch f place state.own e.0 e.1 slot.sym)))

    of_choice : {A : Type 0} (b : Bool) (x y : Option Miss) (one other : Run A) → is_some x ≡ is_no_tree one.answer → is_some y ≡ is_no_tree other.answer
        → is_some (if b then x else y) ≡ is_no_tree (if b then one else other).answer
    of_choice true x y one other e h = e
    of_choice false x y one other e h = h

    of_pick : (branch : ℕ) (place : Place) (cases : List (CoreExpr × CoreSlot)) (other : CoreSlot)
        → is_some (pick_fails f state branch cases other) ≡ is_no_tree (pick_on call f place state cases other).answer
    unfolding pick_on value_in
    of_pick branch place [] other = of_slot branch place None other
    of_pick branch place (c ∷ cases) other =
        of_value branch (eval c.0 (environment f state None)) _ _ (λ x.
        of_choice (is_zero x) _ _ _ _ (of_pick (branch + 1) (record place { branch = place.branch + 1 }) cases other) (of_slot branch place None c.1))

    of_test : (u : ℕ) (e : CoreExpr) → is_some (test_fails f state e) ≡ is_no_tree (advance call f state u Outside (Some (Test e))).answer
    unfolding value_in finish stop
    of_test u e = of_value 0 (eval e (environment f state None)) _ _ (λ z. of_choice (is_zero z) _ _ _ _ refl refl)

    of_set : (u attr : ℕ) (e : CoreExpr)
        → is_some (on_value 0 (eval e (environment f state None)) (λ z. None)) ≡ is_no_tree (advance call f state u Outside (Some (Set attr e))).answer
    unfolding value_in finish stop
    of_set u attr e = of_value 0 (eval e (environment f state None)) _ _ (λ z. refl)

    of_bounds : (u : ℕ) (first last : CoreExpr) (one : Sym) (from to : CoreExpr) → is_some (bounds_fail f state first last)
        ≡ is_no_tree (advance call f state u Outside (Some (Repeat first last one from to))).answer
    unfolding value_in finish stop
    of_bounds u first last one from to =
        of_value 0 (eval first (environment f state None)) _ _ (λ a. of_value 0 (eval last (environment f state None)) _ _ (λ b. refl))

    of_ends : (u : ℕ) (one : Sym) (from to : CoreExpr)
        → is_some (ends_fail f state from to) ≡ is_no_tree (advance call f state u Outside (Some (Many one from to))).answer
    unfolding value_in finish stop
    of_ends u one from to =
        of_value 0 (eval from (environment f state None)) _ _ (λ l.
        of_value 0 (eval to (environment f state None)) _ _ (λ r.
        of_interval 0 l r (interval (length f.bytes) l r) _ _ (λ e. refl)))

  of_item : (f : Frame) (place : Place) (own : Values) (p r : ℕ) (one : Sym) (end : Option ℕ)
      → is_some (item_fails f.bytes p r one end) ≡ is_no_tree (some_of end >>= λ to. symbol_on call f place own p to one).answer
  unfolding ◌>>=◌ after go_on finish stop
  of_item f place own p r one None = refl
  of_item f place own p r one (Some to) = of_symbol 0 f place own p to one

  -- ---- terms

  fails_so : (f : Frame) (state : State) (u : ℕ) (entry : Entry) (term : CoreTerm) → MayEnter entry term
      → is_some (term_fails f state u entry term) ≡ has_none call f state u entry term
  unfolding item_on
  fails_so f state u Outside (Slot slot) may = of_slot f state 0 _ None slot ∙ sym (of_lifted _ _)
  fails_so f state u Outside (Pick cases other) may = of_pick f state 0 _ cases other ∙ sym (of_lifted _ _)
  fails_so f state u Outside (Set attr e) may = of_set f state u attr e
  fails_so f state u Outside (Test e) may = of_test f state u e
  fails_so f state u Outside (Repeat first last one from to) may = of_bounds f state u first last one from to
  fails_so f state u Outside (Many one from to) may = of_ends f state u one from to
  fails_so f state u (Items (suc n) i items) (Repeat first last one from to) may =
      of_slot f (with_kid state u false (Array one (kids_of items))) 0 _ (Some i)
      (record { sym = one; from = from; to = to }) ∙ sym (of_lifted _ _)
  fails_so f state u (Items zero i items) term may = absurd may
  fails_so f state u (Items (suc n) i items) (Slot slot) may = absurd may
  fails_so f state u (Items (suc n) i items) (Pick cases other) may = absurd may
  fails_so f state u (Items (suc n) i items) (Set attr e) may = absurd may
  fails_so f state u (Items (suc n) i items) (Test e) may = absurd may
  fails_so f state u (Items (suc n) i items) (Many one from to) may = absurd may
  fails_so f state u (Turns p r items) (Many one from to) may = of_item f _ state.own p r one (item_end p r one)
  fails_so f state u (Turns p r items) (Slot slot) may = absurd may
  fails_so f state u (Turns p r items) (Pick cases other) may = absurd may
  fails_so f state u (Turns p r items) (Set attr e) may = absurd may
  fails_so f state u (Turns p r items) (Test e) may = absurd may
  fails_so f state u (Turns p r items) (Repeat first last one from to) may = absurd may

pub fails_where_none : FailsWhereNone
fails_where_none call f state u entry term never may = fails_so call never f state u entry term may
