-- A call among the results of terms is one that was asked.
use Rattle.std.proofs.Common.{◌≡◌, ℕ, zero, suc, subst, List, [], ◌∷◌, length, take, Option, Some, None, Ok, Bool, true, false, if◌then◌else◌, ℤ, ◌-ℤ◌, ◌+◌}
use Rattle.std.specs.Prelude.{slice_get, slice_set, bytes_eq, nat_lt}
use Rattle.std.specs.List.{AllByRecursion}
use Rattle.ipg_core.specs.declared.grammar.Primitive.{Primitive}
use Rattle.ipg_core.specs.declared.grammar.Primitive.TheVariants.{Bytes}
use Rattle.ipg_core.specs.declared.grammar.Sym.{Sym}
use Rattle.ipg_core.specs.declared.grammar.Sym.TheVariants.{Text, Prim, Rule}
use Rattle.ipg_core.specs.declared.grammar.CoreExpr.{CoreExpr}
use Rattle.ipg_core.specs.declared.grammar.CoreSlot.{CoreSlot}
use Rattle.ipg_core.specs.declared.grammar.CoreTerm.{CoreTerm}
use Rattle.ipg_core.specs.declared.grammar.CoreTerm.TheVariants.{Slot, Set, Test, Repeat, Many, Pick}
use Rattle.ipg_core.specs.Grammar.{rule_at, holder_of}
use Rattle.ipg_core.specs.Part.{part, interval}
use Rattle.ipg_core.specs.Tree.{Tree, Kid, Sub, Token, Number, Raw, Array, Many as Repetition, kids_of}
use Rattle.ipg_core.specs.Touch.{width}
use Rattle.ipg_core.specs.Environment.{Values, Done}
use Rattle.ipg_core.specs.Eval.{is_zero}
use Rattle.ipg_core.specs.Run.{NoTree, Asked, Run, finish, stop, some_of}
use Rattle.ipg_core.specs.Meaning.{Call, Frame, State, Place, value_in, outer_for, halves, ask, token_on, number_on, primitive_on, symbol_on, slot_on}
use Rattle.ipg_core.specs.Meaning.{items_on, times, repetition_on, pick_on, with_value, with_kid, term_on, terms_on, kids_done}
use Rattle.ipg_cover_laws.proofs.Runs.{finish_is, stop_is, Came, went}

-- what is known of each tree that a call answers
abbrev pub Answers : Call → List ℕ → (ℕ → ℕ → Tree → Type 0) → Asked → Type 0
Answers call s P asked = (tree : Tree) → call asked.callee (part s asked.from asked.to) asked.outer ≡ Ok tree → P asked.from asked.to tree

-- it is known of a result that is a call's
abbrev pub IsKnown : (ℕ → ℕ → Tree → Type 0) → Kid → Type 0
IsKnown P (Sub from to tree) = P from to tree
IsKnown P (Token from to bytes) = Unit {0}
IsKnown P (Number from to prim high low) = Unit {0}
IsKnown P (Raw from to bytes) = Unit {0}
IsKnown P (Array sym items) = Unit {0}
IsKnown P (Repetition sym items) = Unit {0}

abbrev pub AreKnown : (ℕ → ℕ → Tree → Type 0) → List (Option Done) → Type 0
AreKnown P done = AllByRecursion (IsKnown P) (kids_done done)

module _ (P : ℕ → ℕ → Tree → Type 0) where
  set_known : (done : List (Option Done)) (u : ℕ) (d : Done) → AreKnown P done → IsKnown P d.kid → AreKnown P (slice_set done u (Some d))
  set_known [] u d h k = tt
  set_known (None ∷ ds) zero d h k = (k, h)
  set_known (None ∷ ds) (suc u) d h k = set_known ds u d h k
  set_known (Some x ∷ ds) zero d h k = (k, h.1)
  set_known (Some x ∷ ds) (suc u) d h k = (h.0, set_known ds u d h.1 k)

  finished : (a k : Kid) → IsKnown P a → (finish a).answer ≡ Ok k → IsKnown P k
  finished a k h e = subst (IsKnown P) (finish_is a k e) h

  if_finished : (b : Bool) (a k : Kid) → IsKnown P a → (if b then finish a else stop NoTree).answer ≡ Ok k → IsKnown P k
  if_finished true a k h e = finished a k h e
  if_finished false a k h e = stop_is NoTree k e

  if_stopped : (b : Bool) (a k : Kid) → IsKnown P a → (if b then stop NoTree else finish a).answer ≡ Ok k → IsKnown P k
  if_stopped true a k h e = stop_is NoTree k e
  if_stopped false a k h e = finished a k h e

  module _ (call : Call) (f : Frame) where
    abbrev Q : Asked → Type 0
    Q = Answers call f.bytes P

    token_known : (from to : ℕ) (bytes token : List ℕ) (k : Kid) → (token_on from to bytes token).answer ≡ Ok k → IsKnown P k
    unfolding token_on
    token_known from to bytes token k e = if_finished (bytes_eq token (take (length token) bytes)) (Token from to token) k tt e

    number_known : (from to : ℕ) (bytes : List ℕ) (prim : Primitive) (k : Kid) → (number_on from to bytes prim).answer ≡ Ok k → IsKnown P k
    unfolding number_on
    number_known from to bytes prim k e =
        let h : ℕ × ℕ = halves prim bytes in
        if_stopped (nat_lt (length bytes) (width prim)) (Number from to prim h.0 h.1) k tt e

    primitive_known : (from to : ℕ) (bytes : List ℕ) (prim : Primitive) (k : Kid) → (primitive_on from to bytes prim).answer ≡ Ok k → IsKnown P k
    primitive_known from to bytes Bytes k e = finished (Raw from to bytes) k tt e
    primitive_known from to bytes prim k e = number_known from to bytes prim k e

    asked_known : (p : Place) (callee from to : ℕ) (outer : Values) (tree : Tree) → Came Q (ask call f p callee from to outer) tree → P from to tree
    unfolding ask
    asked_known p callee from to outer tree c = c.asks.0 tree c.answer

    symbol_known : (p : Place) (own : Values) (from to : ℕ) (one : Sym) (k : Kid) → Came Q (symbol_on call f p own from to one) k → IsKnown P k
    symbol_known p own from to (Text token) k c = token_known from to (part f.bytes from to) token k c.answer
    symbol_known p own from to (Prim prim) k c = primitive_known from to (part f.bytes from to) prim k c.answer
    symbol_known p own from to (Rule callee) k c =
        let outer : Values = outer_for f own (holder_of (rule_at f.grammar callee)) in
        let w = went Q (ask call f p callee from to outer) _ k c in
        finished (Sub from to w.value) k (asked_known p callee from to outer w.value w.first) w.rest.answer

    slot_known : (p : Place) (state : State) (item : Option ℤ) (slot : CoreSlot) (k : Kid) → Came Q (slot_on call f p state item slot) k → IsKnown P k
    unfolding slot_on
    slot_known p state item slot k c =
        let a = went Q (value_in f state item slot.from) _ k c in
        let b = went Q (value_in f state item slot.to) _ k a.rest in
        let ends = went Q (some_of (interval (length f.bytes) a.value b.value)) _ k b.rest in
        symbol_known p state.own ends.value.0 ends.value.1 slot.sym k ends.rest

    pick_or : (b : Bool) (one other : Run Kid) (k : Kid) → (Came Q one k → IsKnown P k) → (Came Q other k → IsKnown P k)
        → Came Q (if b then one else other) k → IsKnown P k
    pick_or true one other k h g c = h c
    pick_or false one other k h g c = g c

    pick_known : (p : Place) (state : State) (cases : List (CoreExpr × CoreSlot)) (other : CoreSlot) (k : Kid)
        → Came Q (pick_on call f p state cases other) k → IsKnown P k
    unfolding pick_on
    pick_known p state [] other k c = slot_known p state None other k c
    pick_known p state (first ∷ cases) other k c =
        let x = went Q (value_in f state None first.0) _ k c in
        pick_or (is_zero x.value) (pick_on call f (record p { branch = p.branch + 1 }) state cases other) (slot_on call f p state None first.1) k
        (pick_known (record p { branch = p.branch + 1 }) state cases other k) (slot_known p state None first.1 k) x.rest

    kid_put : (u : ℕ) (is_switch : Bool) (k : Kid) (state next : State) → AreKnown P state.done → IsKnown P k
        → (finish (with_kid state u is_switch k)).answer ≡ Ok next → AreKnown P next.done
    unfolding with_kid
    kid_put u is_switch k state next h known e =
        subst (λ (n : State). AreKnown P n.done) (finish_is _ next e)
        (set_known state.done u (record { is_switch = is_switch; kid = k }) h known)

    value_put : (attr : ℕ) (z : ℤ) (state next : State) → AreKnown P state.done → (finish (with_value state attr z)).answer ≡ Ok next → AreKnown P next.done
    unfolding with_value
    value_put attr z state next h e = subst (λ (n : State). AreKnown P n.done) (finish_is _ next e) h

    test_put : (b : Bool) (state next : State) → AreKnown P state.done → (if b then stop NoTree else finish state).answer ≡ Ok next → AreKnown P next.done
    test_put true state next h e = stop_is NoTree next e
    test_put false state next h e = subst (λ (n : State). AreKnown P n.done) (finish_is state next e) h

    term_known : (u : ℕ) (term : Option CoreTerm) (state next : State) → AreKnown P state.done → Came Q (term_on call f state u term) next
        → AreKnown P next.done
    term_known u None state next h c = stop_is NoTree next c.answer
    term_known u (Some (Slot slot)) state next h c =
        let p : Place = record { term = u; branch = 0 } in
        let w = went Q (slot_on call f p state None slot) _ next c in
        kid_put u false w.value state next h (slot_known p state None slot w.value w.first) w.rest.answer
    term_known u (Some (Set attr e)) state next h c =
        let w = went Q (value_in f state None e) _ next c in value_put attr w.value state next h w.rest.answer
    term_known u (Some (Test e)) state next h c =
        let w = went Q (value_in f state None e) _ next c in test_put (is_zero w.value) state next h w.rest.answer
    term_known u (Some (Repeat first last item from to)) state next h c =
        let a = went Q (value_in f state None first) _ next c in
        let b = went Q (value_in f state None last) _ next a.rest in
        let w = went Q (items_on call f u state (record { sym = item; from = from; to = to }) (times (b.value -ℤ a.value)) a.value []) _ next b.rest in
        kid_put u false (Array item (kids_of w.value)) state next h tt w.rest.answer
    term_known u (Some (Many item from to)) state next h c =
        let w = went Q (repetition_on call f (record { term = u; branch = 0 }) state (record { sym = item; from = from; to = to })) _ next c in
        kid_put u false (Repetition item (kids_of w.value)) state next h tt w.rest.answer
    term_known u (Some (Pick cases other)) state next h c =
        let p : Place = record { term = u; branch = 0 } in
        let w = went Q (pick_on call f p state cases other) _ next c in
        kid_put u true w.value state next h (pick_known p state cases other w.value w.first) w.rest.answer

    pub terms_known : (terms : List CoreTerm) (order : List ℕ) (state last : State) → AreKnown P state.done → Came Q (terms_on call f terms order state) last
        → AreKnown P last.done
    unfolding terms_on
    terms_known terms [] state last h c = subst (λ (n : State). AreKnown P n.done) (finish_is state last c.answer) h
    terms_known terms (u ∷ order) state last h c =
        let w = went Q (term_on call f state u (slice_get terms u)) _ last c in
        terms_known terms order w.value last (term_known u (slice_get terms u) state w.value h w.first) w.rest
