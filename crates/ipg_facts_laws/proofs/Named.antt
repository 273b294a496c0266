-- A call that a term asks is of one of its symbols, by the number of its branch.
use Rattle.std.proofs.Common.{◌≡◌, ℕ, zero, suc, ◌+◌, refl, subst, arith, List, [], ◌∷◌, ◌++◌, Option, Some, None}
use Rattle.std.proofs.Common.{length, ℤ, pos, ◌+ℤ◌, ◌-ℤ◌}
use Rattle.std.specs.Prelude.{slice_get, flat_map}
use Rattle.ipg_core.specs.declared.grammar.Sym.{Sym}
use Rattle.ipg_core.specs.declared.grammar.Sym.TheVariants.{Text, Prim, Rule}
use Rattle.ipg_core.specs.declared.grammar.Primitive.{Primitive}
use Rattle.ipg_core.specs.declared.grammar.Primitive.TheVariants.{Bytes}
use Rattle.ipg_core.specs.declared.grammar.CoreExpr.{CoreExpr}
use Rattle.ipg_core.specs.declared.grammar.CoreSlot.{CoreSlot}
use Rattle.ipg_core.specs.declared.grammar.CoreTerm.{CoreTerm}
use Rattle.ipg_core.specs.declared.grammar.CoreTerm.TheVariants.{Slot, Set, Test, Repeat, Many, Pick}
use Rattle.ipg_core.specs.Part.{interval}
use Rattle.ipg_core.specs.Tree.{Kid}
use Rattle.ipg_core.specs.Environment.{Values}
use Rattle.ipg_core.specs.Eval.{is_zero, eval}
use Rattle.ipg_core.specs.Run.{NoTree, Asked, Run}
use Rattle.ipg_core.specs.Meaning.{Call, Frame, State, Place, environment, value_in, ask, token_on, number_on, primitive_on, symbol_on, slot_on}
use Rattle.ipg_core.specs.Meaning.{items_on, times, item_end, item_on, many_on, turns, repetition_on, pick_on, term_on}
use Rattle.ipg_core.specs.Mention.{term_syms}
use Rattle.ipg_facts_laws.proofs.Asks.{Asks, asks_finish, asks_stop, asks_value, asks_some, asks_chosen, asks_bind, asks_kept}

-- ---- the calls of a term

-- a call of the alternative's term u, of one of these symbols
pub record IsNamed (a u : ℕ) (syms : List Sym) (asked : Asked) : Type 0 where
  pub alt : asked.alt ≡ a
  pub term : asked.term ≡ u
  pub sym : slice_get syms asked.branch ≡ Some (Rule asked.callee)

module _ (call : Call) (f : Frame) (u : ℕ) (syms : List Sym) where
  abbrev Named : {A : Type 0} → Run A → Type 0
  Named run = Asks (IsNamed f.alt u syms) run

  abbrev at : ℕ → Place
  at b = record { term = u; branch = b }

  -- the branch has the symbol
  abbrev Has : ℕ → Sym → Type 0
  Has b one = slice_get syms b ≡ Some one

  value_named : (state : State) (item : Option ℤ) (e : CoreExpr) → Named (value_in f state item e)
  unfolding value_in
  value_named state item e = asks_value (eval e (environment f state item))

  token_named : (from to : ℕ) (bytes token : List ℕ) → Named (token_on from to bytes token)
  unfolding token_on
  token_named from to bytes token = asks_chosen _ _ _ (asks_finish _) (asks_stop NoTree)

  number_named : (from to : ℕ) (bytes : List ℕ) (prim : Primitive) → Named (number_on from to bytes prim)
  unfolding number_on
  number_named from to bytes prim = asks_chosen _ _ _ (asks_stop NoTree) (asks_finish _)

  primitive_named : (from to : ℕ) (bytes : List ℕ) (prim : Primitive) → Named (primitive_on from to bytes prim)
  primitive_named from to bytes Bytes = asks_finish _
  primitive_named from to bytes prim = number_named from to bytes prim

  ask_named : (b callee from to : ℕ) (outer : Values) → Has b (Rule callee) → Named (ask call f (at b) callee from to outer)
  unfolding ask
  ask_named b callee from to outer h = record { each = (record { alt = refl; term = refl; sym = h }, tt) }

  symbol_named : (b : ℕ) (own : Values) (from to : ℕ) (one : Sym) → Has b one → Named (symbol_on call f (at b) own from to one)
  symbol_named b own from to (Text token) h = token_named from to _ token
  symbol_named b own from to (Prim prim) h = primitive_named from to _ prim
  symbol_named b own from to (Rule callee) h = asks_bind _ _ (ask_named b callee from to _ h) (λ tree _. asks_finish _)

  slot_named : (b : ℕ) (state : State) (item : Option ℤ) (slot : CoreSlot) → Has b slot.sym → Named (slot_on call f (at b) state item slot)
  unfolding slot_on
  slot_named b state item slot h =
      asks_bind _ _ (value_named state item slot.from) (λ from _.
      asks_bind _ _ (value_named state item slot.to) (λ to _.
      asks_bind _ _ (asks_some (interval (length f.bytes) from to)) (λ ends _.
      symbol_named b state.own ends.0 ends.1 slot.sym h)))

  items_named : (state : State) (slot : CoreSlot) (n : ℕ) (i : ℤ) (items : List Kid) → Has 0 slot.sym → Named (items_on call f u state slot n i items)
  unfolding items_on
  items_named state slot zero i items h = asks_finish items
  items_named state slot (suc n) i items h =
      asks_bind _ _ (slot_named 0 _ (Some i) slot h) (λ item _. items_named state slot n (i +ℤ pos 1) (items ++ item ∷ []) h)

  item_named : (own : Values) (from to : ℕ) (one : Sym) → Has 0 one → Named (item_on call f (at 0) own from to one)
  unfolding item_on
  item_named own from to one h = asks_bind _ _ (asks_some (item_end from to one)) (λ end _. symbol_named 0 own from end one h)

  many_named : (own : Values) (one : Sym) → Has 0 one → (n from to : ℕ) (items : List Kid) → Named (many_on call f (at 0) own one n from to items)
  unfolding many_on
  many_named own one h zero from to items = asks_finish items
  many_named own one h (suc n) from to items =
      asks_kept _ items _ (item_named own from to one h) (λ end more. many_named own one h n end to more)

  repetition_named : (state : State) (slot : CoreSlot) → Has 0 slot.sym → Named (repetition_on call f (at 0) state slot)
  unfolding repetition_on
  repetition_named state slot h =
      asks_bind _ _ (value_named state None slot.from) (λ l _.
      asks_bind _ _ (value_named state None slot.to) (λ r _.
      asks_bind _ _ (asks_some (interval (length f.bytes) l r)) (λ ends _.
      many_named state.own slot.sym h (turns ends.0 ends.1) ends.0 ends.1 [])))

  -- the symbols from the branch b on are those of the cases left
  abbrev AreLeft : ℕ → List (CoreExpr × CoreSlot) → CoreSlot → Type 0
  AreLeft b cases other = (k : ℕ) (one : Sym) → slice_get (flat_map (λ c. c.1.sym ∷ []) cases ++ other.sym ∷ []) k ≡ Some one → Has (b + k) one

  pick_named : (b : ℕ) (state : State) (cases : List (CoreExpr × CoreSlot)) (other : CoreSlot) → AreLeft b cases other
      → Named (pick_on call f (at b) state cases other)
  unfolding pick_on
  pick_named b state [] other h = slot_named b state None other (subst (λ n. Has n other.sym) (let s : b + 0 ≡ b = omega arith in s) (h 0 other.sym refl))
  pick_named b state (c ∷ cases) other h =
      asks_bind _ _ (value_named state None c.0) (λ x _.
      asks_chosen (is_zero x) _ _
      (pick_named (b + 1) state cases other (λ k one e. subst (λ n. Has n one) (let s : b + suc k ≡ (b + 1) + k = omega arith in s) (h (suc k) one e)))
      (slot_named b state None c.1 (subst (λ n. Has n c.1.sym) (let s : b + 0 ≡ b = omega arith in s) (h 0 c.1.sym refl))))

pub term_named : (call : Call) (f : Frame) (state : State) (u : ℕ) (term : CoreTerm)
    → Asks (IsNamed f.alt u (term_syms term)) (term_on call f state u (Some term))
term_named call f state u (Slot slot) = asks_bind _ _ (slot_named call f u _ 0 state None slot refl) (λ kid _. asks_finish _)
term_named call f state u (Set attr e) = asks_bind _ _ (value_named call f u _ state None e) (λ z _. asks_finish _)
term_named call f state u (Test e) = asks_bind _ _ (value_named call f u _ state None e) (λ z _. asks_chosen (is_zero z) _ _ (asks_stop NoTree) (asks_finish _))
term_named call f state u (Repeat first last item from to) =
    asks_bind _ _ (value_named call f u _ state None first) (λ a _.
    asks_bind _ _ (value_named call f u _ state None last) (λ b _.
    asks_bind _ _ (items_named call f u _ state (record { sym = item; from = from; to = to }) (times (b -ℤ a)) a [] refl) (λ items _. asks_finish _)))
term_named call f state u (Many item from to) =
    asks_bind _ _ (repetition_named call f u _ state (record { sym = item; from = from; to = to }) refl) (λ items _. asks_finish _)
term_named call f state u (Pick cases other) =
    asks_bind _ _ (pick_named call f u _ 0 state cases other (λ k one e.
    let s : k ≡ 0 + k = omega arith in
    subst (λ n. slice_get (term_syms (Pick cases other)) n ≡ Some one) s e))
    (λ kid _. asks_finish _)
