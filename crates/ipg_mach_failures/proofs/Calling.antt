-- A call is of a rule that the term at hand names.
use Rattle.std.proofs.Common.{◌≡◌, ℕ, zero, suc, ◌+◌, ◌<◌, refl, sym, ap, ◌∙◌, subst, arith, List, [], ◌∷◌, Option, Some, None, Bool, true, false, length, ℤ}
use Rattle.std.specs.Prelude.{slice_get, if◌then◌else◌, nat_lt, bytes_eq, take}
use Rattle.std.specs.List.{AllByRecursion}
use Rattle.ipg_num.specs.declared.op.Answer.{Answer}
use Rattle.ipg_num.specs.declared.op.Answer.TheVariants.{Val, Fail, Range}
use Rattle.ipg_core.specs.declared.grammar.Sym.{Sym}
use Rattle.ipg_core.specs.declared.grammar.Sym.TheVariants.{Text, Prim, Rule}
use Rattle.ipg_core.specs.declared.grammar.Primitive.{Primitive}
use Rattle.ipg_core.specs.declared.grammar.Primitive.TheVariants.{U8, U16LE, U16BE, U32LE, U32BE, U64LE, U64BE, Bytes}
use Rattle.ipg_core.specs.declared.grammar.CoreExpr.{CoreExpr}
use Rattle.ipg_core.specs.declared.grammar.CoreSlot.{CoreSlot}
use Rattle.ipg_core.specs.declared.grammar.CoreTerm.{CoreTerm}
use Rattle.ipg_core.specs.declared.grammar.CoreTerm.TheVariants.{Slot, Set, Test, Repeat, Many, Pick}
use Rattle.ipg_core.specs.declared.grammar.CoreRule.{CoreRule}
use Rattle.ipg_core.specs.Grammar.{Grammar, rule_at}
use Rattle.ipg_core.specs.Good.{Good, IsCallable}
use Rattle.ipg_core.specs.Mention.{EachSym}
use Rattle.ipg_core.specs.Part.{part, interval}
use Rattle.ipg_core.specs.Tree.{Array, kids_of}
use Rattle.ipg_core.specs.Touch.{width}
use Rattle.ipg_core.specs.Environment.{Values}
use Rattle.ipg_core.specs.Eval.{eval, is_zero}
use Rattle.ipg_core.specs.Run.{Asked, Run, finish, stop, after, go_on, value_of, some_of, ◌>>=◌}
use Rattle.ipg_core.specs.Meaning.{Frame, State, Place, environment, with_kid, value_in, ask, slot_on, pick_on, item_on, item_end, symbol_on, token_on}
use Rattle.ipg_core.specs.Meaning.{number_on, primitive_on}
use Rattle.ipg_mach_moves.specs.Moves.{Entry, Outside, Items, Turns, OpenCall, silent, advance, at_hand, first_left}
use Rattle.ipg_mach_failures.specs.Laws.{MayEnter}
use Rattle.ipg_mach_failures.proofs.Alive.{Alive, Runs}

module _ (P : Sym → Type 0) where
  -- each call is of a rule for which the fact holds
  abbrev Callees : List Asked → Type 0
  Callees [] = Unit {0}
  Callees (a ∷ asked) = P (Rule a.callee) × Callees asked

  by_value : {A : Type 0} (a : Answer) (go : ℤ → Run A) → ((z : ℤ) → Callees (go z).asked) → Callees (value_of a >>= go).asked
  unfolding ◌>>=◌ after go_on finish stop
  by_value (Val z) go each = each z
  by_value Fail go each = tt
  by_value Range go each = tt

  by_some : {A B : Type 0} (o : Option A) (go : A → Run B) → ((a : A) → Callees (go a).asked) → Callees (some_of o >>= go).asked
  unfolding ◌>>=◌ after go_on finish stop
  by_some None go each = tt
  by_some (Some a) go each = each a

  by_choice : {A : Type 0} (b : Bool) (one other : Run A) → Callees one.asked → Callees other.asked → Callees (if b then one else other).asked
  by_choice true one other p q = p
  by_choice false one other p q = q

  of_number : (from to : ℕ) (bytes : List ℕ) (prim : Primitive) → Callees (number_on from to bytes prim).asked
  unfolding number_on finish stop
  of_number from to bytes prim = by_choice (nat_lt (length bytes) (width prim)) _ _ tt tt

  of_primitive : (from to : ℕ) (bytes : List ℕ) (prim : Primitive) → Callees (primitive_on from to bytes prim).asked
  unfolding finish
  of_primitive from to bytes Bytes = tt
  of_primitive from to bytes U8 = of_number from to bytes U8
  of_primitive from to bytes U16LE = of_number from to bytes U16LE
  of_primitive from to bytes U16BE = of_number from to bytes U16BE
  of_primitive from to bytes U32LE = of_number from to bytes U32LE
  of_primitive from to bytes U32BE = of_number from to bytes U32BE
  of_primitive from to bytes U64LE = of_number from to bytes U64LE
  of_primitive from to bytes U64BE = of_number from to bytes U64BE

  of_token : (from to : ℕ) (bytes token : List ℕ) → Callees (token_on from to bytes token).asked
  unfolding token_on finish stop
  of_token from to bytes token = by_choice (bytes_eq token (take (length token) bytes)) _ _ tt tt

  of_symbol : (f : Frame) (place : Place) (own : Values) (from to : ℕ) (one : Sym) → P one → Callees (symbol_on silent f place own from to one).asked
  unfolding ◌>>=◌ after go_on finish stop ask
  of_symbol f place own from to (Text token) p = of_token from to (part f.bytes from to) token
  of_symbol f place own from to (Prim prim) p = of_primitive from to (part f.bytes from to) prim
  of_symbol f place own from to (Rule callee) p = (p, tt)

  module _ (f : Frame) (state : State) where
    of_slot : (place : Place) (item : Option ℤ) (slot : CoreSlot) → P slot.sym → Callees (slot_on silent f place state item slot).asked
    unfolding slot_on value_in
    of_slot place item slot p =
        by_value (eval slot.from (environment f state item)) _ (λ l.
        by_value (eval slot.to (environment f state item)) _ (λ r.
        by_some (interval (length f.bytes) l r) _ (λ e. of_symbol f place state.own e.0 e.1 slot.sym p)))

    of_pick : (place : Place) (cases : List (CoreExpr × CoreSlot)) (other : CoreSlot) → AllByRecursion (λ c. P c.1.sym) cases → P other.sym
        → Callees (pick_on silent f place state cases other).asked
    unfolding pick_on value_in
    of_pick place [] other each p = of_slot place None other p
    of_pick place (c ∷ cases) other each p =
        by_value (eval c.0 (environment f state None)) _ (λ x.
        by_choice (is_zero x) _ _ (of_pick (record place { branch = place.branch + 1 }) cases other each.1 p) (of_slot place None c.1 each.0))

    of_test : (u : ℕ) (e : CoreExpr) → Callees (advance silent f state u Outside (Some (Test e))).asked
    unfolding value_in finish stop
    of_test u e = by_value (eval e (environment f state None)) _ (λ z. by_choice (is_zero z) _ _ tt tt)

    of_set : (u attr : ℕ) (e : CoreExpr) → Callees (advance silent f state u Outside (Some (Set attr e))).asked
    unfolding value_in finish
    of_set u attr e = by_value (eval e (environment f state None)) _ (λ z. tt)

    of_bounds : (u : ℕ) (first last : CoreExpr) (one : Sym) (from to : CoreExpr)
        → Callees (advance silent f state u Outside (Some (Repeat first last one from to))).asked
    unfolding value_in finish
    of_bounds u first last one from to =
        by_value (eval first (environment f state None)) _ (λ a. by_value (eval last (environment f state None)) _ (λ b. tt))

    of_ends : (u : ℕ) (one : Sym) (from to : CoreExpr) → Callees (advance silent f state u Outside (Some (Many one from to))).asked
    unfolding value_in finish
    of_ends u one from to =
        by_value (eval from (environment f state None)) _ (λ l. by_value (eval to (environment f state None)) _ (λ r.
        by_some (interval (length f.bytes) l r) _ (λ e. tt)))

  of_term : (f : Frame) (state : State) (u : ℕ) (entry : Entry) (term : CoreTerm) → MayEnter entry term → EachSym P term
      → Callees (advance silent f state u entry (Some term)).asked
  unfolding item_on
  of_term f state u Outside (Slot slot) may p = of_slot f state _ None slot p
  of_term f state u Outside (Pick cases other) may p = of_pick f state _ cases other p.0 p.1
  of_term f state u Outside (Set attr e) may p = of_set f state u attr e
  of_term f state u Outside (Test e) may p = of_test f state u e
  of_term f state u Outside (Repeat first last one from to) may p = of_bounds f state u first last one from to
  of_term f state u Outside (Many one from to) may p = of_ends f state u one from to
  of_term f state u (Items (suc n) i items) (Repeat first last one from to) may p =
      of_slot f (with_kid state u false (Array one (kids_of items))) _ (Some i) (record { sym = one; from = from; to = to }) p
  of_term f state u (Items zero i items) term may p = absurd may
  of_term f state u (Items (suc n) i items) (Slot slot) may p = absurd may
  of_term f state u (Items (suc n) i items) (Pick cases other) may p = absurd may
  of_term f state u (Items (suc n) i items) (Set attr e) may p = absurd may
  of_term f state u (Items (suc n) i items) (Test e) may p = absurd may
  of_term f state u (Items (suc n) i items) (Many one from to) may p = absurd may
  of_term f state u (Turns p r items) (Many one from to) may q = by_some (item_end p r one) _ (λ end. of_symbol f _ state.own p end one q)
  of_term f state u (Turns p r items) (Slot slot) may q = absurd may
  of_term f state u (Turns p r items) (Pick cases other) may q = absurd may
  of_term f state u (Turns p r items) (Set attr e) may q = absurd may
  of_term f state u (Turns p r items) (Test e) may q = absurd may
  of_term f state u (Turns p r items) (Repeat first last one from to) may q = absurd may

there : {A : Type 0} (xs : List A) (n : ℕ) → n < length xs → (x : A) × (slice_get xs n ≡ Some x)
there [] n h = absurd (omega (arith, h))
there (x ∷ xs) zero h = (x, refl)
there (x ∷ xs) (suc n) h = there xs n (omega (arith, h))

callee_by : (g : Grammar) (c : OpenCall) (left : List ℕ) (a : Asked) (more : List Asked) → Good g → Alive g c → Runs c.terms c.entry left
    → (first_left silent c left).asked ≡ a ∷ more → (rule : CoreRule) × (rule_at g a.callee ≡ Some rule)
callee_by g c [] a more good alive runs is = absurd runs
callee_by g c (u ∷ left) a more good alive runs is =
    let one = runs.0 in
    let at : ℕ × ℕ = (c.frame.rule, c.frame.alt) in
    let P = IsCallable g at alive.rule.holder in
    let term = (good.well_formed.alts at alive.rule alive.alt alive.stands).terms u one.term (ap (λ l. slice_get l u) (sym alive.terms) ∙ one.is_term) in
    let asked : (advance silent c.frame c.state u c.entry (Some one.term)).asked ≡ a ∷ more =
    ap (λ (t : Option CoreTerm). (advance silent c.frame c.state u c.entry t).asked) (sym one.is_term) ∙ is in
    there g.rules a.callee (subst (Callees P) asked (of_term P c.frame c.state u c.entry one.term one.may term.syms)).0.0

-- the call that a call at work makes is of a rule of the grammar
pub callee_there : (g : Grammar) (c : OpenCall) (a : Asked) (more : List Asked) → Good g → Alive g c → (at_hand silent c).asked ≡ a ∷ more
    → (rule : CoreRule) × (rule_at g a.callee ≡ Some rule)
callee_there g c a more good alive is = callee_by g c c.left a more good alive alive.left is
