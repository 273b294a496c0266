-- Where no failure is met, each call has a tree, or a value leaves its range.
use Rattle.std.proofs.Common.{◌≡◌, ℕ, zero, suc, refl, sym, ap, ◌∙◌, List, [], Option, Some, None, Result, Ok, Err, Bool, true, false, length, ℤ}
use Rattle.std.specs.Prelude.{is_some, if◌then◌else◌}
use Rattle.ipg_num.specs.declared.op.Answer.{Answer}
use Rattle.ipg_num.specs.declared.op.Answer.TheVariants.{Val, Fail, Range}
use Rattle.ipg_core.specs.declared.grammar.Sym.{Sym}
use Rattle.ipg_core.specs.declared.grammar.Sym.TheVariants.{Prim}
use Rattle.ipg_core.specs.declared.grammar.CoreExpr.{CoreExpr}
use Rattle.ipg_core.specs.declared.grammar.CoreTerm.{CoreTerm}
use Rattle.ipg_core.specs.declared.grammar.CoreTerm.TheVariants.{Slot, Set, Test, Repeat, Many, Pick}
use Rattle.ipg_core.specs.Part.{interval}
use Rattle.ipg_core.specs.Tree.{Kid}
use Rattle.ipg_core.specs.Touch.{touches, ends_of}
use Rattle.ipg_core.specs.Eval.{eval, is_zero}
use Rattle.ipg_core.specs.Run.{Stop, NoTree, OutOfRange, Deep, Run, finish, stop, after, go_on, value_of, some_of, ◌>>=◌}
use Rattle.ipg_core.specs.Meaning.{Call, Frame, State, environment, value_in}
use Rattle.ipg_mach_moves.specs.Moves.{Entry, Outside, Items, Turns, Advance, Inside, Past, lifted, array_on, repeated, parsed, advance}
use Rattle.ipg_mach_failures.specs.Failing.{term_fails}
use Rattle.ipg_mach_failures.specs.Laws.{MayEnter, NeverNone, is_no_tree, has_none}
use Rattle.ipg_mach_failures.proofs.Nones.{fails_where_none}

-- the term goes on, or the call ends out of range or too deep
abbrev pub Goes : CoreTerm → Result Advance Stop → Type 0
Goes term (Ok (Inside entry)) = MayEnter entry term
Goes term (Ok (Past state)) = Unit {0}
Goes term (Err NoTree) = ⊥
Goes term (Err OutOfRange) = Unit {0}
Goes term (Err Deep) = Unit {0}

-- a run that has a result, or stops for another cause than that there is no tree, goes on
abbrev GoesOn : CoreTerm → Run Advance → Type 0
GoesOn term run = is_no_tree run.answer ≡ false → Goes term run.answer

by_value : (term : CoreTerm) (a : Answer) (go : ℤ → Run Advance) → ((z : ℤ) → GoesOn term (go z)) → GoesOn term (value_of a >>= go)
unfolding ◌>>=◌ after go_on finish stop
by_value term (Val z) go each h = each z h
by_value term Fail go each h = absurd (cc)
by_value term Range go each h = tt

by_interval : (term : CoreTerm) (ends : Option (ℕ × ℕ)) (go : ℕ × ℕ → Run Advance) → ((e : ℕ × ℕ) → GoesOn term (go e)) → GoesOn term (some_of ends >>= go)
unfolding ◌>>=◌ after go_on finish stop
by_interval term None go each h = absurd (cc)
by_interval term (Some ends) go each h = each ends h

by_lifted : (term : CoreTerm) (k : Kid → Advance) (r : Result Kid Stop) → ((kid : Kid) → Goes term (Ok (k kid))) → is_no_tree (lifted k r) ≡ false
    → Goes term (lifted k r)
by_lifted term k (Ok kid) each h = each kid
by_lifted term k (Err NoTree) each h = absurd (cc)
by_lifted term k (Err OutOfRange) each h = tt
by_lifted term k (Err Deep) each h = tt

array_goes : (first last : CoreExpr) (one : Sym) (from to : CoreExpr) (state : State) (u n : ℕ) (i : ℤ) (items : List Kid)
    → Goes (Repeat first last one from to) (Ok (array_on state u one n i items))
array_goes first last one from to state u zero i items = tt
array_goes first last one from to state u (suc n) i items = tt

turn_goes : (one : Sym) (from to : CoreExpr) (state : State) (u r : ℕ) (items : List Kid) (item : Kid) (b : Bool) → touches (ends_of item) ≡ b
    → Goes (Many one from to) (repeated state u one r items (Ok item))
turn_goes one from to state u r items item true e = rw e tt
turn_goes one from to state u r items item false e = rw e tt

repeated_goes : (one : Sym) (from to : CoreExpr) (state : State) (u r : ℕ) (items : List Kid) (kid : Result Kid Stop)
    → Goes (Many one from to) (repeated state u one r items kid)
repeated_goes one from to state u r items (Ok item) = turn_goes one from to state u r items item _ refl
repeated_goes one from to state u r items (Err NoTree) = tt
repeated_goes one from to state u r items (Err OutOfRange) = tt
repeated_goes one from to state u r items (Err Deep) = tt

test_goes : (e : CoreExpr) (state : State) (b : Bool) → GoesOn (Test e) (if b then stop NoTree else finish (Past state))
unfolding finish stop
test_goes e state true h = absurd (cc)
test_goes e state false h = tt

module _ (call : Call) (f : Frame) (state : State) (u : ℕ) where
  goes_by : (entry : Entry) (term : CoreTerm) → MayEnter entry term → has_none call f state u entry term ≡ false
      → Goes term (advance call f state u entry (Some term)).answer
  unfolding value_in finish
  goes_by Outside (Slot slot) may h = by_lifted (Slot slot) _ _ (λ kid. tt) h
  goes_by Outside (Pick cases other) may h = by_lifted (Pick cases other) _ _ (λ kid. tt) h
  goes_by Outside (Set attr e) may h = by_value (Set attr e) (eval e (environment f state None)) _ (λ z h. tt) h
  goes_by Outside (Test e) may h = by_value (Test e) (eval e (environment f state None)) _ (λ z h. test_goes e state (is_zero z) h) h
  goes_by Outside (Repeat first last one from to) may h =
      by_value (Repeat first last one from to) (eval first (environment f state None)) _ (λ a h.
      by_value (Repeat first last one from to) (eval last (environment f state None)) _ (λ b h. array_goes first last one from to state u _ a []) h) h
  goes_by Outside (Many one from to) may h =
      by_value (Many one from to) (eval from (environment f state None)) _ (λ l h.
      by_value (Many one from to) (eval to (environment f state None)) _ (λ r h.
      by_interval (Many one from to) (interval (length f.bytes) l r) _ (λ e h. tt) h) h) h
  goes_by (Items (suc n) i items) (Repeat first last one from to) may h =
      by_lifted (Repeat first last one from to) _ _ (λ kid. array_goes first last one from to state u n _ _) h
  goes_by (Items zero i items) term may h = absurd may
  goes_by (Items (suc n) i items) (Slot slot) may h = absurd may
  goes_by (Items (suc n) i items) (Pick cases other) may h = absurd may
  goes_by (Items (suc n) i items) (Set attr e) may h = absurd may
  goes_by (Items (suc n) i items) (Test e) may h = absurd may
  goes_by (Items (suc n) i items) (Many one from to) may h = absurd may
  goes_by (Turns p r items) (Many one from to) may h =
      repeated_goes one from to state u r items (parsed call f state u (Turns p r items) (Many one from to)).answer
  goes_by (Turns p r items) (Slot slot) may h = absurd may
  goes_by (Turns p r items) (Pick cases other) may h = absurd may
  goes_by (Turns p r items) (Set attr e) may h = absurd may
  goes_by (Turns p r items) (Test e) may h = absurd may
  goes_by (Turns p r items) (Repeat first last one from to) may h = absurd may

  -- a term that doesn't fail by itself goes on, if each call that it makes has a tree
  pub goes : NeverNone call → (entry : Entry) (term : CoreTerm) → MayEnter entry term → term_fails f state u entry term ≡ None
      → Goes term (advance call f state u entry (Some term)).answer
  goes never entry term may none = goes_by entry term may (sym (fails_where_none call f state u entry term never may) ∙ ap is_some none)
