-- A call that is answered within range leaves its caller within range.
use Rattle.std.proofs.Common.{◌≡◌, ℕ, suc, ℤ, refl, sym, ap, ◌∙◌, subst, List, [], ◌∷◌, ◌++◌, Option, Some, None, Result, Ok, Err, Bool, true, false, length}
use Rattle.std.proofs.Common.{if◌then◌else◌}
use Rattle.std.specs.Prelude.{slice_get}
use Rattle.ipg_num.specs.declared.op.Answer.{Answer}
use Rattle.ipg_num.specs.declared.op.Answer.TheVariants.{Val, Fail, Range}
use Rattle.ipg_core.specs.declared.grammar.Sym.{Sym}
use Rattle.ipg_core.specs.declared.grammar.CoreExpr.{CoreExpr}
use Rattle.ipg_core.specs.declared.grammar.CoreTerm.{CoreTerm}
use Rattle.ipg_core.specs.declared.grammar.CoreTerm.TheVariants.{Slot, Set, Test, Repeat, Many, Pick}
use Rattle.ipg_core.specs.Part.{interval}
use Rattle.ipg_core.specs.Tree.{Tree, Kid}
use Rattle.ipg_core.specs.Eval.{eval, is_zero}
use Rattle.ipg_core.specs.Run.{Stop, NoTree, OutOfRange, Deep, Asked, Run, finish, stop, after, go_on, ◌>>=◌, value_of, some_of}
use Rattle.ipg_core.specs.Meaning.{Frame, State, environment, value_in}
use Rattle.ipg_mach_moves.specs.Moves.{Entry, Outside, Items, Turns, OpenCall, Advance, lifted, repeated, parsed, taken, silent, always, advance}
use Rattle.ipg_mach_moves.specs.Moves.{first_left, at_hand}
use Rattle.ipg_mach_moves.specs.Laws.{ByCalls, ParsesByOneCall}
use Rattle.ipg_mach_failure_laws.proofs.Known.{GoesDown}

-- ---- what a term makes of its child

lifted_down : {A B : Type 0} (k : A → B) (r : Result A Stop) → GoesDown r → GoesDown (lifted k r)
lifted_down k (Ok a) down = tt
lifted_down k (Err NoTree) down = tt
lifted_down k (Err OutOfRange) down = absurd down
lifted_down k (Err Deep) down = tt

repeated_down : (state : State) (u : ℕ) (one : Sym) (r : ℕ) (items : List Kid) (kid : Result Kid Stop) → GoesDown kid
    → GoesDown (repeated state u one r items kid)
repeated_down state u one r items (Ok kid) down = tt
repeated_down state u one r items (Err NoTree) down = tt
repeated_down state u one r items (Err OutOfRange) down = absurd down
repeated_down state u one r items (Err Deep) down = tt

taken_down : (state : State) (u : ℕ) (entry : Entry) (term : CoreTerm) (kid : Result Kid Stop) → GoesDown kid → GoesDown (taken state u entry term kid)
taken_down state u Outside (Slot slot) kid down = lifted_down _ kid down
taken_down state u Outside (Pick cases other) kid down = lifted_down _ kid down
taken_down state u (Items (suc n) i items) (Repeat first last one from to) kid down = lifted_down _ kid down
taken_down state u (Turns p r items) (Many one from to) kid down = repeated_down state u one r items kid down
taken_down state u entry term kid down = tt

-- ---- what makes no call

value_asks : (a : Answer) → (value_of a).asked ≡ []
unfolding finish stop
value_asks (Val z) = refl
value_asks Fail = refl
value_asks Range = refl

some_asks : {A : Type 0} (found : Option A) → (some_of found).asked ≡ []
unfolding finish stop
some_asks None = refl
some_asks (Some a) = refl

-- ---- terms that make no call

abbrev IsHush : {A : Type 0} → Run A → Type 0
IsHush run = run.asked ≡ []

hush_go : {A B : Type 0} (answer : Result A Stop) (go : A → Run B) → ((a : A) → IsHush (go a)) → IsHush (go_on answer go)
unfolding go_on stop
hush_go (Ok a) go h = h a
hush_go (Err why) go h = refl

hush_then : {A B : Type 0} (run : Run A) (go : A → Run B) → IsHush run → ((a : A) → IsHush (go a)) → IsHush (run >>= go)
unfolding ◌>>=◌ after
hush_then run go e h = ap (λ asked. asked ++ (go_on run.answer go).asked) e ∙ hush_go run.answer go h

hush_finish : {A : Type 0} (a : A) → IsHush (finish a)
unfolding finish
hush_finish a = refl

hush_stop : (why : Stop) → IsHush {A = Advance} (stop why)
unfolding stop
hush_stop why = refl

hush_chosen : {A : Type 0} (b : Bool) (x y : Run A) → IsHush x → IsHush y → IsHush (if b then x else y)
hush_chosen true x y h k = h
hush_chosen false x y h k = k

module _ (f : Frame) (state : State) where
  hush_value : {A : Type 0} (e : CoreExpr) (go : ℤ → Run A) → ((z : ℤ) → IsHush (go z)) → IsHush (value_in f state None e >>= go)
  unfolding value_in
  hush_value e go h = hush_then _ go (value_asks (eval e (environment f state None))) h

  -- ---- terms

  module _ (one : ParsesByOneCall) (answer : Result Tree Stop) (down : GoesDown answer) (u : ℕ) where
    by_one : (quiet run : Run Kid) (ask : Asked) (more : List Asked) → ByCalls (always answer) f (ask ∷ more) quiet run → GoesDown run.answer
    by_one quiet run ask [] is = subst GoesDown (sym (ap (λ (r : Run Kid). r.answer) is)) (lifted_down _ answer down)
    by_one quiet run ask (other ∷ more) is = absurd is

    by_parsed : (entry : Entry) (term : CoreTerm) (ask : Asked) (more : List Asked) → (parsed silent f state u entry term).asked ≡ ask ∷ more
        → GoesDown (taken state u entry term (parsed (always answer) f state u entry term).answer)
    by_parsed entry term ask more e =
        let quiet = parsed silent f state u entry term in
        let run = parsed (always answer) f state u entry term in
        taken_down state u entry term run.answer
        (by_one quiet run ask more (subst (λ asked. ByCalls (always answer) f asked quiet run) e (one (always answer) f state u entry term)))

    no_call : (asked : List Asked) (ask : Asked) (more : List Asked) → asked ≡ [] → asked ≡ ask ∷ more → ⊥
    no_call asked ask more none e = let both : [] ≡ ask ∷ more = sym none ∙ e in absurd (cc)

    advance_down : (entry : Entry) (term : Option CoreTerm) (ask : Asked) (more : List Asked) → (advance silent f state u entry term).asked ≡ ask ∷ more
        → GoesDown (advance (always answer) f state u entry term).answer
    unfolding stop
    advance_down entry None ask more e = tt
    advance_down Outside (Some (Set attr x)) ask more e = absurd (no_call _ ask more (hush_value x _ (λ z. hush_finish _)) e)
    advance_down Outside (Some (Test x)) ask more e =
        absurd (no_call _ ask more (hush_value x _ (λ z. hush_chosen (is_zero z) _ _ (hush_stop NoTree) (hush_finish _))) e)
    advance_down Outside (Some (Repeat first last sym from to)) ask more e =
        absurd (no_call _ ask more (hush_value first _ (λ a. hush_value last _ (λ b. hush_finish _))) e)
    advance_down Outside (Some (Many sym from to)) ask more e =
        absurd (no_call _ ask more (hush_value from _ (λ l. hush_value to _ (λ r.
        hush_then _ _ (some_asks (interval (length f.bytes) l r)) (λ ends. hush_finish _)))) e)
    advance_down entry (Some term) ask more e = by_parsed entry term ask more e

left_down : ParsesByOneCall → (c : OpenCall) (answer : Result Tree Stop) → GoesDown answer → (left : List ℕ) (ask : Asked) (more : List Asked)
    → (first_left silent c left).asked ≡ ask ∷ more → GoesDown (first_left (always answer) c left).answer
unfolding stop
left_down one c answer down [] ask more e = tt
left_down one c answer down (u ∷ left) ask more e = advance_down c.frame c.state one answer down u c.entry (slice_get c.terms u) ask more e

-- where a term at hand makes a call, and that is answered within range
pub hand_down : ParsesByOneCall → (c : OpenCall) (answer : Result Tree Stop) → GoesDown answer → (ask : Asked) (more : List Asked)
    → (at_hand silent c).asked ≡ ask ∷ more → GoesDown (at_hand (always answer) c).answer
hand_down one c answer down ask more e = left_down one c answer down c.left ask more e
