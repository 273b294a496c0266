-- A term at hand makes one call at most, and hangs on its answer alone.
use Rattle.std.proofs.Common.{◌≡◌, ℕ, suc, ◌+◌, ℤ, refl, sym, ap, ◌∙◌, subst, append-nil, List, [], ◌∷◌, Option, Some, None, Result, Ok, Err, Bool}
use Rattle.std.proofs.Common.{true, false, if◌then◌else◌, length, ◌⊎◌, inl, inr}
use Rattle.std.specs.Prelude.{slice_get}
use Rattle.ipg_num.specs.declared.op.Answer.{Answer}
use Rattle.ipg_num.specs.declared.op.Answer.TheVariants.{Val, Fail, Range}
use Rattle.ipg_core.specs.declared.grammar.Primitive.{Primitive}
use Rattle.ipg_core.specs.declared.grammar.Primitive.TheVariants.{Bytes}
use Rattle.ipg_core.specs.declared.grammar.Sym.{Sym}
use Rattle.ipg_core.specs.declared.grammar.Sym.TheVariants.{Text, Prim, Rule}
use Rattle.ipg_core.specs.declared.grammar.CoreExpr.{CoreExpr}
use Rattle.ipg_core.specs.declared.grammar.CoreSlot.{CoreSlot}
use Rattle.ipg_core.specs.declared.grammar.CoreTerm.{CoreTerm}
use Rattle.ipg_core.specs.declared.grammar.CoreTerm.TheVariants.{Slot, Set, Test, Repeat, Many, Pick}
use Rattle.ipg_core.specs.Grammar.{rule_at, holder_of}
use Rattle.ipg_core.specs.Part.{part, interval}
use Rattle.ipg_core.specs.Tree.{Tree, Kid, Sub}
use Rattle.ipg_core.specs.Environment.{Values}
use Rattle.ipg_core.specs.Eval.{eval, is_zero}
use Rattle.ipg_core.specs.Run.{Stop, NoTree, OutOfRange, Deep, Asked, Run, finish, stop, after, go_on, ◌>>=◌, value_of, some_of}
use Rattle.ipg_core.specs.Meaning.{Call, Frame, State, Place, environment, value_in, outer_for, ask, token_on, number_on, primitive_on, symbol_on}
use Rattle.ipg_core.specs.Meaning.{slot_on, item_end, item_on, pick_on}
use Rattle.ipg_mach_moves.specs.Moves.{Entry, Outside, Items, Turns, OpenCall, Advance, lifted, parsed, taken, advance, first_left, at_hand}

-- a run that makes no call
pub record Quiet {A : Type 0} (run : Call → Run A) : Type 0 where
  pub answer : Result A Stop
  pub is : (call : Call) → run call ≡ record { answer = answer; asked = [] }

-- what may be said of what a run makes of its call's answer: nothing, or that it is the child which that gives
abbrev pub Anything : {A : Type 0} → Asked → (Result Tree Stop → Result A Stop) → Type 0
Anything ask made = Unit {0}

abbrev pub MakesSub : Asked → (Result Tree Stop → Result Kid Stop) → Type 0
MakesSub ask made = (answer : Result Tree Stop) → made answer ≡ lifted (Sub ask.from ask.to) answer

-- a run that makes one, on the bytes of a frame
pub record Asking (f : Frame) {A : Type 0} (P : Asked → (Result Tree Stop → Result A Stop) → Type 0) (run : Call → Run A) : Type 0 where
  pub ask : Asked
  pub made : Result Tree Stop → Result A Stop
  pub is : (call : Call) → run call ≡ record { answer = made (call ask.callee (part f.bytes ask.from ask.to) ask.outer); asked = ask ∷ [] }
  pub range : made (Err OutOfRange) ≡ Err OutOfRange
  pub deep : made (Err Deep) ≡ Err Deep
  pub outer : holder_of (rule_at f.grammar ask.callee) ≡ None → ask.outer ≡ []
  pub makes : P ask made

abbrev pub AsksOnce : Frame → {A : Type 0} → (Asked → (Result Tree Stop → Result A Stop) → Type 0) → (Call → Run A) → Type 0
AsksOnce f P run = Quiet run ⊎ Asking f P run

-- ---- what a run's answer is made into

abbrev answered : {A B : Type 0} → (Result A Stop → Result B Stop) → Run A → Run B
answered m run = record { answer = m run.answer; asked = run.asked }

module _ (f : Frame) where
  answered_once : {A B : Type 0} (P : Asked → (Result Tree Stop → Result A Stop) → Type 0) (run : Call → Run A) (m : Result A Stop → Result B Stop)
      → m (Err OutOfRange) ≡ Err OutOfRange → m (Err Deep) ≡ Err Deep → AsksOnce f P run → AsksOnce f Anything (λ call. answered m (run call))
  answered_once P run m range deep (inl quiet) = inl (record { answer = m quiet.answer; is = λ call. ap (answered m) (quiet.is call) })
  answered_once P run m range deep (inr one) = inr (record {
    ask = one.ask;
    made = λ d. m (one.made d);
    is = λ call. ap (answered m) (one.is call);
    range = ap m one.range ∙ range;
    deep = ap m one.deep ∙ deep;
    outer = one.outer;
    makes = tt;
  })

  module _ {A : Type 0} (P : Asked → (Result Tree Stop → Result A Stop) → Type 0) where
    abbrev Once : (Call → Run A) → Type 0
    Once run = AsksOnce f P run

    quiet_stop : (why : Stop) → Once (λ call. stop why)
    unfolding stop
    quiet_stop why = inl (record { answer = Err why; is = λ call. refl })

    quiet_finish : (a : A) → Once (λ call. finish a)
    unfolding finish
    quiet_finish a = inl (record { answer = Ok a; is = λ call. refl })

    -- what makes no call goes before

    then_by : {B : Type 0} (answer : Result B Stop) (go : Call → B → Run A) → ((b : B) → Once (λ call. go call b))
        → Once (λ call. after [] (go_on answer (go call)))
    unfolding after go_on stop
    then_by (Ok b) go h = h b
    then_by (Err why) go h = inl (record { answer = Err why; is = λ call. refl })

    then_once : {B : Type 0} (run : Run B) (go : Call → B → Run A) → run.asked ≡ [] → ((b : B) → Once (λ call. go call b)) → Once (λ call. run >>= go call)
    unfolding ◌>>=◌
    then_once run go e h = subst (λ asked. Once (λ call. after asked (go_on run.answer (go call)))) (sym e) (then_by run.answer go h)

    value_asks : (a : Answer) → (value_of a).asked ≡ []
    unfolding finish stop
    value_asks (Val z) = refl
    value_asks Fail = refl
    value_asks Range = refl

    value_once : (state : State) (item : Option ℤ) (e : CoreExpr) (go : Call → ℤ → Run A) → ((z : ℤ) → Once (λ call. go call z))
        → Once (λ call. value_in f state item e >>= go call)
    unfolding value_in
    value_once state item e go h = then_once (value_of (eval e (environment f state item))) go (value_asks (eval e (environment f state item))) h

    some_asks : {B : Type 0} (found : Option B) → (some_of found).asked ≡ []
    unfolding finish stop
    some_asks None = refl
    some_asks (Some b) = refl

    some_once : {B : Type 0} (found : Option B) (go : Call → B → Run A) → ((b : B) → Once (λ call. go call b)) → Once (λ call. some_of found >>= go call)
    some_once found go h = then_once (some_of found) go (some_asks found) h

    chosen_once : (b : Bool) (x y : Call → Run A) → Once x → Once y → Once (λ call. if b then x call else y call)
    chosen_once true x y h k = h
    chosen_once false x y h k = k

  -- ---- symbols, slots, items, switches

  abbrev KidOnce : (Call → Run Kid) → Type 0
  KidOnce run = AsksOnce f MakesSub run

  sub_run : (from to : ℕ) (answer : Result Tree Stop) (asked : List Asked)
      → after asked (go_on answer (λ tree. finish (Sub from to tree))) ≡ record { answer = lifted (Sub from to) answer; asked = asked }
  unfolding after go_on finish stop
  sub_run from to (Ok tree) asked = ap (λ (more : List Asked). record { answer = Ok (Sub from to tree); asked = more }) (append-nil asked)
  sub_run from to (Err why) asked = ap (λ (more : List Asked). record { answer = Err why; asked = more }) (append-nil asked)

  call_once : (p : Place) (callee from to : ℕ) (own : Values)
      → KidOnce (λ call. ask call f p callee from to (outer_for f own (holder_of (rule_at f.grammar callee))) >>= λ tree. finish (Sub from to tree))
  unfolding ask ◌>>=◌
  call_once p callee from to own = inr (record {
    ask = record {
      alt = f.alt;
      term = p.term;
      branch = p.branch;
      callee = callee;
      from = from;
      to = to;
      outer = outer_for f own (holder_of (rule_at f.grammar callee));
    };
    made = lifted (Sub from to);
    is = λ call. sub_run from to _ _;
    range = refl;
    deep = refl;
    outer = λ e. ap (outer_for f own) e;
    makes = λ answer. refl;
  })

  token_once : (from to : ℕ) (bytes token : List ℕ) → KidOnce (λ call. token_on from to bytes token)
  unfolding token_on
  token_once from to bytes token = chosen_once MakesSub _ _ _ (quiet_finish MakesSub _) (quiet_stop MakesSub NoTree)

  number_once : (from to : ℕ) (bytes : List ℕ) (prim : Primitive) → KidOnce (λ call. number_on from to bytes prim)
  unfolding number_on
  number_once from to bytes prim = chosen_once MakesSub _ _ _ (quiet_stop MakesSub NoTree) (quiet_finish MakesSub _)

  primitive_once : (from to : ℕ) (bytes : List ℕ) (prim : Primitive) → KidOnce (λ call. primitive_on from to bytes prim)
  primitive_once from to bytes Bytes = quiet_finish MakesSub _
  primitive_once from to bytes prim = number_once from to bytes prim

  symbol_once : (p : Place) (own : Values) (from to : ℕ) (one : Sym) → KidOnce (λ call. symbol_on call f p own from to one)
  symbol_once p own from to (Text token) = token_once from to _ token
  symbol_once p own from to (Prim prim) = primitive_once from to _ prim
  symbol_once p own from to (Rule callee) = call_once p callee from to own

  slot_once : (p : Place) (state : State) (item : Option ℤ) (slot : CoreSlot) → KidOnce (λ call. slot_on call f p state item slot)
  unfolding slot_on
  slot_once p state item slot =
      value_once MakesSub state item slot.from _ (λ from. value_once MakesSub state item slot.to _ (λ to.
      some_once MakesSub (interval (length f.bytes) from to) _ (λ ends. symbol_once p state.own ends.0 ends.1 slot.sym)))

  item_once : (p : Place) (own : Values) (from to : ℕ) (one : Sym) → KidOnce (λ call. item_on call f p own from to one)
  unfolding item_on
  item_once p own from to one = some_once MakesSub (item_end from to one) _ (λ end. symbol_once p own from end one)

  pick_once : (p : Place) (state : State) (cases : List (CoreExpr × CoreSlot)) (other : CoreSlot) → KidOnce (λ call. pick_on call f p state cases other)
  unfolding pick_on
  pick_once p state [] other = slot_once p state None other
  pick_once p state (c ∷ cases) other =
      value_once MakesSub state None c.0 _ (λ x.
      chosen_once MakesSub (is_zero x) _ _ (pick_once (record p { branch = p.branch + 1 }) state cases other) (slot_once p state None c.1))

  -- ---- terms

  pub parsed_once : (state : State) (u : ℕ) (entry : Entry) (term : CoreTerm) → KidOnce (λ call. parsed call f state u entry term)
  parsed_once state u Outside (Slot slot) = slot_once _ state None slot
  parsed_once state u Outside (Pick cases other) = pick_once _ state cases other
  parsed_once state u (Items (suc n) i items) (Repeat first last one from to) = slot_once _ _ (Some i) _
  parsed_once state u (Turns p r items) (Many one from to) = item_once _ state.own p r one
  parsed_once state u entry term = quiet_stop MakesSub NoTree

  abbrev AnyOnce : (Call → Run Advance) → Type 0
  AnyOnce run = AsksOnce f Anything run

  advance_once : (state : State) (u : ℕ) (entry : Entry) (term : Option CoreTerm) → AnyOnce (λ call. advance call f state u entry term)
  unfolding stop
  advance_once state u entry None = quiet_stop Anything NoTree
  advance_once state u Outside (Some (Set attr e)) = value_once Anything state None e _ (λ z. quiet_finish Anything _)
  advance_once state u Outside (Some (Test e)) =
      value_once Anything state None e _ (λ z. chosen_once Anything (is_zero z) _ _ (quiet_stop Anything NoTree) (quiet_finish Anything _))
  advance_once state u Outside (Some (Repeat first last one from to)) =
      value_once Anything state None first _ (λ a. value_once Anything state None last _ (λ b. quiet_finish Anything _))
  advance_once state u Outside (Some (Many one from to)) =
      value_once Anything state None from _ (λ l. value_once Anything state None to _ (λ r.
      some_once Anything (interval (length f.bytes) l r) _ (λ ends. quiet_finish Anything _)))
  advance_once state u Outside (Some (Slot slot)) =
      answered_once MakesSub _ (taken state u Outside (Slot slot)) refl refl (parsed_once state u Outside (Slot slot))
  advance_once state u Outside (Some (Pick cases other)) =
      answered_once MakesSub _ (taken state u Outside (Pick cases other)) refl refl (parsed_once state u Outside (Pick cases other))
  advance_once state u (Items (suc n) i items) (Some (Repeat first last one from to)) =
      answered_once MakesSub _ (taken state u (Items (suc n) i items) (Repeat first last one from to)) refl refl
      (parsed_once state u (Items (suc n) i items) (Repeat first last one from to))
  advance_once state u (Turns p r items) (Some (Many one from to)) =
      answered_once MakesSub _ (taken state u (Turns p r items) (Many one from to)) refl refl (parsed_once state u (Turns p r items) (Many one from to))
  advance_once state u entry (Some term) = inl (record { answer = Err NoTree; is = λ call. refl })

left_once : (c : OpenCall) (left : List ℕ) → AsksOnce c.frame Anything (λ call. first_left call c left)
left_once c [] = quiet_stop c.frame Anything NoTree
left_once c (u ∷ left) = advance_once c.frame c.state u c.entry (slice_get c.terms u)

pub hand_once : (c : OpenCall) → AsksOnce c.frame Anything (λ call. at_hand call c)
hand_once c = left_once c c.left
