-- What a rule asks, asked what fits, fits again.
use Rattle.std.proofs.Common.{◌≡◌, ℕ, zero, suc, ◌+◌, ◌-◌, ◌^◌, ◌<◌, ◌≤◌, refl, sym, ap, ◌∙◌, subst, arith, List, [], ◌∷◌}
use Rattle.std.proofs.Common.{◌++◌, append_assoc, append-nil, Option, Some, None, Result, Ok, Err, Bool, true, false, if◌then◌else◌}
use Rattle.std.proofs.Common.{length, take, drop, ℤ, pos, ◌+ℤ◌, ◌-ℤ◌, true≢false, ◌⊎◌, inl, inr}
use Rattle.std.specs.Prelude.{slice_get, unwrap_or, flat_map, Contains, nat_eq, ◌&&◌}
use Rattle.std.specs.List.{AllByRecursion}
use Rattle.std.proofs.lemmas.Bool.{and_parts}
use Rattle.std.proofs.lemmas.Bool.Decides.{nat_tests}
use Rattle.std.proofs.lemmas.Option.{slice_get_within, unwrap_or-slice_get}
use Rattle.std.proofs.lemmas.List.Elements.{Contains-append_left, Contains-append_right}
use Rattle.ipg_core.specs.declared.grammar.Sym.{Sym}
use Rattle.ipg_core.specs.declared.grammar.Sym.TheVariants.{Text, Prim, Rule}
use Rattle.ipg_core.specs.declared.grammar.Primitive.{Primitive}
use Rattle.ipg_core.specs.declared.grammar.Primitive.TheVariants.{Bytes}
use Rattle.ipg_core.specs.declared.grammar.CoreExpr.{CoreExpr}
use Rattle.ipg_core.specs.declared.grammar.CoreSlot.{CoreSlot}
use Rattle.ipg_core.specs.declared.grammar.CoreTerm.{CoreTerm}
use Rattle.ipg_core.specs.declared.grammar.CoreTerm.TheVariants.{Slot, Set, Test, Repeat, Many, Pick}
use Rattle.ipg_core.specs.declared.grammar.CoreAlt.{CoreAlt}
use Rattle.ipg_core.specs.declared.grammar.CoreRule.{CoreRule}
use Rattle.ipg_core.specs.Grammar.{Grammar, rule_at, holder_of, same_place}
use Rattle.ipg_core.specs.Part.{part, interval}
use Rattle.ipg_core.specs.Tree.{Tree, Kid, Array, kids_of}
use Rattle.ipg_core.specs.Touch.{ends_of}
use Rattle.ipg_core.specs.Environment.{Values}
use Rattle.ipg_core.specs.Eval.{is_zero, eval}
use Rattle.ipg_core.specs.Run.{Stop, NoTree, Asked, Run, finish, stop, after, go_on, ◌>>=◌, some_of}
use Rattle.ipg_core.specs.Meaning.{Call, Frame, State, Place, environment, value_in, outer_for, ask, token_on, number_on, primitive_on}
use Rattle.ipg_core.specs.Meaning.{symbol_on, slot_on, items_on, times, item_end, item_on, many_on, turns, repetition_on, pick_on}
use Rattle.ipg_core.specs.Meaning.{with_kid, term_on, terms_on, start, alt_on, alts_on, rule_run, rule_on, den}
use Rattle.ipg_core.specs.Mention.{EachSym, term_syms}
use Rattle.ipg_core.specs.Order.{TermOf}
use Rattle.ipg_core.specs.Good.{AltAt, IsCallable, MayCall, IsGlobalAlt, Good}
use Rattle.ipg_core.specs.Within.{IsInterval}
use Rattle.ipg_core.specs.Grown.{max_input, IsInput, ComesTo, LeadsTo, further, itself, GrownLocal, GrownUnder, Grown}
use Rattle.ipg_core.specs.Total.{Fits}
use Rattle.ipg_core.specs.Laws.{AskedFits, AsksWhatFits}
use Rattle.ipg_core.proofs.Within.{valid, part_length, StandsOn, item_interval, WithinCalls, item_yields, den_within}
use Rattle.ipg_core.proofs.Yields.{Yields, yields_some}
use Rattle.ipg_core.proofs.Asks.{Asks, asks_finish, asks_stop, asks_value, asks_some, asks_bind, asks_else, asks_chosen, asks_kept}

-- ---- parts of an input

bytes_of_drop : (n : ℕ) (s : List ℕ) → AllByRecursion (λ b. b < 256) s → AllByRecursion (λ b. b < 256) (drop n s)
bytes_of_drop zero s h = h
bytes_of_drop (suc n) [] h = h
bytes_of_drop (suc n) (b ∷ s) h = bytes_of_drop n s h.1

bytes_of_take : (n : ℕ) (s : List ℕ) → AllByRecursion (λ b. b < 256) s → AllByRecursion (λ b. b < 256) (take n s)
bytes_of_take zero s h = tt
bytes_of_take (suc n) [] h = tt
bytes_of_take (suc n) (b ∷ s) h = (h.0, bytes_of_take n s h.1)

part_input : (s : List ℕ) (from to : ℕ) → IsInterval (length s) from to → IsInput s → IsInput (part s from to)
part_input s from to i h =
    let a = part_length s from to i in let b = i.inside in let c = h.size in
    record { size = omega arith; bytes = bytes_of_take (to - from) (drop from s) (bytes_of_drop from s h.bytes) }

-- ---- terms one after another

bind_ok : {A B : Type 0} (run : Run A) (go : A → Run B) (a : A) → run.answer ≡ Ok a → (run >>= go).answer ≡ (go a).answer
unfolding ◌>>=◌ after go_on
bind_ok run go a e = rw e refl

record Passed {A B : Type 0} (run : Run A) (go : A → Run B) (b : B) : Type 0 where
  value : A
  first : run.answer ≡ Ok value
  rest : (go value).answer ≡ Ok b

passed_go : {A B : Type 0} (answer : Result A Stop) (go : A → Run B) (b : B) → (go_on answer go).answer ≡ Ok b
    → (a : A) × ((answer ≡ Ok a) × ((go a).answer ≡ Ok b))
unfolding go_on stop
passed_go (Ok a) go b e = (a, (refl, e))
passed_go (Err why) go b e = absurd (cc)

passed : {A B : Type 0} (run : Run A) (go : A → Run B) (b : B) → (run >>= go).answer ≡ Ok b → Passed run go b
unfolding ◌>>=◌ after
passed run go b e = let p = passed_go run.answer go b e in record { value = p.0; first = p.1.0; rest = p.1.1 }

module _ (call : Call) (f : Frame) (terms : List CoreTerm) where
  same_state : (a b : State) → (finish a).answer ≡ Ok b → a ≡ b
  unfolding finish
  same_state a b e = cc

  one_term : (u : ℕ) (state next : State) → (term_on call f state u (slice_get terms u)).answer ≡ Ok next
      → (terms_on call f terms (u ∷ []) state).answer ≡ Ok next
  unfolding terms_on finish
  one_term u state next e = bind_ok (term_on call f state u (slice_get terms u)) _ next e

  one_more : (before : List ℕ) (u : ℕ) (from state next : State) → (terms_on call f terms before from).answer ≡ Ok state
      → (term_on call f state u (slice_get terms u)).answer ≡ Ok next
      → (terms_on call f terms (before ++ u ∷ []) from).answer ≡ Ok next
  unfolding terms_on
  one_more [] u from state next h k =
      one_term u from next (subst (λ s. (term_on call f s u (slice_get terms u)).answer ≡ Ok next) (sym (same_state from state h)) k)
  one_more (v ∷ before) u from state next h k =
      let p = passed (term_on call f from v (slice_get terms v)) _ state h in
      bind_ok (term_on call f from v (slice_get terms v)) _ p.value p.first ∙ one_more before u p.value state next p.rest k

-- ---- symbols of a term

contains_first : {X : Type 0} (x : X) (xs : List X) → Contains (x ∷ xs) x
contains_first x xs = Contains-append_left (x ∷ []) xs x (zero, omega arith, refl)

module _ (P Q : Sym → Type 0) where
  cases_with : (cases : List (CoreExpr × CoreSlot)) → ((one : Sym) → Contains (flat_map (λ c. c.1.sym ∷ []) cases) one → P one → Q one)
      → AllByRecursion (λ c. P c.1.sym) cases → AllByRecursion (λ c. Q c.1.sym) cases
  cases_with [] h k = tt
  cases_with (c ∷ cases) h k =
      (h c.1.sym (contains_first c.1.sym _) k.0, cases_with cases (λ one m. h one (Contains-append_right (c.1.sym ∷ []) _ one m)) k.1)

  each_with : (term : CoreTerm) → ((one : Sym) → Contains (term_syms term) one → P one → Q one) → EachSym P term → EachSym Q term
  each_with (Slot slot) h k = h slot.sym (contains_first slot.sym []) k
  each_with (Set attr e) h k = tt
  each_with (Test e) h k = tt
  each_with (Repeat first last item from to) h k = h item (contains_first item []) k
  each_with (Many item from to) h k = h item (contains_first item []) k
  each_with (Pick cases other) h k = (
    cases_with cases (λ one m. h one (Contains-append_left _ (other.sym ∷ []) one m)) k.0,
    h other.sym (Contains-append_right (flat_map (λ c. c.1.sym ∷ []) cases) _ other.sym (contains_first other.sym [])) k.1,
  )

-- ---- the calls of an alternative

module _ (call : Call) (calls : WithinCalls call) (f : Frame) where
  abbrev FitsHere : Asked → Type 0
  FitsHere = AskedFits f.grammar f.bytes

  -- a call of the symbol with these own attributes fits, whatever its interval
  abbrev SymFits : Values → Sym → Type 0
  SymFits own (Rule callee) = (from to : ℕ) → IsInterval (length f.bytes) from to
      → Fits f.grammar callee (part f.bytes from to) (outer_for f own (holder_of (rule_at f.grammar callee)))
  SymFits own (Text token) = Unit {0}
  SymFits own (Prim prim) = Unit {0}

  value_asks : (state : State) (item : Option ℤ) (e : CoreExpr) → Asks FitsHere (value_in f state item e)
  unfolding value_in
  value_asks state item e = asks_value (eval e (environment f state item))

  token_asks : (from to : ℕ) (bytes token : List ℕ) → Asks FitsHere (token_on from to bytes token)
  unfolding token_on
  token_asks from to bytes token = asks_chosen _ _ _ (asks_finish _) (asks_stop NoTree)

  number_asks : (from to : ℕ) (bytes : List ℕ) (prim : Primitive) → Asks FitsHere (number_on from to bytes prim)
  unfolding number_on
  number_asks from to bytes prim = asks_chosen _ _ _ (asks_stop NoTree) (asks_finish _)

  primitive_asks : (from to : ℕ) (bytes : List ℕ) (prim : Primitive) → Asks FitsHere (primitive_on from to bytes prim)
  primitive_asks from to bytes Bytes = asks_finish _
  primitive_asks from to bytes prim = number_asks from to bytes prim

  call_asks : (p : Place) (callee from to : ℕ) (outer : Values) → IsInterval (length f.bytes) from to → Fits f.grammar callee (part f.bytes from to) outer
      → Asks FitsHere (ask call f p callee from to outer)
  unfolding ask
  call_asks p callee from to outer i h = record { each = (record { valid = i.valid; inside = i.inside; fits = h }, tt) }

  symbol_asks : (p : Place) (own : Values) (from to : ℕ) (one : Sym) → SymFits own one → IsInterval (length f.bytes) from to
      → Asks FitsHere (symbol_on call f p own from to one)
  symbol_asks p own from to (Text token) h i = token_asks from to _ token
  symbol_asks p own from to (Prim prim) h i = primitive_asks from to _ prim
  symbol_asks p own from to (Rule callee) h i = asks_bind _ _ (call_asks p callee from to _ i (h from to i)) (λ tree _. asks_finish _)

  slot_asks : (p : Place) (state : State) (item : Option ℤ) (slot : CoreSlot) → SymFits state.own slot.sym → Asks FitsHere (slot_on call f p state item slot)
  unfolding slot_on
  slot_asks p state item slot h =
      asks_bind _ _ (value_asks state item slot.from) (λ from _.
      asks_bind _ _ (value_asks state item slot.to) (λ to _.
      asks_bind _ _ (asks_some (interval (length f.bytes) from to)) (λ ends e.
      symbol_asks p state.own ends.0 ends.1 slot.sym h (valid _ from to ends.0 ends.1 ((yields_some (interval (length f.bytes) from to)).holds ends e)))))

  items_ask : (term : ℕ) (state : State) (slot : CoreSlot) (n : ℕ) (i : ℤ) (items : List Kid) → SymFits state.own slot.sym
      → Asks FitsHere (items_on call f term state slot n i items)
  unfolding items_on with_kid
  items_ask term state slot zero i items h = asks_finish items
  items_ask term state slot (suc n) i items h =
      asks_bind _ _ (slot_asks _ _ (Some i) slot h) (λ item _. items_ask term state slot n (i +ℤ pos 1) (items ++ item ∷ []) h)

  item_asks : (p : Place) (own : Values) (from to : ℕ) (one : Sym) → SymFits own one → IsInterval (length f.bytes) from to
      → Asks FitsHere (item_on call f p own from to one)
  unfolding item_on
  item_asks p own from to one h i =
      asks_bind _ _ (asks_some (item_end from to one)) (λ end e.
      symbol_asks p own from end one h (item_interval from end to one i ((yields_some (item_end from to one)).holds end e)).0)

  many_asks : (p : Place) (own : Values) (one : Sym) → SymFits own one → (n from to : ℕ) (items : List Kid) → IsInterval (length f.bytes) from to
      → Asks FitsHere (many_on call f p own one n from to items)
  unfolding many_on
  many_asks p own one h zero from to items i = asks_finish items
  many_asks p own one h (suc n) from to items i =
      asks_kept _ items _ (item_asks p own from to one h i) (λ item e.
      let on = (item_yields call calls f p own from to one i).holds item e in
      many_asks p own one h n (ends_of item).end to (items ++ item ∷ []) (record { valid = on.ends; inside = i.inside }))

  pick_asks : (p : Place) (state : State) (cases : List (CoreExpr × CoreSlot)) (other : CoreSlot) → AllByRecursion (λ c. SymFits state.own c.1.sym) cases
      → SymFits state.own other.sym → Asks FitsHere (pick_on call f p state cases other)
  unfolding pick_on
  pick_asks p state [] other h k = slot_asks p state None other k
  pick_asks p state (c ∷ cases) other h k =
      asks_bind _ _ (value_asks state None c.0) (λ x _.
      asks_chosen (is_zero x) _ _ (pick_asks (record p { branch = p.branch + 1 }) state cases other h.1 k) (slot_asks p state None c.1 h.0))

  repetition_asks : (p : Place) (state : State) (slot : CoreSlot) → SymFits state.own slot.sym → Asks FitsHere (repetition_on call f p state slot)
  unfolding repetition_on
  repetition_asks p state slot h =
      asks_bind _ _ (value_asks state None slot.from) (λ l _.
      asks_bind _ _ (value_asks state None slot.to) (λ r _.
      asks_bind _ _ (asks_some (interval (length f.bytes) l r)) (λ ends e.
      many_asks p state.own slot.sym h (turns ends.0 ends.1) ends.0 ends.1 []
      (valid _ l r ends.0 ends.1 ((yields_some (interval (length f.bytes) l r)).holds ends e)))))

  term_asks : (state : State) (u : ℕ) (term : CoreTerm) → EachSym (SymFits state.own) term → Asks FitsHere (term_on call f state u (Some term))
  term_asks state u (Slot slot) h = asks_bind _ _ (slot_asks _ state None slot h) (λ kid _. asks_finish _)
  term_asks state u (Set attr e) h = asks_bind _ _ (value_asks state None e) (λ z _. asks_finish _)
  term_asks state u (Test e) h = asks_bind _ _ (value_asks state None e) (λ z _. asks_chosen (is_zero z) _ _ (asks_stop NoTree) (asks_finish _))
  term_asks state u (Repeat first last item from to) h =
      asks_bind _ _ (value_asks state None first) (λ a _.
      asks_bind _ _ (value_asks state None last) (λ b _.
      asks_bind _ _ (items_ask u state (record { sym = item; from = from; to = to }) (times (b -ℤ a)) a [] h) (λ items _. asks_finish _)))
  term_asks state u (Many item from to) h = asks_bind _ _ (repetition_asks _ state _ h) (λ items _. asks_finish _)
  term_asks state u (Pick cases other) h = asks_bind _ _ (pick_asks _ state cases other h.0 h.1) (λ kid _. asks_finish _)

-- ---- what a called rule is grown by

same_pair : (a b : ℕ × ℕ) → same_place a b ≡ true → a ≡ b
same_pair (a, b) (c, d) e =
    let parts = and_parts (nat_eq a c) (nat_eq b d) e in
    let p : a ≡ c = let t = parts.0 in grind (arith, nat_tests) in
    let q : b ≡ d = let t = parts.1 in grind (arith, nat_tests) in
    ap (λ x. (x, b)) p ∙ ap (λ y. (c, y)) q

same_refl : (a : ℕ × ℕ) → same_place a a ≡ true
same_refl (a, b) = let p : nat_eq a a ≡ true = grind (arith, nat_tests) in let q : nat_eq b b ≡ true = grind (arith, nat_tests) in rw (p, q) refl

got_contains : {X : Type 0} (xs : List X) (k : ℕ) (x : X) → slice_get xs k ≡ Some x → Contains xs x
got_contains xs k x e = (k, slice_get_within xs k x e, sym (unwrap_or-slice_get xs k x) ∙ ap (λ o. unwrap_or o x) e)

-- the same, asked on a shorter part
on_shorter : (g : Grammar) (holder : ℕ × ℕ) (callee : ℕ) (s t : List ℕ) (own : Values) → length t ≤ length s → ComesTo g holder callee s own
    → ComesTo g holder callee t own
on_shorter g holder callee s t own le c = record {
  rule = c.rule;
  alt = c.alt;
  at = c.at;
  part = c.part;
  input = c.input;
  longer = let a = c.longer in omega arith;
  before = c.before;
  at_hand = c.at_hand;
  behind = c.behind;
  splits = c.splits;
  height = c.height;
  state = c.state;
  came = c.came;
  attributes = c.attributes;
  term = c.term;
  is_term = c.is_term;
  calls = c.calls;
  is_local = c.is_local;
}

-- an alternative of a rule that was asked what fits, and how far it has come
record Here (g : Grammar) (h : ℕ) (f : Frame) (rule : CoreRule) (alt : CoreAlt) : Type 0 where
  same : f.grammar ≡ g
  good : Good g
  fits : Fits g f.rule f.bytes f.outer
  at : AltAt g rule alt (f.rule, f.alt)

record Came (g : Grammar) (h : ℕ) (f : Frame) (alt : CoreAlt) (u : ℕ) (term : CoreTerm) (state : State) : Type 0 where
  before : List ℕ
  behind : List ℕ
  splits : alt.order ≡ before ++ u ∷ behind
  came : (terms_on (den g h) f alt.terms before (start (length alt.terms))).answer ≡ Ok state
  is_term : slice_get alt.terms u ≡ Some term

module _ (g : Grammar) (h : ℕ) (f : Frame) (rule : CoreRule) (alt : CoreAlt) (here : Here g h f rule alt) (u : ℕ) (term : CoreTerm) (state : State)
    (came : Came g h f alt u term state) where
  abbrev place : ℕ × ℕ
  place = (f.rule, f.alt)

  abbrev frame : Grammar → Values → Frame
  frame gr out = record { grammar = gr; rule = f.rule; alt = f.alt; bytes = f.bytes; outer = out }

  rule_holder : holder_of (rule_at g f.rule) ≡ rule.holder
  rule_holder = ap holder_of here.at.is_rule

  -- a holder is a rule of no holder
  no_outer : (callee : ℕ) → holder_of (rule_at g callee) ≡ Some place → f.outer ≡ []
  no_outer callee e =
      let global = here.good.well_formed.holders callee place e in
      let none : holder_of (rule_at g f.rule) ≡ None = ap holder_of global.2.is_rule ∙ global.3 in
      subst (λ o. GrownUnder g o f.rule f.bytes f.outer) none here.fits.grown

  mine : (callee from to : ℕ) → IsInterval (length f.bytes) from to → Contains (term_syms term) (Rule callee) → holder_of (rule_at g callee) ≡ Some place
      → GrownLocal g place callee (part f.bytes from to) state.own
  mine callee from to i calls e = record {
    called = callee;
    comes = record {
      rule = rule;
      alt = alt;
      at = here.at;
      part = f.bytes;
      input = here.fits.input;
      longer = let a = part_length f.bytes from to i in let b = i.inside in omega arith;
      before = came.before;
      at_hand = u;
      behind = came.behind;
      splits = came.splits;
      height = h;
      state = state;
      came = subst (λ out. (terms_on (den g h) (frame g out) alt.terms came.before (start (length alt.terms))).answer ≡ Ok state) (no_outer callee e)
          (subst (λ gr. (terms_on (den g h) (frame gr f.outer) alt.terms came.before (start (length alt.terms))).answer ≡ Ok state) here.same came.came);
      attributes = refl;
      term = term;
      is_term = came.is_term;
      calls = calls;
      is_local = e;
    };
    leads = itself;
  }

  theirs : (callee from to : ℕ) (holder : ℕ × ℕ) → IsInterval (length f.bytes) from to → Contains (term_syms term) (Rule callee)
      → holder_of (rule_at g callee) ≡ Some holder → rule.holder ≡ Some holder
      → GrownLocal g holder callee (part f.bytes from to) f.outer
  theirs callee from to holder i calls e k =
      let grown = subst (λ o. GrownUnder g o f.rule f.bytes f.outer) (rule_holder ∙ k) here.fits.grown in
      let of : TermOf g f.rule term = record {
        rule = rule;
        alt = alt;
        is_rule = here.at.is_rule;
        is_alt = got_contains rule.alts f.alt alt here.at.is_alt;
        is_term = got_contains alt.terms u term came.is_term;
      } in
      record {
        called = grown.called;
        comes = on_shorter g holder grown.called f.bytes (part f.bytes from to) f.outer
            (let a = part_length f.bytes from to i in let b = i.inside in omega arith) grown.comes;
        leads = further f.rule callee term grown.leads of calls e;
      }

  one_of : (callee from to : ℕ) (holder : ℕ × ℕ) (b : Bool) → same_place holder place ≡ b → IsInterval (length f.bytes) from to
      → Contains (term_syms term) (Rule callee) → holder_of (rule_at g callee) ≡ Some holder
      → MayCall place rule.holder (Some holder) → GrownLocal g holder callee (part f.bytes from to) (if b then state.own else f.outer)
  one_of callee from to holder true t i calls e may =
      let same = same_pair holder place t in
      subst (λ p. GrownLocal g p callee (part f.bytes from to) state.own) (sym same) (mine callee from to i calls (e ∙ ap Some same))
  one_of callee from to holder false t i calls e (inl same) = absurd (true≢false (sym (ap (λ p. same_place p place) same ∙ same_refl place) ∙ t))
  one_of callee from to holder false t i calls e (inr k) = theirs callee from to holder i calls e k

  grown_by : (callee from to : ℕ) (o : Option (ℕ × ℕ)) → holder_of (rule_at g callee) ≡ o → IsInterval (length f.bytes) from to
      → Contains (term_syms term) (Rule callee) → MayCall place rule.holder o
      → GrownUnder g o callee (part f.bytes from to) (outer_for f state.own o)
  grown_by callee from to None e i calls may = refl
  grown_by callee from to (Some holder) e i calls may = one_of callee from to holder _ refl i calls e may

  -- a symbol of the term
  sym_fits : (one : Sym) → Contains (term_syms term) one → IsCallable g place rule.holder one → SymFits (den g h) (den_within g h) f state.own one
  sym_fits (Text token) m c = tt
  sym_fits (Prim prim) m c = tt
  sym_fits (Rule callee) m c = λ from to i.
      subst (λ gr. Fits gr callee (part f.bytes from to) (outer_for f state.own (holder_of (rule_at gr callee)))) (sym here.same)
      (record { rule = c.0; input = part_input f.bytes from to i here.fits.input; grown = grown_by callee from to _ refl i m c.1 })

  each_fits : EachSym (SymFits (den g h) (den_within g h) f state.own) term
  each_fits =
      each_with (IsCallable g place rule.holder) _ term sym_fits
      ((here.good.well_formed.alts place rule alt here.at).terms u term came.is_term).syms

-- terms, alternatives and rules

module _ (g : Grammar) (h : ℕ) (f : Frame) (rule : CoreRule) (alt : CoreAlt) (here : Here g h f rule alt) where
  abbrev FitHere : Asked → Type 0
  FitHere = FitsHere (den g h) (den_within g h) f

  one_asks : (before behind : List ℕ) (u : ℕ) (term : Option CoreTerm) (state : State) → alt.order ≡ before ++ u ∷ behind
      → (terms_on (den g h) f alt.terms before (start (length alt.terms))).answer ≡ Ok state → slice_get alt.terms u ≡ term
      → Asks FitHere (term_on (den g h) f state u term)
  one_asks before behind u None state splits came e = asks_stop NoTree
  one_asks before behind u (Some term) state splits came e =
      term_asks (den g h) (den_within g h) f state u term
      (each_fits g h f rule alt here u term state (record { before = before; behind = behind; splits = splits; came = came; is_term = e }))

  terms_ask : (before order : List ℕ) (state : State) → alt.order ≡ before ++ order
      → (terms_on (den g h) f alt.terms before (start (length alt.terms))).answer ≡ Ok state → Asks FitHere (terms_on (den g h) f alt.terms order state)
  unfolding terms_on
  terms_ask before [] state splits came = asks_finish state
  terms_ask before (u ∷ order) state splits came =
      asks_bind _ _ (one_asks before order u (slice_get alt.terms u) state splits came refl) (λ next e.
      terms_ask (before ++ u ∷ []) order next (splits ∙ sym (append_assoc before (u ∷ []) order))
      (one_more (den g h) f alt.terms before u (start (length alt.terms)) state next came e))

  first_state : (terms_on (den g h) f alt.terms [] (start (length alt.terms))).answer ≡ Ok (start (length alt.terms))
  unfolding terms_on finish
  first_state = refl

  alt_asks : Asks FitHere (alt_on (den g h) f alt)
  unfolding alt_on
  alt_asks = asks_bind _ _ (terms_ask [] alt.order (start (length alt.terms)) refl first_state) (λ state _. asks_finish _)

-- the alternatives from the one at hand on
abbrev AreAlts : Grammar → CoreRule → ℕ → ℕ → List CoreAlt → Type 0
AreAlts g rule r a alts = (k : ℕ) (alt : CoreAlt) → slice_get alts k ≡ Some alt → AltAt g rule alt (r, a + k)

alts_ask : (g : Grammar) (h : ℕ) (f : Frame) (rule : CoreRule) (alts : List CoreAlt) → f.grammar ≡ g → Good g → Fits g f.rule f.bytes f.outer
    → AreAlts g rule f.rule f.alt alts
    → Asks (AskedFits f.grammar f.bytes) (alts_on (den g h) f alts)
unfolding alts_on
alts_ask g h f rule [] same good fits at = asks_stop NoTree
alts_ask g h f rule (alt ∷ alts) same good fits at =
    let first : f.alt + 0 ≡ f.alt = omega arith in
    asks_else _ _
    (alt_asks g h f rule alt (record { same = same; good = good; fits = fits; at = subst (λ k. AltAt g rule alt (f.rule, k)) first (at zero alt refl) }))
    (alts_ask g h (record f { alt = f.alt + 1 }) rule alts same good fits
    (λ k other e. subst (λ n. AltAt g rule other (f.rule, n)) (let next : f.alt + suc k ≡ (f.alt + 1) + k = omega arith in next) (at (suc k) other e)))

rule_asks : (g : Grammar) (h : ℕ) (f : Frame) (rule : Option CoreRule) → f.grammar ≡ g → f.alt ≡ 0 → rule_at g f.rule ≡ rule → Good g
    → Fits g f.rule f.bytes f.outer → Asks (AskedFits f.grammar f.bytes) (rule_run (den g h) f rule)
rule_asks g h f None same first e good fits = asks_stop NoTree
rule_asks g h f (Some rule) same first e good fits =
    alts_ask g h f rule rule.alts same good fits
    (λ k alt q. record { is_rule = e; is_alt = subst (λ n. slice_get rule.alts n ≡ Some alt) (let s : k ≡ f.alt + k = omega arith in s) q })

pub asks_what_fits : AsksWhatFits
unfolding rule_on
asks_what_fits g h r s outer good fits =
    (rule_asks g h (record { grammar = g; rule = r; alt = 0; bytes = s; outer = outer }) (rule_at g r) refl refl refl good fits).each
