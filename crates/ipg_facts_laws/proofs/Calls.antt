-- A term that asks on the whole part makes its call there.
use Rattle.std.proofs.Common.{◌≡◌, ℕ, zero, suc, ◌+◌, ◌<◌, refl, sym, ap, subst, if◌then◌else◌, ◌∙◌, arith, Bool, true, false, List, [], ◌∷◌, ◌++◌}
use Rattle.std.proofs.Common.{Option, Some, None, Result, Ok, Err, length, ℤ, pos, negsuc, ◌≤ℤ◌, ◌<ℤ◌, ◌+ℤ◌, ◌-ℤ◌}
use Rattle.std.specs.Prelude.{Contains}
use Rattle.std.specs.List.{AllByRecursion}
use Rattle.std.proofs.lemmas.Bool.{ltb-true}
use Rattle.ipg_num.specs.declared.op.Answer.TheVariants.{Val}
use Rattle.ipg_core.specs.declared.grammar.Sym.{Sym}
use Rattle.ipg_core.specs.declared.grammar.Sym.TheVariants.{Text, Prim, Rule}
use Rattle.ipg_core.specs.declared.grammar.CoreExpr.{CoreExpr}
use Rattle.ipg_core.specs.declared.grammar.CoreSlot.{CoreSlot}
use Rattle.ipg_core.specs.Part.{interval}
use Rattle.ipg_core.specs.Tree.{Kid, Array, kids_of}
use Rattle.ipg_core.specs.Environment.{Values}
use Rattle.ipg_core.specs.Eval.{eval, is_zero}
use Rattle.ipg_core.specs.Run.{Stop, NoTree, OutOfRange, Deep, Asked, Run, finish, after}
use Rattle.ipg_core.specs.Meaning.{kept, den, Call, Frame, State, Place, environment, value_in, ask, with_kid, token_on, number_on, primitive_on}
use Rattle.ipg_core.specs.Meaning.{symbol_on, slot_on, pick_on, item_end, item_on, many_on, repetition_on, times, items_on, term_on}
use Rattle.ipg_core.specs.declared.grammar.Primitive.{Primitive}
use Rattle.ipg_core.specs.declared.grammar.Primitive.TheVariants.{Bytes}
use Rattle.ipg_facts_laws.proofs.Asks.{Asks, asks_finish, asks_stop, asks_value, asks_some, asks_after, asks_bind, asks_chosen}
use Rattle.ipg_core.specs.Touch.{touches, ends_of}
use Rattle.ipg_core.specs.declared.grammar.CoreTerm.{CoreTerm}
use Rattle.ipg_core.specs.declared.grammar.CoreTerm.TheVariants.{Slot, Set, Test, Repeat, Many, Pick}
use Rattle.std.proofs.lemmas.Int.{ints}
use Rattle.ipg_facts_laws.proofs.Runs.{finish_is, some_is, in_state, went, goes, AreEnds, ends_are}
use Rattle.ipg_facts_laws.specs.Reached.{ItemCalls, CallsAt, frame_of}
use Rattle.ipg_facts_laws.specs.Laws.{EdgesCall}
use Rattle.ipg_facts_laws.specs.Ran.{IsWholeCall, TakesWhole}

-- the call on an interval, from a place
record Allows (Q : Asked → Type 0) (p : Place) (from to : ℕ) : Type 0 where
  each : (asked : Asked) → asked.branch ≡ p.branch → asked.from ≡ from → asked.to ≡ to → Q asked

-- a call on the whole part is of a slot whose interval that is
record SlotAllows (f : Frame) (Q : Asked → Type 0) (p : Place) (state : State) (item : Option ℤ) (slot : CoreSlot) : Type 0 where
  each : (asked : Asked) → asked.branch ≡ p.branch
      → (asked.from ≡ 0 → asked.to ≡ length f.bytes → IsWholeCall (environment f state item) slot.from slot.to) → Q asked

-- what a switch allows whose first branch is the place's
record PickAllows (f : Frame) (Q : Asked → Type 0) (p : Place) (state : State) (cases : List (CoreExpr × CoreSlot)) (other : CoreSlot) : Type 0 where
  each : (asked : Asked) (b : ℕ) → asked.branch ≡ p.branch + b
      → (asked.from ≡ 0 → asked.to ≡ length f.bytes → TakesWhole (environment f state None) cases other b) → Q asked

chosen_by : {A : Type 0} {Q : Asked → Type 0} (b : Bool) (x y : Run A) → (b ≡ true → Asks Q x) → (b ≡ false → Asks Q y) → Asks Q (if b then x else y)
chosen_by true x y h k = h refl
chosen_by false x y h k = k refl

the_end : (to end : ℕ) → Some to ≡ Some end → to ≡ end
the_end to end e = cc

-- what a repetition allows whose next item starts there
record ManyAllows (Q : Asked → Type 0) (p : Place) (from to : ℕ) : Type 0 where
  each : (asked : Asked) → asked.branch ≡ p.branch → (asked.from ≡ 0 → from ≡ 0) → asked.to ≡ to → Q asked

-- behind an item that touches a byte no call is on the whole part
behind : {Q : Asked → Type 0} (p : Place) (from to : ℕ) (kid : Kid) → touches (ends_of kid) ≡ true → ManyAllows Q p from to
    → ManyAllows Q p (ends_of kid).end to
behind p from to kid t h =
    let a : (ends_of kid).start < (ends_of kid).end = ltb-true _ _ t in
    record { each = λ asked b l r. h.each asked b (λ z. let e = l z in absurd (omega (arith, a, e))) r }

kept_go : {Q : Asked → Type 0} (answer : Result Kid Stop) (items : List Kid) (go : ℕ → List Kid → Run (List Kid))
    → ((item : Kid) → touches (ends_of item) ≡ true → Asks Q (go (ends_of item).end (items ++ item ∷ []))) → Asks Q (kept answer items go)
unfolding kept
kept_go (Ok item) items go k = chosen_by (touches (ends_of item)) _ _ (λ t. k item t) (λ t. asks_finish items)
kept_go (Err NoTree) items go k = asks_finish items
kept_go (Err OutOfRange) items go k = asks_stop OutOfRange
kept_go (Err Deep) items go k = asks_stop Deep

kept_asks : {Q : Asked → Type 0} (item : Run Kid) (items : List Kid) (go : ℕ → List Kid → Run (List Kid)) → Asks Q item
    → ((one : Kid) → touches (ends_of one) ≡ true → Asks Q (go (ends_of one).end (items ++ one ∷ []))) → Asks Q (after item.asked (kept item.answer items go))
kept_asks item items go h k = asks_after item.asked _ h.each (kept_go item.answer items go k)

-- what the items of an array from a to b allow
record ItemsAllow (call : Call) (f : Frame) (Q : Asked → Type 0) (term : ℕ) (state : State) (slot : CoreSlot) (a b : ℤ) : Type 0 where
  each : (asked : Asked) → asked.branch ≡ 0 → (asked.from ≡ 0 → asked.to ≡ length f.bytes → ItemCalls call f state term slot a b) → Q asked

-- n items are left from i on
record AreLeft (a b i : ℤ) (n : ℕ) : Type 0 where
  begun : a ≤ℤ i
  ends : 0 < n → (i +ℤ pos n) ≤ℤ b

next_left : (a b i : ℤ) (n : ℕ) → AreLeft a b i (suc n) → AreLeft a b (i +ℤ pos 1) n
next_left a b i n h =
    let k = h.begun in let m = h.ends (omega arith) in
    record { begun = omega (arith, ints); ends = λ _. omega (arith, ints) }

is_turn : (a b i : ℤ) (n : ℕ) → AreLeft a b i (suc n) → i <ℤ b
is_turn a b i n h = let m = h.ends (omega arith) in omega (arith, ints)

all_left : (a b d : ℤ) → (b -ℤ a) ≡ d → AreLeft a b a (times d)
all_left a b (pos n) e = record { begun = omega (arith, ints); ends = λ _. omega (arith, ints) }
all_left a b (negsuc n) e = record { begun = omega (arith, ints); ends = λ z. absurd (omega arith) }

-- ---- the items before one

module _ (call : Call) (f : Frame) (term : ℕ) (state : State) (slot : CoreSlot) where
  abbrev behind_items : List Kid → State
  behind_items items = with_kid state term false (Array slot.sym (kids_of items))

  abbrev item_at : ℤ → List Kid → Run Kid
  item_at i items = slot_on call f (record { term = term; branch = 0 }) (behind_items items) (Some i) slot

  one_item : (i : ℤ) (items : List Kid) (k : Kid) → (item_at i items).answer ≡ Ok k
      → (items_on call f term state slot 1 i items).answer ≡ Ok (items ++ k ∷ [])
  unfolding items_on finish
  one_item i items k e = goes (item_at i items) _ k e

  -- one item more
  item_more : (n : ℕ) (i : ℤ) (first items : List Kid) (k : Kid) → (items_on call f term state slot n i first).answer ≡ Ok items
      → (item_at (i +ℤ pos n) items).answer ≡ Ok k → (items_on call f term state slot (suc n) i first).answer ≡ Ok (items ++ k ∷ [])
  unfolding items_on
  item_more zero i first items k h e =
      let same : first ≡ items = finish_is first items h in
      let turn : i +ℤ pos 0 ≡ i = omega (arith, ints) in
      subst (λ is. (items_on call f term state slot 1 i is).answer ≡ Ok (items ++ k ∷ [])) (sym same)
      (one_item i items k (subst (λ j. (item_at j items).answer ≡ Ok k) turn e))
  item_more (suc n) i first items k h e =
      let w = went (item_at i first) _ items h in
      let turn : i +ℤ pos (suc n) ≡ (i +ℤ pos 1) +ℤ pos n = omega (arith, ints) in
      goes (item_at i first) _ w.value w.first
      ∙ item_more n (i +ℤ pos 1) (first ++ w.value ∷ []) items k w.rest (subst (λ j. (item_at j items).answer ≡ Ok k) turn e)

  -- these are the items of the turns from a to i
  record AreBefore (a i : ℤ) (items : List Kid) : Type 0 where
    count : ℕ
    is_turn : a +ℤ pos count ≡ i
    came : (items_on call f term state slot count a []).answer ≡ Ok items

  none_before : (a : ℤ) → AreBefore a a []
  unfolding items_on finish
  none_before a = record { count = 0; is_turn = omega (arith, ints); came = refl }

  more_before : (a i : ℤ) (items : List Kid) (k : Kid) → AreBefore a i items → (item_at i items).answer ≡ Ok k → AreBefore a (i +ℤ pos 1) (items ++ k ∷ [])
  more_before a i items k h e = record {
    count = suc h.count;
    is_turn = let t = h.is_turn in omega (arith, ints);
    came = item_more h.count a [] items k h.came (subst (λ j. (item_at j items).answer ≡ Ok k) (sym h.is_turn) e);
  }

module _ (call : Call) (f : Frame) (Q : Asked → Type 0) where
  token_asks : (from to : ℕ) (bytes token : List ℕ) → Asks Q (token_on from to bytes token)
  unfolding token_on
  token_asks from to bytes token = asks_chosen _ _ _ (asks_finish _) (asks_stop NoTree)

  number_asks : (from to : ℕ) (bytes : List ℕ) (prim : Primitive) → Asks Q (number_on from to bytes prim)
  unfolding number_on
  number_asks from to bytes prim = asks_chosen _ _ _ (asks_stop NoTree) (asks_finish _)

  primitive_asks : (from to : ℕ) (bytes : List ℕ) (prim : Primitive) → Asks Q (primitive_on from to bytes prim)
  primitive_asks from to bytes Bytes = asks_finish _
  primitive_asks from to bytes prim = number_asks from to bytes prim

  call_asks : (p : Place) (callee from to : ℕ) (outer : Values) → Allows Q p from to → Asks Q (ask call f p callee from to outer)
  unfolding ask
  call_asks p callee from to outer h = record { each = (h.each _ refl refl refl, tt) }

  symbol_asks : (p : Place) (own : Values) (from to : ℕ) (one : Sym) → Allows Q p from to → Asks Q (symbol_on call f p own from to one)
  symbol_asks p own from to (Text token) h = token_asks from to _ token
  symbol_asks p own from to (Prim prim) h = primitive_asks from to _ prim
  symbol_asks p own from to (Rule callee) h = asks_bind _ _ (call_asks p callee from to _ h) (λ tree _. asks_finish _)

  value_asks : (state : State) (item : Option ℤ) (e : CoreExpr) → Asks Q (value_in f state item e)
  unfolding value_in
  value_asks state item e = asks_value _

  is_whole : (state : State) (item : Option ℤ) (slot : CoreSlot) (from to : ℤ) (ends : ℕ × ℕ)
      → eval slot.from (environment f state item) ≡ Val from → eval slot.to (environment f state item) ≡ Val to
      → AreEnds (length f.bytes) from to ends → ends.0 ≡ 0 → ends.1 ≡ length f.bytes → IsWholeCall (environment f state item) slot.from slot.to
  unfolding environment
  is_whole state item slot from to ends h k ends_are l r =
      record { is_left = h ∙ ap Val (ends_are.left ∙ ap pos l); is_right = k ∙ ap Val (ends_are.right ∙ ap pos r) }

  slot_asks : (p : Place) (state : State) (item : Option ℤ) (slot : CoreSlot) → SlotAllows f Q p state item slot → Asks Q (slot_on call f p state item slot)
  unfolding slot_on
  slot_asks p state item slot h =
      asks_bind _ _ (value_asks state item slot.from) (λ from e.
      asks_bind _ _ (value_asks state item slot.to) (λ to k.
      asks_bind _ _ (asks_some (interval (length f.bytes) from to)) (λ ends i.
      symbol_asks p state.own ends.0 ends.1 slot.sym (record {
        each = λ asked b l r. h.each asked b (λ first last.
            is_whole state item slot from to ends (in_state f state item slot.from from e) (in_state f state item slot.to to k)
            (ends_are _ from to ends (some_is _ ends i)) (sym l ∙ first) (sym r ∙ last));
      }))))

  pick_asks : (p : Place) (state : State) (cases : List (CoreExpr × CoreSlot)) (other : CoreSlot) → PickAllows f Q p state cases other
      → Asks Q (pick_on call f p state cases other)
  unfolding pick_on
  pick_asks p state [] other h = slot_asks p state None other (record { each = λ asked b k. h.each asked 0 (omega (arith, b)) k })
  pick_asks p state (c ∷ cases) other h =
      asks_bind _ _ (value_asks state None c.0) (λ x e.
      let is = in_state f state None c.0 x e in
      chosen_by (is_zero x) _ _ (λ z. pick_asks (record p { branch = p.branch + 1 }) state cases other
      (record { each = λ asked b at k. h.each asked (suc b) (omega (arith, at)) (λ from to. (x, is, z, k from to)) }))
      (λ z. slot_asks p state None c.1 (record { each = λ asked at k. h.each asked 0 (omega (arith, at)) (λ from to. (x, is, z, k from to)) })))

  -- an item of a repetition that is a call goes to the end
  to_end_asks : (p : Place) (own : Values) (from to end : ℕ) (one : Sym) → item_end from to one ≡ Some end → Allows Q p from to
      → Asks Q (symbol_on call f p own from end one)
  to_end_asks p own from to end (Text token) e h = token_asks from end _ token
  to_end_asks p own from to end (Prim prim) e h = primitive_asks from end _ prim
  to_end_asks p own from to end (Rule callee) e h =
      symbol_asks p own from end (Rule callee) (record { each = λ asked b l r. h.each asked b l (r ∙ sym (the_end to end e)) })

  item_asks : (p : Place) (own : Values) (from to : ℕ) (one : Sym) → Allows Q p from to → Asks Q (item_on call f p own from to one)
  unfolding item_on
  item_asks p own from to one h = asks_bind _ _ (asks_some (item_end from to one)) (λ end e. to_end_asks p own from to end one (some_is _ end e) h)

  many_asks : (p : Place) (own : Values) (one : Sym) (n from to : ℕ) (items : List Kid) → ManyAllows Q p from to
      → Asks Q (many_on call f p own one n from to items)
  unfolding many_on
  many_asks p own one zero from to items h = asks_finish items
  many_asks p own one (suc n) from to items h =
      kept_asks {Q = Q} (item_on call f p own from to one) items _
      (item_asks p own from to one (record { each = λ asked b l r. h.each asked b (λ z. sym l ∙ z) r }))
      (λ kid t. many_asks p own one n (ends_of kid).end to (items ++ kid ∷ []) (behind p from to kid t h))

  repetition_asks : (p : Place) (state : State) (slot : CoreSlot) → SlotAllows f Q p state None slot → Asks Q (repetition_on call f p state slot)
  unfolding repetition_on
  repetition_asks p state slot h =
      asks_bind _ _ (value_asks state None slot.from) (λ from e.
      asks_bind _ _ (value_asks state None slot.to) (λ to k.
      asks_bind _ _ (asks_some (interval (length f.bytes) from to)) (λ ends i.
      many_asks p state.own slot.sym _ ends.0 ends.1 [] (record {
        each = λ asked b l r. h.each asked b (λ first last.
            is_whole state None slot from to ends (in_state f state None slot.from from e) (in_state f state None slot.to to k)
            (ends_are _ from to ends (some_is _ ends i)) (l first) (sym r ∙ last));
      }))))

  items_ask : (term : ℕ) (state : State) (slot : CoreSlot) (a b : ℤ) (n : ℕ) (i : ℤ) (items : List Kid) → AreLeft a b i n
      → AreBefore call f term state slot a i items → ItemsAllow call f Q term state slot a b → Asks Q (items_on call f term state slot n i items)
  unfolding items_on
  items_ask term state slot a b zero i items l before h = asks_finish items
  items_ask term state slot a b (suc n) i items l before h =
      asks_bind _ _ (slot_asks _ _ (Some i) slot (record {
        each = λ asked at k. h.each asked at (λ first last. record {
          count = before.count;
          items = items;
          came = before.came;
          turn = i;
          begun = l.begun;
          ends = is_turn a b i n l;
          whole = k first last;
        });
      }))
      (λ item e.
      items_ask term state slot a b n (i +ℤ pos 1) (items ++ item ∷ []) (next_left a b i n l) (more_before call f term state slot a i items item before e) h)

same_branch : (f : Frame) (state : State) (cases : List (CoreExpr × CoreSlot)) (other : CoreSlot) (b c : ℕ) → c ≡ 0 + b
    → TakesWhole (environment f state None) cases other b → TakesWhole (environment f state None) cases other c
same_branch f state cases other b c e h = let same : b ≡ c = omega (arith, e) in subst (λ n. TakesWhole (environment f state None) cases other n) same h

-- what a call of a term says of it
abbrev Says : Call → Frame → State → ℕ → CoreTerm → Asked → Type 0
Says call f state number term asked = asked.from ≡ 0 → asked.to ≡ length f.bytes → CallsAt call f state number asked.branch term

term_asks : (call : Call) (f : Frame) (state : State) (number : ℕ) (term : CoreTerm)
    → Asks (Says call f state number term) (term_on call f state number (Some term))
term_asks call f state number (Slot slot) =
    asks_bind _ _ (slot_asks call f _ _ state None slot (record { each = λ asked at k. k })) (λ kid _. asks_finish _)
term_asks call f state number (Set attr e) = asks_bind _ _ (value_asks call f _ state None e) (λ z _. asks_finish _)
term_asks call f state number (Test e) =
    asks_bind _ _ (value_asks call f _ state None e) (λ z _. asks_chosen (is_zero z) _ _ (asks_stop NoTree) (asks_finish state))
term_asks call f state number (Repeat first last item from to) =
    asks_bind _ _ (value_asks call f _ state None first) (λ a e.
    asks_bind _ _ (value_asks call f _ state None last) (λ b k.
    asks_bind _ _ (items_ask call f _ number state (record { sym = item; from = from; to = to }) a b _ a [] (all_left a b (b -ℤ a) refl)
    (none_before call f number state (record { sym = item; from = from; to = to }) a)
    (record {
      each = λ asked at m start end. (
        (a, b),
        in_state f state None first a e,
        in_state f state None last b k,
        m start end,
      );
    }))
    (λ items _. asks_finish _)))
term_asks call f state number (Many item from to) =
    asks_bind _ _ (repetition_asks call f _ _ state _ (record { each = λ asked at k. k })) (λ items _. asks_finish _)
term_asks call f state number (Pick cases other) =
    asks_bind _ _ (pick_asks call f _ _ state cases other
    (record { each = λ asked b at k start end. same_branch f state cases other b asked.branch at (k start end) })) (λ kid _. asks_finish _)

contained : {X : Type 0} (Q : X → Type 0) (xs : List X) (x : X) → AllByRecursion Q xs → Contains xs x → Q x
contained Q [] x h (k, lt, e) = absurd (omega (arith, lt))
contained Q (y ∷ ys) x h (zero, lt, e) = subst Q e h.0
contained Q (y ∷ ys) x h (suc k, lt, e) = contained Q ys x h.1 (k, omega (arith, lt), e)

pub edges_call : EdgesCall
edges_call g e s outer height reached =
    let f = frame_of g e s outer in
    let says = contained (Says (den g height) f reached.state e.term reached.term) _ reached.asked
    (term_asks (den g height) f reached.state e.term reached.term).each reached.asks in
    subst (λ b. CallsAt (den g height) f reached.state e.term b reached.term) reached.is_call.branch (says reached.is_call.from reached.is_call.to)
