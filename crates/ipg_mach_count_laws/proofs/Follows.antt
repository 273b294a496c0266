-- What holds of an open call by what its next move makes of it, holds by what its rule means and the calls that this makes.
use Rattle.std.proofs.Common.{◌≡◌, ℕ, zero, suc, ◌+◌, ◌≤◌, ◌+ℤ◌, ◌-ℤ◌, pos, ℤ, refl, sym, ap, ◌∙◌, subst, arith, append-nil, List, [], ◌∷◌, ◌++◌}
use Rattle.std.proofs.Common.{Option, Some, None, Result, Ok, Err, Bool, true, false, if◌then◌else◌, length, cond, negsuc}
use Rattle.std.specs.Prelude.{slice_get, nat_le, ◌&&◌}
use Rattle.std.proofs.lemmas.Bool.{leb-true, and_parts}
use Rattle.std.proofs.lemmas.List.{append_assoc, append_cancel_left, length-append}
use Rattle.ipg_num.specs.declared.op.Answer.{Answer}
use Rattle.ipg_num.specs.declared.op.Answer.TheVariants.{Val, Fail, Range}
use Rattle.ipg_core.specs.declared.grammar.Sym.{Sym}
use Rattle.ipg_core.specs.declared.grammar.CoreExpr.{CoreExpr}
use Rattle.ipg_core.specs.declared.grammar.CoreSlot.{CoreSlot}
use Rattle.ipg_core.specs.declared.grammar.CoreTerm.{CoreTerm}
use Rattle.ipg_core.specs.declared.grammar.CoreTerm.TheVariants.{Slot, Set, Test, Repeat, Many, Pick}
use Rattle.ipg_core.specs.declared.grammar.CoreAlt.{CoreAlt}
use Rattle.ipg_core.specs.declared.grammar.CoreRule.{CoreRule}
use Rattle.ipg_core.specs.Grammar.{Grammar, rule_at}
use Rattle.ipg_core.specs.Part.{interval}
use Rattle.ipg_core.specs.Tree.{Tree, Kid, Array, Many as Repetition, kids_of}
use Rattle.ipg_core.specs.Touch.{touches, ends_of}
use Rattle.ipg_core.specs.Environment.{Values}
use Rattle.ipg_core.specs.Eval.{eval, is_zero}
use Rattle.ipg_core.specs.Run.{Stop, NoTree, OutOfRange, Deep, Asked, Run, finish, stop, after, go_on, ◌>>=◌, or_next, or_else, value_of, some_of}
use Rattle.ipg_core.specs.Meaning.{Call, Frame, State, Place, start, with_kid, with_value, environment, value_in, slot_on, pick_on, items_on, times}
use Rattle.ipg_core.specs.Meaning.{item_on, kept, many_on, turns, repetition_on, term_on, terms_on, node_of, alt_on, alts_on, rule_run, rule_on, den}
use Rattle.ipg_core.specs.Laws.{TurnsSuffice}
use Rattle.ipg_mach_moves.specs.Moves.{Entry, Outside, Items, Turns, OpenCall, Highest, Works, Holds, lifted, advance, Advance, Inside, Past, array_on}
use Rattle.ipg_mach_moves.specs.Moves.{repeated, key_at, runs_on, begins, alts_of, turned, at_hand, opened}

pub value_asks : (a : Answer) → (value_of a).asked ≡ []
unfolding finish stop
value_asks (Val z) = refl
value_asks Fail = refl
value_asks Range = refl

pub some_asks : {A : Type 0} (found : Option A) → (some_of found).asked ≡ []
unfolding finish stop
some_asks None = refl
some_asks (Some a) = refl

some_is : {A : Type 0} (found : Option A) (a : A) → (some_of found).answer ≡ Ok a → found ≡ Some a
unfolding finish stop
some_is None a e = absurd (cc)
some_is (Some other) a e = let same : other ≡ a = cc in ap Some same

pub regroup : {A : Type 0} (xs ys zs : List A) → (xs ++ ys) ++ zs ≡ xs ++ (ys ++ zs)
regroup xs ys zs = append_assoc xs ys zs

without : {A : Type 0} (xs zs : List A) → (xs ++ []) ++ zs ≡ xs ++ zs
without xs zs = ap (λ ys. ys ++ zs) (append-nil xs)

-- ---- intervals, repetitions

abbrev first_or : ℕ → Option (ℕ × ℕ) → ℕ
first_or l None = l
first_or l (Some ends) = ends.0

abbrev second_or : ℕ → Option (ℕ × ℕ) → ℕ
second_or r None = r
second_or r (Some ends) = ends.1

rises_by : (n l r : ℕ) (ends : ℕ × ℕ) (b : Bool) → (nat_le l r && nat_le r n) ≡ b → cond {A = Option (ℕ × ℕ)} b (Some (l, r)) None ≡ Some ends
    → (ends.0 ≤ ends.1) × (ends.1 ≤ n)
rises_by n l r ends true t e =
    let both = and_parts (nat_le l r) (nat_le r n) t in
    let le : l ≤ r = leb-true _ _ both.0 in
    let top : r ≤ n = leb-true _ _ both.1 in
    let low : l ≡ ends.0 = ap (λ (found : Option (ℕ × ℕ)). first_or l found) e in
    let high : r ≡ ends.1 = ap (λ (found : Option (ℕ × ℕ)). second_or r found) e in
    (omega arith, omega arith)
rises_by n l r ends false t e = absurd (cc)

interval_rises : (n : ℕ) (l r : ℤ) (ends : ℕ × ℕ) → interval n l r ≡ Some ends → (ends.0 ≤ ends.1) × (ends.1 ≤ n)
interval_rises n (pos l) (pos r) ends e = rises_by n l r ends _ refl e
interval_rises n (negsuc l) r ends e = absurd (cc)
interval_rises n (pos l) (negsuc r) ends e = absurd (cc)

kept_on : (answer : Result Kid Stop) (items : List Kid) (go : ℕ → List Kid → Run (List Kid)) (item : Kid) → answer ≡ Ok item → touches (ends_of item) ≡ true
    → kept answer items go ≡ go (ends_of item).end (items ++ item ∷ [])
unfolding kept
kept_on answer items go item e t = rw e (rw t refl)

after_same : {A : Type 0} (asked : List Asked) (x y : Run A) → after asked x ≡ after asked y → x ≡ y
unfolding after
after_same asked x y e =
    let answers : x.answer ≡ y.answer = ap (λ (run : Run _). run.answer) e in
    let logs : x.asked ≡ y.asked = append_cancel_left asked x.asked y.asked (ap (λ (run : Run _). run.asked) e) in
    ap (λ a. record { answer = a; asked = x.asked }) answers ∙ ap (λ l. record { answer = y.answer; asked = l }) logs

-- where two ways to go on come to the same, they go on alike
kept_same : (answer : Result Kid Stop) (asked : List Asked) (items : List Kid) (go other : ℕ → List Kid → Run (List Kid)) (item : Kid)
    → answer ≡ Ok item → touches (ends_of item) ≡ true → after asked (kept answer items go) ≡ after asked (kept answer items other)
    → go (ends_of item).end (items ++ item ∷ []) ≡ other (ends_of item).end (items ++ item ∷ [])
kept_same answer asked items go other item e t same =
    sym (kept_on answer items go item e t) ∙ after_same asked _ _ same ∙ kept_on answer items other item e t

longer : (items : List Kid) (item : Kid) → items ++ item ∷ [] ≡ items → ⊥
longer items item e = let n = ap length e in let m = length-append items (item ∷ []) in absurd (omega arith)

kept_ends : (answer : Result Kid Stop) (asked : List Asked) (items : List Kid) (item : Kid) → answer ≡ Ok item → touches (ends_of item) ≡ true
    → after asked (kept answer items (λ end more. finish more)) ≡ finish items → ⊥
unfolding after finish
kept_ends answer asked items item e t same =
    let is = sym (ap (λ (run : Run _). run.answer) (kept_on answer items (λ end more. finish more) item e t)) ∙ ap (λ (run : Run _). run.answer) same in
    longer items item (let x : items ++ item ∷ [] ≡ items = cc in x)

-- ---- an open call at a term

-- at the term u, with so many left behind it
abbrev at : OpenCall → State → ℕ → List ℕ → Entry → OpenCall
at c state u left entry = record c { state = state; left = u ∷ left; entry = entry }

runs_at : (c : OpenCall) (state next : State) (u : ℕ) (left : List ℕ) (entry : Entry) → runs_on (at c state u left entry) next left ≡ runs_on c next left
runs_at c state next u [] entry = refl
runs_at c state next u (v ∷ left) entry = refl

turned_at : (c : OpenCall) (state : State) (u : ℕ) (left : List ℕ) (one other : Entry) (a : Advance)
    → turned (at c state u left one) (Ok a) ≡ turned (at c state u left other) (Ok a)
turned_at c state u left one other (Inside entry) = refl
turned_at c state u left one other (Past next) = runs_at c state next u left one ∙ sym (runs_at c state next u left other)

-- what a term's answer makes of the call, by the state that it leads to
abbrev makes : {A : Type 0} → OpenCall → List ℕ → (A → State) → Result A Stop → Highest
makes c left next (Ok a) = runs_on c (next a) left
makes c left next (Err NoTree) = turned c (Err NoTree)
makes c left next (Err OutOfRange) = turned c (Err OutOfRange)
makes c left next (Err Deep) = turned c (Err Deep)

-- what holds of the highest call of a frame, with the calls that are still made in it
abbrev pub Holding : Type 1
Holding = Grammar → List ℕ → ℕ → Highest → List Asked → Type 0

-- it holds before a move, if behind it
abbrev pub Steps : ℕ → Holding → Type 0
Steps h Q = (c : OpenCall) (asked : List Asked)
    → Q c.frame.grammar c.frame.bytes c.from (turned c (at_hand (den c.frame.grammar h) c).answer) asked
    → Q c.frame.grammar c.frame.bytes c.from (Works c) ((at_hand (den c.frame.grammar h) c).asked ++ asked)

-- ---- runs one after another

module _ (At : Highest → List Asked → Type 0) where
  -- it holds of the one, if of what the run's answer makes, with the calls of the run before those that follow
  abbrev Takes : {A : Type 0} → Highest → (Result A Stop → Highest) → Run A → Type 0
  Takes highest make run = (asked : List Asked) → At (make run.answer) asked → At highest (run.asked ++ asked)

  takes_go : {A B : Type 0} (highest : Highest) (first : Result A Stop → Highest) (make : Result B Stop → Highest) (answer : Result A Stop) (made : List Asked)
      (go : A → Run B) → ((why : Stop) → first (Err why) ≡ make (Err why))
      → ((asked : List Asked) → At (first answer) asked → At highest (made ++ asked)) → ((a : A) → Takes (first (Ok a)) make (go a))
      → Takes highest make (after made (go_on answer go))
  unfolding after go_on stop
  takes_go highest first make (Ok a) made go fails one next asked q =
      subst (At highest) (sym (regroup made (go a).asked asked)) (one ((go a).asked ++ asked) (next a asked q))
  takes_go highest first make (Err why) made go fails one next asked q =
      subst (At highest) (sym (without made asked)) (one asked (subst (λ x. At x asked) (sym (fails why)) q))

  takes_then : {A B : Type 0} (highest : Highest) (first : Result A Stop → Highest) (make : Result B Stop → Highest) (run : Run A) (go : A → Run B)
      → ((why : Stop) → first (Err why) ≡ make (Err why)) → Takes highest first run → ((a : A) → Takes (first (Ok a)) make (go a))
      → Takes highest make (run >>= go)
  unfolding ◌>>=◌
  takes_then highest first make run go fails one next = takes_go highest first make run.answer run.asked go fails one next

  -- a run that comes to a value at once, and one from there
  takes_after : {A B : Type 0} (highest : Highest) (first : Result A Stop → Highest) (make : Result B Stop → Highest) (a : A) (run : Run B)
      → Takes highest first (finish a) → Takes (first (Ok a)) make run → Takes highest make run
  unfolding finish
  takes_after highest first make a run one next asked q = one (run.asked ++ asked) (next asked q)

  -- two runs that begin alike, and make no call there
  both_go : {A B C : Type 0} (highest : Highest) (make : Result B Stop → Highest) (other : Result C Stop → Highest) (answer : Result A Stop)
      (go : A → Run B) (more : A → Run C) → ((why : Stop) → make (Err why) ≡ other (Err why))
      → ((a : A) → answer ≡ Ok a → Takes highest make (go a) → Takes highest other (more a))
      → Takes highest make (after [] (go_on answer go)) → Takes highest other (after [] (go_on answer more))
  unfolding after go_on stop
  both_go highest make other (Ok a) go more fails next one asked q = next a refl one asked q
  both_go highest make other (Err why) go more fails next one asked q = one asked (subst (λ x. At x asked) (sym (fails why)) q)

  both_then : {A B C : Type 0} (highest : Highest) (make : Result B Stop → Highest) (other : Result C Stop → Highest) (run : Run A)
      (go : A → Run B) (more : A → Run C) → run.asked ≡ [] → ((why : Stop) → make (Err why) ≡ other (Err why))
      → ((a : A) → run.answer ≡ Ok a → Takes highest make (go a) → Takes highest other (more a))
      → Takes highest make (run >>= go) → Takes highest other (run >>= more)
  unfolding ◌>>=◌
  both_then highest make other run go more quiet fails next one =
      subst (λ made. Takes highest other (after made (go_on run.answer more))) (sym quiet)
      (both_go highest make other run.answer go more fails next
      (subst (λ made. Takes highest make (after made (go_on run.answer go))) quiet one))

module _ (h : ℕ) (Q : Holding) (steps : Steps h Q) (suffice : TurnsSuffice) where
  module _ (c : OpenCall) where
    abbrev g : Grammar
    g = c.frame.grammar

    abbrev call : Call
    call = den g h

    abbrev At : Highest → List Asked → Type 0
    At highest asked = Q g c.frame.bytes c.from highest asked

    module _ (state : State) (u : ℕ) (left : List ℕ) where
      abbrev here : Place
      here = record { term = u; branch = 0 }

      -- the call at the term that is at hand
      abbrev Hand : Entry → OpenCall
      Hand entry = at c state u left entry

      -- what the term's state makes of the call
      abbrev passed : Result State Stop → Highest
      passed answer = makes c left (λ next. next) answer

      fails : {A : Type 0} (next : A → State) (entry : Entry) (why : Stop) → turned (Hand entry) (Err why) ≡ makes c left next (Err why)
      fails next entry NoTree = refl
      fails next entry OutOfRange = refl
      fails next entry Deep = refl

      fails_on : {A B : Type 0} (next : A → State) (other : B → State) (why : Stop) → makes c left next (Err why) ≡ makes c left other (Err why)
      fails_on next other NoTree = refl
      fails_on next other OutOfRange = refl
      fails_on next other Deep = refl

      -- one move at the term
      moved_at : (entry : Entry) (term : Option CoreTerm) → slice_get c.terms u ≡ term
          → Takes At (Works (Hand entry)) (turned (Hand entry)) (advance call c.frame state u entry term)
      moved_at entry term is =
          subst (λ t. Takes At (Works (Hand entry)) (turned (Hand entry)) (advance call c.frame state u entry t)) is (steps (Hand entry))

      passes : (next : State) → Takes At (turned (Hand Outside) (Ok (Past next))) passed (finish next)
      unfolding finish
      passes next asked q = subst (λ x. At x asked) (sym (runs_at c state next u left Outside)) q

      -- a term that parses one child
      child_runs : (run : Run Kid) (is_switch : Bool)
          → ((asked : List Asked) → At (turned (Hand Outside) (lifted (λ kid. Past (with_kid state u is_switch kid)) run.answer)) asked
          → At (Works (Hand Outside)) (run.asked ++ asked))
          → Takes At (Works (Hand Outside)) passed (run >>= λ kid. finish (with_kid state u is_switch kid))
      child_runs run is_switch one =
          takes_then At _ (λ answer. turned (Hand Outside) (lifted (λ kid. Past (with_kid state u is_switch kid)) answer)) passed run _
          (fails (λ next. next) Outside) one (λ kid. passes (with_kid state u is_switch kid))

      -- ---- arrays

      module _ (first last : CoreExpr) (one : Sym) (from to : CoreExpr) (is : slice_get c.terms u ≡ Some (Repeat first last one from to)) where
        abbrev slot : CoreSlot
        slot = record { sym = one; from = from; to = to }

        abbrev with_array : List Kid → State
        with_array items = with_kid state u false (Array one (kids_of items))

        items_run : (n : ℕ) (i : ℤ) (items : List Kid)
            → Takes At (turned (Hand Outside) (Ok (array_on state u one n i items))) (makes c left with_array) (items_on call c.frame u state slot n i items)
        unfolding items_on finish
        items_run zero i items asked q = subst (λ x. At x asked) (sym (runs_at c state (with_array items) u left Outside)) q
        items_run (suc n) i items asked q =
            takes_then At _
            (λ answer. turned (Hand (Items (suc n) i items)) (lifted (λ item. array_on state u one n (i +ℤ pos 1) (items ++ item ∷ [])) answer))
            (makes c left with_array)
            (slot_on call c.frame here (with_array items) (Some i) slot) _
            (fails with_array (Items (suc n) i items)) (moved_at (Items (suc n) i items) _ is)
            (λ item. subst (λ x. Takes At x (makes c left with_array) (items_on call c.frame u state slot n (i +ℤ pos 1) (items ++ item ∷ [])))
            (turned_at c state u left Outside (Items (suc n) i items) (array_on state u one n (i +ℤ pos 1) (items ++ item ∷ [])))
            (items_run n (i +ℤ pos 1) (items ++ item ∷ []))) asked q

        items_past : (items : List Kid) → Takes At (makes c left with_array (Ok items)) passed (finish (with_array items))
        unfolding finish
        items_past items asked q = q

        array_runs : Takes At (Works (Hand Outside)) passed (term_on call c.frame state u (Some (Repeat first last one from to)))
        unfolding value_in
        array_runs =
            both_then At _ (turned (Hand Outside)) passed (value_in c.frame state None first) _ _ (value_asks (eval first (environment c.frame state None)))
            (fails (λ next. next) Outside)
            (λ a _. both_then At _ (turned (Hand Outside)) passed (value_in c.frame state None last) _ _
            (value_asks (eval last (environment c.frame state None)))
            (fails (λ next. next) Outside)
            (λ b _ entered. takes_then At _ (makes c left with_array) passed (items_on call c.frame u state slot (times (b -ℤ a)) a []) _
            (fails_on with_array (λ next. next))
            (takes_after At _ (turned (Hand Outside)) (makes c left with_array) (array_on state u one (times (b -ℤ a)) a [])
            (items_on call c.frame u state slot (times (b -ℤ a)) a []) entered (items_run (times (b -ℤ a)) a []))
            items_past))
            (moved_at Outside _ is)

      -- ---- repetitions

      module _ (one : Sym) (from to : CoreExpr) (is : slice_get c.terms u ≡ Some (Many one from to)) where
        abbrev with_turns : List Kid → State
        with_turns items = with_kid state u false (Repetition one (kids_of items))

        abbrev turns_on : ℕ → ℕ → ℕ → List Kid → Run (List Kid)
        turns_on r n p items = many_on call c.frame here state.own one n p r items

        past_turns : (p r : ℕ) (items : List Kid) (asked : List Asked)
            → At (makes c left with_turns (Ok items)) asked → At (turned (Hand (Turns p r items)) (Ok (Past (with_turns items)))) asked
        past_turns p r items asked q = subst (λ x. At x asked) (sym (runs_at c state (with_turns items) u left (Turns p r items))) q

        abbrev Goes : ℕ → (ℕ → List Kid → Run (List Kid)) → Kid → List Kid → Type 0
        Goes r go item items = Takes At (Works (Hand (Turns (ends_of item).end r (items ++ item ∷ [])))) (makes c left with_turns)
            (go (ends_of item).end (items ++ item ∷ []))

        kept_one : (p r : ℕ) (items : List Kid) (item : Kid) (go : ℕ → List Kid → Run (List Kid)) (b : Bool) → (b ≡ true → Goes r go item items)
            → Takes At
            (turned (Hand (Turns p r items)) (Ok (if b then Inside (Turns (ends_of item).end r (items ++ item ∷ [])) else Past (with_turns items))))
            (makes c left with_turns) (if b then go (ends_of item).end (items ++ item ∷ []) else finish items)
        unfolding finish
        kept_one p r items item go true next asked q = next refl asked q
        kept_one p r items item go false next asked q = past_turns p r items asked q

        -- what the repetition makes of an item
        kept_runs : (p r : ℕ) (items : List Kid) (answer : Result Kid Stop) (go : ℕ → List Kid → Run (List Kid))
            → ((item : Kid) → answer ≡ Ok item → touches (ends_of item) ≡ true → Goes r go item items)
            → (k : Result Advance Stop) → k ≡ repeated state u one r items answer
            → Takes At (turned (Hand (Turns p r items)) k) (makes c left with_turns) (kept answer items go)
        unfolding kept finish stop
        kept_runs p r items (Ok item) go next k is asked q =
            subst (λ k. Takes At (turned (Hand (Turns p r items)) k) (makes c left with_turns) (kept (Ok item) items go)) (sym is)
            (kept_one p r items item go (touches (ends_of item)) (next item refl)) asked q
        kept_runs p r items (Err NoTree) go next k is asked q =
            subst (λ k. At (turned (Hand (Turns p r items)) k) asked) (sym is) (past_turns p r items asked q)
        kept_runs p r items (Err OutOfRange) go next k is asked q = subst (λ k. At (turned (Hand (Turns p r items)) k) asked) (sym is) q
        kept_runs p r items (Err Deep) go next k is asked q = subst (λ k. At (turned (Hand (Turns p r items)) k) asked) (sym is) q

        abbrev Stable : ℕ → ℕ → ℕ → List Kid → Type 0
        Stable r n p items = turns_on r (suc n) p items ≡ turns_on r n p items

        abbrev Turned : ℕ → ℕ → ℕ → List Kid → Type 0
        Turned r n p items = Takes At (Works (Hand (Turns p r items))) (makes c left with_turns) (turns_on r n p items)

        turns_by : (n p r : ℕ) (items : List Kid) → Stable r n p items
            → ((item : Kid) → (item_on call c.frame here state.own p r one).answer ≡ Ok item → touches (ends_of item) ≡ true
            → Turned r n (ends_of item).end (items ++ item ∷ []))
            → Turned r n p items
        unfolding many_on after
        turns_by n p r items stable next =
            let item = item_on call c.frame here state.own p r one in
            let rest = λ (end : ℕ) (more : List Kid). turns_on r n end more in
            subst (Takes At (Works (Hand (Turns p r items))) (makes c left with_turns)) stable
            (λ asked q. subst (At (Works (Hand (Turns p r items)))) (sym (regroup item.asked (kept item.answer items rest).asked asked))
            (moved_at (Turns p r items) _ is ((kept item.answer items rest).asked ++ asked)
            (kept_runs p r items item.answer rest next _ refl asked q)))

        turns_run : (n p r : ℕ) (items : List Kid) → Stable r n p items → Turned r n p items
        unfolding many_on
        turns_run zero p r items stable = turns_by zero p r items stable (λ item e t. absurd (kept_ends _ _ items item e t stable))
        turns_run (suc n) p r items stable =
            turns_by (suc n) p r items stable (λ item e t.
            let rest = λ (end : ℕ) (more : List Kid). turns_on r (suc n) end more in
            let more = λ (end : ℕ) (more : List Kid). turns_on r n end more in
            let same = kept_same _ (item_on call c.frame here state.own p r one).asked items rest more item e t stable in
            subst (Takes At (Works (Hand (Turns (ends_of item).end r (items ++ item ∷ [])))) (makes c left with_turns)) (sym same)
            (turns_run n (ends_of item).end r (items ++ item ∷ []) same))

        turns_enough : (l r : ℕ) → l ≤ r → r ≤ length c.frame.bytes → Stable r (turns l r) l []
        turns_enough l r le top =
            let more : suc (turns l r) ≡ turns l r + 1 = omega arith in
            ap (λ n. turns_on r n l []) more ∙ suffice g h c.frame here state.own one (turns l r) l r [] le top (omega arith)

        abbrev many_slot : CoreSlot
        many_slot = record { sym = one; from = from; to = to }

        repetition_runs : Takes At (Works (Hand Outside)) (makes c left with_turns) (repetition_on call c.frame here state many_slot)
        unfolding repetition_on value_in
        repetition_runs =
            both_then At _ (turned (Hand Outside)) (makes c left with_turns) (value_in c.frame state None from) _ _
            (value_asks (eval from (environment c.frame state None))) (fails with_turns Outside)
            (λ l _. both_then At _ (turned (Hand Outside)) (makes c left with_turns) (value_in c.frame state None to) _ _
            (value_asks (eval to (environment c.frame state None))) (fails with_turns Outside)
            (λ r _. both_then At _ (turned (Hand Outside)) (makes c left with_turns) (some_of (interval (length c.frame.bytes) l r)) _ _
            (some_asks (interval (length c.frame.bytes) l r)) (fails with_turns Outside)
            (λ ends e entered.
            let lie = interval_rises (length c.frame.bytes) l r ends (some_is _ ends e) in
            takes_after At _ (turned (Hand Outside)) (makes c left with_turns) (Inside (Turns ends.0 ends.1 []))
            (turns_on ends.1 (turns ends.0 ends.1) ends.0 []) entered
            (turns_run (turns ends.0 ends.1) ends.0 ends.1 [] (turns_enough ends.0 ends.1 lie.0 lie.1)))))
            (moved_at Outside _ is)

        many_past : (items : List Kid) → Takes At (makes c left with_turns (Ok items)) passed (finish (with_turns items))
        unfolding finish
        many_past items asked q = q

        many_runs : Takes At (Works (Hand Outside)) passed (term_on call c.frame state u (Some (Many one from to)))
        many_runs =
            takes_then At _ (makes c left with_turns) passed (repetition_on call c.frame here state many_slot) _ (fails_on with_turns (λ next. next))
            repetition_runs many_past

      -- ---- any term

      passes_test : (b : Bool) → Takes At (Works (Hand Outside)) (turned (Hand Outside)) (if b then stop NoTree else finish (Past state))
          → Takes At (Works (Hand Outside)) passed (if b then stop NoTree else finish state)
      unfolding stop finish
      passes_test true one asked q = one asked q
      passes_test false one asked q = one asked (passes state asked q)

      term_runs : (term : Option CoreTerm) → slice_get c.terms u ≡ term → Takes At (Works (Hand Outside)) passed (term_on call c.frame state u term)
      unfolding finish stop value_in
      term_runs None is = moved_at Outside _ is
      term_runs (Some (Slot slot)) is = child_runs (slot_on call c.frame here state None slot) false (moved_at Outside _ is)
      term_runs (Some (Set attr e)) is =
          both_then At _ (turned (Hand Outside)) passed (value_in c.frame state None e) _ _ (value_asks (eval e (environment c.frame state None)))
          (fails (λ next. next) Outside) (λ z _ one asked q. one asked (passes (with_value state attr z) asked q)) (moved_at Outside _ is)
      term_runs (Some (Test e)) is =
          both_then At _ (turned (Hand Outside)) passed (value_in c.frame state None e) _ _ (value_asks (eval e (environment c.frame state None)))
          (fails (λ next. next) Outside) (λ z _ one. passes_test (is_zero z) one) (moved_at Outside _ is)
      term_runs (Some (Repeat first last one from to)) is = array_runs first last one from to is
      term_runs (Some (Many one from to)) is = many_runs one from to is
      term_runs (Some (Pick cases other)) is = child_runs (pick_on call c.frame here state cases other) true (moved_at Outside _ is)

    -- ---- terms one after another

    abbrev node_makes : Result State Stop → Highest
    node_makes (Ok state) = Holds (key_at c.frame c.from) (Ok (node_of c.frame c.terms state))
    node_makes (Err NoTree) = turned c (Err NoTree)
    node_makes (Err OutOfRange) = turned c (Err OutOfRange)
    node_makes (Err Deep) = turned c (Err Deep)

    fails_node : (left : List ℕ) (why : Stop) → makes {A = State} c left (λ next. next) (Err why) ≡ node_makes (Err why)
    fails_node left NoTree = refl
    fails_node left OutOfRange = refl
    fails_node left Deep = refl

    terms_run : (order : List ℕ) (state : State) → Takes At (runs_on c state order) node_makes (terms_on call c.frame c.terms order state)
    unfolding terms_on finish
    terms_run [] state asked q = q
    terms_run (u ∷ order) state asked q =
        takes_then At _ (makes c order (λ next. next)) node_makes (term_on call c.frame state u (slice_get c.terms u)) _ (fails_node order)
        (term_runs state u order _ refl) (λ next. terms_run order next) asked q

  -- ---- alternatives, and rules

  module _ (from : ℕ) where
    abbrev On : Frame → Highest → List Asked → Type 0
    On f highest asked = Q f.grammar f.bytes from highest asked

    abbrev fresh : Frame → CoreAlt → List CoreAlt → OpenCall
    fresh f alt alts = record { frame = f; from = from; terms = alt.terms; alts = alts; state = start (length alt.terms); left = []; entry = Outside }

    -- the alternative answers, or the next is begun
    alt_or_next : (f : Frame) (alt : CoreAlt) (alts : List CoreAlt) (highest : Highest) (answer : Result State Stop) (made : List Asked) (next : Run Tree)
        → ((asked : List Asked) → On f (node_makes (fresh f alt alts) answer) asked → On f highest (made ++ asked))
        → Takes (On f) (begins (record f { alt = f.alt + 1 }) from alts) (Holds (key_at f from)) next
        → Takes (On f) highest (Holds (key_at f from)) (or_else (after made (go_on answer (λ state. finish (node_of f alt.terms state)))) next)
    unfolding or_else or_next after go_on finish stop
    alt_or_next f alt alts highest (Ok state) made next one more asked q =
        subst (On f highest) (sym (without (made ++ []) asked ∙ without made asked)) (one asked q)
    alt_or_next f alt alts highest (Err NoTree) made next one more asked q =
        subst (On f highest) (sym (regroup (made ++ []) next.asked asked ∙ without made (next.asked ++ asked))) (one (next.asked ++ asked) (more asked q))
    alt_or_next f alt alts highest (Err OutOfRange) made next one more asked q =
        subst (On f highest) (sym (without (made ++ []) asked ∙ without made asked)) (one asked q)
    alt_or_next f alt alts highest (Err Deep) made next one more asked q =
        subst (On f highest) (sym (without (made ++ []) asked ∙ without made asked)) (one asked q)

    alts_run : (f : Frame) (alts : List CoreAlt) → Takes (On f) (begins f from alts) (Holds (key_at f from)) (alts_on (den f.grammar h) f alts)
    unfolding alts_on alt_on stop ◌>>=◌
    alts_run f [] asked q = q
    alts_run f (alt ∷ alts) asked q =
        let terms = terms_on (den f.grammar h) f alt.terms alt.order (start (length alt.terms)) in
        alt_or_next f alt alts _ terms.answer terms.asked (alts_on (den f.grammar h) (record f { alt = f.alt + 1 }) alts)
        (terms_run (fresh f alt alts) alt.order (start (length alt.terms))) (alts_run (record f { alt = f.alt + 1 }) alts) asked q

    rule_runs : (f : Frame) (rule : Option CoreRule) → Takes (On f) (begins f from (alts_of rule)) (Holds (key_at f from)) (rule_run (den f.grammar h) f rule)
    unfolding stop
    rule_runs f None asked q = q
    rule_runs f (Some rule) asked q = alts_run f rule.alts asked q

    -- what holds where a call has its answer, holds where it is opened, with the calls that its rule makes
    pub follows : (g : Grammar) (r : ℕ) (bytes : List ℕ) (outer : Values)
        → Q g bytes from (Holds (record { rule = r; from = from; to = from + length bytes }) (rule_on (den g h) g r bytes outer).answer) []
        → Q g bytes from (opened g r bytes from outer) (rule_on (den g h) g r bytes outer).asked
    unfolding rule_on
    follows g r bytes outer q =
        let f : Frame = record { grammar = g; rule = r; alt = 0; bytes = bytes; outer = outer } in
        subst (Q g bytes from (opened g r bytes from outer)) (append-nil _) (rule_runs f (rule_at g r) [] q)
