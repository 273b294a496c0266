-- Terms, alternatives and rules come to what they mean.
use Rattle.std.proofs.Common.{◌≡◌, ℕ, zero, suc, ◌+◌, ◌<◌, ◌≤◌, ◌+ℤ◌, ◌-ℤ◌, pos, ℤ, refl, sym, ap, ◌∙◌, subst, arith, List, [], ◌∷◌, ◌++◌, Option}
use Rattle.std.proofs.Common.{Some, None, Result, Ok, Err, Bool, true, false, if◌then◌else◌, length, cond, negsuc}
use Rattle.std.specs.Prelude.{slice_get, nat_le, ◌&&◌}
use Rattle.std.proofs.lemmas.Bool.{leb-true, and_parts}
use Rattle.ipg_core.specs.declared.grammar.Sym.{Sym}
use Rattle.ipg_core.specs.declared.grammar.CoreExpr.{CoreExpr}
use Rattle.ipg_core.specs.declared.grammar.CoreSlot.{CoreSlot}
use Rattle.ipg_core.specs.declared.grammar.CoreTerm.{CoreTerm}
use Rattle.ipg_core.specs.declared.grammar.CoreTerm.TheVariants.{Slot, Set, Test, Repeat, Many, Pick}
use Rattle.ipg_core.specs.declared.grammar.CoreAlt.{CoreAlt}
use Rattle.ipg_core.specs.declared.grammar.CoreRule.{CoreRule}
use Rattle.ipg_core.specs.Grammar.{Grammar, rule_at}
use Rattle.ipg_core.specs.Part.{interval}
use Rattle.ipg_core.specs.Tree.{Tree, Kid, Array, Many as Repetition, kids_of}
use Rattle.ipg_core.specs.Touch.{touches, ends_of}
use Rattle.ipg_core.specs.Eval.{is_zero}
use Rattle.ipg_core.specs.Run.{Stop, NoTree, OutOfRange, Deep, Run, finish, stop, after, go_on, ◌>>=◌, or_next, or_else, some_of}
use Rattle.ipg_core.specs.Meaning.{Call, Frame, State, Place, start, with_kid, with_value, value_in, slot_on, pick_on, items_on, times, item_on, kept}
use Rattle.ipg_core.specs.Meaning.{many_on, turns, repetition_on, term_on, terms_on, node_of, alt_on, alts_on, rule_run, rule_on, den}
use Rattle.ipg_core.specs.Laws.{HeightsAgree, LiesWithin}
use Rattle.ipg_mach_moves.specs.Moves.{Entry, Outside, Items, Turns, OpenCall, Highest, Works, Holds, Known, Tally, Evaluation, lifted, advance, Advance}
use Rattle.ipg_mach_moves.specs.Moves.{Inside, Past, array_on, repeated, key_at, runs_on, begins, alts_of, turned}
use Rattle.ipg_mach_moves.proofs.Parts.{StandsAt}
use Rattle.ipg_mach_moves.proofs.Ends.{item_moves_on, den_lies}
use Rattle.ipg_mach_moves.proofs.Paths.{Fit, Path, stay}
use Rattle.ipg_mach_moves.proofs.Running.{evaluation, Comes, Arrives, arrives_after, CallsRun, hand_runs}

-- ---- runs one after another, and what they arrive at

module _ (s : List ℕ) (bound : ℕ) (g : Grammar) (lower : List OpenCall) where
  -- where the parts of a run arrive, it arrives
  arrives_then : {A B : Type 0} (first : Result A Stop → Highest) (make : Result B Stop → Highest) (e : Evaluation) (answer : Result A Stop) (go : A → Run B)
      → first (Err NoTree) ≡ make (Err NoTree)
      → Arrives s bound g first e lower answer
      → ((a : A) (known : Option Known) (tally : Tally) → Fit g s bound known tally
      → Arrives s bound g make (evaluation lower (first (Ok a)) known tally) lower (go a).answer)
      → Arrives s bound g make e lower (go_on answer go).answer
  unfolding go_on stop
  arrives_then first make e (Ok a) go none h next = arrives_after s bound g make e _ lower (go a).answer h.path (next a h.known h.tally h.right)
  arrives_then first make e (Err NoTree) go none h next = subst (Comes s bound g e lower) none h
  arrives_then first make e (Err OutOfRange) go none h next = h
  arrives_then first make e (Err Deep) go none h next = tt

  -- two runs that begin alike
  arrives_both : {A B C : Type 0} (make : Result B Stop → Highest) (other : Result C Stop → Highest) (e : Evaluation) (answer : Result A Stop)
      (go : A → Run B) (more : A → Run C) → make (Err NoTree) ≡ other (Err NoTree)
      → ((a : A) → answer ≡ Ok a → Arrives s bound g make e lower (go a).answer → Arrives s bound g other e lower (more a).answer)
      → Arrives s bound g make e lower (go_on answer go).answer → Arrives s bound g other e lower (go_on answer more).answer
  unfolding go_on stop
  arrives_both make other e (Ok a) go more none next h = next a refl h
  arrives_both make other e (Err NoTree) go more none next h = subst (Comes s bound g e lower) none h
  arrives_both make other e (Err OutOfRange) go more none next h = h
  arrives_both make other e (Err Deep) go more none next h = tt

  -- what is made of an answer beforehand
  lifts : {A B : Type 0} (k : A → B) (make : Result A Stop → Highest) (other : Result B Stop → Highest) (e : Evaluation) (answer : Result A Stop)
      → ((a : A) → make (Ok a) ≡ other (Ok (k a))) → make (Err NoTree) ≡ other (Err NoTree)
      → Arrives s bound g make e lower answer → Arrives s bound g other e lower (go_on answer (λ a. finish (k a))).answer
  unfolding go_on finish stop
  lifts k make other e (Ok a) some none h = subst (Comes s bound g e lower) (some a) h
  lifts k make other e (Err NoTree) some none h = subst (Comes s bound g e lower) none h
  lifts k make other e (Err OutOfRange) some none h = h
  lifts k make other e (Err Deep) some none h = tt

  drops : {A B : Type 0} (k : A → B) (make : Result A Stop → Highest) (other : Result B Stop → Highest) (e : Evaluation) (answer : Result A Stop)
      → ((a : A) → other (Ok (k a)) ≡ make (Ok a)) → other (Err NoTree) ≡ make (Err NoTree)
      → Arrives s bound g other e lower (lifted k answer) → Arrives s bound g make e lower answer
  drops k make other e (Ok a) some none h = subst (Comes s bound g e lower) (some a) h
  drops k make other e (Err NoTree) some none h = subst (Comes s bound g e lower) none h
  drops k make other e (Err OutOfRange) some none h = h
  drops k make other e (Err Deep) some none h = tt

  lifts_both : {A B C : Type 0} (make : Result B Stop → Highest) (other : Result C Stop → Highest) (e : Evaluation) (answer : Result A Stop)
      (k : A → B) (more : A → Run C) → make (Err NoTree) ≡ other (Err NoTree)
      → ((a : A) → answer ≡ Ok a → Arrives s bound g make e lower (Ok (k a)) → Arrives s bound g other e lower (more a).answer)
      → Arrives s bound g make e lower (lifted k answer) → Arrives s bound g other e lower (go_on answer more).answer
  unfolding go_on stop
  lifts_both make other e (Ok a) k more none next h = next a refl h
  lifts_both make other e (Err NoTree) k more none next h = subst (Comes s bound g e lower) none h
  lifts_both make other e (Err OutOfRange) k more none next h = h
  lifts_both make other e (Err Deep) k more none next h = tt

  stays_at : {A : Type 0} (make : Result A Stop → Highest) (highest : Highest) (a : A) (known : Option Known) (tally : Tally) → highest ≡ make (Ok a)
      → Fit g s bound known tally
      → Arrives s bound g make (evaluation lower highest known tally) lower (Ok a)
  stays_at make highest a known tally e right = record {
    known = known;
    tally = tally;
    right = right;
    path = subst (λ x. Path g s bound (evaluation lower highest known tally) (evaluation lower x known tally)) e (stay g s bound _ right);
  }

-- ---- an open call at a term

-- at the term u, with so many left behind it
abbrev at : OpenCall → State → ℕ → List ℕ → Entry → OpenCall
at c state u left entry = record c { state = state; left = u ∷ left; entry = entry }

runs_at : (c : OpenCall) (state next : State) (u : ℕ) (left : List ℕ) (entry : Entry) → runs_on (at c state u left entry) next left ≡ runs_on c next left
runs_at c state next u [] entry = refl
runs_at c state next u (v ∷ left) entry = refl

turned_at : (c : OpenCall) (state : State) (u : ℕ) (left : List ℕ) (one other : Entry) (a : Advance)
    → turned (at c state u left one) (Ok a) ≡ turned (at c state u left other) (Ok a)
turned_at c state u left one other (Inside entry) = refl
turned_at c state u left one other (Past next) = runs_at c state next u left one ∙ sym (runs_at c state next u left other)

-- what a term's answer makes of the call, by the state that it leads to
abbrev makes : {A : Type 0} → OpenCall → List ℕ → (A → State) → Result A Stop → Highest
makes c left next (Ok a) = runs_on c (next a) left
makes c left next (Err why) = turned c (Err why)

abbrev first_or : ℕ → Option (ℕ × ℕ) → ℕ
first_or l None = l
first_or l (Some ends) = ends.0

abbrev second_or : ℕ → Option (ℕ × ℕ) → ℕ
second_or r None = r
second_or r (Some ends) = ends.1

rises_by : (n l r : ℕ) (ends : ℕ × ℕ) (b : Bool) → (nat_le l r && nat_le r n) ≡ b → cond {A = Option (ℕ × ℕ)} b (Some (l, r)) None ≡ Some ends → ends.0 ≤ ends.1
rises_by n l r ends true t e =
    let le : l ≤ r = leb-true _ _ (and_parts (nat_le l r) (nat_le r n) t).0 in
    let low : l ≡ ends.0 = ap (λ (found : Option (ℕ × ℕ)). first_or l found) e in
    let high : r ≡ ends.1 = ap (λ (found : Option (ℕ × ℕ)). second_or r found) e in
    omega arith
rises_by n l r ends false t e = absurd (cc)

interval_rises : (n : ℕ) (l r : ℤ) (ends : ℕ × ℕ) → interval n l r ≡ Some ends → ends.0 ≤ ends.1
interval_rises n (pos l) (pos r) ends e = rises_by n l r ends _ refl e
interval_rises n (negsuc l) r ends e = absurd (cc)
interval_rises n (pos l) (negsuc r) ends e = absurd (cc)

module _ (s : List ℕ) (bound : ℕ) (heights : HeightsAgree) (lies : LiesWithin) (lower : List OpenCall) (c : OpenCall) (h : ℕ)
    (room : length lower + h < bound) where
  abbrev g : Grammar
  g = c.frame.grammar

  abbrev call : Call
  call = den g h

  -- an open call at its term, in its place, its calls running
  module _ (stands : StandsAt s c.from c.frame.bytes) (calls : CallsRun s bound g h) (state : State) (u : ℕ) (left : List ℕ) where
    abbrev here : Place
    here = record { term = u; branch = 0 }

    abbrev Reaches : {A : Type 0} → (A → State) → Highest → Option Known → Tally → Result A Stop → Type 0
    Reaches next highest known tally answer = Arrives s bound g (makes c left next) (evaluation lower highest known tally) lower answer

    -- the answer of one move at the term
    moved_at : (entry : Entry) (known : Option Known) (tally : Tally) (term : Option CoreTerm) → slice_get c.terms u ≡ term → Fit g s bound known tally
        → Arrives s bound g (turned (at c state u left entry)) (evaluation lower (Works (at c state u left entry)) known tally) lower
        (advance call c.frame state u entry term).answer
    moved_at entry known tally term is right =
        subst (λ t. Arrives s bound g (turned (at c state u left entry)) (evaluation lower (Works (at c state u left entry)) known tally) lower
        (advance call c.frame state u entry t).answer) is
        (hand_runs s bound heights (at c state u left entry) lower h known tally stands right calls room)

    -- a term that parses one child
    child_runs : (run : Run Kid) (is_switch : Bool) (known : Option Known) (tally : Tally)
        → Arrives s bound g (turned (at c state u left Outside)) (evaluation lower (Works (at c state u left Outside)) known tally) lower
        (lifted (λ kid. Past (with_kid state u is_switch kid)) run.answer)
        → Reaches (λ next. next) (Works (at c state u left Outside)) known tally (run >>= λ kid. finish (with_kid state u is_switch kid)).answer
    unfolding ◌>>=◌ after
    child_runs run is_switch known tally h =
        lifts s bound g lower (λ kid. with_kid state u is_switch kid) (makes c left (λ kid. with_kid state u is_switch kid))
        (makes c left (λ next. next)) _ run.answer
        (λ kid. refl) refl
        (drops s bound g lower (λ kid. Past (with_kid state u is_switch kid)) (makes c left (λ kid. with_kid state u is_switch kid))
        (turned (at c state u left Outside)) _ run.answer (λ kid. runs_at c state (with_kid state u is_switch kid) u left Outside) refl h)

    -- ---- arrays

    module _ (first last : CoreExpr) (one : Sym) (from to : CoreExpr) (is : slice_get c.terms u ≡ Some (Repeat first last one from to)) where
      abbrev slot : CoreSlot
      slot = record { sym = one; from = from; to = to }

      abbrev with_array : List Kid → State
      with_array items = with_kid state u false (Array one (kids_of items))

      items_run : (n : ℕ) (i : ℤ) (items : List Kid) (known : Option Known) (tally : Tally) → Fit g s bound known tally
          → Reaches with_array (turned (at c state u left Outside) (Ok (array_on state u one n i items))) known tally
          (items_on call c.frame u state slot n i items).answer
      unfolding items_on finish ◌>>=◌ after
      items_run zero i items known tally right =
          stays_at s bound g lower (makes c left with_array) _ items known tally (runs_at c state (with_array items) u left Outside) right
      items_run (suc n) i items known tally right =
          lifts_both s bound g lower (turned (at c state u left (Items (suc n) i items))) (makes c left with_array) _
          (slot_on call c.frame here (with_array items) (Some i) slot).answer
          (λ item. array_on state u one n (i +ℤ pos 1) (items ++ item ∷ []))
          (λ item. items_on call c.frame u state slot n (i +ℤ pos 1) (items ++ item ∷ []))
          refl
          (λ item e comes.
          arrives_after s bound g (makes c left with_array) _ _ lower _ comes.path
          (subst (λ x. Arrives s bound g (makes c left with_array) (evaluation lower x comes.known comes.tally) lower
          (items_on call c.frame u state slot n (i +ℤ pos 1) (items ++ item ∷ [])).answer)
          (turned_at c state u left Outside (Items (suc n) i items) (array_on state u one n (i +ℤ pos 1) (items ++ item ∷ [])))
          (items_run n (i +ℤ pos 1) (items ++ item ∷ []) comes.known comes.tally comes.right)))
          (moved_at (Items (suc n) i items) known tally _ is right)

      array_runs : (known : Option Known) (tally : Tally) → Fit g s bound known tally
          → Reaches (λ next. next) (Works (at c state u left Outside)) known tally (term_on call c.frame state u (Some (Repeat first last one from to))).answer
      unfolding ◌>>=◌ after finish
      array_runs known tally right =
          arrives_both s bound g lower (turned (at c state u left Outside)) (makes c left (λ next. next)) _ (value_in c.frame state None first).answer _ _ refl
          (λ a _. arrives_both s bound g lower (turned (at c state u left Outside)) (makes c left (λ next. next)) _
          (value_in c.frame state None last).answer _ _ refl
          (λ b _ comes.
          lifts s bound g lower with_array (makes c left with_array) (makes c left (λ next. next)) _
          (items_on call c.frame u state slot (times (b -ℤ a)) a []).answer (λ items. refl) refl
          (arrives_after s bound g (makes c left with_array) _ _ lower _ comes.path (items_run (times (b -ℤ a)) a [] comes.known comes.tally comes.right))))
          (moved_at Outside known tally _ is right)

    -- ---- repetitions

    module _ (one : Sym) (from to : CoreExpr) (is : slice_get c.terms u ≡ Some (Many one from to)) where
      abbrev with_turns : List Kid → State
      with_turns items = with_kid state u false (Repetition one (kids_of items))

      abbrev item_at : ℕ → ℕ → Run Kid
      item_at p r = item_on call c.frame here state.own p r one

      -- the repetition ends behind these items
      past_turns : (p r : ℕ) (items before : List Kid) (known : Option Known) (tally : Tally) → Fit g s bound known tally
          → Reaches with_turns (turned (at c state u left (Turns p r before)) (Ok (Past (with_turns items)))) known tally (Ok items)
      past_turns p r items before known tally right =
          stays_at s bound g lower (makes c left with_turns) _ items known tally (runs_at c state (with_turns items) u left (Turns p r before)) right

      abbrev Goes : ℕ → ℕ → (ℕ → List Kid → Run (List Kid)) → Kid → List Kid → Type 0
      Goes p r go item items = (known : Option Known) (tally : Tally) → Fit g s bound known tally
          → Reaches with_turns (Works (at c state u left (Turns (ends_of item).end r (items ++ item ∷ [])))) known tally
          (go (ends_of item).end (items ++ item ∷ [])).answer

      kept_one : (p r : ℕ) (items : List Kid) (e : Evaluation) (item : Kid) (go : ℕ → List Kid → Run (List Kid)) (b : Bool)
          → (b ≡ true → Goes p r go item items)
          → Comes s bound g e lower
          (turned (at c state u left (Turns p r items))
          (Ok (if b then Inside (Turns (ends_of item).end r (items ++ item ∷ [])) else Past (with_turns items))))
          → Arrives s bound g (makes c left with_turns) e lower (if b then go (ends_of item).end (items ++ item ∷ []) else finish items).answer
      unfolding finish
      kept_one p r items e item go true next comes =
          arrives_after s bound g (makes c left with_turns) e _ lower _ comes.path (next refl comes.known comes.tally comes.right)
      kept_one p r items e item go false next comes =
          arrives_after s bound g (makes c left with_turns) e _ lower (Ok items) comes.path (past_turns p r items items comes.known comes.tally comes.right)

      kept_runs : (p r : ℕ) (items : List Kid) (e : Evaluation) (answer : Result Kid Stop) (go : ℕ → List Kid → Run (List Kid))
          → ((item : Kid) → answer ≡ Ok item → touches (ends_of item) ≡ true → Goes p r go item items)
          → Arrives s bound g (turned (at c state u left (Turns p r items))) e lower (repeated state u one r items answer)
          → Arrives s bound g (makes c left with_turns) e lower (kept answer items go).answer
      unfolding kept finish stop
      kept_runs p r items e (Ok item) go next comes = kept_one p r items e item go (touches (ends_of item)) (next item refl) comes
      kept_runs p r items e (Err NoTree) go next comes =
          arrives_after s bound g (makes c left with_turns) e _ lower (Ok items) comes.path (past_turns p r items items comes.known comes.tally comes.right)
      kept_runs p r items e (Err OutOfRange) go next leaves = leaves
      kept_runs p r items e (Err Deep) go next h = tt

      turns_run : (n p r : ℕ) (items : List Kid) (known : Option Known) (tally : Tally) → p ≤ r → r < p + n → Fit g s bound known tally
          → Reaches with_turns (Works (at c state u left (Turns p r items))) known tally (many_on call c.frame here state.own one n p r items).answer
      unfolding many_on after
      turns_run zero p r items known tally le lt right = absurd (omega arith)
      turns_run (suc n) p r items known tally le lt right =
          kept_runs p r items _ (item_at p r).answer (λ end more. many_on call c.frame here state.own one n end r more)
          (λ item e touched known tally right.
          let further = item_moves_on call (den_lies lies g h) c.frame here state.own p r one item le e touched in
          let low = further.0 in
          turns_run n (ends_of item).end r (items ++ item ∷ []) known tally further.1 (omega arith) right)
          (moved_at (Turns p r items) known tally _ is right)

      turns_entered : (ends : ℕ × ℕ) (e : Evaluation) → ends.0 ≤ ends.1 → Comes s bound g e lower (Works (at c state u left (Turns ends.0 ends.1 [])))
          → Arrives s bound g (makes c left with_turns) e lower (many_on call c.frame here state.own one (turns ends.0 ends.1) ends.0 ends.1 []).answer
      turns_entered ends e le comes =
          arrives_after s bound g (makes c left with_turns) e _ lower _ comes.path
          (turns_run (turns ends.0 ends.1) ends.0 ends.1 [] comes.known comes.tally le (omega arith) comes.right)

      some_is : (found : Option (ℕ × ℕ)) (ends : ℕ × ℕ) → (some_of found).answer ≡ Ok ends → found ≡ Some ends
      unfolding finish stop
      some_is None ends e = absurd (cc)
      some_is (Some other) ends e = let same : other ≡ ends = cc in ap Some same

      repetition_runs : (known : Option Known) (tally : Tally) → Fit g s bound known tally
          → Reaches with_turns (Works (at c state u left Outside)) known tally
          (repetition_on call c.frame here state (record { sym = one; from = from; to = to })).answer
      unfolding repetition_on ◌>>=◌ after finish
      repetition_runs known tally right =
          arrives_both s bound g lower (turned (at c state u left Outside)) (makes c left with_turns) _ (value_in c.frame state None from).answer _ _ refl
          (λ l _. arrives_both s bound g lower (turned (at c state u left Outside)) (makes c left with_turns) _ (value_in c.frame state None to).answer _ _ refl
          (λ r _. arrives_both s bound g lower (turned (at c state u left Outside)) (makes c left with_turns) _
          (some_of (interval (length c.frame.bytes) l r)).answer _ _ refl
          (λ ends e comes. turns_entered ends _ (interval_rises (length c.frame.bytes) l r ends (some_is _ ends e)) comes)))
          (moved_at Outside known tally _ is right)

      many_runs : (known : Option Known) (tally : Tally) → Fit g s bound known tally
          → Reaches (λ next. next) (Works (at c state u left Outside)) known tally (term_on call c.frame state u (Some (Many one from to))).answer
      unfolding ◌>>=◌ after
      many_runs known tally right =
          lifts s bound g lower with_turns (makes c left with_turns) (makes c left (λ next. next)) _
          (repetition_on call c.frame here state (record { sym = one; from = from; to = to })).answer
          (λ items. refl) refl (repetition_runs known tally right)

    -- ---- any term

    passes : (next : State) (e : Evaluation) → Comes s bound g e lower (turned (at c state u left Outside) (Ok (Past next)))
        → Arrives s bound g (makes c left (λ next. next)) e lower (Ok next)
    passes next e comes = subst (Comes s bound g e lower) (runs_at c state next u left Outside) comes

    passes_test : (b : Bool) (e : Evaluation)
        → Arrives s bound g (turned (at c state u left Outside)) e lower (if b then stop NoTree else finish (Past state)).answer
        → Arrives s bound g (makes c left (λ next. next)) e lower (if b then stop NoTree else finish state).answer
    unfolding stop finish
    passes_test true e h = h
    passes_test false e h = passes state e h

    term_runs : (known : Option Known) (tally : Tally) (term : Option CoreTerm) → slice_get c.terms u ≡ term → Fit g s bound known tally
        → Reaches (λ next. next) (Works (at c state u left Outside)) known tally (term_on call c.frame state u term).answer
    unfolding ◌>>=◌ after finish stop
    term_runs known tally None is right = moved_at Outside known tally _ is right
    term_runs known tally (Some (Slot slot)) is right =
        child_runs (slot_on call c.frame here state None slot) false known tally (moved_at Outside known tally _ is right)
    term_runs known tally (Some (Set attr e)) is right =
        arrives_both s bound g lower (turned (at c state u left Outside)) (makes c left (λ next. next)) _ (value_in c.frame state None e).answer _ _ refl
        (λ z _ comes. passes (with_value state attr z) _ comes)
        (moved_at Outside known tally _ is right)
    term_runs known tally (Some (Test e)) is right =
        arrives_both s bound g lower (turned (at c state u left Outside)) (makes c left (λ next. next)) _ (value_in c.frame state None e).answer _ _ refl
        (λ z _ h. passes_test (is_zero z) _ h)
        (moved_at Outside known tally _ is right)
    term_runs known tally (Some (Repeat first last one from to)) is right = array_runs first last one from to is known tally right
    term_runs known tally (Some (Many one from to)) is right = many_runs one from to is known tally right
    term_runs known tally (Some (Pick cases other)) is right =
        child_runs (pick_on call c.frame here state cases other) true known tally (moved_at Outside known tally _ is right)

  -- ---- terms one after another

  abbrev node_makes : Result State Stop → Highest
  node_makes (Ok state) = Holds (key_at c.frame c.from) (Ok (node_of c.frame c.terms state))
  node_makes (Err why) = turned c (Err why)

  pub terms_run : StandsAt s c.from c.frame.bytes → CallsRun s bound g h → (order : List ℕ) (state : State) (known : Option Known) (tally : Tally)
      → Fit g s bound known tally
      → Arrives s bound g node_makes (evaluation lower (runs_on c state order) known tally) lower (terms_on call c.frame c.terms order state).answer
  unfolding terms_on finish ◌>>=◌ after
  terms_run stands calls [] state known tally right = stays_at s bound g lower node_makes _ state known tally refl right
  terms_run stands calls (u ∷ order) state known tally right =
      arrives_then s bound g lower (makes c order (λ next. next)) node_makes _ (term_on call c.frame state u (slice_get c.terms u)).answer
      (λ next. terms_on call c.frame c.terms order next) refl
      (term_runs stands calls state u order known tally _ refl right)
      (λ next known tally right. terms_run stands calls order next known tally right)

-- ---- alternatives, and rules

module _ (s : List ℕ) (bound : ℕ) (heights : HeightsAgree) (lies : LiesWithin) (lower : List OpenCall) where
  module _ (f : Frame) (from h : ℕ) (room : length lower + h < bound) (alt : CoreAlt) (alts : List CoreAlt) where
    abbrev fresh : OpenCall
    fresh = record { frame = f; from = from; terms = alt.terms; alts = alts; state = start (length alt.terms); left = []; entry = Outside }

    -- the alternative answers, or the next is begun
    alt_or_next : (e : Evaluation) (answer : Result State Stop) (next : Run Tree)
        → ((known : Option Known) (tally : Tally) → Fit f.grammar s bound known tally
        → Arrives s bound f.grammar (Holds (key_at f from)) (evaluation lower (begins (record f { alt = f.alt + 1 }) from alts) known tally) lower next.answer)
        → Arrives s bound f.grammar (node_makes s bound heights lies lower fresh h room) e lower answer
        → Arrives s bound f.grammar (Holds (key_at f from)) e lower (or_next (go_on answer (λ state. finish (node_of f alt.terms state))).answer next).answer
    unfolding or_next go_on finish stop
    alt_or_next e (Ok state) next more comes = comes
    alt_or_next e (Err NoTree) next more comes =
        arrives_after s bound f.grammar (Holds (key_at f from)) e _ lower next.answer comes.path (more comes.known comes.tally comes.right)
    alt_or_next e (Err OutOfRange) next more leaves = leaves
    alt_or_next e (Err Deep) next more h = tt

  alts_run : (f : Frame) (from h : ℕ) → length lower + h < bound → StandsAt s from f.bytes → CallsRun s bound f.grammar h
      → (alts : List CoreAlt) (known : Option Known) (tally : Tally) → Fit f.grammar s bound known tally
      → Arrives s bound f.grammar (Holds (key_at f from)) (evaluation lower (begins f from alts) known tally) lower (alts_on (den f.grammar h) f alts).answer
  unfolding alts_on alt_on stop or_else ◌>>=◌ after
  alts_run f from h room stands calls [] known tally right = record { known = known; tally = tally; right = right; path = stay f.grammar s bound _ right }
  alts_run f from h room stands calls (alt ∷ alts) known tally right =
      alt_or_next f from h room alt alts _ (terms_on (den f.grammar h) f alt.terms alt.order (start (length alt.terms))).answer
      (alts_on (den f.grammar h) (record f { alt = f.alt + 1 }) alts)
      (λ known tally right. alts_run (record f { alt = f.alt + 1 }) from h room stands calls alts known tally right)
      (terms_run s bound heights lies lower (fresh f from h room alt alts) h room stands calls alt.order (start (length alt.terms)) known tally right)

  rule_runs : (f : Frame) (from h : ℕ) → length lower + h < bound → StandsAt s from f.bytes → CallsRun s bound f.grammar h
      → (rule : Option CoreRule) (known : Option Known) (tally : Tally) → Fit f.grammar s bound known tally
      → Arrives s bound f.grammar (Holds (key_at f from)) (evaluation lower (begins f from (alts_of rule)) known tally) lower
      (rule_run (den f.grammar h) f rule).answer
  unfolding stop
  rule_runs f from h room stands calls None known tally right = record { known = known; tally = tally; right = right; path = stay f.grammar s bound _ right }
  rule_runs f from h room stands calls (Some rule) known tally right = alts_run f from h room stands calls rule.alts known tally right

pub calls_run : (s : List ℕ) (bound : ℕ) → HeightsAgree → LiesWithin → (g : Grammar) (h : ℕ) → CallsRun s bound g h
unfolding den rule_on
calls_run s bound heights lies g zero = record { run = λ r bytes from outer lower known tally stands room right. tt }
calls_run s bound heights lies g (suc h) = record {
  run = λ r bytes from outer lower known tally stands room right.
      rule_runs s bound heights lies lower (record { grammar = g; rule = r; alt = 0; bytes = bytes; outer = outer }) from h (omega arith) stands
      (calls_run s bound heights lies g h) (rule_at g r) known tally right;
}
