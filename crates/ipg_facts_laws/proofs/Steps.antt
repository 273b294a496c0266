-- A term that runs leads to a state in which it has run, and in each later one.
use Rattle.std.proofs.Common.{◌≡◌, ℕ, ◌<◌, refl, sym, ap, ◌∙◌, subst, arith, List, [], ◌∷◌, ◌++◌, length, Option, Some, None, Ok, Bool, true, false}
use Rattle.std.proofs.Common.{if◌then◌else◌, ℤ, pos, ◌-ℤ◌}
use Rattle.std.specs.Prelude.{slice_get, flat_map, nat_lt}
use Rattle.std.specs.List.{AllByRecursion}
use Rattle.std.proofs.lemmas.Option.{slice_get_within}
use Rattle.ipg_num.specs.declared.op.Answer.TheVariants.{Val}
use Rattle.ipg_core.specs.declared.grammar.Sym.{Sym}
use Rattle.ipg_core.specs.declared.grammar.CoreExpr.{CoreExpr}
use Rattle.ipg_core.specs.declared.grammar.CoreSlot.{CoreSlot}
use Rattle.ipg_core.specs.declared.grammar.CoreTerm.{CoreTerm}
use Rattle.ipg_core.specs.declared.grammar.CoreTerm.TheVariants.{Slot, Set, Test, Repeat, Many, Pick}
use Rattle.ipg_core.specs.Tree.{Kid, Array, Many as Repetition, kids_of, items_of}
use Rattle.ipg_core.specs.Environment.{Environment, Done, value_at, done_at, items_so_far}
use Rattle.ipg_core.specs.Eval.{eval, is_zero, greatest_end}
use Rattle.ipg_core.specs.Run.{NoTree, finish, stop}
use Rattle.ipg_core.specs.Meaning.{Call, Frame, State, Place, environment, value_in, slot_on, pick_on, times, items_on, repetition_on, with_kid}
use Rattle.ipg_core.specs.Meaning.{with_value, term_on, terms_on}
use Rattle.ipg_core.specs.Mention.{Mention, mentions, slot_mentions, case_mentions, term_mentions}
use Rattle.ipg_core.specs.Order.{Sets, is_taken}
use Rattle.ipg_facts.specs.Reading.{Scope, least_width, item_of}
use Rattle.ipg_facts_laws.specs.Grows.{Grows, IsSettled}
use Rattle.ipg_facts_laws.specs.Ran.{IsValid, SlotRan, Chosen, PickRan, AreBetween, ArrayRan, TermRan, AtRan, AllRan}
use Rattle.ipg_facts_laws.proofs.Grows.{all_left, all_right, values_stay}
use Rattle.ipg_facts_laws.proofs.Runs.{finish_is, stop_is, in_state, went}
use Rattle.ipg_facts_laws.proofs.Halves.{AreBytes}
use Rattle.ipg_facts_laws.proofs.Results.{AreGood, IsKid, KidNamed, IsItem, SlotCame, PickCame, slot_came, pick_came, items_came, repetition_came}
use Rattle.ipg_facts_laws.proofs.Items.{ItemsOf, items_of_list, no_items, between}
use Rattle.ipg_facts_laws.proofs.Came.{Later, later_later, onward, stays_same, taken_first, Stands, Next, skip_next, kid_there, kid_next, value_there}
use Rattle.ipg_facts_laws.proofs.Came.{value_next, env_grows}

-- ---- what came at the moment of a term has come in an environment that has gone on

module _ (has_ended : ℕ → Bool) (env later : Environment) (grows : Grows has_ended env later) where
  abbrev AreSettled : List Mention → Type 0
  AreSettled ms = AllByRecursion (IsSettled has_ended) ms

  pub value_stays : (e : CoreExpr) (z : ℤ) → AreSettled (mentions e) → eval e env ≡ Val z → eval e later ≡ Val z
  value_stays e z m h = values_stay has_ended env later grows e z m h

  pub valid_stays : (from to : CoreExpr) → AreSettled (mentions from ++ mentions to) → IsValid env from to → IsValid later from to
  valid_stays from to m v = record {
    l = v.l;
    r = v.r;
    is_left = value_stays from (pos v.l) (all_left (IsSettled has_ended) (mentions from) (mentions to) m) v.is_left;
    is_right = value_stays to (pos v.r) (all_right (IsSettled has_ended) (mentions from) (mentions to) m) v.is_right;
    order = v.order;
    inside = let a = v.inside in let b = grows.eoi in omega arith;
  }

  module _ (marks : List Bool) (names term : ℕ) (d : Done) (there : done_at later.done term ≡ Some d) where
    pub slot_ran : (slot : CoreSlot) → AreSettled (slot_mentions slot) → SlotCame marks names env slot d.kid → SlotRan marks later term slot
    unfolding valid_stays
    slot_ran slot m came = record { valid = valid_stays slot.from slot.to m came.valid; done = d; there = there; result = came.kid.result }

    chosen_ran : (b : Bool) (taken rest taken' rest' : Type 0) → (taken → taken') → (rest → rest') → Chosen b taken rest → Chosen b taken' rest'
    chosen_ran true taken rest taken' rest' h k c = k c
    chosen_ran false taken rest taken' rest' h k c = h c

    pub pick_ran : (cases : List (CoreExpr × CoreSlot)) (other : CoreSlot) → AreSettled (flat_map case_mentions cases) → AreSettled (slot_mentions other)
        → PickCame marks names env cases other d.kid → PickRan marks later term cases other
    pick_ran [] other m n came = slot_ran other n came
    pick_ran (c ∷ cases) other m n came =
        let first : AreSettled (case_mentions c) = all_left (IsSettled has_ended) (case_mentions c) (flat_map case_mentions cases) m in
        let rest : AreSettled (flat_map case_mentions cases) = all_right (IsSettled has_ended) (case_mentions c) (flat_map case_mentions cases) m in (
          came.0,
          value_stays c.0 came.0 (all_left (IsSettled has_ended) (mentions c.0) (slot_mentions c.1) first) came.1,
          chosen_ran (is_zero came.0) _ _ _ _ (slot_ran c.1 (all_right (IsSettled has_ended) (mentions c.0) (slot_mentions c.1) first))
              (pick_ran cases other rest n) came.2,
        )

-- a result is one of a symbol
abbrev IsSome : List Bool → ℕ → Kid → Type 0
IsSome marks names k = (one : Sym) × (l : ℕ) × (r : ℕ) × IsKid marks names one l r k

slot_kid : (marks : List Bool) (names : ℕ) (env : Environment) (slot : CoreSlot) (k : Kid) → SlotCame marks names env slot k → IsSome marks names k
slot_kid marks names env slot k came = (slot.sym, came.valid.l, came.valid.r, came.kid)

chosen_kid : (marks : List Bool) (names : ℕ) (k : Kid) (taken rest : Type 0) (b : Bool) → (taken → IsSome marks names k) → (rest → IsSome marks names k)
    → Chosen b taken rest → IsSome marks names k
chosen_kid marks names k taken rest true h g c = g c
chosen_kid marks names k taken rest false h g c = h c

pick_kid : (marks : List Bool) (names : ℕ) (env : Environment) (cases : List (CoreExpr × CoreSlot)) (other : CoreSlot) (k : Kid)
    → PickCame marks names env cases other k → IsSome marks names k
pick_kid marks names env [] other k came = slot_kid marks names env other k came
pick_kid marks names env (c ∷ cases) other k came =
    chosen_kid marks names k _ _ (is_zero came.0) (slot_kid marks names env c.1 k) (pick_kid marks names env cases other k) came.2

-- ---- terms in their order

-- behind each place that a term mentions, items have ended
abbrev pub Settled : List ℕ → CoreTerm → Type 0
Settled taken term = AllByRecursion (IsSettled (is_taken taken)) (term_mentions term)

-- each term is new, and what it mentions has ended
abbrev pub Runs : Scope → List ℕ → List ℕ → Type 0
Runs scope taken [] = Unit {0}
Runs scope taken (u ∷ order) =
    ((is_taken taken u ≡ false) × ((term : CoreTerm) → slice_get scope.terms u ≡ Some term → Settled taken term)) × Runs scope (u ∷ taken) order

-- the terms that are taken behind these
abbrev pub passed : List ℕ → List ℕ → List ℕ
passed taken [] = taken
passed taken (u ∷ order) = passed (u ∷ taken) order

-- ---- one term

module _ (scope : Scope) (names : ℕ) (call : Call) (good : AreGood scope.marks names call) (f : Frame) (input : AreBytes f.bytes)
    (once : (attr u v : ℕ) → Sets scope.terms u attr → Sets scope.terms v attr → u ≡ v) where
  abbrev size : ℕ
  size = length f.bytes

  abbrev Holds : List ℕ → State → Type 0
  Holds taken state = Stands scope.marks names scope.terms size taken state

  pub record Step (taken : List ℕ) (u : ℕ) (term : CoreTerm) (state next : State) : Type 0 where
    pub one : Next scope.marks names scope.terms size taken u state next
    pub ran : (last : State) (item : Option ℤ) → Later (u ∷ taken) next last → TermRan scope.marks (environment f last item) u term

  module _ (taken : List ℕ) (u : ℕ) (fresh : is_taken taken u ≡ false) (state : State) (holds : Holds taken state) (term : CoreTerm)
      (is_term : slice_get scope.terms u ≡ Some term) (settled : Settled taken term) where
    place : u < length scope.terms
    place = slice_get_within scope.terms u term is_term

    abbrev here : Environment
    here = environment f state None

    module _ (next : State) (one : Next scope.marks names scope.terms size taken u state next) where
      pub goes_on : (last : State) (item : Option ℤ) → Later (u ∷ taken) next last → Grows (is_taken taken) here (environment f last item)
      goes_on last item later = env_grows scope.marks names scope.terms f taken state last item holds (later_later taken u state next last one.later later)

    -- a term with a result
    kid_step : (is_switch : Bool) (k : Kid) → ItemsOf scope.marks names size (item_of (slice_get scope.terms u)) (items_of k) → KidNamed names k
        → ((env : Environment) → Grows (is_taken taken) here env → done_at env.done u ≡ Some (record { is_switch = is_switch; kid = k })
        → TermRan scope.marks env u term)
        → Step taken u term state (with_kid state u is_switch k)
    unfolding environment
    kid_step is_switch k items named says =
        let one = kid_next scope.marks names scope.terms size taken u fresh state holds is_switch k place items named in
        let there = kid_there scope.marks names scope.terms size taken u fresh state holds is_switch k place items named in
        record {
          one = one;
          ran = λ last item later.
              says (environment f last item) (goes_on (with_kid state u is_switch k) one last item later)
              (later.done u (taken_first scope.marks names scope.terms taken u) ∙ there);
        }

    no_items_of : (k : Kid) → IsSome scope.marks names k → ItemsOf scope.marks names size (item_of (slice_get scope.terms u)) (items_of k)
    no_items_of k is =
        subst (ItemsOf scope.marks names size (item_of (slice_get scope.terms u))) (sym (no_items scope.marks is.0 is.1 is.2 k is.3.result)) tt

    some_items_of : (one : Sym) (items : List Kid) → item_of (Some term) ≡ Some one → AllByRecursion (IsItem scope.marks names size one) items
        → ItemsOf scope.marks names size (item_of (slice_get scope.terms u)) (kids_of items)
    some_items_of one items e h =
        subst (λ o. ItemsOf scope.marks names size o (kids_of items)) (sym (ap item_of is_term ∙ e)) (items_of_list scope.marks names size one items h)

  array_ran : (taken : List ℕ) (u : ℕ) (state : State) (first last from to : CoreExpr) (item : Sym) (a b : ℤ) (items : List Kid) (env : Environment)
      → Settled taken (Repeat first last item from to) → Grows (is_taken taken) (environment f state None) env
      → eval first (environment f state None) ≡ Val a → eval last (environment f state None) ≡ Val b
      → done_at env.done u ≡ Some (record { is_switch = false; kid = Array item (kids_of items) })
      → (nat_lt 0 (least_width scope.marks (Some item)) ≡ true → AreBetween size a b (greatest_end (kids_of items)))
      → ArrayRan scope.marks env u first last item
  unfolding environment
  array_ran taken u state first last from to item a b items env m grows ea eb there k =
      let ended : ℕ → Bool = is_taken taken in
      let rest : List Mention = mentions last ++ (mentions from ++ mentions to) in
      let m1 : AllByRecursion (IsSettled ended) (mentions first) = all_left (IsSettled ended) (mentions first) rest m in
      let m2 : AllByRecursion (IsSettled ended) (mentions last) =
      all_left (IsSettled ended) (mentions last) (mentions from ++ mentions to) (all_right (IsSettled ended) (mentions first) rest m) in
      record {
        a = a;
        b = b;
        is_first = value_stays ended (environment f state None) env grows first a m1 ea;
        is_last = value_stays ended (environment f state None) env grows last b m2 eb;
        between = λ wide.
            subst (λ n. AreBetween n a b (greatest_end (items_so_far (done_at env.done u)))) (sym grows.eoi)
            (subst (λ d. AreBetween size a b (greatest_end (items_so_far d))) (sym there) (k wide));
      }

  set_there : (last : State) (item : Option ℤ) (attr : ℕ) (z : ℤ) → value_at last.own attr ≡ Some z → value_at (environment f last item).own attr ≡ Some z
  unfolding environment
  set_there last item attr z e = e

  chosen_state : (b : Bool) (state next : State) → (if b then stop NoTree else finish state).answer ≡ Ok next → (b ≡ false) × (state ≡ next)
  chosen_state true state next e = stop_is NoTree next e
  chosen_state false state next e = (refl, finish_is state next e)

  -- what a term comes to
  pub term_step : (taken : List ℕ) (u : ℕ) → is_taken taken u ≡ false → (state next : State) → Holds taken state → (term : CoreTerm)
      → slice_get scope.terms u ≡ Some term
      → Settled taken term → (term_on call f state u (Some term)).answer ≡ Ok next → Step taken u term state next
  term_step taken u fresh state next holds (Slot slot) is_term m e =
      let p : Place = record { term = u; branch = 0 } in
      let w = went (slot_on call f p state None slot) _ next e in
      let came = slot_came scope.marks names call good f input p state None slot w.value w.first in
      subst (Step taken u (Slot slot) state) (finish_is _ next w.rest)
      (kid_step taken u fresh state holds (Slot slot) is_term m false w.value
      (no_items_of taken u fresh state holds (Slot slot) is_term m w.value (slot_kid scope.marks names _ slot w.value came)) came.kid.named
      (λ env grows there. slot_ran (is_taken taken) (environment f state None) env grows scope.marks names u _ there slot m came))
  term_step taken u fresh state next holds (Set attr x) is_term m e =
      let w = went (value_in f state None x) _ next e in
      let sets : Sets scope.terms u attr = (x, is_term) in
      let one = value_next scope.marks names scope.terms size taken u fresh state holds attr w.value sets (λ v s. once attr v u s sets) in
      let there = value_there scope.marks names scope.terms size taken u fresh state holds attr w.value sets (λ v s. once attr v u s sets) in
      subst (Step taken u (Set attr x) state) (finish_is _ next w.rest) (record {
        one = one;
        ran = λ last item later. (
          w.value,
          value_stays (is_taken taken) (environment f state None) (environment f last item)
              (goes_on taken u fresh state holds (Set attr x) is_term m (with_value state attr w.value) one last item later)
              x w.value m (in_state f state None x w.value w.first),
          set_there last item attr w.value (later.own attr w.value there),
        );
      })
  term_step taken u fresh state next holds (Test x) is_term m e =
      let w = went (value_in f state None x) _ next e in
      let c = chosen_state (is_zero w.value) state next w.rest in
      let one = skip_next scope.marks names scope.terms size taken u fresh state holds in
      subst (Step taken u (Test x) state) c.1 (record {
        one = one;
        ran = λ last item later. (
          w.value,
          value_stays (is_taken taken) (environment f state None) (environment f last item)
              (goes_on taken u fresh state holds (Test x) is_term m state one last item later) x w.value m (in_state f state None x w.value w.first),
          c.0,
        );
      })
  term_step taken u fresh state next holds (Repeat first last item from to) is_term m e =
      let slot : CoreSlot = record { sym = item; from = from; to = to } in
      let a = went (value_in f state None first) _ next e in
      let b = went (value_in f state None last) _ next a.rest in
      let c = went (items_on call f u state slot (times (b.value -ℤ a.value)) a.value []) _ next b.rest in
      let came = items_came scope.marks names call good f input u state slot (times (b.value -ℤ a.value)) a.value [] c.value tt c.first in
      let count : length c.value ≡ times (b.value -ℤ a.value) = let n = came.count in omega arith in
      subst (Step taken u (Repeat first last item from to) state) (finish_is _ next c.rest)
      (kid_step taken u fresh state holds (Repeat first last item from to) is_term m false (Array item (kids_of c.value))
      (some_items_of taken u fresh state holds (Repeat first last item from to) is_term m item c.value refl came.are) tt
      (λ env grows there. array_ran taken u state first last from to item a.value b.value c.value env m grows
      (in_state f state None first a.value a.first) (in_state f state None last b.value b.first) there
      (between scope.marks names size item c.value a.value b.value came.are count)))
  term_step taken u fresh state next holds (Many item from to) is_term m e =
      let slot : CoreSlot = record { sym = item; from = from; to = to } in
      let p : Place = record { term = u; branch = 0 } in
      let w = went (repetition_on call f p state slot) _ next e in
      let came = repetition_came scope.marks names call good f input p state slot w.value w.first in
      subst (Step taken u (Many item from to) state) (finish_is _ next w.rest)
      (kid_step taken u fresh state holds (Many item from to) is_term m false (Repetition item (kids_of w.value))
      (some_items_of taken u fresh state holds (Many item from to) is_term m item w.value refl came.are) tt
      (λ env grows there. valid_stays (is_taken taken) (environment f state None) env grows from to m came.valid))
  term_step taken u fresh state next holds (Pick cases other) is_term m e =
      let p : Place = record { term = u; branch = 0 } in
      let w = went (pick_on call f p state cases other) _ next e in
      let came = pick_came scope.marks names call good f input p state cases other w.value w.first in
      let kid = pick_kid scope.marks names _ cases other w.value came in
      subst (Step taken u (Pick cases other) state) (finish_is _ next w.rest)
      (kid_step taken u fresh state holds (Pick cases other) is_term m true w.value
      (no_items_of taken u fresh state holds (Pick cases other) is_term m w.value kid) kid.3.named
      (λ env grows there. pick_ran (is_taken taken) (environment f state None) env grows scope.marks names u _ there cases other
      (all_left (IsSettled (is_taken taken)) (flat_map case_mentions cases) (slot_mentions other) m)
      (all_right (IsSettled (is_taken taken)) (flat_map case_mentions cases) (slot_mentions other) m) came))

  -- ---- terms one after another

  pub record Came (taken order : List ℕ) (state last : State) : Type 0 where
    pub holds : Holds (passed taken order) last
    pub later : Later taken state last
    pub ran : (end : State) (item : Option ℤ) → Later (passed taken order) last end → AllRan scope (environment f end item) order

  passed_later : (taken order : List ℕ) (state last : State) → Later (passed taken order) state last → Later taken state last
  passed_later taken [] state last h = h
  passed_later taken (u ∷ order) state last h = later_later taken u state state last (stays_same taken state) (passed_later (u ∷ taken) order state last h)

  one_ran : (taken : List ℕ) (u : ℕ) (term : Option CoreTerm) (state next : State) → slice_get scope.terms u ≡ term → is_taken taken u ≡ false
      → Holds taken state
      → ((t : CoreTerm) → slice_get scope.terms u ≡ Some t → Settled taken t) → (term_on call f state u term).answer ≡ Ok next
      → Next scope.marks names scope.terms size taken u state next
      × ((last : State) (item : Option ℤ) → Later (u ∷ taken) next last → AtRan scope.marks (environment f last item) u term)
  one_ran taken u None state next is fresh holds m e = stop_is NoTree next e
  one_ran taken u (Some term) state next is fresh holds m e =
      let step = term_step taken u fresh state next holds term is (m term is) e in (step.one, step.ran)

  pub terms_came : (taken order : List ℕ) (state last : State) → Runs scope taken order → Holds taken state
      → (terms_on call f scope.terms order state).answer ≡ Ok last
      → Came taken order state last
  unfolding terms_on
  terms_came taken [] state last runs holds e =
      let same = finish_is state last e in
      record { holds = subst (Holds taken) same holds; later = subst (Later taken state) same (stays_same taken state); ran = λ end item later. tt }
  terms_came taken (u ∷ order) state last runs holds e =
      let w = went (term_on call f state u (slice_get scope.terms u)) _ last e in
      let one = one_ran taken u (slice_get scope.terms u) state w.value refl runs.0.0 holds runs.0.1 w.first in
      let rest = terms_came (u ∷ taken) order w.value last runs.1 one.0.stands w.rest in
      record {
        holds = rest.holds;
        later = later_later taken u state w.value last one.0.later rest.later;
        ran = λ end item later. (
          one.1 end item (onward (u ∷ taken) w.value last end rest.later (passed_later (u ∷ taken) order last end later)),
          rest.ran end item later,
        );
      }
