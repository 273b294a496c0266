-- The moment at which an edge's call is made: behind the terms before it, and the items before one of an array.
use Rattle.std.proofs.Common.{◌≡◌, ℕ, ◌<◌, ◌^◌, refl, sym, ap, subst, arith, List, [], ◌++◌, length, Option, Some, None, Bool, true, false}
use Rattle.std.proofs.Common.{if◌then◌else◌, nat_lt, ℤ, pos, negsuc}
use Rattle.std.specs.Prelude.{slice_get, ◌≤ℤ◌, ◌<ℤ◌}
use Rattle.std.specs.List.{AllByRecursion}
use Rattle.std.proofs.lemmas.Int.{ints}
use Rattle.std.proofs.lemmas.Bool.{lt-ltb}
use Rattle.std.proofs.lemmas.Option.{slice_get_within}
use Rattle.ipg_num.specs.Number.{limited}
use Rattle.ipg_num.specs.declared.op.Answer.TheVariants.{Val, Range}
use Rattle.ipg_core.specs.declared.grammar.Sym.{Sym}
use Rattle.ipg_core.specs.declared.grammar.CoreExpr.{CoreExpr}
use Rattle.ipg_core.specs.declared.grammar.CoreSlot.{CoreSlot}
use Rattle.ipg_core.specs.declared.grammar.CoreTerm.{CoreTerm}
use Rattle.ipg_core.specs.declared.grammar.CoreTerm.TheVariants.{Slot, Set, Test, Repeat, Many, Pick}
use Rattle.ipg_core.specs.declared.grammar.CoreAlt.{CoreAlt}
use Rattle.ipg_core.specs.Grammar.{Grammar}
use Rattle.ipg_core.specs.Tree.{Kid, Array, kids_of}
use Rattle.ipg_core.specs.Environment.{Environment, Values}
use Rattle.ipg_core.specs.Eval.{eval}
use Rattle.ipg_core.specs.Meaning.{State, environment, with_kid, den}
use Rattle.ipg_core.specs.Mention.{Mention, mentions}
use Rattle.ipg_core.specs.MustTouch.{Marks}
use Rattle.ipg_core.specs.Order.{is_taken}
use Rattle.ipg_facts_laws.specs.Grows.{Grows, IsSettled}
use Rattle.ipg_facts_variables.specs.declared.variable.Side.{Side}
use Rattle.ipg_facts.specs.Reading.{item_of}
use Rattle.ipg_facts_laws.specs.Ran.{Turns, CallsWhole}
use Rattle.ipg_facts_laws.specs.Reached.{ItemCalls, CallsAt}
use Rattle.ipg_facts_laws.proofs.Answers.{is_limited}
use Rattle.ipg_facts_laws.proofs.Grows.{all_left, all_right, values_stay}
use Rattle.ipg_facts_laws.proofs.Halves.{AreBytes}
use Rattle.ipg_facts_laws.proofs.Results.{AreGood, items_came}
use Rattle.ipg_facts_laws.proofs.Items.{ItemsOf, items_of_list}
use Rattle.ipg_facts_laws.proofs.Came.{Later, stays_same, kid_next, env_grows}
use Rattle.ipg_facts_laws.proofs.Steps.{Settled, passed}
use Rattle.ipg_facts_laws.proofs.Valuing.{clamped, clamped_is, is_number}
use Rattle.ipg_facts_laws.proofs.Works.{at_work, Work, Results}

-- ---- a number between two numbers is one

by_lt : (n : ℕ) → n < 2 ^ 63 → nat_lt n (2 ^ 63) ≡ true
by_lt n lt = lt-ltb n (2 ^ 63) lt

number_limited : (z : ℤ) → negsuc 9223372036854775807 ≤ℤ z → z ≤ℤ pos 9223372036854775807 → limited z ≡ Val z
number_limited (pos n) h k = ap (λ b. if b then Val (pos n) else Range) (by_lt n (omega (arith, ints)))
number_limited (negsuc n) h k = ap (λ b. if b then Val (negsuc n) else Range) (by_lt n (omega (arith, ints)))

between_limited : (a b z : ℤ) → limited a ≡ Val a → limited b ≡ Val b → a ≤ℤ z → z <ℤ b → limited z ≡ Val z
between_limited a b z e f h k =
    let low = (is_number a).0 in let high = (is_number b).1 in
    let x : clamped a ≡ a = clamped_is a e in let y : clamped b ≡ b = clamped_is b f in
    let low' : negsuc 9223372036854775807 ≤ℤ a = subst (λ n. negsuc 9223372036854775807 ≤ℤ n) x low in
    let high' : b ≤ℤ pos 9223372036854775807 = subst (λ n. n ≤ℤ pos 9223372036854775807) y high in
    number_limited z (omega (arith, ints)) (omega (arith, ints))

-- ---- the moment

module _ (g : Grammar) (marks : Marks) (at : ℕ × ℕ) (alt : CoreAlt) (s : List ℕ) (outer : Values) (side : Side) (before : List ℕ) (u : ℕ) (state : State)
    (work : Work g marks at alt s outer side before u state) (h : ℕ) (good : AreGood marks (length g.names) (den g h)) (input : AreBytes s) where
  pub record Moment (branch : ℕ) (term : CoreTerm) : Type 0 where
    pub end : State
    pub item : Option ℤ
    pub later : Later (passed [] before) state end
    pub results : Results marks (length g.names) alt (length s) end
    pub calls : CallsWhole (environment (at_work g at s outer) end item) branch term

  of_state : (branch : ℕ) (term : CoreTerm) → CallsWhole (environment (at_work g at s outer) state None) branch term → Moment branch term
  of_state branch term calls = record {
    end = state;
    item = None;
    later = stays_same (passed [] before) state;
    results = record { items = work.holds.items; named = work.holds.named };
    calls = calls;
  }

  turns_in : (env here : Environment) (first last from to : CoreExpr) (item : Sym) (a b turn : ℤ) → Settled (passed [] before) (Repeat first last item from to)
      → Grows (is_taken (passed [] before)) here env → eval first here ≡ Val a → eval last here ≡ Val b → env.item ≡ Some turn → a ≤ℤ turn → turn <ℤ b
      → Turns env first last
  turns_in env here first last from to item a b turn m grows ea eb is_turn begun ends =
      let ended : ℕ → Bool = is_taken (passed [] before) in
      let rest : List Mention = mentions last ++ (mentions from ++ mentions to) in
      let m1 : AllByRecursion (IsSettled ended) (mentions first) = all_left (IsSettled ended) (mentions first) rest m in
      let m2 : AllByRecursion (IsSettled ended) (mentions last) =
      all_left (IsSettled ended) (mentions last) (mentions from ++ mentions to) (all_right (IsSettled ended) (mentions first) rest m) in
      record {
        a = a;
        b = b;
        turn = turn;
        is_first = values_stay ended here env grows first a m1 ea;
        is_last = values_stay ended here env grows last b m2 eb;
        is_turn = is_turn;
        number = between_limited a b turn (is_limited first here a ea) (is_limited last here b eb) begun ends;
        begun = begun;
        ends = ends;
      }

  of_item : (first last from to : CoreExpr) (item : Sym) (a b : ℤ) → slice_get alt.terms u ≡ Some (Repeat first last item from to)
      → Settled (passed [] before) (Repeat first last item from to)
      → eval first (environment (at_work g at s outer) state None) ≡ Val a → eval last (environment (at_work g at s outer) state None) ≡ Val b
      → ItemCalls (den g h) (at_work g at s outer) state u (record { sym = item; from = from; to = to }) a b → (branch : ℕ)
      → Moment branch (Repeat first last item from to)
  unfolding environment
  of_item first last from to item a b is_term m ea eb calls branch =
      let slot : CoreSlot = record { sym = item; from = from; to = to } in
      let names : ℕ = length g.names in
      let came = items_came marks names (den g h) good (at_work g at s outer) input u state slot calls.count a [] calls.items tt calls.came in
      let place : u < length alt.terms = slice_get_within alt.terms u (Repeat first last item from to) is_term in
      let items : ItemsOf marks names (length s) (item_of (slice_get alt.terms u)) (kids_of calls.items) =
      subst (λ o. ItemsOf marks names (length s) o (kids_of calls.items)) (sym (ap item_of is_term))
      (items_of_list marks names (length s) item calls.items came.are) in
      let k : Kid = Array item (kids_of calls.items) in
      let next = kid_next marks names alt.terms (length s) (passed [] before) u work.fresh state work.holds false k place items tt in
      let end : State = with_kid state u false k in
      let grows = env_grows marks names alt.terms (at_work g at s outer) (passed [] before) state end (Some calls.turn) work.holds next.later in
      record {
        end = end;
        item = Some calls.turn;
        later = next.later;
        results = record { items = next.stands.items; named = next.stands.named };
        calls = (
          turns_in (environment (at_work g at s outer) end (Some calls.turn))
              (environment (at_work g at s outer) state None) first last from to item a b calls.turn m
              grows ea eb refl calls.begun calls.ends,
          calls.whole,
        );
      }

  pub moment : (branch : ℕ) (term : CoreTerm) → slice_get alt.terms u ≡ Some term → CallsAt (den g h) (at_work g at s outer) state u branch term
      → Moment branch term
  moment branch (Slot slot) is_term calls = of_state branch (Slot slot) calls
  moment branch (Set attr e) is_term calls = of_state branch (Set attr e) calls
  moment branch (Test e) is_term calls = of_state branch (Test e) calls
  moment branch (Repeat first last item from to) is_term calls =
      of_item first last from to item calls.0.0 calls.0.1 is_term (work.settled (Repeat first last item from to) is_term) calls.1 calls.2 calls.3 branch
  moment branch (Many item from to) is_term calls = of_state branch (Many item from to) calls
  moment branch (Pick cases other) is_term calls = of_state branch (Pick cases other) calls
