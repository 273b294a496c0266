-- An alternative at work: what holds of its state, and which of its terms have run.
use Rattle.std.proofs.Common.{◌≡◌, ℕ, zero, suc, refl, sym, subst, append-nil, List, [], ◌∷◌, ◌++◌}
use Rattle.std.proofs.Common.{length, Option, Some, None, Ok, Bool, true, false, if◌then◌else◌, ℤ}
use Rattle.std.specs.Prelude.{slice_get, replicate}
use Rattle.ipg_num.specs.Number.{limited}
use Rattle.ipg_num.specs.declared.op.Answer.TheVariants.{Val}
use Rattle.ipg_core.specs.declared.grammar.CoreTerm.{CoreTerm}
use Rattle.ipg_core.specs.declared.grammar.CoreAlt.{CoreAlt}
use Rattle.ipg_core.specs.declared.grammar.CoreRule.{CoreRule}
use Rattle.ipg_core.specs.Grammar.{Grammar}
use Rattle.ipg_core.specs.Environment.{Values, Done, value_at, done_at, items_so_far}
use Rattle.ipg_core.specs.Meaning.{Frame, State, start, environment, terms_on, den}
use Rattle.ipg_core.specs.MustTouch.{Marks, AreLimit}
use Rattle.ipg_core.specs.Order.{Provides, is_taken, InOrder}
use Rattle.ipg_core.specs.Good.{AltAt, Good}
use Rattle.ipg_core.specs.Grown.{IsInput}
use Rattle.ipg_core.specs.Laws.{LiesWithin, TouchingTouches}
use Rattle.ipg_facts.specs.declared.bounds.Bounds.{Bounds}
use Rattle.ipg_facts_variables.specs.declared.variable.Side.{Side}
use Rattle.ipg_facts_variables.specs.declared.variable.Quantity.{Quantity}
use Rattle.ipg_facts_variables.specs.Variable.{attribute, holder_side}
use Rattle.ipg_facts.specs.declared.edition.Edition.TheVariants as editions
use Rattle.ipg_facts.specs.Reading.{Scope, item_of, if_there}
use Rattle.ipg_facts_laws.specs.Valued.{Valuation}
use Rattle.ipg_facts_laws.specs.Known.{Fits}
use Rattle.ipg_facts_laws.specs.Ran.{AllRan}
use Rattle.ipg_facts_laws.proofs.Results.{KidNamed, are_good}
use Rattle.ipg_facts_laws.proofs.Items.{ItemsOf}
use Rattle.ipg_facts_laws.proofs.Came.{Later, Stands, stands_first, stays_same}
use Rattle.ipg_facts_laws.proofs.Steps.{Settled, passed, terms_came}
use Rattle.ipg_facts_laws.proofs.Ordered.{settled, in_order, runs, provided}
use Rattle.ipg_facts_laws.proofs.Valuing.{clamped, of_quantity, variable_of, fits}

-- an alternative's scope, where none of its arrays has run
abbrev pub first_scope : Grammar → Marks → Side → CoreAlt → Scope
first_scope g marks side alt = record {
  edition = editions.Later;
  side = side;
  names = g.names;
  marks = marks;
  terms = alt.terms;
  arrays =
      replicate (length alt.terms) None;
}

-- the alternative on s
abbrev pub at_work : Grammar → ℕ × ℕ → List ℕ → Values → Frame
at_work g at s outer = record { grammar = g; rule = at.0; alt = at.1; bytes = s; outer = outer }

-- these terms have run, from the first, in this state and in each later one
record RanFrom (g : Grammar) (marks : Marks) (at : ℕ × ℕ) (alt : CoreAlt) (s : List ℕ) (outer : Values) (side : Side) (before : List ℕ) (state : State)
    : Type 0 where
  holds : Stands marks (length g.names) alt.terms (length s) (passed [] before) state
  ran : (end : State) (item : Option ℤ) → Later (passed [] before) state end
      → AllRan (first_scope g marks side alt) (environment (at_work g at s outer) end item) before

-- terms that have run in the order of their alternative
came_in_order : LiesWithin → TouchingTouches → (g : Grammar) → (good : Good g) → (marks : Marks) → (limit : AreLimit g marks)
    → (at : ℕ × ℕ) (rule : CoreRule) (alt : CoreAlt) → AltAt g rule alt at → (h : ℕ) (s : List ℕ) → IsInput s → (outer : Values) (side : Side)
    → (before behind : List ℕ) → alt.order ≡ before ++ behind → (state : State)
    → (terms_on (den g h) (at_work g at s outer) alt.terms before (start (length alt.terms))).answer ≡ Ok state
    → RanFrom g marks at alt s outer side before state
came_in_order lies must g good marks limit at rule alt is_at h s input outer side before behind splits state came =
    let scope : Scope = first_scope g marks side alt in
    let alt_good = good.well_formed.alts at rule alt is_at in
    let order : InOrder (Provides g at alt.terms) (length alt.terms) [] (before ++ behind) =
    subst (InOrder (Provides g at alt.terms) (length alt.terms) []) splits (good.ordered at rule alt is_at) in
    let is = terms_came scope (length g.names) (den g h) (are_good lies must g good marks limit h) (at_work g at s outer) input.bytes alt_good.sets_once
    [] before (start (length alt.terms)) state (runs g at rule.holder scope (λ w term e. (alt_good.terms w term e).mentions) [] before behind order)
    (stands_first marks (length g.names) alt.terms (length s)) came in
    record { holds = is.holds; ran = is.ran }

pub record Work (g : Grammar) (marks : Marks) (at : ℕ × ℕ) (alt : CoreAlt) (s : List ℕ) (outer : Values) (side : Side) (before : List ℕ) (u : ℕ)
    (state : State) : Type 0 where
  pub holds : Stands marks (length g.names) alt.terms (length s) (passed [] before) state
  pub ran : (end : State) (item : Option ℤ) → Later (passed [] before) state end
      → AllRan (first_scope g marks side alt) (environment (at_work g at s outer) end item) before
  pub fresh : is_taken (passed [] before) u ≡ false
  pub settled : (term : CoreTerm) → slice_get alt.terms u ≡ Some term → Settled (passed [] before) term
  pub provided : (w v : ℕ) → is_taken (passed [] before) w ≡ true → Provides g at alt.terms w v → is_taken (passed [] before) v ≡ true
  pub at_hand : (v : ℕ) → Provides g at alt.terms u v → is_taken (passed [] before) v ≡ true

pub work : LiesWithin → TouchingTouches → (g : Grammar) → Good g → (marks : Marks) → AreLimit g marks
    → (at : ℕ × ℕ) (rule : CoreRule) (alt : CoreAlt) → AltAt g rule alt at → (h : ℕ) (s : List ℕ) → IsInput s → (outer : Values) (side : Side)
    → (before behind : List ℕ) (u : ℕ) → alt.order ≡ before ++ u ∷ behind → (state : State)
    → (terms_on (den g h) (at_work g at s outer) alt.terms before (start (length alt.terms))).answer ≡ Ok state
    → Work g marks at alt s outer side before u state
work lies must g good marks limit at rule alt is_at h s input outer side before behind u splits state came =
    let scope : Scope = first_scope g marks side alt in
    let alt_good = good.well_formed.alts at rule alt is_at in
    let order : InOrder (Provides g at alt.terms) (length alt.terms) [] (before ++ u ∷ behind) =
    subst (InOrder (Provides g at alt.terms) (length alt.terms) []) splits (good.ordered at rule alt is_at) in
    let next = (in_order g at rule.holder scope (λ w term e. (alt_good.terms w term e).mentions) [] before (u ∷ behind) order).0 in
    let is = came_in_order lies must g good marks limit at rule alt is_at h s input outer side before (u ∷ behind) splits state came in
    record {
      holds = is.holds;
      ran = is.ran;
      fresh = next.fresh;
      settled = settled g at rule.holder scope (λ w term e. (alt_good.terms w term e).mentions) (passed [] before) u next;
      provided = provided g at rule.holder scope (λ w term e. (alt_good.terms w term e).mentions) before (u ∷ behind) order;
      at_hand = next.provided;
    }

-- what results say at the moment when the conditions are to hold
pub record Results (marks : Marks) (names : ℕ) (alt : CoreAlt) (eoi : ℕ) (end : State) : Type 0 where
  pub items : (t : ℕ) → ItemsOf marks names eoi (item_of (slice_get alt.terms t)) (items_so_far (done_at end.done t))
  pub named : (t : ℕ) (d : Done) → done_at end.done t ≡ Some d → KidNamed names d.kid

-- an alternative whose terms have all run
pub record Finish (g : Grammar) (marks : Marks) (at : ℕ × ℕ) (alt : CoreAlt) (s : List ℕ) (outer : Values) (side : Side) (state : State) : Type 0 where
  pub results : Results marks (length g.names) alt (length s) state
  pub ran : AllRan (first_scope g marks side alt) (environment (at_work g at s outer) state None) alt.order

pub finish : LiesWithin → TouchingTouches → (g : Grammar) → Good g → (marks : Marks) → AreLimit g marks
    → (at : ℕ × ℕ) (rule : CoreRule) (alt : CoreAlt) → AltAt g rule alt at → (h : ℕ) (s : List ℕ) → IsInput s → (outer : Values) (side : Side) (state : State)
    → (terms_on (den g h) (at_work g at s outer) alt.terms alt.order (start (length alt.terms))).answer ≡ Ok state
    → Finish g marks at alt s outer side state
finish lies must g good marks limit at rule alt is_at h s input outer side state came =
    let is = came_in_order lies must g good marks limit at rule alt is_at h s input outer side alt.order [] (sym (append-nil alt.order)) state came in
    record {
      results = record { items = is.holds.items; named = is.holds.named };
      ran = is.ran state None (stays_same (passed [] alt.order) state);
    }

pub none_there : (n t : ℕ) → if_there (slice_get (replicate n None) t) ≡ None
none_there zero t = refl
none_there (suc n) zero = refl
none_there (suc n) (suc t) = none_there n t

none_touching : (b : Bool) (o : Option Bounds) → o ≡ None → (if b then o else None) ≡ None
none_touching true o e = e
none_touching false o e = refl

pub work_fits : (g : Grammar) → Good g → (marks : Marks) (at : ℕ × ℕ) (alt : CoreAlt) (s : List ℕ) → IsInput s
    → (outer : Values) (side : Side) (end : State) (item : Option ℤ)
    → Results marks (length g.names) alt (length s) end → (v : Valuation)
    → ((quantity : Quantity) → v (variable_of side quantity) ≡ clamped (of_quantity (environment (at_work g at s outer) end item) quantity))
    → ((a : ℕ) (z : ℤ) → value_at outer a ≡ Some z → limited z ≡ Val z → v (attribute holder_side a) ≡ z)
    → Fits v (first_scope g marks side alt) (environment (at_work g at s outer) end item)
unfolding environment
work_fits g good marks at alt s input outer side end item results v agree holder =
    fits v (first_scope g marks side alt) (environment (at_work g at s outer) end item)
    (length g.names) agree good.well_formed.names_differ refl refl results.named
    input.size holder results.items
    (λ t. none_touching _ (if_there (slice_get (replicate (length alt.terms) None) t)) (none_there (length alt.terms) t))
