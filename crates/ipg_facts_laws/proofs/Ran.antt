-- What terms put holds where they have run.
use Rattle.std.proofs.Common.{◌≡◌, ℕ, zero, suc, ◌≤◌, ◌^◌, Bool, true, false, ◌||◌, List, [], ◌∷◌, ◌++◌, map, refl, sym, ap, subst, ◌∙◌, ℤ, pos}
use Rattle.std.proofs.Common.{Option, Some, None, ◌⊎◌, inl, inr, if◌then◌else◌, nat_lt}
use Rattle.std.specs.Prelude.{slice_get, slice_set}
use Rattle.ipg_core.specs.declared.grammar.Sym.{Sym}
use Rattle.ipg_facts.specs.declared.bounds.Bounds.{Bounds}
use Rattle.ipg_lin.specs.Formula.{some}
use Rattle.ipg_num.specs.declared.op.Answer.TheVariants.{Val}
use Rattle.ipg_core.specs.declared.grammar.CoreExpr.{CoreExpr}
use Rattle.ipg_core.specs.declared.grammar.CoreSlot.{CoreSlot}
use Rattle.ipg_core.specs.declared.grammar.CoreTerm.{CoreTerm}
use Rattle.ipg_core.specs.declared.grammar.CoreTerm.TheVariants.{Slot, Set, Test, Repeat, Many, Pick}
use Rattle.ipg_core.specs.Environment.{Environment, done_at, items_so_far}
use Rattle.ipg_core.specs.Eval.{eval, is_zero, greatest_end}
use Rattle.ipg_facts_laws.proofs.Answers.{is_limited}
use Rattle.ipg_facts_forms.specs.declared.fact.Fact.{Fact}
use Rattle.ipg_facts_forms.specs.declared.fact.Fact.TheVariants as facts
use Rattle.ipg_facts_variables.specs.Variable.{attribute, loop}
use Rattle.ipg_facts_forms.specs.Form.{mention, equal, leq, less}
use Rattle.ipg_facts.specs.declared.edition.Edition.{Edition}
use Rattle.ipg_facts.specs.declared.edition.Edition.TheVariants.{Earlier, Later}
use Rattle.ipg_facts.specs.Reading.{Scope, length_of, nought, read, form, least_width, item_of, item_at, if_there}
use Rattle.ipg_facts.specs.Members.{members, branches, slot_members, own_members, is_whole, takes, runs}
use Rattle.ipg_facts.specs.Members.{terms_members, passed, passed_all, arrays_with, with_bounds}
use Rattle.ipg_facts_laws.specs.Valued.{Valuation, is_so}
use Rattle.ipg_facts_laws.specs.Known.{AreSo, Stands, Fits, IsBehind}
use Rattle.ipg_facts_laws.specs.Ran.{SlotRan, Chosen, PickRan, TermRan, ArrayRan, AreBetween, AtRan, AllRan, IsWholeCall, Turns, TakesWhole, CallsWhole}
use Rattle.ipg_facts_laws.specs.Laws.{MembersAreKnown, OwnMembersAreKnown, TermsAreKnown}
use Rattle.ipg_facts_laws.proofs.Forms.{so_append, so_equal, so_leq, so_less, all_is, any_is}
use Rattle.ipg_facts_laws.proofs.Relate.{stands_nought, stands_variable, stands_length, known}
use Rattle.ipg_facts_laws.proofs.Slots.{so_slot, so_valid}

pub or_true : (a b : Bool) → b ≡ true → a || b ≡ true
or_true true b e = refl
or_true false b e = e

module _ (v : Valuation) where
  pub one_so : (fs : List Fact) (rest : List Bool) → AreSo v fs → is_so v (facts.All fs) || some rest ≡ true
  one_so fs rest h = ap (λ b. b || some rest) (all_is v fs ∙ h)

  pub any_so : (fs : List Fact) → some (map (is_so v) fs) ≡ true → AreSo v (facts.Any fs ∷ [])
  any_so fs h = rw (any_is v fs, h) refl

module _ (v : Valuation) (scope : Scope) (env : Environment) (fits : Fits v scope env) where
  module _ (size : env.eoi ≤ 2 ^ 30) (number : ℕ) where
    chosen_so : (zero : Bool) (earlier : List Fact) (c : CoreExpr × CoreSlot) (cases : List (CoreExpr × CoreSlot)) (other : CoreSlot) (x : ℤ)
        → eval c.0 env ≡ Val x → is_zero x ≡ zero → AreSo v earlier
        → Chosen zero (SlotRan scope.marks env number c.1) (PickRan scope.marks env number cases other)
        → ((earlier : List Fact) → AreSo v earlier → PickRan scope.marks env number cases other
        → some (map (is_so v) (branches scope number earlier cases other)) ≡ true)
        → some (map (is_so v) (branches scope number earlier (c ∷ cases) other)) ≡ true
    unfolding branches
    chosen_so false earlier c cases other x e f h ran rest =
        one_so v (earlier ++ ((read scope c.0).holds ++ slot_members scope number c.1))
        (map (is_so v) (branches scope number (earlier ++ (read scope c.0).fails) cases other))
        (so_append v earlier _ h (so_append v (read scope c.0).holds (slot_members scope number c.1) ((known v scope env fits c.0 x e).holds f)
        (so_slot v scope env fits size number c.1 ran)))
    chosen_so true earlier c cases other x e f h ran rest =
        or_true _ _ (rest (earlier ++ (read scope c.0).fails) (so_append v earlier (read scope c.0).fails h ((known v scope env fits c.0 x e).fails f)) ran)

    branches_so : (cases : List (CoreExpr × CoreSlot)) (other : CoreSlot) (earlier : List Fact) → AreSo v earlier → PickRan scope.marks env number cases other
        → some (map (is_so v) (branches scope number earlier cases other)) ≡ true
    unfolding branches
    branches_so [] other earlier h ran =
        one_so v (earlier ++ slot_members scope number other) []
        (so_append v earlier (slot_members scope number other) h (so_slot v scope env fits size number other ran))
    branches_so (c ∷ cases) other earlier h ran = chosen_so (is_zero ran.0) earlier c cases other ran.0 ran.1 refl h ran.2 (branches_so cases other)

    members_so : (term : CoreTerm) → TermRan scope.marks env number term → AreSo v (members scope number (Some term))
    unfolding members
    members_so (Slot slot) ran = so_slot v scope env fits size number slot ran
    members_so (Set attr e) ran =
        so_equal v (mention (attribute scope.side attr) []) (form scope e) ran.0 ran.0
        (stands_variable v (attribute scope.side attr) [] ran.0 refl (fits.own attr ran.0 ran.2 (is_limited e env ran.0 ran.1)))
        (known v scope env fits e ran.0 ran.1).form refl
    members_so (Test e) ran = (known v scope env fits e ran.0 ran.1).holds ran.2
    members_so (Repeat first last item from to) ran = refl
    members_so (Many item from to) ran =
        so_valid v scope env fits size (form scope from) (form scope to) ran.l ran.r (known v scope env fits from (pos ran.l) ran.is_left).form
        (known v scope env fits to (pos ran.r) ran.is_right).form ran.order ran.inside
    members_so (Pick cases other) ran = any_so v (branches scope number [] cases other) (branches_so cases other [] refl ran)

  whole_so : (from to : CoreExpr) → IsWholeCall env from to → AreSo v (is_whole scope from to)
  unfolding is_whole
  whole_so from to call =
      so_append v (equal (form scope from) nought) (equal (form scope to) (length_of scope))
      (so_equal v (form scope from) nought (pos 0) (pos 0) (known v scope env fits from (pos 0) call.is_left).form (stands_nought v) refl)
      (so_equal v (form scope to) (length_of scope) (pos env.eoi) (pos env.eoi) (known v scope env fits to (pos env.eoi) call.is_right).form
      (stands_length v scope env fits) refl)

  runs_so : (first last : CoreExpr) → Turns env first last → AreSo v (runs scope first last)
  unfolding runs
  runs_so first last t =
      let i : Stands v (mention (loop scope.side) []) t.turn = stands_variable v (loop scope.side) [] t.turn refl (fits.turn t.turn t.is_turn t.number) in
      so_append v (leq (form scope first) (mention (loop scope.side) [])) (less (mention (loop scope.side) []) (form scope last))
      (so_leq v (form scope first) (mention (loop scope.side) []) t.a t.turn (known v scope env fits first t.a t.is_first).form i t.begun)
      (so_less v (mention (loop scope.side) []) (form scope last) t.turn t.b i (known v scope env fits last t.b t.is_last).form t.ends)

  takes_so : (cases : List (CoreExpr × CoreSlot)) (other : CoreSlot) (b : ℕ) → TakesWhole env cases other b → AreSo v (takes scope cases other b)
  unfolding takes
  takes_so [] other b call = whole_so other.from other.to call
  takes_so (c ∷ cases) other zero call =
      so_append v (read scope c.0).holds (is_whole scope c.1.from c.1.to) ((known v scope env fits c.0 call.0 call.1).holds call.2)
      (whole_so c.1.from c.1.to call.3)
  takes_so (c ∷ cases) other (suc b) call =
      so_append v (read scope c.0).fails (takes scope cases other b) ((known v scope env fits c.0 call.0 call.1).fails call.2) (takes_so cases other b call.3)

  own_so : (branch : ℕ) (term : CoreTerm) → CallsWhole env branch term → AreSo v (own_members scope branch (Some term))
  unfolding own_members
  own_so branch (Slot slot) call = whole_so slot.from slot.to call
  own_so branch (Set attr e) call = refl
  own_so branch (Test e) call = refl
  own_so branch (Repeat first last item from to) call =
      so_append v (runs scope first last) (is_whole scope from to) (runs_so first last call.0) (whole_so from to call.1)
  own_so branch (Many item from to) call = whole_so from to call
  own_so branch (Pick cases other) call = takes_so cases other branch call

pub members_are_known : MembersAreKnown
members_are_known v scope env fits size number term ran = members_so v scope env fits size number term ran

pub own_members_are_known : OwnMembersAreKnown
own_members_are_known v scope env fits branch term call = own_so v scope env fits branch term call

deeper : {A : Type 0} (xs : List A) (u t : ℕ) (y : A)
    → (slice_get (slice_set xs u y) t ≡ slice_get xs t) ⊎ ((t ≡ u) × (slice_get (slice_set xs u y) t ≡ Some y))
    → (slice_get (slice_set xs u y) t ≡ slice_get xs t) ⊎ ((suc t ≡ suc u) × (slice_get (slice_set xs u y) t ≡ Some y))
deeper xs u t y (inl e) = inl e
deeper xs u t y (inr e) = inr (ap suc e.0, e.1)

-- an entry that is set, or another one
set_get : {A : Type 0} (xs : List A) (u t : ℕ) (y : A)
    → (slice_get (slice_set xs u y) t ≡ slice_get xs t) ⊎ ((t ≡ u) × (slice_get (slice_set xs u y) t ≡ Some y))
set_get [] u t y = inl refl
set_get (x ∷ xs) zero zero y = inr (refl, refl)
set_get (x ∷ xs) zero (suc t) y = inl refl
set_get (x ∷ xs) (suc u) zero y = inl refl
set_get (x ∷ xs) (suc u) (suc t) y = deeper xs u t y (set_get xs u t y)

module _ (v : Valuation) (scope : Scope) (env : Environment) (fits : Fits v scope env) where
  abbrev found_at : ℕ → Option ℕ
  found_at t = greatest_end (items_so_far (done_at env.done t))

  behind_array : (marks : List Bool) (u : ℕ) (first last : CoreExpr) (item : Sym) (found : Option ℕ) → (ran : ArrayRan marks env u first last item)
      → AreBetween env.eoi ran.a ran.b found
      → IsBehind v env.eoi (Some (record { first = form scope first; last = form scope last })) found
  behind_array marks u first last item None ran h =
      (ran.a, ran.b, (known v scope env fits first ran.a ran.is_first).form, (known v scope env fits last ran.b ran.is_last).form, h)
  behind_array marks u first last item (Some end) ran h =
      (ran.a, ran.b, (known v scope env fits first ran.a ran.is_first).form, (known v scope env fits last ran.b ran.is_last).form, h.0, h.1)

  module _ (u : ℕ) (first last from to : CoreExpr) (item : Sym) (is_term : slice_get scope.terms u ≡ Some (Repeat first last item from to))
      (ran : ArrayRan scope.marks env u first last item) where
    abbrev bounds : Bounds
    bounds = record { first = form scope first; last = form scope last }

    abbrev arrays : List (Option Bounds)
    arrays = slice_set scope.arrays u (Some bounds)

    set_or_kept : (t : ℕ) → nat_lt 0 (least_width scope.marks (item_at scope t)) ≡ true
        → (slice_get arrays t ≡ slice_get scope.arrays t) ⊎ ((t ≡ u) × (slice_get arrays t ≡ Some (Some bounds)))
        → IsBehind v env.eoi (if_there (slice_get arrays t)) (found_at t)
    set_or_kept t wide (inl same) =
        subst (λ o. IsBehind v env.eoi (if_there o) (found_at t)) (sym same)
        (subst (λ b. IsBehind v env.eoi (if b then if_there (slice_get scope.arrays t) else None) (found_at t)) wide (fits.ends t))
    set_or_kept t wide (inr set) =
        let touches : nat_lt 0 (least_width scope.marks (Some item)) ≡ true =
        ap (λ o. nat_lt 0 (least_width scope.marks (item_of o))) (sym is_term) ∙ ap (λ n. nat_lt 0 (least_width scope.marks (item_at scope n))) (sym set.0)
        ∙ wide in
        subst (λ o. IsBehind v env.eoi (if_there o) (found_at t)) (sym set.1)
        (behind_array scope.marks u first last item (found_at t) ran
        (subst (λ n. AreBetween env.eoi ran.a ran.b (found_at n)) (sym set.0) (ran.between touches)))

    by_width : (wide : Bool) (t : ℕ) → nat_lt 0 (least_width scope.marks (item_at scope t)) ≡ wide
        → IsBehind v env.eoi (if wide then if_there (slice_get arrays t) else None) (found_at t)
    by_width true t e = set_or_kept t e (set_get scope.arrays u t (Some bounds))
    by_width false t e = subst (λ b. IsBehind v env.eoi (if b then if_there (slice_get scope.arrays t) else None) (found_at t)) e (fits.ends t)

    array_fits : Fits v (record scope { arrays = arrays }) env
    array_fits = record {
      length = fits.length;
      own = fits.own;
      outer = fits.outer;
      turn = fits.turn;
      results = fits.results;
      numbers = fits.numbers;
      opaques = fits.opaques;
      items = fits.items;
      ends = λ t. by_width (nat_lt 0 (least_width scope.marks (item_at scope t))) t refl;
    }

  bounds_fit : (edition : Edition) (u : ℕ) (first last from to : CoreExpr) (item : Sym) → slice_get scope.terms u ≡ Some (Repeat first last item from to)
      → ArrayRan scope.marks env u first last item → Fits v (record scope { arrays = with_bounds edition scope u first last }) env
  bounds_fit Earlier u first last from to item e ran = fits
  bounds_fit Later u first last from to item e ran = array_fits u first last from to item e ran

  pub passed_fits : (u : ℕ) (term : Option CoreTerm) → slice_get scope.terms u ≡ term → AtRan scope.marks env u term
      → Fits v (record scope { arrays = arrays_with scope u term }) env
  unfolding arrays_with
  passed_fits u None e ran = fits
  passed_fits u (Some (Slot slot)) e ran = fits
  passed_fits u (Some (Set attr value)) e ran = fits
  passed_fits u (Some (Test value)) e ran = fits
  passed_fits u (Some (Repeat first last item from to)) e ran = bounds_fit scope.edition u first last from to item e ran
  passed_fits u (Some (Many item from to)) e ran = fits
  passed_fits u (Some (Pick cases other)) e ran = fits

pub at_so : (v : Valuation) (scope : Scope) (env : Environment) → Fits v scope env → env.eoi ≤ 2 ^ 30 → (u : ℕ) (term : Option CoreTerm)
    → AtRan scope.marks env u term → AreSo v (members scope u term)
unfolding members
at_so v scope env fits size u None ran = refl
at_so v scope env fits size u (Some term) ran = members_so v scope env fits size u term ran

pub passed_ran : (scope : Scope) (env : Environment) (u : ℕ) (order : List ℕ) → AllRan scope env order → AllRan (passed scope u) env order
unfolding passed
passed_ran scope env u [] ran = tt
passed_ran scope env u (w ∷ order) ran = (ran.0, passed_ran scope env u order ran.1)

pub terms_are_known : TermsAreKnown
unfolding terms_members passed_all passed
terms_are_known v scope env fits size [] ran = (refl, fits)
terms_are_known v scope env fits size (u ∷ order) ran =
    let next : Fits v (passed scope u) env = passed_fits v scope env fits u (slice_get scope.terms u) refl ran.0 in
    let rest = terms_are_known v (passed scope u) env next size order (passed_ran scope env u order ran.1) in (
      so_append v (members scope u (slice_get scope.terms u)) (terms_members (passed scope u) order)
          (at_so v scope env fits size u (slice_get scope.terms u) ran.0) rest.0,
      rest.1,
    )
