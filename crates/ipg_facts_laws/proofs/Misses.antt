-- What slots put that miss a place holds where their results miss it.
use Rattle.std.proofs.Common.{◌≡◌, ℕ, zero, suc, ◌+◌, ◌≤◌, ◌^◌, Bool, true, false, List, [], ◌∷◌, ◌++◌, map, length, refl, subst}
use Rattle.std.proofs.Common.{arith, ℤ, pos, ◌+ℤ◌, Option, Some, None, inl, inr}
use Rattle.std.specs.Prelude.{slice_get}
use Rattle.std.proofs.lemmas.Int.{ints}
use Rattle.ipg_lin.specs.Formula.{some}
use Rattle.ipg_num.specs.declared.op.Answer.TheVariants.{Val}
use Rattle.ipg_core.specs.declared.grammar.Primitive.{Primitive}
use Rattle.ipg_core.specs.declared.grammar.Primitive.TheVariants.{U8, U16LE, U16BE, U32LE, U32BE, U64LE, U64BE, Bytes}
use Rattle.ipg_core.specs.declared.grammar.Sym.{Sym}
use Rattle.ipg_core.specs.declared.grammar.Sym.TheVariants.{Text, Prim, Rule}
use Rattle.ipg_core.specs.declared.grammar.CoreExpr.{CoreExpr}
use Rattle.ipg_core.specs.declared.grammar.CoreSlot.{CoreSlot}
use Rattle.ipg_core.specs.declared.grammar.CoreTerm.{CoreTerm}
use Rattle.ipg_core.specs.declared.grammar.CoreTerm.TheVariants.{Slot, Set, Test, Repeat, Many, Pick}
use Rattle.ipg_core.specs.Tree.{Kid, Sub, Token, Number, Raw}
use Rattle.ipg_core.specs.Touch.{width}
use Rattle.ipg_core.specs.Environment.{Environment, Done, done_at}
use Rattle.ipg_core.specs.Eval.{eval, is_zero}
use Rattle.ipg_facts_forms.specs.declared.fact.Form.{Form}
use Rattle.ipg_facts_forms.specs.declared.fact.Fact.{Fact}
use Rattle.ipg_facts_variables.specs.Variable.{whole}
use Rattle.ipg_facts_forms.specs.Form.{shifted, leq, less}
use Rattle.ipg_facts.specs.Reading.{Scope, read, form}
use Rattle.ipg_facts.specs.Members.{slot_members, passed}
use Rattle.ipg_facts.specs.Gap.{point_side, point, misses_first, misses_all, primitive_misses, misses, slot_misses, slot_gap, gap_branches}
use Rattle.ipg_facts.specs.Gap.{gap_members, gap_terms}
use Rattle.ipg_facts_laws.specs.Valued.{Valuation, is_so}
use Rattle.ipg_facts_laws.specs.Known.{AreSo, Stands, Fits, IsResult}
use Rattle.ipg_facts_laws.specs.Ran.{SlotRan, Chosen, PickRan, AtRan, AllRan}
use Rattle.ipg_facts_laws.specs.Missed.{IsOutside, Misses}
use Rattle.ipg_facts_laws.proofs.Forms.{stands_shifted, so_append, so_leq, so_less, so_first, so_second}
use Rattle.ipg_facts_laws.proofs.Relate.{stands_variable, known}
use Rattle.ipg_facts_laws.proofs.Slots.{so_slot}
use Rattle.ipg_facts_laws.proofs.Ran.{or_true, one_so, any_so, at_so, passed_fits, passed_ran}

-- ---- one slot

module _ (v : Valuation) (place : ℕ) (is_place : v (whole point_side) ≡ pos place) where
  pub stands_point : Stands v point (pos place)
  stands_point = stands_variable v (whole point_side) [] (pos place) refl is_place

  all_missed : (l r : Form) (a b : ℕ) → Stands v l (pos a) → Stands v r (pos b) → IsOutside a b place → AreSo v (misses_all l r)
  unfolding misses_all
  all_missed l r a b s t (inl h) =
      so_first v (less point l) (leq r point) (so_less v point l (pos place) (pos a) stands_point s (omega (arith, ints)))
  all_missed l r a b s t (inr h) =
      so_second v (less point l) (leq r point) (so_leq v r point (pos b) (pos place) t stands_point (omega (arith, ints)))

  first_missed : (l : Form) (a w : ℕ) → Stands v l (pos a) → IsOutside a (a + w) place → AreSo v (misses_first l w)
  unfolding misses_first
  first_missed l a zero s h = refl
  first_missed l a (suc w) s (inl h) =
      so_first v (less point l) (leq (shifted l (pos (suc w))) point)
      (so_less v point l (pos place) (pos a) stands_point s (omega (arith, ints)))
  first_missed l a (suc w) s (inr h) =
      so_second v (less point l) (leq (shifted l (pos (suc w))) point)
      (so_leq v (shifted l (pos (suc w))) point (pos a +ℤ pos (suc w)) (pos place) (stands_shifted v l (pos (suc w)) (pos a) s) stands_point
      (omega (arith, ints)))

  module _ (l r : Form) (a b : ℕ) (s : Stands v l (pos a)) (t : Stands v r (pos b)) where
    token_missed : (from : ℕ) (bytes token : List ℕ) → from ≡ a → token ≡ bytes → IsOutside from (from + length token) place
        → AreSo v (misses_first l (length bytes))
    token_missed from bytes token e f h =
        first_missed l a (length bytes) s
        (subst (λ bs. IsOutside a (a + length bs) place) f (subst (λ n. IsOutside n (n + length token) place) e h))

    number_missed : (from : ℕ) (p prim : Primitive) → from ≡ a → p ≡ prim → IsOutside from (from + width p) place → AreSo v (misses_first l (width prim))
    number_missed from p prim e f h =
        first_missed l a (width prim) s (subst (λ m. IsOutside a (a + width m) place) f (subst (λ n. IsOutside n (n + width p) place) e h))

    between_missed : (from to : ℕ) → from ≡ a → to ≡ b → IsOutside from to place → AreSo v (misses_all l r)
    between_missed from to e f h = all_missed l r a b s t (subst (λ m. IsOutside a m place) f (subst (λ n. IsOutside n to place) e h))

    result_missed : (marks : List Bool) (one : Sym) (k : Kid) → IsResult marks one a b k → Misses place k → AreSo v (misses one l r)
    unfolding misses primitive_misses
    result_missed marks (Text bytes) (Token from to token) is h = token_missed from bytes token is.0 is.2 h
    result_missed marks (Prim U8) (Number from to p high low) is h = number_missed from p U8 is.0 is.2 h
    result_missed marks (Prim U16LE) (Number from to p high low) is h = number_missed from p U16LE is.0 is.2 h
    result_missed marks (Prim U16BE) (Number from to p high low) is h = number_missed from p U16BE is.0 is.2 h
    result_missed marks (Prim U32LE) (Number from to p high low) is h = number_missed from p U32LE is.0 is.2 h
    result_missed marks (Prim U32BE) (Number from to p high low) is h = number_missed from p U32BE is.0 is.2 h
    result_missed marks (Prim U64LE) (Number from to p high low) is h = number_missed from p U64LE is.0 is.2 h
    result_missed marks (Prim U64BE) (Number from to p high low) is h = number_missed from p U64BE is.0 is.2 h
    result_missed marks (Prim Bytes) (Raw from to bytes) is h = between_missed from to is.0 is.1 h
    result_missed marks (Rule callee) (Sub from to tree) is h = between_missed from to is.0 is.1 h
    result_missed marks _ _ is h = absurd is

-- ---- terms

-- each result that there is misses the place
abbrev pub MissesEach : Environment → ℕ → Type 0
MissesEach env place = (u : ℕ) (d : Done) → done_at env.done u ≡ Some d → Misses place d.kid

module _ (v : Valuation) (place : ℕ) (is_place : v (whole point_side) ≡ pos place) (env : Environment) (size : env.eoi ≤ 2 ^ 30)
    (missed : MissesEach env place) where
  module _ (scope : Scope) (fits : Fits v scope env) (number : ℕ) where
    slot_missed : (slot : CoreSlot) → SlotRan scope.marks env number slot → AreSo v (slot_gap scope number slot)
    slot_missed slot ran =
        so_append v (slot_members scope number slot) (slot_misses scope slot) (so_slot v scope env fits size number slot ran)
        (result_missed v place is_place (form scope slot.from) (form scope slot.to) ran.valid.l ran.valid.r
        (known v scope env fits slot.from (pos ran.valid.l) ran.valid.is_left).form (known v scope env fits slot.to (pos ran.valid.r) ran.valid.is_right).form
        scope.marks slot.sym ran.done.kid ran.result (missed number ran.done ran.there))

    abbrev AreBranches : List Fact → List (CoreExpr × CoreSlot) → CoreSlot → Type 0
    AreBranches earlier cases other = some (map (is_so v) (gap_branches scope number earlier cases other)) ≡ true

    chosen_missed : (zero : Bool) (earlier : List Fact) (c : CoreExpr × CoreSlot) (cases : List (CoreExpr × CoreSlot)) (other : CoreSlot) (x : ℤ)
        → eval c.0 env ≡ Val x → is_zero x ≡ zero → AreSo v earlier
        → Chosen zero (SlotRan scope.marks env number c.1) (PickRan scope.marks env number cases other)
        → ((earlier : List Fact) → AreSo v earlier → PickRan scope.marks env number cases other → AreBranches earlier cases other)
        → AreBranches earlier (c ∷ cases) other
    unfolding gap_branches
    chosen_missed false earlier c cases other x e f h ran rest =
        one_so v (earlier ++ ((read scope c.0).holds ++ slot_gap scope number c.1))
        (map (is_so v) (gap_branches scope number (earlier ++ (read scope c.0).fails) cases other))
        (so_append v earlier _ h (so_append v (read scope c.0).holds (slot_gap scope number c.1) ((known v scope env fits c.0 x e).holds f)
        (slot_missed c.1 ran)))
    chosen_missed true earlier c cases other x e f h ran rest =
        or_true _ _ (rest (earlier ++ (read scope c.0).fails) (so_append v earlier (read scope c.0).fails h ((known v scope env fits c.0 x e).fails f)) ran)

    branches_missed : (cases : List (CoreExpr × CoreSlot)) (other : CoreSlot) (earlier : List Fact) → AreSo v earlier
        → PickRan scope.marks env number cases other → AreBranches earlier cases other
    unfolding gap_branches
    branches_missed [] other earlier h ran =
        one_so v (earlier ++ slot_gap scope number other) [] (so_append v earlier (slot_gap scope number other) h (slot_missed other ran))
    branches_missed (c ∷ cases) other earlier h ran =
        chosen_missed (is_zero ran.0) earlier c cases other ran.0 ran.1 refl h ran.2 (branches_missed cases other)

    term_missed : (term : Option CoreTerm) → AtRan scope.marks env number term → AreSo v (gap_members scope number term)
    unfolding gap_members
    term_missed None ran = at_so v scope env fits size number None ran
    term_missed (Some (Slot slot)) ran = slot_missed slot ran
    term_missed (Some (Set attr e)) ran = at_so v scope env fits size number (Some (Set attr e)) ran
    term_missed (Some (Test e)) ran = at_so v scope env fits size number (Some (Test e)) ran
    term_missed (Some (Repeat first last item from to)) ran = at_so v scope env fits size number (Some (Repeat first last item from to)) ran
    term_missed (Some (Many item from to)) ran = at_so v scope env fits size number (Some (Many item from to)) ran
    term_missed (Some (Pick cases other)) ran =
        any_so v (gap_branches scope number [] cases other) (branches_missed cases other [] refl ran)

  pub terms_missed : (scope : Scope) → Fits v scope env → (order : List ℕ) → AllRan scope env order → AreSo v (gap_terms scope order)
  unfolding gap_terms passed
  terms_missed scope fits [] ran = refl
  terms_missed scope fits (u ∷ order) ran =
      so_append v (gap_members scope u (slice_get scope.terms u)) (gap_terms (passed scope u) order)
      (term_missed scope fits u (slice_get scope.terms u) ran.0)
      (terms_missed (passed scope u) (passed_fits v scope env fits u (slice_get scope.terms u) refl ran.0) order (passed_ran scope env u order ran.1))
