-- A switch goes on with the branches that are left.
use Rattle.std.proofs.Common.{◌≡◌, ◌+◌, ℤ, arith, refl, ap, ◌∙◌, List, [], ◌∷◌, length, None, true, false, subst, if◌then◌else◌}
use Rattle.ipg_num.specs.declared.op.Answer.TheVariants.{Val, Fail, Range}
use Rattle.ipg_core.specs.declared.grammar.CoreExpr.{CoreExpr}
use Rattle.ipg_core.specs.declared.grammar.CoreSlot.{CoreSlot}
use Rattle.ipg_core.specs.Eval.{is_zero}
use Rattle.ipg_core.specs.Tree as tree
use Rattle.ipg_core.specs.Run.{NoTree, OutOfRange, Run, stop, value_of}
use Rattle.ipg_core.specs.Meaning.{Frame, Place, State, value_in, slot_on, pick_on}
use Rattle.ipg_table.specs.declared.row.CaseRow.{CaseRow}
use Rattle.ipg_table.specs.Rows.{Rows, Each, HoldsCase}
use Rattle.ipg_mach_moves.specs.Moves.{silent}
use Rattle.ipg_mach_slot.proofs.Slots.{bind_value, bind_fail, bind_range}

module _ (t : Rows) (f : Frame) (place : Place) (state : State) (branches : List (CoreExpr × CoreSlot)) (last : CoreSlot) where
  -- the branches that are left come to what all do
  pub record Picks (left : List CaseRow) : Type 0 where
    pub later : Place
    pub rest : List (CoreExpr × CoreSlot)
    pub each : Each (HoldsCase t) left rest
    pub same : pick_on silent f place state branches last ≡ pick_on silent f later state rest last

  pub picks_all : (rows : List CaseRow) → Each (HoldsCase t) rows branches → Picks rows
  picks_all rows each = record { later = place; rest = branches; each = each; same = refl }

  -- the first of them, with its condition
  pub record First (row : CaseRow) (rows : List CaseRow) : Type 0 where
    pub later : Place
    pub cond : CoreExpr
    pub slot : CoreSlot
    pub more : List (CoreExpr × CoreSlot)
    pub holds : HoldsCase t row (cond, slot)
    pub each : Each (HoldsCase t) rows more
    pub same : pick_on silent f place state branches last ≡ pick_on silent f later state ((cond, slot) ∷ more) last

  first_by : (row : CaseRow) (rows : List CaseRow) (later : Place) (rest : List (CoreExpr × CoreSlot)) → Each (HoldsCase t) (row ∷ rows) rest
      → pick_on silent f place state branches last ≡ pick_on silent f later state rest last → First row rows
  first_by row rows later [] each same = absurd each
  first_by row rows later (branch ∷ rest) each same =
      record { later = later; cond = branch.0; slot = branch.1; more = rest; holds = each.0; each = each.1; same = same }

  pub first : (row : CaseRow) (rows left : List CaseRow) → left ≡ row ∷ rows → Picks left → First row rows
  first row rows left e picks = first_by row rows picks.later picks.rest (subst (λ l. Each (HoldsCase t) l picks.rest) e picks.each) picks.same

  passed : (z : ℤ) → is_zero z ≡ true → (x y : Run tree.Kid) → (if is_zero z then x else y) ≡ x
  passed z is x y = ap (λ b. if b then x else y) is

  chosen : (z : ℤ) → is_zero z ≡ false → (x y : Run tree.Kid) → (if is_zero z then x else y) ≡ y
  chosen z is x y = ap (λ b. if b then x else y) is

  module _ (row : CaseRow) (rows : List CaseRow) (one : First row rows) where
    pub passes : (z : ℤ) → is_zero z ≡ true → value_in f state None one.cond ≡ value_of (Val z) → Picks rows
    unfolding pick_on
    passes z is e = record {
      later = record one.later { branch = one.later.branch + 1 };
      rest = one.more;
      each = one.each;
      same = one.same ∙ bind_value _ z _ e ∙ passed z is _ _;
    }

    pub takes : (z : ℤ) → is_zero z ≡ false → value_in f state None one.cond ≡ value_of (Val z)
        → pick_on silent f place state branches last ≡ slot_on silent f one.later state None one.slot
    unfolding pick_on
    takes z is e = one.same ∙ bind_value _ z _ e ∙ chosen z is _ _

    pub fails : value_in f state None one.cond ≡ value_of Fail → pick_on silent f place state branches last ≡ stop NoTree
    unfolding pick_on
    fails e = one.same ∙ bind_fail _ _ e

    pub ranges : value_in f state None one.cond ≡ value_of Range → pick_on silent f place state branches last ≡ stop OutOfRange
    unfolding pick_on
    ranges e = one.same ∙ bind_range _ _ e

  none_left : (left : List CaseRow) (rest : List (CoreExpr × CoreSlot)) → length left ≡ 0 → Each (HoldsCase t) left rest → (later : Place)
      → pick_on silent f later state rest last ≡ slot_on silent f later state None last
  unfolding pick_on
  none_left [] [] e each later = refl
  none_left [] (branch ∷ rest) e each later = absurd each
  none_left (row ∷ left) rest e each later = absurd (omega arith)

  pub at_last : (left : List CaseRow) → length left ≡ 0 → (picks : Picks left)
      → pick_on silent f place state branches last ≡ slot_on silent f picks.later state None last
  at_last left e picks = picks.same ∙ none_left left picks.rest e picks.each picks.later
