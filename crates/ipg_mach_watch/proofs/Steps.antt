-- A term fails by its expressions, one after another.
use Rattle.std.proofs.Common.{◌≡◌, ℕ, ◌+◌, ℤ, arith, refl, sym, ap, ◌∙◌, subst}
use Rattle.std.proofs.Common.{List, [], ◌∷◌, length, Option, Some, None, true, false}
use Rattle.std.specs.Prelude.{if◌then◌else◌}
use Rattle.ipg_num.specs.declared.op.Answer.{Answer}
use Rattle.ipg_num.specs.declared.op.Answer.TheVariants.{Val, Fail, Range}
use Rattle.ipg_core.specs.declared.grammar.CoreExpr.{CoreExpr}
use Rattle.ipg_core.specs.declared.grammar.CoreSlot.{CoreSlot}
use Rattle.ipg_core.specs.declared.grammar.Sym.{Sym}
use Rattle.ipg_core.specs.Eval.{eval, is_zero}
use Rattle.ipg_core.specs.Part.{interval}
use Rattle.ipg_core.specs.Run.{value_of}
use Rattle.ipg_core.specs.Meaning.{Frame, State, environment, value_in}
use Rattle.ipg_table.specs.declared.row.CaseRow.{CaseRow}
use Rattle.ipg_table.specs.Rows.{Rows, Each, HoldsCase}
use Rattle.ipg_mach_failures.specs.declared.failure.Miss.{Miss}
use Rattle.ipg_mach_failures.specs.declared.failure.Cause.TheVariants.{NoValue, NoInterval}
use Rattle.ipg_mach_failures.specs.Failing.{miss, on_value, on_interval, symbol_fails, slot_fails, pick_fails}
use Rattle.ipg_mach_watch.proofs.Values.{eval_is}

module _ (f : Frame) (state : State) (item : Option ℤ) (e : CoreExpr) (branch : ℕ) (rest : ℤ → Option Miss) (result : Option Miss) where
  pub by_value : (x seen : ℤ) → value_in f state item e ≡ value_of (Val x) → seen ≡ x → result ≡ rest seen
      → result ≡ on_value branch (eval e (environment f state item)) rest
  by_value x seen has same is = is ∙ ap rest same ∙ sym (ap (λ a. on_value branch a rest) (eval_is f state item e (Val x) has))

  pub by_fail : value_in f state item e ≡ value_of Fail → result ≡ Some (miss branch NoValue None)
      → result ≡ on_value branch (eval e (environment f state item)) rest
  by_fail has is = is ∙ sym (ap (λ a. on_value branch a rest) (eval_is f state item e Fail has))

  pub by_range : value_in f state item e ≡ value_of Range → result ≡ None → result ≡ on_value branch (eval e (environment f state item)) rest
  by_range has is = is ∙ sym (ap (λ a. on_value branch a rest) (eval_is f state item e Range has))

module _ (branch : ℕ) (l r : ℤ) (rest : ℕ → ℕ → Option Miss) (result : Option Miss) where
  pub by_ends : (ends : Option (ℕ × ℕ)) (one : ℕ × ℕ) → Some one ≡ ends → result ≡ rest one.0 one.1 → result ≡ on_interval branch l r ends rest
  by_ends ends one is_one is = is ∙ ap (λ e. on_interval branch l r e rest) is_one

  pub by_none : (ends : Option (ℕ × ℕ)) → None ≡ ends → result ≡ Some (miss branch (NoInterval l r) None) → result ≡ on_interval branch l r ends rest
  by_none ends is_none is = is ∙ ap (λ e. on_interval branch l r e rest) is_none

-- two values as code reads them
pub seen : (branch n : ℕ) (rest : ℕ → ℕ → Option Miss) (result : Option Miss) (from from_seen to to_seen : ℤ) → from_seen ≡ from → to_seen ≡ to
    → result ≡ on_interval branch from_seen to_seen (interval n from_seen to_seen) rest → result ≡ on_interval branch from to (interval n from to) rest
seen branch n rest result from from_seen to to_seen is_from is_to is =
    is ∙ ap (λ x. on_interval branch x to_seen (interval n x to_seen) rest) is_from ∙ ap (λ y. on_interval branch from y (interval n from y) rest) is_to

-- the call's part, as it is lent
pub on_part : (branch : ℕ) (a : Answer) (l : ℤ) (one : Sym) (result : Option Miss) (bytes lent : List ℕ) → bytes ≡ lent
    → result ≡ on_value branch a (λ r. on_interval branch l r (interval (length lent) l r) (λ x y. symbol_fails branch lent x y one))
    → result ≡ on_value branch a (λ r. on_interval branch l r (interval (length bytes) l r) (λ x y. symbol_fails branch bytes x y one))
on_part branch a l one result bytes lent e is =
    is ∙ ap (λ s. on_value branch a (λ r. on_interval branch l r (interval (length s) l r) (λ x y. symbol_fails branch s x y one))) (sym e)

pub on_ends_part : (a : Answer) (l : ℤ) (result : Option Miss) (bytes lent : List ℕ) → bytes ≡ lent
    → result ≡ on_value 0 a (λ r. on_interval 0 l r (interval (length lent) l r) (λ x y. None))
    → result ≡ on_value 0 a (λ r. on_interval 0 l r (interval (length bytes) l r) (λ x y. None))
on_ends_part a l result bytes lent e is =
    is ∙ ap (λ s. on_value 0 a (λ r. on_interval 0 l r (interval (length s) l r) (λ x y. None))) (sym e)

-- ---- a switch goes on with the branches that are left

module _ (t : Rows) (f : Frame) (state : State) (branches : List (CoreExpr × CoreSlot)) (other : CoreSlot) where
  pub record Picks (left : List CaseRow) (branch : ℕ) : Type 0 where
    pub rest : List (CoreExpr × CoreSlot)
    pub each : Each (HoldsCase t) left rest
    pub same : pick_fails f state 0 branches other ≡ pick_fails f state branch rest other

  pub begun : (rows : List CaseRow) → Each (HoldsCase t) rows branches → Picks rows 0
  begun rows each = record { rest = branches; each = each; same = refl }

  pub record First (row : CaseRow) (rows : List CaseRow) (branch : ℕ) : Type 0 where
    pub one : CoreExpr × CoreSlot
    pub more : List (CoreExpr × CoreSlot)
    pub holds : HoldsCase t row one
    pub each : Each (HoldsCase t) rows more
    pub same : pick_fails f state 0 branches other ≡ pick_fails f state branch (one ∷ more) other

  first_by : (row : CaseRow) (rows : List CaseRow) (branch : ℕ) (rest : List (CoreExpr × CoreSlot)) → Each (HoldsCase t) (row ∷ rows) rest
      → pick_fails f state 0 branches other ≡ pick_fails f state branch rest other → First row rows branch
  first_by row rows branch [] each same = absurd each
  first_by row rows branch (one ∷ rest) each same = record { one = one; more = rest; holds = each.0; each = each.1; same = same }

  pub first : (row : CaseRow) (rows left : List CaseRow) (branch : ℕ) → left ≡ row ∷ rows → Picks left branch → First row rows branch
  first row rows left branch e picks = first_by row rows branch picks.rest (subst (λ l. Each (HoldsCase t) l picks.rest) e picks.each) picks.same

  last_by : (left : List CaseRow) (branch : ℕ) (rest : List (CoreExpr × CoreSlot)) → length left ≡ 0 → Each (HoldsCase t) left rest
      → pick_fails f state branch rest other ≡ slot_fails f state branch None other
  last_by [] branch [] e each = refl
  last_by [] branch (one ∷ rest) e each = absurd each
  last_by (row ∷ left) branch rest e each = absurd (omega arith)

  pub last : (left : List CaseRow) (branch : ℕ) → length left ≡ 0 → Picks left branch
      → pick_fails f state 0 branches other ≡ slot_fails f state branch None other
  last left branch e picks = picks.same ∙ last_by left branch picks.rest e picks.each

  module _ (row : CaseRow) (rows : List CaseRow) (branch : ℕ) (one : First row rows branch) where
    abbrev goes : ℤ → Option Miss
    goes x = if is_zero x then pick_fails f state (branch + 1) one.more other else slot_fails f state branch None one.one.1

    pub passes : (x : ℤ) → value_in f state None one.one.0 ≡ value_of (Val x) → is_zero x ≡ true → Picks rows (branch + 1)
    passes x has zero = record {
      rest = one.more;
      each = one.each;
      same = one.same ∙ ap (λ a. on_value branch a goes) (eval_is f state None one.one.0 (Val x) has)
          ∙ ap (λ b. if b then pick_fails f state (branch + 1) one.more other else slot_fails f state branch None one.one.1) zero;
    }

    pub takes : (x : ℤ) → value_in f state None one.one.0 ≡ value_of (Val x) → is_zero x ≡ false
        → pick_fails f state 0 branches other ≡ slot_fails f state branch None one.one.1
    takes x has zero = one.same ∙ ap (λ a. on_value branch a goes) (eval_is f state None one.one.0 (Val x) has)
        ∙ ap (λ b. if b then pick_fails f state (branch + 1) one.more other else slot_fails f state branch None one.one.1) zero

    pub fails : value_in f state None one.one.0 ≡ value_of Fail → pick_fails f state 0 branches other ≡ Some (miss branch NoValue None)
    fails has = one.same ∙ ap (λ a. on_value branch a goes) (eval_is f state None one.one.0 Fail has)

    pub ranges : value_in f state None one.one.0 ≡ value_of Range → pick_fails f state 0 branches other ≡ None
    ranges has = one.same ∙ ap (λ a. on_value branch a goes) (eval_is f state None one.one.0 Range has)
