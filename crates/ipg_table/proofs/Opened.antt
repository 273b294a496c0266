-- The rows and the depth of an expression by its outermost level.
use Rattle.std.proofs.Common.{◌≡◌, ℕ, ◌+◌, List, [], ◌∷◌, ◌++◌, length, sym, ap, ◌∙◌}
use Rattle.ipg_num.specs.declared.op.Op2.{Op2}
use Rattle.ipg_core.specs.declared.grammar.CoreExpr.{CoreExpr, fold_out-CoreExpr, fold-roll-CoreExpr}
use Rattle.ipg_core.specs.declared.grammar.CoreExpr.TheOpen.{CoreExpr-F}
use Rattle.ipg_core.specs.declared.grammar.CoreExpr.TheVariants as core
use Rattle.ipg_table.specs.declared.row.Op.{Op}
use Rattle.ipg_table.specs.declared.row.Op.TheVariants.{After, Neg, Not, Two, Both, Either, Truth, Close}
use Rattle.ipg_table.specs.Code.{code, code_step, choice_code, depth, depth_step, parts}

pub code-opened : (e : CoreExpr) → code e ≡ code_step (parts code e)
unfolding code
code-opened e = fold_out-CoreExpr (List Op) code_step e

pub depth-opened : (e : CoreExpr) → depth e ≡ depth_step (parts depth e)
unfolding depth
depth-opened e = fold_out-CoreExpr ℕ depth_step e

pub after_rows : (e left : CoreExpr) (term : ℕ) → e ≡ core.After term left
    → code_step (parts code e) ≡ After term (length (code left) + 1) ∷ (code left ++ Close ∷ [])
unfolding code
after_rows e left term h =
    sym (code-opened e) ∙ ap code (h ∙ sym (core.rolls-After term left)) ∙ fold-roll-CoreExpr (List Op) code_step (CoreExpr-F.After term left)

pub neg_rows : (e a : CoreExpr) → e ≡ core.Neg a → code_step (parts code e) ≡ code a ++ Neg ∷ []
unfolding code
neg_rows e a h = sym (code-opened e) ∙ ap code (h ∙ sym (core.rolls-Neg a)) ∙ fold-roll-CoreExpr (List Op) code_step (CoreExpr-F.Neg a)

pub not_rows : (e a : CoreExpr) → e ≡ core.Not a → code_step (parts code e) ≡ code a ++ Not ∷ []
unfolding code
not_rows e a h = sym (code-opened e) ∙ ap code (h ∙ sym (core.rolls-Not a)) ∙ fold-roll-CoreExpr (List Op) code_step (CoreExpr-F.Not a)

pub two_rows : (e a b : CoreExpr) (op : Op2) → e ≡ core.Two op a b → code_step (parts code e) ≡ code a ++ (code b ++ Two op ∷ [])
unfolding code
two_rows e a b op h =
    sym (code-opened e) ∙ ap code (h ∙ sym (core.rolls-Two op a b)) ∙ fold-roll-CoreExpr (List Op) code_step (CoreExpr-F.Two op a b)

pub both_rows : (e a b : CoreExpr) → e ≡ core.Both a b
    → code_step (parts code e) ≡ code a ++ Both (length (code b) + 1) ∷ (code b ++ Truth ∷ [])
unfolding code
both_rows e a b h =
    sym (code-opened e) ∙ ap code (h ∙ sym (core.rolls-Both a b)) ∙ fold-roll-CoreExpr (List Op) code_step (CoreExpr-F.Both a b)

pub either_rows : (e a b : CoreExpr) → e ≡ core.Either a b
    → code_step (parts code e) ≡ code a ++ Either (length (code b) + 1) ∷ (code b ++ Truth ∷ [])
unfolding code
either_rows e a b h =
    sym (code-opened e) ∙ ap code (h ∙ sym (core.rolls-Either a b)) ∙ fold-roll-CoreExpr (List Op) code_step (CoreExpr-F.Either a b)

pub cond_rows : (e c a b : CoreExpr) → e ≡ core.Cond c a b → code_step (parts code e) ≡ choice_code (code c) (code a) (code b)
unfolding code
cond_rows e c a b h =
    sym (code-opened e) ∙ ap code (h ∙ sym (core.rolls-Cond c a b)) ∙ fold-roll-CoreExpr (List Op) code_step (CoreExpr-F.Cond c a b)
