-- Facts, each with its proof: a fold over expressions at each outermost form.
use Rattle.std.proofs.Common.{◌≡◌, ◌∙◌, sym, ap, ℤ}
use Rattle.ipg_num.specs.declared.op.Op2.{Op2}
use Rattle.ipg_ast.specs.declared.grammar.Ident.{Ident}
use Rattle.ipg_ast.specs.declared.grammar.Field.{Field}
use Rattle.ipg_ast.specs.declared.grammar.Expr.{Expr}
use Rattle.ipg_ast.specs.declared.grammar.Expr.TheOpen.{Expr-F}
use Rattle.ipg_ast.specs.declared.grammar.Expr.TheFolds.{fold-Expr, fold-roll-Expr}
use Rattle.ipg_ast.specs.declared.grammar.Expr.TheVariants.{Num, Eoi, Id, Part, Item, Group, Neg, Not, Two, Both, Either, Cond, rolls-Num}
use Rattle.ipg_ast.specs.declared.grammar.Expr.TheVariants.{rolls-Eoi, rolls-Id, rolls-Part, rolls-Item, rolls-Group}
use Rattle.ipg_ast.specs.declared.grammar.Expr.TheVariants.{rolls-Neg, rolls-Not, rolls-Two, rolls-Both, rolls-Either, rolls-Cond}

module _ {X : Type 0} (step : Expr-F X → X) where
  abbrev of : Expr → X
  of = fold-Expr X step

  pub at_num : (z : ℤ) → fold-Expr X step (Num z) ≡ step (Expr-F.Num z)
  at_num z = ap of (sym (rolls-Num z)) ∙ fold-roll-Expr X step (Expr-F.Num z)

  pub at_eoi : fold-Expr X step Eoi ≡ step Expr-F.Eoi
  at_eoi = ap of (sym rolls-Eoi) ∙ fold-roll-Expr X step Expr-F.Eoi

  pub at_id : (i : Ident) → fold-Expr X step (Id i) ≡ step (Expr-F.Id i)
  at_id i = ap of (sym (rolls-Id i)) ∙ fold-roll-Expr X step (Expr-F.Id i)

  pub at_part : (i : Ident) (f : Field) → fold-Expr X step (Part i f) ≡ step (Expr-F.Part i f)
  at_part i f = ap of (sym (rolls-Part i f)) ∙ fold-roll-Expr X step (Expr-F.Part i f)

  pub at_item : (i : Ident) (e : Expr) (f : Field) → fold-Expr X step (Item i e f) ≡ step (Expr-F.Item i (of e) f)
  at_item i e f = ap of (sym (rolls-Item i e f)) ∙ fold-roll-Expr X step (Expr-F.Item i e f)

  pub at_group : (e : Expr) → fold-Expr X step (Group e) ≡ step (Expr-F.Group (of e))
  at_group e = ap of (sym (rolls-Group e)) ∙ fold-roll-Expr X step (Expr-F.Group e)

  pub at_neg : (e : Expr) → fold-Expr X step (Neg e) ≡ step (Expr-F.Neg (of e))
  at_neg e = ap of (sym (rolls-Neg e)) ∙ fold-roll-Expr X step (Expr-F.Neg e)

  pub at_not : (e : Expr) → fold-Expr X step (Not e) ≡ step (Expr-F.Not (of e))
  at_not e = ap of (sym (rolls-Not e)) ∙ fold-roll-Expr X step (Expr-F.Not e)

  pub at_two : (op : Op2) (a b : Expr) → fold-Expr X step (Two op a b) ≡ step (Expr-F.Two op (of a) (of b))
  at_two op a b = ap of (sym (rolls-Two op a b)) ∙ fold-roll-Expr X step (Expr-F.Two op a b)

  pub at_both : (a b : Expr) → fold-Expr X step (Both a b) ≡ step (Expr-F.Both (of a) (of b))
  at_both a b = ap of (sym (rolls-Both a b)) ∙ fold-roll-Expr X step (Expr-F.Both a b)

  pub at_either : (a b : Expr) → fold-Expr X step (Either a b) ≡ step (Expr-F.Either (of a) (of b))
  at_either a b = ap of (sym (rolls-Either a b)) ∙ fold-roll-Expr X step (Expr-F.Either a b)

  pub at_cond : (c a b : Expr) → fold-Expr X step (Cond c a b) ≡ step (Expr-F.Cond (of c) (of a) (of b))
  at_cond c a b = ap of (sym (rolls-Cond c a b)) ∙ fold-roll-Expr X step (Expr-F.Cond c a b)
