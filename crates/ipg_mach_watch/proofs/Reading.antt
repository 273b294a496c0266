-- The rows of an expression read what it reads.
use Rattle.std.proofs.Common.{◌≡◌, ℕ, suc, ◌+◌, ◌<◌, refl, sym, ap, ◌∙◌, subst}
use Rattle.std.proofs.Common.{List, [], ◌∷◌, ◌++◌, drop, Option, Some, None, length, add-one, drop-cons, slice_index_or}
use Rattle.std.specs.Prelude.{flat_map}
use Rattle.std.proofs.lemmas.List.{append-nil}
use Rattle.std.proofs.lemmas.List.Concat.{flat_map-cons}
use Rattle.ipg_core.specs.declared.grammar.CoreExpr.{CoreExpr, map-CoreExpr, roll-CoreExpr, fold-roll-CoreExpr, ind-CoreExpr}
use Rattle.ipg_core.specs.declared.grammar.CoreExpr.TheOpen.{CoreExpr-F}
use Rattle.ipg_core.specs.Environment.{Environment}
use Rattle.ipg_table.specs.declared.row.Op.{Op}
use Rattle.ipg_table.specs.declared.row.Op.TheVariants as op
use Rattle.ipg_table.specs.Code.{code, code_step}
use Rattle.ipg_mach_failures.specs.declared.values.Valued.{Valued}
use Rattle.ipg_mach_failures.specs.Values.{reads, reads_step, with_value, with_values}
use Rattle.ipg_mach_watch.specs.Agreeing.{row_read, with_read, in_front, rows_read}

-- ---- values one after another

pub with_front : (values : List Valued) (one : Option Valued) (read : List Valued)
    → with_values values (in_front one read) ≡ with_values (with_read values one) read
with_front values None read = refl
with_front values (Some one) read = refl

pub with_both : (values a b : List Valued) → with_values values (a ++ b) ≡ with_values (with_values values a) b
with_both values [] b = refl
with_both values (one ∷ a) b = with_both (with_value values one) a b

pub with_first : {A : Type 0} (values : List Valued) (f : A → List Valued) (x : A) (xs : List A)
    → with_values values (flat_map f (x ∷ xs)) ≡ with_values (with_values values (f x)) (flat_map f xs)
with_first values f x xs = ap (with_values values) (flat_map-cons f x xs) ∙ with_both values (f x) (flat_map f xs)

-- ---- rows

front_both : (one : Option Valued) (a b : List Valued) → in_front one a ++ b ≡ in_front one (a ++ b)
front_both None a b = refl
front_both (Some one) a b = refl

module _ (env : Environment) where
  rows_both : (xs ys : List Op) → rows_read env (xs ++ ys) ≡ rows_read env xs ++ rows_read env ys
  rows_both [] ys = refl
  rows_both (x ∷ xs) ys = ap (in_front (row_read env x)) (rows_both xs ys) ∙ sym (front_both (row_read env x) (rows_read env xs) (rows_read env ys))

  behind : (xs ys : List Op) (a b : List Valued) → rows_read env xs ≡ a → rows_read env ys ≡ b → rows_read env (xs ++ ys) ≡ a ++ b
  behind xs ys a b one two = rows_both xs ys ∙ ap (λ l. l ++ rows_read env ys) one ∙ ap (λ l. a ++ l) two

  -- a row behind them that reads nothing
  closed : (xs : List Op) (a : List Valued) (x : Op) → row_read env x ≡ None → rows_read env xs ≡ a → rows_read env (xs ++ x ∷ []) ≡ a
  closed xs a x none one = behind xs (x ∷ []) a [] one (ap (λ r. in_front r []) none) ∙ append-nil a

  abbrev AreRead : CoreExpr → Type 0
  AreRead e = rows_read env (code e) ≡ reads env e

  abbrev Sure : Type 0
  Sure = (e : CoreExpr) × AreRead e

  abbrev bare : CoreExpr-F Sure → CoreExpr-F CoreExpr
  bare y = map-CoreExpr Sure CoreExpr (λ e. e.0) y

  layer : (y : CoreExpr-F Sure)
      → rows_read env (code_step (map-CoreExpr CoreExpr (List Op) code (bare y)))
      ≡ reads_step env (map-CoreExpr CoreExpr (List Valued) (reads env) (bare y))
  layer (CoreExpr-F.Num z) = refl
  layer CoreExpr-F.Eoi = refl
  layer (CoreExpr-F.Own a) = refl
  layer (CoreExpr-F.Outer a) = refl
  layer CoreExpr-F.Loop = refl
  layer (CoreExpr-F.Seen term sym field) = refl
  layer (CoreExpr-F.Item term i field) = closed (code i.0) (reads env i.0) (op.Item term field) refl i.1
  layer (CoreExpr-F.After term l) = closed (code l.0) (reads env l.0) op.Close refl l.1
  layer (CoreExpr-F.Neg a) = closed (code a.0) (reads env a.0) op.Neg refl a.1
  layer (CoreExpr-F.Not a) = closed (code a.0) (reads env a.0) op.Not refl a.1
  layer (CoreExpr-F.Two o a b) =
      behind (code a.0) (code b.0 ++ op.Two o ∷ []) (reads env a.0) (reads env b.0) a.1 (closed (code b.0) (reads env b.0) (op.Two o) refl b.1)
  layer (CoreExpr-F.Both a b) =
      behind (code a.0) (op.Both (length (code b.0) + 1) ∷ (code b.0 ++ op.Truth ∷ [])) (reads env a.0) (reads env b.0) a.1
      (closed (code b.0) (reads env b.0) op.Truth refl b.1)
  layer (CoreExpr-F.Either a b) =
      behind (code a.0) (op.Either (length (code b.0) + 1) ∷ (code b.0 ++ op.Truth ∷ [])) (reads env a.0) (reads env b.0) a.1
      (closed (code b.0) (reads env b.0) op.Truth refl b.1)
  layer (CoreExpr-F.Cond c a b) =
      let other = closed (code b.0) (reads env b.0) op.Close refl b.1 in
      let choices = behind (code a.0) (op.Else (length (code b.0) + 1) ∷ (code b.0 ++ op.Close ∷ [])) (reads env a.0) (reads env b.0) a.1 other in
      behind (code c.0) _ (reads env c.0) (reads env a.0 ++ reads env b.0) c.1 choices

  rolled : (y : CoreExpr-F Sure) → AreRead (roll-CoreExpr (bare y))
  unfolding code reads
  rolled y =
      ap (rows_read env) (fold-roll-CoreExpr (List Op) code_step (bare y))
      ∙ layer y
      ∙ sym (fold-roll-CoreExpr (List Valued) (reads_step env) (bare y))

  pub rows_are : (e : CoreExpr) → rows_read env (code e) ≡ reads env e
  rows_are = ind-CoreExpr AreRead (λ x y is. subst (λ z. AreRead (roll-CoreExpr z)) is (rolled y))

  -- a row more, of those that are left
  pub one_more : (values : List Valued) (rows : List Op) (i : ℕ) (row : Op) → row ≡ slice_index_or rows i row → i < length rows
      → with_values values (rows_read env (drop i rows)) ≡ with_values (with_read values (row_read env row)) (rows_read env (drop (i + 1) rows))
  one_more values rows i row at inside =
      ap (λ l. with_values values (rows_read env l)) (drop-cons rows i row inside)
      ∙ ap (λ (r : Op). with_values values (in_front (row_read env r) (rows_read env (drop (suc i) rows)))) (sym at)
      ∙ with_front values (row_read env row) (rows_read env (drop (suc i) rows))
      ∙ ap (λ n. with_values (with_read values (row_read env row)) (rows_read env (drop n rows))) (sym (add-one i))
