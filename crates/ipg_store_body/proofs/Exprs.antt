-- Expressions are read exactly, at each depth.
use Rattle.std.proofs.Common.{SFits, w64, ◌≡◌, ℕ, ℤ, pos, negsuc, zero, suc, List, [], ◌∷◌, ◌++◌, Ok, refl, sym, ap, subst, ◌∙◌}
use Rattle.ipg_core.specs.declared.grammar.Sym.{Sym}
use Rattle.ipg_core.specs.declared.grammar.CoreField.{CoreField}
use Rattle.ipg_core.specs.declared.grammar.CoreExpr.{CoreExpr, map-CoreExpr, out-CoreExpr, roll-CoreExpr}
use Rattle.ipg_core.specs.declared.grammar.CoreExpr.{out-roll-CoreExpr, roll-out-CoreExpr, fold-roll-CoreExpr}
use Rattle.ipg_core.specs.declared.grammar.CoreExpr.TheOpen.{CoreExpr-F}
use Rattle.ipg_core.specs.declared.grammar.CoreExpr.TheVariants as core
use Rattle.ipg_reader.specs.Found.{Found, signed_at}
use Rattle.ipg_reader.specs.Exact.{IsExact}
use Rattle.ipg_reader.specs.Laws.{IsSigned, signed_text, ShortAreExact, SignedAreExact, TextsAreExact}
use Rattle.ipg_reader.specs.Chains.{IsBehind, behind_nothing, exact_tagged}
use Rattle.ipg_store_body.specs.declared.tag.Leaf.{Leaf}
use Rattle.ipg_store_body.specs.declared.tag.Leaf.TheVariants as leaf
use Rattle.ipg_store_body.specs.declared.tag.Node.{Node}
use Rattle.ipg_store_body.specs.declared.tag.Node.TheVariants as node
use Rattle.ipg_store_body.specs.declared.tag.ExprTag.{ExprTag}
use Rattle.ipg_store_body.specs.declared.tag.ExprTag.TheVariants as expr_tag
use Rattle.ipg_store_body.specs.Format.{expr_step, expr_text}
use Rattle.ipg_store_body.specs.Fits.{FitsLevel, FitsWithin, HoldsOfParts, NestsWithin, FitsWhereNests}
use Rattle.ipg_store_body.specs.Reading.{leaf_fields, leaf_at, node_fields, level_fields, level_at, expr_at}
use Rattle.ipg_store_body.proofs.Codec.{Codec, pair, behind, again}
use Rattle.ipg_store_body.proofs.Symbols.{short, fields, syms, ops}

-- an expression by its outermost level
abbrev written : CoreExpr-F CoreExpr → CoreExpr-F (List ℕ)
written y = map-CoreExpr CoreExpr (List ℕ) expr_text y

pub text_is : (y : CoreExpr-F CoreExpr) (e : CoreExpr) → roll-CoreExpr y ≡ e → expr_text e ≡ expr_step (written y)
unfolding expr_text
text_is y e rolls = ap expr_text (sym rolls) ∙ fold-roll-CoreExpr (List ℕ) expr_step y

fits_is : (depth : ℕ) (y : CoreExpr-F CoreExpr) (e : CoreExpr) → roll-CoreExpr y ≡ e → FitsLevel (FitsWithin depth) y → FitsWithin (suc depth) e
unfolding FitsWithin
fits_is depth y e rolls fits = subst (FitsWithin (suc depth)) rolls (subst (FitsLevel (FitsWithin depth)) (sym (out-roll-CoreExpr y)) fits)

-- where its parts fit wherever they nest, so does it
pub fits_by : (y : CoreExpr-F CoreExpr) (e : CoreExpr) → roll-CoreExpr y ≡ e
    → ((depth : ℕ) → HoldsOfParts (NestsWithin depth) y → FitsLevel (FitsWithin depth) y) → FitsWhereNests e
unfolding NestsWithin FitsWithin
fits_by y e rolls each zero nests = absurd nests
fits_by y e rolls each (suc depth) nests =
    let level = ap out-CoreExpr (sym rolls) ∙ out-roll-CoreExpr y in
    subst (FitsLevel (FitsWithin depth)) (sym level) (each depth (subst (HoldsOfParts (NestsWithin depth)) level nests))

pub signed_fits : (z : ℤ) → SFits w64 z → IsSigned z
signed_fits (pos n) is = is.sfits
signed_fits (negsuc n) is = is.sfits

module _ (short_is : ShortAreExact) (signed_is : SignedAreExact) (texts_are : TextsAreExact) where
  abbrev signed : Codec ℤ
  signed = record { Is = IsSigned; spell = signed_text; read = signed_at; exact = signed_is }

  abbrev seen : Codec (ℕ × (Sym × CoreField))
  seen = pair (short short_is) (pair (syms short_is texts_are) (fields short_is))

  -- ---- leaves

  abbrev leaf_place : Leaf → ℕ
  leaf_place leaf.Num = 0
  leaf_place leaf.Eoi = 1
  leaf_place leaf.Own = 2
  leaf_place leaf.Outer = 3
  leaf_place leaf.Loop = 4
  leaf_place leaf.Seen = 5

  abbrev IsLeaf : ℕ → Leaf → Type 0
  IsLeaf depth l = IsBehind (FitsWithin (suc depth)) expr_text (leaf_place l) (leaf_fields l)

  leaf_behind : (depth : ℕ) (l : Leaf) → IsLeaf depth l
  unfolding leaf_fields
  leaf_behind depth leaf.Num = behind signed core.Num (FitsWithin (suc depth)) expr_text 0
      (λ z is. fits_is depth (CoreExpr-F.Num z) (core.Num z) (core.rolls-Num z) is)
      (λ z is. text_is (CoreExpr-F.Num z) (core.Num z) (core.rolls-Num z))
  leaf_behind depth leaf.Eoi = behind_nothing core.Eoi (FitsWithin (suc depth)) expr_text 1
      (fits_is depth CoreExpr-F.Eoi core.Eoi core.rolls-Eoi tt) (text_is CoreExpr-F.Eoi core.Eoi core.rolls-Eoi)
  leaf_behind depth leaf.Own = behind (short short_is) core.Own (FitsWithin (suc depth)) expr_text 2
      (λ a is. fits_is depth (CoreExpr-F.Own a) (core.Own a) (core.rolls-Own a) is)
      (λ a is. text_is (CoreExpr-F.Own a) (core.Own a) (core.rolls-Own a))
  leaf_behind depth leaf.Outer = behind (short short_is) core.Outer (FitsWithin (suc depth)) expr_text 3
      (λ a is. fits_is depth (CoreExpr-F.Outer a) (core.Outer a) (core.rolls-Outer a) is)
      (λ a is. text_is (CoreExpr-F.Outer a) (core.Outer a) (core.rolls-Outer a))
  leaf_behind depth leaf.Loop = behind_nothing core.Loop (FitsWithin (suc depth)) expr_text 4
      (fits_is depth CoreExpr-F.Loop core.Loop core.rolls-Loop tt) (text_is CoreExpr-F.Loop core.Loop core.rolls-Loop)
  leaf_behind depth leaf.Seen = behind seen (λ x. core.Seen x.0 x.1.0 x.1.1) (FitsWithin (suc depth)) expr_text 5
      (λ x is. fits_is depth (CoreExpr-F.Seen x.0 x.1.0 x.1.1) (core.Seen x.0 x.1.0 x.1.1) (core.rolls-Seen x.0 x.1.0 x.1.1) is)
      (λ x is. text_is (CoreExpr-F.Seen x.0 x.1.0 x.1.1) (core.Seen x.0 x.1.0 x.1.1) (core.rolls-Seen x.0 x.1.0 x.1.1))

  -- ---- one level, whose parts are read exactly

  -- it is enough that the level's text leads to the expression
  opened : (read : List ℕ → Found CoreExpr) (y : CoreExpr-F CoreExpr) (e : CoreExpr) (more : List ℕ) → roll-CoreExpr y ≡ e
      → read (expr_step (written y) ++ more) ≡ Ok (e, more) → read (expr_text (roll-CoreExpr y) ++ more) ≡ Ok (roll-CoreExpr y, more)
  opened read y e more rolls found =
      ap (λ w. read (w ++ more)) (text_is y (roll-CoreExpr y) refl) ∙ found ∙ ap (λ x. Ok (x, more)) (sym rolls)

  by_level : (depth : ℕ) (read : List ℕ → Found CoreExpr)
      → ((y : CoreExpr-F CoreExpr) (more : List ℕ) → FitsLevel (FitsWithin depth) y
      → read (expr_text (roll-CoreExpr y) ++ more) ≡ Ok (roll-CoreExpr y, more))
      → (e : CoreExpr) (more : List ℕ) → FitsWithin (suc depth) e → read (expr_text e ++ more) ≡ Ok (e, more)
  unfolding FitsWithin
  by_level depth read each e more fits =
      subst (λ x. read (expr_text x ++ more) ≡ Ok (x, more)) (roll-out-CoreExpr e) (each (out-CoreExpr e) more fits)

  leaf_again : (y : CoreExpr-F CoreExpr) (more : List ℕ) → FitsLevel (FitsWithin 0) y
      → leaf_at (expr_text (roll-CoreExpr y) ++ more) ≡ Ok (roll-CoreExpr y, more)
  unfolding leaf_at leaf_fields FitsWithin
  leaf_again (CoreExpr-F.Num z) more is =
      opened leaf_at (CoreExpr-F.Num z) (core.Num z) more (core.rolls-Num z) (again signed core.Num z more is)
  leaf_again CoreExpr-F.Eoi more is = opened leaf_at CoreExpr-F.Eoi core.Eoi more core.rolls-Eoi refl
  leaf_again (CoreExpr-F.Own a) more is =
      opened leaf_at (CoreExpr-F.Own a) (core.Own a) more (core.rolls-Own a) (again (short short_is) core.Own a more is)
  leaf_again (CoreExpr-F.Outer a) more is =
      opened leaf_at (CoreExpr-F.Outer a) (core.Outer a) more (core.rolls-Outer a) (again (short short_is) core.Outer a more is)
  leaf_again CoreExpr-F.Loop more is = opened leaf_at CoreExpr-F.Loop core.Loop more core.rolls-Loop refl
  leaf_again (CoreExpr-F.Seen term s f) more is =
      opened leaf_at (CoreExpr-F.Seen term s f) (core.Seen term s f) more (core.rolls-Seen term s f)
      (again seen (λ x. core.Seen x.0 x.1.0 x.1.1) (term, (s, f)) more is)
  leaf_again (CoreExpr-F.Item term index f) more is = absurd is.1.0
  leaf_again (CoreExpr-F.After term left) more is = absurd is.1
  leaf_again (CoreExpr-F.Neg a) more is = absurd is
  leaf_again (CoreExpr-F.Not a) more is = absurd is
  leaf_again (CoreExpr-F.Two op a b) more is = absurd is.0
  leaf_again (CoreExpr-F.Both a b) more is = absurd is.0
  leaf_again (CoreExpr-F.Either a b) more is = absurd is.0
  leaf_again (CoreExpr-F.Cond c a b) more is = absurd is.0

  leaves_exact : IsExact (FitsWithin 1) expr_text leaf_at
  unfolding leaf_at
  leaves_exact = exact_tagged leaf.Num (leaf.Eoi ∷ leaf.Own ∷ leaf.Outer ∷ leaf.Loop ∷ leaf.Seen ∷ []) leaf_place
      (refl, (refl, (refl, (refl, (refl, (refl, tt)))))) (FitsWithin 1) expr_text leaf_fields (leaf_behind 0) (by_level 0 leaf_at leaf_again)

  -- ---- expressions that have parts

  abbrev node_place : Node → ℕ
  node_place node.Item = 6
  node_place node.After = 7
  node_place node.Neg = 8
  node_place node.Not = 9
  node_place node.Two = 10
  node_place node.Both = 11
  node_place node.Either = 12
  node_place node.Cond = 13

  module _ (depth : ℕ) (part : List ℕ → Found CoreExpr) (part_is : IsExact (FitsWithin depth) expr_text part) where
    abbrev parts : Codec CoreExpr
    parts = record { Is = FitsWithin depth; spell = expr_text; read = part; exact = part_is }

    abbrev Fits : CoreExpr → Type 0
    Fits = FitsWithin (suc depth)

    node_behind : (n : Node) → IsBehind Fits expr_text (node_place n) (node_fields part n)
    unfolding node_fields
    node_behind node.Item = behind (pair (short short_is) (pair parts (fields short_is))) (λ x. core.Item x.0 x.1.0 x.1.1) Fits expr_text 6
        (λ x is. fits_is depth (CoreExpr-F.Item x.0 x.1.0 x.1.1) (core.Item x.0 x.1.0 x.1.1) (core.rolls-Item x.0 x.1.0 x.1.1) is)
        (λ x is. text_is (CoreExpr-F.Item x.0 x.1.0 x.1.1) (core.Item x.0 x.1.0 x.1.1) (core.rolls-Item x.0 x.1.0 x.1.1))
    node_behind node.After = behind (pair (short short_is) parts) (λ x. core.After x.0 x.1) Fits expr_text 7
        (λ x is. fits_is depth (CoreExpr-F.After x.0 x.1) (core.After x.0 x.1) (core.rolls-After x.0 x.1) is)
        (λ x is. text_is (CoreExpr-F.After x.0 x.1) (core.After x.0 x.1) (core.rolls-After x.0 x.1))
    node_behind node.Neg = behind parts core.Neg Fits expr_text 8
        (λ a is. fits_is depth (CoreExpr-F.Neg a) (core.Neg a) (core.rolls-Neg a) is)
        (λ a is. text_is (CoreExpr-F.Neg a) (core.Neg a) (core.rolls-Neg a))
    node_behind node.Not = behind parts core.Not Fits expr_text 9
        (λ a is. fits_is depth (CoreExpr-F.Not a) (core.Not a) (core.rolls-Not a) is)
        (λ a is. text_is (CoreExpr-F.Not a) (core.Not a) (core.rolls-Not a))
    node_behind node.Two = behind (pair ops (pair parts parts)) (λ x. core.Two x.0 x.1.0 x.1.1) Fits expr_text 10
        (λ x is. fits_is depth (CoreExpr-F.Two x.0 x.1.0 x.1.1) (core.Two x.0 x.1.0 x.1.1) (core.rolls-Two x.0 x.1.0 x.1.1) is.1)
        (λ x is. text_is (CoreExpr-F.Two x.0 x.1.0 x.1.1) (core.Two x.0 x.1.0 x.1.1) (core.rolls-Two x.0 x.1.0 x.1.1))
    node_behind node.Both = behind (pair parts parts) (λ x. core.Both x.0 x.1) Fits expr_text 11
        (λ x is. fits_is depth (CoreExpr-F.Both x.0 x.1) (core.Both x.0 x.1) (core.rolls-Both x.0 x.1) is)
        (λ x is. text_is (CoreExpr-F.Both x.0 x.1) (core.Both x.0 x.1) (core.rolls-Both x.0 x.1))
    node_behind node.Either = behind (pair parts parts) (λ x. core.Either x.0 x.1) Fits expr_text 12
        (λ x is. fits_is depth (CoreExpr-F.Either x.0 x.1) (core.Either x.0 x.1) (core.rolls-Either x.0 x.1) is)
        (λ x is. text_is (CoreExpr-F.Either x.0 x.1) (core.Either x.0 x.1) (core.rolls-Either x.0 x.1))
    node_behind node.Cond = behind (pair parts (pair parts parts)) (λ x. core.Cond x.0 x.1.0 x.1.1) Fits expr_text 13
        (λ x is. fits_is depth (CoreExpr-F.Cond x.0 x.1.0 x.1.1) (core.Cond x.0 x.1.0 x.1.1) (core.rolls-Cond x.0 x.1.0 x.1.1) is)
        (λ x is. text_is (CoreExpr-F.Cond x.0 x.1.0 x.1.1) (core.Cond x.0 x.1.0 x.1.1) (core.rolls-Cond x.0 x.1.0 x.1.1))

    abbrev expr_place : ExprTag → ℕ
    expr_place (expr_tag.Leaf l) = leaf_place l
    expr_place (expr_tag.Node n) = node_place n

    expr_behind : (tag : ExprTag) → IsBehind Fits expr_text (expr_place tag) (level_fields part tag)
    expr_behind (expr_tag.Leaf l) = leaf_behind depth l
    expr_behind (expr_tag.Node n) = node_behind n

    abbrev Again : CoreExpr-F CoreExpr → Type 0
    Again y = (more : List ℕ) → FitsLevel (FitsWithin depth) y → level_at part (expr_text (roll-CoreExpr y) ++ more) ≡ Ok (roll-CoreExpr y, more)

    level_again : (y : CoreExpr-F CoreExpr) → Again y
    unfolding level_at leaf_fields node_fields
    level_again (CoreExpr-F.Num z) more is =
        opened (level_at part) (CoreExpr-F.Num z) (core.Num z) more (core.rolls-Num z) (again signed core.Num z more is)
    level_again CoreExpr-F.Eoi more is = opened (level_at part) CoreExpr-F.Eoi core.Eoi more core.rolls-Eoi refl
    level_again (CoreExpr-F.Own a) more is =
        opened (level_at part) (CoreExpr-F.Own a) (core.Own a) more (core.rolls-Own a) (again (short short_is) core.Own a more is)
    level_again (CoreExpr-F.Outer a) more is =
        opened (level_at part) (CoreExpr-F.Outer a) (core.Outer a) more (core.rolls-Outer a) (again (short short_is) core.Outer a more is)
    level_again CoreExpr-F.Loop more is = opened (level_at part) CoreExpr-F.Loop core.Loop more core.rolls-Loop refl
    level_again (CoreExpr-F.Seen term s f) more is =
        opened (level_at part) (CoreExpr-F.Seen term s f) (core.Seen term s f) more (core.rolls-Seen term s f)
        (again seen (λ x. core.Seen x.0 x.1.0 x.1.1) (term, (s, f)) more is)
    level_again (CoreExpr-F.Item term index f) more is =
        opened (level_at part) (CoreExpr-F.Item term index f) (core.Item term index f) more (core.rolls-Item term index f)
        (again (pair (short short_is) (pair parts (fields short_is))) (λ x. core.Item x.0 x.1.0 x.1.1) (term, (index, f)) more is)
    level_again (CoreExpr-F.After term left) more is =
        opened (level_at part) (CoreExpr-F.After term left) (core.After term left) more (core.rolls-After term left)
        (again (pair (short short_is) parts) (λ x. core.After x.0 x.1) (term, left) more is)
    level_again (CoreExpr-F.Neg a) more is =
        opened (level_at part) (CoreExpr-F.Neg a) (core.Neg a) more (core.rolls-Neg a) (again parts core.Neg a more is)
    level_again (CoreExpr-F.Not a) more is =
        opened (level_at part) (CoreExpr-F.Not a) (core.Not a) more (core.rolls-Not a) (again parts core.Not a more is)
    level_again (CoreExpr-F.Two op a b) more is =
        opened (level_at part) (CoreExpr-F.Two op a b) (core.Two op a b) more (core.rolls-Two op a b)
        (again (pair ops (pair parts parts)) (λ x. core.Two x.0 x.1.0 x.1.1) (op, (a, b)) more (tt, is))
    level_again (CoreExpr-F.Both a b) more is =
        opened (level_at part) (CoreExpr-F.Both a b) (core.Both a b) more (core.rolls-Both a b)
        (again (pair parts parts) (λ x. core.Both x.0 x.1) (a, b) more is)
    level_again (CoreExpr-F.Either a b) more is =
        opened (level_at part) (CoreExpr-F.Either a b) (core.Either a b) more (core.rolls-Either a b)
        (again (pair parts parts) (λ x. core.Either x.0 x.1) (a, b) more is)
    level_again (CoreExpr-F.Cond c a b) more is =
        opened (level_at part) (CoreExpr-F.Cond c a b) (core.Cond c a b) more (core.rolls-Cond c a b)
        (again (pair parts (pair parts parts)) (λ x. core.Cond x.0 x.1.0 x.1.1) (c, (a, b)) more is)

    level_exact : IsExact Fits expr_text (level_at part)
    unfolding level_at
    level_exact = exact_tagged (expr_tag.Leaf leaf.Num)
        (expr_tag.Leaf leaf.Eoi ∷ expr_tag.Leaf leaf.Own ∷ expr_tag.Leaf leaf.Outer ∷ expr_tag.Leaf leaf.Loop ∷ expr_tag.Leaf leaf.Seen
        ∷ expr_tag.Node node.Item ∷ expr_tag.Node node.After ∷ expr_tag.Node node.Neg ∷ expr_tag.Node node.Not
        ∷ expr_tag.Node node.Two ∷ expr_tag.Node node.Both ∷ expr_tag.Node node.Either ∷ expr_tag.Node node.Cond ∷ [])
        expr_place (refl, (refl, (refl, (refl, (refl, (refl, (refl, (refl, (refl, (refl, (refl, (refl, (refl, (refl, tt))))))))))))))
        Fits expr_text (level_fields part) expr_behind (by_level depth (level_at part) level_again)

  pub exprs_exact : (below : ℕ) → IsExact (FitsWithin (suc below)) expr_text (expr_at below)
  unfolding expr_at
  exprs_exact zero = leaves_exact
  exprs_exact (suc below) = level_exact (suc below) (expr_at below) (exprs_exact below)
