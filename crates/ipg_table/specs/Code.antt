-- The rows of an expression: operands before their operator, each row that may pass others over with their number.
use Rattle.std.specs.Prelude.{ℕ, ◌+◌, List, [], ◌∷◌, ◌++◌, length, max}
use Rattle.ipg_core.specs.declared.grammar.CoreExpr.{CoreExpr, fold-CoreExpr, map-CoreExpr, out-CoreExpr}
use Rattle.ipg_core.specs.declared.grammar.CoreExpr.TheOpen.{CoreExpr-F}
use Rattle.ipg_table.specs.declared.row.Op.{Op}
use Rattle.ipg_table.specs.declared.row.Op.TheVariants.{Num, Eoi, Own, Outer, Loop, Seen, Item, After, Neg, Not, Two, Both, Either, Truth, Cond, Else, Close}

-- a condition and its choices, of which one is passed over
abbrev pub choice_code : List Op → List Op → List Op → List Op
choice_code c a b = c ++ Cond (length a + 1) ∷ (a ++ Else (length b + 1) ∷ (b ++ Close ∷ []))

-- one expression, the rows of each part of it at hand
abbrev pub code_step : CoreExpr-F (List Op) → List Op
code_step (CoreExpr-F.Num z) = Num z ∷ []
code_step CoreExpr-F.Eoi = Eoi ∷ []
code_step (CoreExpr-F.Own a) = Own a ∷ []
code_step (CoreExpr-F.Outer a) = Outer a ∷ []
code_step CoreExpr-F.Loop = Loop ∷ []
code_step (CoreExpr-F.Seen term sym field) = Seen term sym field ∷ []
code_step (CoreExpr-F.Item term index field) = index ++ Item term field ∷ []
code_step (CoreExpr-F.After term left) = After term (length left + 1) ∷ (left ++ Close ∷ [])
code_step (CoreExpr-F.Neg a) = a ++ Neg ∷ []
code_step (CoreExpr-F.Not a) = a ++ Not ∷ []
code_step (CoreExpr-F.Two op a b) = a ++ (b ++ Two op ∷ [])
code_step (CoreExpr-F.Both a b) = a ++ Both (length b + 1) ∷ (b ++ Truth ∷ [])
code_step (CoreExpr-F.Either a b) = a ++ Either (length b + 1) ∷ (b ++ Truth ∷ [])
code_step (CoreExpr-F.Cond c a b) = choice_code c a b

unfoldable pub code : CoreExpr → List Op
code = fold-CoreExpr (List Op) code_step

-- how deep an expression nests
abbrev pub depth_step : CoreExpr-F ℕ → ℕ
depth_step (CoreExpr-F.Num z) = 1
depth_step CoreExpr-F.Eoi = 1
depth_step (CoreExpr-F.Own a) = 1
depth_step (CoreExpr-F.Outer a) = 1
depth_step CoreExpr-F.Loop = 1
depth_step (CoreExpr-F.Seen term sym field) = 1
depth_step (CoreExpr-F.Item term index field) = index + 1
depth_step (CoreExpr-F.After term left) = left + 1
depth_step (CoreExpr-F.Neg a) = a + 1
depth_step (CoreExpr-F.Not a) = a + 1
depth_step (CoreExpr-F.Two op a b) = max a b + 1
depth_step (CoreExpr-F.Both a b) = max a b + 1
depth_step (CoreExpr-F.Either a b) = max a b + 1
depth_step (CoreExpr-F.Cond c a b) = max c (max a b) + 1

unfoldable pub depth : CoreExpr → ℕ
depth = fold-CoreExpr ℕ depth_step

-- one level of an expression, each part of it read by a function
abbrev pub parts : {A : Type 0} → (CoreExpr → A) → CoreExpr → CoreExpr-F A
parts {A} f e = map-CoreExpr CoreExpr A f (out-CoreExpr e)
