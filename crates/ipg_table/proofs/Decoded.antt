-- The rows of an expression are those of no other: a decoder gives the expression back.
use Rattle.std.proofs.Common.{◌≡◌, ◌+◌, List, [], ◌∷◌, ◌++◌, length, refl, sym, ap, subst, ◌∙◌, append_assoc, append-nil}
use Rattle.ipg_core.specs.declared.grammar.CoreExpr.{CoreExpr, map-CoreExpr, roll-CoreExpr, ind-CoreExpr, fold-roll-CoreExpr}
use Rattle.ipg_core.specs.declared.grammar.CoreExpr.TheOpen.{CoreExpr-F}
use Rattle.ipg_table.specs.declared.row.Op.{Op}
use Rattle.ipg_table.specs.declared.row.Op.TheVariants.{Num, Eoi, Own, Outer, Loop, Seen, Item, After, Neg, Not, Two, Both, Either, Truth, Cond, Else, Close}
use Rattle.ipg_table.specs.Code.{code, code_step}

-- what becomes of the expressions that were read, the last one first
abbrev Turned : Type 0
Turned = List CoreExpr → List CoreExpr

abbrev of_one : (CoreExpr → CoreExpr-F CoreExpr) → Turned
of_one f [] = []
of_one f (a ∷ read) = roll-CoreExpr (f a) ∷ read

abbrev of_two : (CoreExpr → CoreExpr → CoreExpr-F CoreExpr) → Turned
of_two f [] = []
of_two f (b ∷ []) = []
of_two f (b ∷ (a ∷ read)) = roll-CoreExpr (f a b) ∷ read

abbrev of_three : (CoreExpr → CoreExpr → CoreExpr → CoreExpr-F CoreExpr) → Turned
of_three f [] = []
of_three f (b ∷ []) = []
of_three f (b ∷ (a ∷ [])) = []
of_three f (b ∷ (a ∷ (c ∷ read))) = roll-CoreExpr (f c a b) ∷ read

-- what the row that closes does
abbrev innermost : List Turned → Turned
innermost [] read = read
innermost (turn ∷ closings) read = turn read

abbrev closed : List Turned → List Turned
closed [] = []
closed (turn ∷ closings) = closings

-- a row that opens says what is made where it closes
abbrev opened : Op → List Turned → List Turned
opened (After term skip) closings = of_one (CoreExpr-F.After term) ∷ closings
opened (Both skip) closings = of_two CoreExpr-F.Both ∷ closings
opened (Either skip) closings = of_two CoreExpr-F.Either ∷ closings
opened (Cond skip) closings = of_three CoreExpr-F.Cond ∷ closings
opened Truth closings = closed closings
opened Close closings = closed closings
opened op closings = closings

abbrev made : Op → List Turned → Turned
made (Num z) closings read = roll-CoreExpr (CoreExpr-F.Num z) ∷ read
made Eoi closings read = roll-CoreExpr CoreExpr-F.Eoi ∷ read
made (Own a) closings read = roll-CoreExpr (CoreExpr-F.Own a) ∷ read
made (Outer a) closings read = roll-CoreExpr (CoreExpr-F.Outer a) ∷ read
made Loop closings read = roll-CoreExpr CoreExpr-F.Loop ∷ read
made (Seen term sym' field) closings read = roll-CoreExpr (CoreExpr-F.Seen term sym' field) ∷ read
made (Item term field) closings read = of_one (λ index. CoreExpr-F.Item term index field) read
made Neg closings read = of_one CoreExpr-F.Neg read
made Not closings read = of_one CoreExpr-F.Not read
made (Two op) closings read = of_two (CoreExpr-F.Two op) read
made Truth closings read = innermost closings read
made Close closings read = innermost closings read
made op closings read = read

abbrev decode : List Op → List Turned → Turned
decode [] closings read = read
decode (op ∷ ops) closings read = decode ops (opened op closings) (made op closings read)

-- the rows of the expression put it to those that were read
abbrev Decodes : CoreExpr → Type 0
Decodes e = (rest : List Op) (closings : List Turned) (read : List CoreExpr) → decode (code e ++ rest) closings read ≡ decode rest closings (e ∷ read)

abbrev Sure : Type 0
Sure = (e : CoreExpr) × Decodes e

abbrev bare : CoreExpr-F Sure → CoreExpr-F CoreExpr
bare y = map-CoreExpr Sure CoreExpr (λ e. e.0) y

code_is : (y : CoreExpr-F CoreExpr) → code (roll-CoreExpr y) ≡ code_step (map-CoreExpr CoreExpr (List Op) code y)
unfolding code
code_is y = fold-roll-CoreExpr (List Op) code_step y

-- it is enough to look at one level
level : (y : CoreExpr-F CoreExpr)
    → ((rest : List Op) (closings : List Turned) (read : List CoreExpr)
    → decode (code_step (map-CoreExpr CoreExpr (List Op) code y) ++ rest) closings read ≡ decode rest closings (roll-CoreExpr y ∷ read))
    → Decodes (roll-CoreExpr y)
level y h rest closings read = ap (λ c. decode (c ++ rest) closings read) (code_is y) ∙ h rest closings read

-- an operand, and rows behind it
past : (a : Sure) (more rest : List Op) (closings : List Turned) (read : List CoreExpr)
    → decode ((code a.0 ++ more) ++ rest) closings read ≡ decode (more ++ rest) closings (a.0 ∷ read)
past a more rest closings read = ap (λ c. decode c closings read) (append_assoc (code a.0) more rest) ∙ a.1 (more ++ rest) closings read

step : (y : CoreExpr-F Sure) → Decodes (roll-CoreExpr (bare y))
step (CoreExpr-F.Num z) = level (CoreExpr-F.Num z) (λ rest closings read. refl)
step CoreExpr-F.Eoi = level CoreExpr-F.Eoi (λ rest closings read. refl)
step (CoreExpr-F.Own a) = level (CoreExpr-F.Own a) (λ rest closings read. refl)
step (CoreExpr-F.Outer a) = level (CoreExpr-F.Outer a) (λ rest closings read. refl)
step CoreExpr-F.Loop = level CoreExpr-F.Loop (λ rest closings read. refl)
step (CoreExpr-F.Seen term sym' field) = level (CoreExpr-F.Seen term sym' field) (λ rest closings read. refl)
step (CoreExpr-F.Item term index field) = level (CoreExpr-F.Item term index.0 field) (past index (Item term field ∷ []))
step (CoreExpr-F.After term left) = level (CoreExpr-F.After term left.0) (λ rest closings read.
    past left (Close ∷ []) rest (of_one (CoreExpr-F.After term) ∷ closings) read)
step (CoreExpr-F.Neg a) = level (CoreExpr-F.Neg a.0) (past a (Neg ∷ []))
step (CoreExpr-F.Not a) = level (CoreExpr-F.Not a.0) (past a (Not ∷ []))
step (CoreExpr-F.Two op a b) = level (CoreExpr-F.Two op a.0 b.0) (λ rest closings read.
    past a (code b.0 ++ Two op ∷ []) rest closings read ∙ past b (Two op ∷ []) rest closings (a.0 ∷ read))
step (CoreExpr-F.Both a b) = level (CoreExpr-F.Both a.0 b.0) (λ rest closings read.
    past a (Both (length (code b.0) + 1) ∷ (code b.0 ++ Truth ∷ [])) rest closings read
    ∙ past b (Truth ∷ []) rest (of_two CoreExpr-F.Both ∷ closings) (a.0 ∷ read))
step (CoreExpr-F.Either a b) = level (CoreExpr-F.Either a.0 b.0) (λ rest closings read.
    past a (Either (length (code b.0) + 1) ∷ (code b.0 ++ Truth ∷ [])) rest closings read
    ∙ past b (Truth ∷ []) rest (of_two CoreExpr-F.Either ∷ closings) (a.0 ∷ read))
step (CoreExpr-F.Cond c a b) = level (CoreExpr-F.Cond c.0 a.0 b.0) (λ rest closings read.
    past c (Cond (length (code a.0) + 1) ∷ (code a.0 ++ Else (length (code b.0) + 1) ∷ (code b.0 ++ Close ∷ []))) rest closings read
    ∙ past a (Else (length (code b.0) + 1) ∷ (code b.0 ++ Close ∷ [])) rest (of_three CoreExpr-F.Cond ∷ closings) (c.0 ∷ read)
    ∙ past b (Close ∷ []) rest (of_three CoreExpr-F.Cond ∷ closings) (a.0 ∷ c.0 ∷ read))

decodes : (e : CoreExpr) → Decodes e
decodes = ind-CoreExpr Decodes (λ x y is. subst (λ z. Decodes (roll-CoreExpr z)) is (step y))

decoded : (e : CoreExpr) → decode (code e) [] [] ≡ e ∷ []
decoded e = ap (λ c. decode c [] []) (sym (append-nil (code e))) ∙ decodes e [] [] []

pub same_code : (e f : CoreExpr) → code e ≡ code f → e ≡ f
same_code e f h =
    let one : e ∷ [] ≡ f ∷ [] = sym (decoded e) ∙ ap (λ c. decode c [] []) h ∙ decoded f in
    cc
