-- What fits so deep nests so deep.
use Rattle.std.proofs.Common.{ℕ, zero, suc, List, [], ◌∷◌}
use Rattle.std.specs.List.{AllByRecursion}
use Rattle.ipg_core.specs.declared.grammar.CoreExpr.{CoreExpr, out-CoreExpr}
use Rattle.ipg_core.specs.declared.grammar.CoreExpr.TheOpen.{CoreExpr-F}
use Rattle.ipg_core.specs.declared.grammar.CoreSlot.{CoreSlot}
use Rattle.ipg_core.specs.declared.grammar.CoreTerm.{CoreTerm}
use Rattle.ipg_core.specs.declared.grammar.CoreTerm.TheVariants.{Slot, Set, Test, Repeat, Many, Pick}
use Rattle.ipg_core.specs.declared.grammar.CoreAlt.{CoreAlt}
use Rattle.ipg_core.specs.declared.grammar.CoreRule.{CoreRule}
use Rattle.ipg_store_body.specs.Fits.{FitsLevel, FitsWithin, HoldsOfParts, NestsWithin, FitsExpr, NestsExpr, FitsSlot, NestsSlot}
use Rattle.ipg_store_body.specs.Fits.{FitsCase, NestsCase, FitsTerm, NestsTerm, FitsAlt, NestsAlt, FitsRule, NestsRule}

level : (P Q : CoreExpr → Type 0) → ((e : CoreExpr) → P e → Q e) → (x : CoreExpr-F CoreExpr) → FitsLevel P x → HoldsOfParts Q x
level P Q f (CoreExpr-F.Num z) h = tt
level P Q f CoreExpr-F.Eoi h = tt
level P Q f (CoreExpr-F.Own attr) h = tt
level P Q f (CoreExpr-F.Outer attr) h = tt
level P Q f CoreExpr-F.Loop h = tt
level P Q f (CoreExpr-F.Seen term sym field) h = tt
level P Q f (CoreExpr-F.Item term index field) h = f index h.1.0
level P Q f (CoreExpr-F.After term left) h = f left h.1
level P Q f (CoreExpr-F.Neg a) h = f a h
level P Q f (CoreExpr-F.Not a) h = f a h
level P Q f (CoreExpr-F.Two op a b) h = (f a h.0, f b h.1)
level P Q f (CoreExpr-F.Both a b) h = (f a h.0, f b h.1)
level P Q f (CoreExpr-F.Either a b) h = (f a h.0, f b h.1)
level P Q f (CoreExpr-F.Cond c a b) h = (f c h.0, (f a h.1.0, f b h.1.1))

within : (depth : ℕ) (e : CoreExpr) → FitsWithin depth e → NestsWithin depth e
unfolding FitsWithin NestsWithin
within zero e h = h
within (suc depth) e h = level (FitsWithin depth) (NestsWithin depth) (within depth) (out-CoreExpr e) h

expr : (e : CoreExpr) → FitsExpr e → NestsExpr e
expr = within 400

all : {X : Type 0} (P Q : X → Type 0) → ((x : X) → P x → Q x) → (xs : List X) → AllByRecursion P xs → AllByRecursion Q xs
all P Q f [] h = tt
all P Q f (x ∷ xs) h = (f x h.0, all P Q f xs h.1)

slot : (s : CoreSlot) → FitsSlot s → NestsSlot s
slot s h = (expr s.from h.1.0, expr s.to h.1.1)

case : (c : CoreExpr × CoreSlot) → FitsCase c → NestsCase c
case c h = (expr c.0 h.0, slot c.1 h.1)

term : (t : CoreTerm) → FitsTerm t → NestsTerm t
term (Slot s) h = slot s h
term (Set attr value) h = expr value h.1
term (Test cond) h = expr cond h
term (Repeat first last item from to) h = (expr first h.0, (expr last h.1.0, (expr from h.1.1.1.0, expr to h.1.1.1.1)))
term (Many item from to) h = (expr from h.1.0, expr to h.1.1)
term (Pick cases other) h = (all FitsCase NestsCase case cases h.0.1, slot other h.1)

alt : (a : CoreAlt) → FitsAlt a → NestsAlt a
alt a h = all FitsTerm NestsTerm term a.terms h.0.1

rule : (r : CoreRule) → FitsRule r → NestsRule r
rule r h = all FitsAlt NestsAlt alt r.alts h.1.1.1

pub rules : (rs : List CoreRule) → AllByRecursion FitsRule rs → AllByRecursion NestsRule rs
rules = all FitsRule NestsRule rule
