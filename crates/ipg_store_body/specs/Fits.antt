-- What a body may hold: expressions that nest so deep at most, numbers within their bits, and no orders of terms.
use Rattle.std.specs.Prelude.{◌≡◌, ℕ, zero, suc, List, [], map, Option, Some, None}
use Rattle.ipg_core.specs.declared.grammar.Sym.{Sym}
use Rattle.ipg_core.specs.declared.grammar.Sym.TheVariants.{Text, Prim, Rule}
use Rattle.ipg_core.specs.declared.grammar.CoreField.{CoreField}
use Rattle.ipg_core.specs.declared.grammar.CoreField.TheVariants.{Attr, Start, End}
use Rattle.ipg_core.specs.declared.grammar.CoreExpr.{CoreExpr, out-CoreExpr}
use Rattle.ipg_core.specs.declared.grammar.CoreExpr.TheOpen.{CoreExpr-F}
use Rattle.ipg_core.specs.declared.grammar.CoreSlot.{CoreSlot}
use Rattle.ipg_core.specs.declared.grammar.CoreTerm.{CoreTerm}
use Rattle.ipg_core.specs.declared.grammar.CoreTerm.TheVariants.{Slot, Set, Test, Repeat, Many, Pick}
use Rattle.ipg_core.specs.declared.grammar.CoreAlt.{CoreAlt}
use Rattle.ipg_core.specs.declared.grammar.CoreRule.{CoreRule}
use Rattle.std.specs.List.{AllByRecursion}
use Rattle.ipg_core.specs.Grammar.{Grammar}
use Rattle.ipg_reader.specs.Laws.{IsShort, IsSigned, IsText, AreCounted}
use Rattle.ipg_store_body.specs.declared.body.Body.{Body}
use Rattle.ipg_store_body.specs.Format.{body_text}

abbrev pub FitsSym : Sym → Type 0
FitsSym (Text bytes) = IsText bytes
FitsSym (Prim prim) = Unit {0}
FitsSym (Rule r) = IsShort r

abbrev pub FitsField : CoreField → Type 0
FitsField (Attr attr) = IsShort attr
FitsField Start = Unit {0}
FitsField End = Unit {0}

-- one level of an expression fits, where P holds of its parts
abbrev pub FitsLevel : (CoreExpr → Type 0) → CoreExpr-F CoreExpr → Type 0
FitsLevel P (CoreExpr-F.Num z) = IsSigned z
FitsLevel P CoreExpr-F.Eoi = Unit {0}
FitsLevel P (CoreExpr-F.Own attr) = IsShort attr
FitsLevel P (CoreExpr-F.Outer attr) = IsShort attr
FitsLevel P CoreExpr-F.Loop = Unit {0}
FitsLevel P (CoreExpr-F.Seen term sym field) = IsShort term × (FitsSym sym × FitsField field)
FitsLevel P (CoreExpr-F.Item term index field) = IsShort term × (P index × FitsField field)
FitsLevel P (CoreExpr-F.After term left) = IsShort term × P left
FitsLevel P (CoreExpr-F.Neg a) = P a
FitsLevel P (CoreExpr-F.Not a) = P a
FitsLevel P (CoreExpr-F.Two op a b) = P a × P b
FitsLevel P (CoreExpr-F.Both a b) = P a × P b
FitsLevel P (CoreExpr-F.Either a b) = P a × P b
FitsLevel P (CoreExpr-F.Cond c a b) = P c × (P a × P b)

-- the expression nests at most so deep, a leaf being 1
unfoldable pub FitsWithin : ℕ → CoreExpr → Type 0
FitsWithin zero e = ⊥
FitsWithin (suc depth) e = FitsLevel (FitsWithin depth) (out-CoreExpr e)

-- P holds of the expressions in one level of an expression
abbrev pub HoldsOfParts : (CoreExpr → Type 0) → CoreExpr-F CoreExpr → Type 0
HoldsOfParts P (CoreExpr-F.Num z) = Unit {0}
HoldsOfParts P CoreExpr-F.Eoi = Unit {0}
HoldsOfParts P (CoreExpr-F.Own attr) = Unit {0}
HoldsOfParts P (CoreExpr-F.Outer attr) = Unit {0}
HoldsOfParts P CoreExpr-F.Loop = Unit {0}
HoldsOfParts P (CoreExpr-F.Seen term sym field) = Unit {0}
HoldsOfParts P (CoreExpr-F.Item term index field) = P index
HoldsOfParts P (CoreExpr-F.After term left) = P left
HoldsOfParts P (CoreExpr-F.Neg a) = P a
HoldsOfParts P (CoreExpr-F.Not a) = P a
HoldsOfParts P (CoreExpr-F.Two op a b) = P a × P b
HoldsOfParts P (CoreExpr-F.Both a b) = P a × P b
HoldsOfParts P (CoreExpr-F.Either a b) = P a × P b
HoldsOfParts P (CoreExpr-F.Cond c a b) = P c × (P a × P b)

-- the expression nests at most so deep, whatever its numbers
unfoldable pub NestsWithin : ℕ → CoreExpr → Type 0
NestsWithin zero e = ⊥
NestsWithin (suc depth) e = HoldsOfParts (NestsWithin depth) (out-CoreExpr e)

abbrev pub FitsExpr : CoreExpr → Type 0
FitsExpr = FitsWithin 400

abbrev pub FitsSlot : CoreSlot → Type 0
FitsSlot slot = FitsSym slot.sym × (FitsExpr slot.from × FitsExpr slot.to)

abbrev pub FitsCase : CoreExpr × CoreSlot → Type 0
FitsCase c = FitsExpr c.0 × FitsSlot c.1

abbrev pub FitsTerm : CoreTerm → Type 0
FitsTerm (Slot slot) = FitsSlot slot
FitsTerm (Set attr value) = IsShort attr × FitsExpr value
FitsTerm (Test cond) = FitsExpr cond
FitsTerm (Repeat first last item from to) = FitsExpr first × (FitsExpr last × (FitsSym item × (FitsExpr from × FitsExpr to)))
FitsTerm (Pick cases other) = AreCounted FitsCase cases × FitsSlot other
FitsTerm (Many item from to) = FitsSym item × (FitsExpr from × FitsExpr to)

abbrev pub FitsAlt : CoreAlt → Type 0
FitsAlt alt = AreCounted FitsTerm alt.terms × (alt.order ≡ [])

abbrev pub FitsHolder : Option (ℕ × ℕ) → Type 0
FitsHolder None = Unit {0}
FitsHolder (Some holder) = IsShort holder.0 × IsShort holder.1

abbrev pub FitsRule : CoreRule → Type 0
FitsRule rule = IsText rule.name × (FitsHolder rule.holder × AreCounted FitsAlt rule.alts)

abbrev pub FitsBody : Body → Type 0
FitsBody body = AreCounted IsText body.names × AreCounted FitsRule body.rules

-- ---- of a grammar, whose terms have orders

abbrev pub NestsExpr : CoreExpr → Type 0
NestsExpr = NestsWithin 400

abbrev pub NestsSlot : CoreSlot → Type 0
NestsSlot slot = NestsExpr slot.from × NestsExpr slot.to

abbrev pub NestsCase : CoreExpr × CoreSlot → Type 0
NestsCase c = NestsExpr c.0 × NestsSlot c.1

abbrev pub NestsTerm : CoreTerm → Type 0
NestsTerm (Slot slot) = NestsSlot slot
NestsTerm (Set attr value) = NestsExpr value
NestsTerm (Test cond) = NestsExpr cond
NestsTerm (Repeat first last item from to) = NestsExpr first × (NestsExpr last × (NestsExpr from × NestsExpr to))
NestsTerm (Pick cases other) = AllByRecursion NestsCase cases × NestsSlot other
NestsTerm (Many item from to) = NestsExpr from × NestsExpr to

abbrev pub NestsAlt : CoreAlt → Type 0
NestsAlt alt = AllByRecursion NestsTerm alt.terms

-- no expression of the rule nests deeper than 400
abbrev pub NestsRule : CoreRule → Type 0
NestsRule rule = AllByRecursion NestsAlt rule.alts

abbrev pub bare_alt : CoreAlt → CoreAlt
bare_alt alt = record { terms = alt.terms; order = [] }

abbrev pub bare_rule : CoreRule → CoreRule
bare_rule rule = record { name = rule.name; holder = rule.holder; alts = map bare_alt rule.alts }

-- the grammar's names and rules, with no term in any order
abbrev pub bare : Grammar → Body
bare g = record { names = g.names; rules = map bare_rule g.rules }

-- ---- what is a body

-- the text is that of the body
abbrev pub IsBody : Body → List ℕ → Type 0
IsBody body text = FitsBody body × (text ≡ body_text body.names body.rules)

abbrev pub spelled : Body → List ℕ
spelled body = body_text body.names body.rules

-- ---- what a writer finds out of a part: it fits where it nests

-- where it nests so deep at most, it fits so deep
abbrev pub FitsWhereNests : CoreExpr → Type 0
FitsWhereNests e = (depth : ℕ) → NestsWithin depth e → FitsWithin depth e

abbrev pub SlotFits : CoreSlot → Type 0
SlotFits slot = NestsSlot slot → FitsSlot slot

abbrev pub CaseFits : CoreExpr × CoreSlot → Type 0
CaseFits c = NestsCase c → FitsCase c

unfoldable pub TermFits : CoreTerm → Type 0
TermFits term = NestsTerm term → FitsTerm term

abbrev pub AltFits : CoreAlt → Type 0
AltFits alt = AreCounted TermFits alt.terms

abbrev pub RuleFits : CoreRule → Type 0
RuleFits rule = IsText rule.name × (FitsHolder rule.holder × AreCounted AltFits rule.alts)
