-- When a grammar is well formed: no list that needs a member is empty, operands fit their levels, and the limits hold.
use Rattle.std.specs.Prelude.{◌≡◌, ℕ, ◌+◌, ◌≤◌, ◌<◌, Bool, true, ◌&&◌, nat_le, max, List, [], length, sum_by}
use Rattle.std.specs.List.{AllByRecursion}
use Rattle.ipg_num.specs.declared.op.Op2.{Op2}
use Rattle.ipg_num.specs.declared.op.Op2.TheVariants.{Add, Sub, Mul, Div, Mod, Shl, Shr, BitAnd, BitOr, BitXor, Eq, Ne, Lt, Le, Gt, Ge}
use Rattle.ipg_ast.specs.declared.grammar.Grammar.{Grammar}
use Rattle.ipg_ast.specs.declared.grammar.Rule.{Rule, out-Rule}
use Rattle.ipg_ast.specs.declared.grammar.Alt.{Alt, out-Alt}
use Rattle.ipg_ast.specs.declared.grammar.Term.{Term}
use Rattle.ipg_ast.specs.declared.grammar.Term.TheVariants.{Slot as SlotTerm, Set, Test, Repeat, Many, Pick}
use Rattle.ipg_ast.specs.declared.grammar.Case.{Case}
use Rattle.ipg_ast.specs.declared.grammar.Slot.{Slot}
use Rattle.ipg_ast.specs.declared.grammar.Place.{Place}
use Rattle.ipg_ast.specs.declared.grammar.Place.TheVariants.{Open, Length, Ends}
use Rattle.ipg_ast.specs.declared.grammar.Expr.{Expr}
use Rattle.ipg_ast.specs.declared.grammar.Expr.TheOpen.{Expr-F}
use Rattle.ipg_ast.specs.declared.grammar.Expr.TheOpen.Expr-F.{Num, Eoi, Id, Part, Item, Group, Neg, Not, Two, Both, Either, Cond}
use Rattle.ipg_ast.specs.declared.grammar.Expr.TheFolds.{fold-Expr}

-- ---- expressions

-- how tightly an operator binds: a conditional 0, `||` 1, `&&` 2, a prefix 10, what stands alone 11
abbrev pub level_of : Op2 → ℕ
level_of Eq = 3
level_of Ne = 3
level_of Lt = 3
level_of Le = 3
level_of Gt = 3
level_of Ge = 3
level_of BitOr = 4
level_of BitXor = 5
level_of BitAnd = 6
level_of Shl = 7
level_of Shr = 7
level_of Add = 8
level_of Sub = 8
level_of Mul = 9
level_of Div = 9
level_of Mod = 9

-- an expression's level, its depth, and whether its operands fit their levels
pub record Form : Type 0 where
  pub level : ℕ
  pub depth : ℕ
  pub fits : Bool

-- what stands alone, over parts that may be any expression
abbrev pub alone : ℕ → Bool → Form
alone depth fits = record { level = 11; depth = depth; fits = fits }

-- a part may stand where an expression of the level or a tighter one is needed
abbrev pub stands : ℕ → Form → Bool
stands level part = nat_le level part.level && part.fits

-- a prefix before a prefix, or before what stands alone
abbrev pub prefixed : Form → Form
prefixed a = record { level = 10; depth = a.depth + 1; fits = stands 10 a }

-- operators group to the left
abbrev pub infixed : ℕ → Form → Form → Form
infixed level a b = record { level = level; depth = max a.depth b.depth + 1; fits = stands level a && stands (level + 1) b }

abbrev pub form_step : Expr-F Form → Form
form_step (Num n) = alone 1 true
form_step Eoi = alone 1 true
form_step (Id i) = alone 1 true
form_step (Part of f) = alone 1 true
form_step (Item of e f) = alone (e.depth + 1) e.fits
form_step (Group e) = alone (e.depth + 1) e.fits
form_step (Neg e) = prefixed e
form_step (Not e) = prefixed e
form_step (Two op a b) = infixed (level_of op) a b
form_step (Both a b) = infixed 2 a b
form_step (Either a b) = infixed 1 a b
form_step (Cond c a b) = record { level = 0; depth = max c.depth (max a.depth b.depth) + 1; fits = stands 1 c && (a.fits && b.fits) }

abbrev pub form_of : Expr → Form
form_of = fold-Expr Form form_step

-- ---- limits

abbrev pub max_rules : ℕ
max_rules = 1024

abbrev pub max_alts : ℕ
max_alts = 64

abbrev pub max_terms : ℕ
max_terms = 256

abbrev pub max_depth : ℕ
max_depth = 64

pub record IsFormedExpr (e : Expr) : Type 0 where
  pub fits : (form_of e).fits ≡ true
  pub depth : (form_of e).depth ≤ max_depth

-- one member at least, and at most so many
abbrev pub IsFilled : {A : Type 0} → ℕ → List A → Type 0
IsFilled most items = (0 < length items) × (length items ≤ most)

-- ---- grammars

abbrev pub IsFormedPlace : Place → Type 0
IsFormedPlace Open = Unit {0}
IsFormedPlace (Length e) = IsFormedExpr e
IsFormedPlace (Ends l r) = IsFormedExpr l × IsFormedExpr r

abbrev pub IsFormedSlot : Slot → Type 0
IsFormedSlot s = IsFormedPlace s.place

abbrev pub IsFormedCase : Case → Type 0
IsFormedCase c = IsFormedExpr c.cond × IsFormedSlot c.slot

abbrev pub IsFormedTerm : Term → Type 0
IsFormedTerm (SlotTerm s) = IsFormedSlot s
IsFormedTerm (Set name value) = IsFormedExpr value
IsFormedTerm (Test at cond) = IsFormedExpr cond
IsFormedTerm (Repeat var first last item from to) = IsFormedExpr first × IsFormedExpr last × IsFormedExpr from × IsFormedExpr to
IsFormedTerm (Many at item place) = IsFormedPlace place
IsFormedTerm (Pick at cases other) = (0 < length cases) × AllByRecursion IsFormedCase cases × IsFormedSlot other

pub record IsFormedTerms (terms : List Term) : Type 0 where
  pub count : IsFilled max_terms terms
  pub each : AllByRecursion IsFormedTerm terms

-- local rules have no local rules of their own
pub record IsFormedLocalAlt (alt : Alt) : Type 0 where
  pub terms : IsFormedTerms (out-Alt alt).terms
  pub no_locals : (out-Alt alt).locals ≡ []

pub record IsFormedLocal (rule : Rule) : Type 0 where
  pub count : IsFilled max_alts (out-Rule rule).alts
  pub each : AllByRecursion IsFormedLocalAlt (out-Rule rule).alts

pub record IsFormedAlt (alt : Alt) : Type 0 where
  pub terms : IsFormedTerms (out-Alt alt).terms
  pub locals : AllByRecursion IsFormedLocal (out-Alt alt).locals

pub record IsFormedRule (rule : Rule) : Type 0 where
  pub count : IsFilled max_alts (out-Rule rule).alts
  pub each : AllByRecursion IsFormedAlt (out-Rule rule).alts

abbrev pub locals_in : Alt → ℕ
locals_in alt = length (out-Alt alt).locals

-- a rule and its local rules
abbrev pub rules_in : Rule → ℕ
rules_in rule = sum_by locals_in (out-Rule rule).alts + 1

abbrev pub tool_rules : List Rule → ℕ
tool_rules rules = sum_by rules_in rules

pub record IsFormed (g : Grammar) : Type 0 where
  pub some : 0 < length g.rules
  pub count : tool_rules g.rules ≤ max_rules
  pub each : AllByRecursion IsFormedRule g.rules

-- ---- what can be written: `where` has one level

abbrev pub IsFlatLocalAlt : Alt → Type 0
IsFlatLocalAlt alt = (out-Alt alt).locals ≡ []

abbrev pub IsFlatLocal : Rule → Type 0
IsFlatLocal rule = AllByRecursion IsFlatLocalAlt (out-Rule rule).alts

abbrev pub IsFlatAlt : Alt → Type 0
IsFlatAlt alt = AllByRecursion IsFlatLocal (out-Alt alt).locals

abbrev pub IsFlatRule : Rule → Type 0
IsFlatRule rule = AllByRecursion IsFlatAlt (out-Rule rule).alts

-- no local rule has local rules of its own
abbrev pub IsFlat : Grammar → Type 0
IsFlat g = AllByRecursion IsFlatRule g.rules
