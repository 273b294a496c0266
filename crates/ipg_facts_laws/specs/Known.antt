-- What is known of an expression where the variables of the conditions have the values of what they stand for.
use Rattle.std.specs.Prelude.{Bool, ◌≡◌, ℕ, ◌-◌, ◌≤◌, length, List, Option, Some, None, true, false, ℤ, pos, ◌+ℤ◌, ◌≤ℤ◌, ◌<ℤ◌, ◌*ℤ◌, [], ◌∷◌}
use Rattle.std.specs.List.{AllByRecursion}
use Rattle.ipg_num.specs.Number.{limited}
use Rattle.ipg_num.specs.declared.op.Answer.TheVariants.{Val}
use Rattle.ipg_core.specs.declared.grammar.CoreField.{CoreField}
use Rattle.ipg_core.specs.declared.grammar.CoreField.TheVariants.{Attr, Start, End}
use Rattle.ipg_core.specs.declared.grammar.Primitive.{Primitive}
use Rattle.ipg_core.specs.declared.grammar.Primitive.TheVariants.{Bytes}
use Rattle.ipg_core.specs.declared.grammar.Sym.{Sym}
use Rattle.ipg_core.specs.declared.grammar.Sym.TheVariants.{Text, Prim, Rule}
use Rattle.ipg_core.specs.Tree.{Tree, Kid, Sub, Token, Number, Raw, rule_of}
use Rattle.ipg_core.specs.Touch.{width, touches, tree_ends}
use Rattle.ipg_core.specs.MustTouch.{is_marked}
use Rattle.ipg_core.specs.declared.grammar.CoreExpr.{CoreExpr}
use Rattle.ipg_core.specs.Grammar.{name_at}
use Rattle.ipg_core.specs.Environment.{Environment, value_at, done_at, items_so_far, seen, field_of_item, Done, number_attr}
use Rattle.ipg_core.specs.Eval as core
use Rattle.ipg_core.specs.Eval.{eval, is_zero, greatest_end}
use Rattle.ipg_facts_forms.specs.declared.fact.Part.{Part}
use Rattle.ipg_facts_forms.specs.declared.fact.Form.{Form}
use Rattle.ipg_facts_forms.specs.declared.fact.Fact.{Fact}
use Rattle.ipg_facts.specs.declared.bounds.Bounds.{Bounds}
use Rattle.ipg_facts_variables.specs.Variable.{whole, attribute, loop, field, named, value, holder_side}
use Rattle.ipg_facts.specs.Reading.{Scope, Reading, least_width, item_at, greatest, greatest_of, touching}
use Rattle.ipg_facts_laws.specs.Valued.{Valuation, are_so}

-- every fact holds
abbrev pub AreSo : Valuation → List Fact → Type 0
AreSo v facts = are_so v facts ≡ true

abbrev pub parts_sum : Valuation → List Part → ℤ
parts_sum v [] = pos 0
parts_sum v (p ∷ ps) = (p.factor *ℤ v p.variable) +ℤ parts_sum v ps

-- the facts of each variable hold
abbrev pub AreTrue : Valuation → List Part → Type 0
AreTrue v ps = AllByRecursion (λ p. AreSo v p.facts) ps

-- a form has the value z, and its variables' facts hold
pub record Stands (v : Valuation) (a : Form) (z : ℤ) : Type 0 where
  pub value : parts_sum v a.parts +ℤ a.constant ≡ z
  pub facts : AreTrue v a.parts

-- what is known of an expression that has the value z: its form has it, and it is true or false as z is
pub record Knows (v : Valuation) (r : Reading) (z : ℤ) : Type 0 where
  pub form : Stands v r.form z
  pub holds : is_zero z ≡ false → AreSo v r.holds
  pub fails : is_zero z ≡ true → AreSo v r.fails

-- a number from 0 to the greatest
abbrev pub IsRanged : Option ℕ → ℤ → Type 0
IsRanged None z = Unit {0}
IsRanged (Some n) z = (pos 0 ≤ℤ z) × (z ≤ℤ pos n)

-- a field of an item in a part of that length
abbrev pub IsItemField : Scope → ℕ → Option Sym → CoreField → ℤ → Type 0
IsItemField scope eoi item (Attr a) z = IsRanged (greatest_of item (name_at scope.names a)) z
IsItemField scope eoi item Start z = (pos 0 ≤ℤ z) × ((z +ℤ pos (least_width scope.marks item)) ≤ℤ pos eoi)
IsItemField scope eoi item End z = (pos (least_width scope.marks item) ≤ℤ z) × (z ≤ℤ pos eoi)

abbrev pub IsPlace : ℕ → ℕ → Type 0
IsPlace eoi end = (pos 1 ≤ℤ pos end) × (pos end ≤ℤ pos eoi)

-- the items' greatest end, where they have one, is a place behind a byte; the bounds of an array each of whose items
-- touches say whether they have one
abbrev pub IsBehind : Valuation → ℕ → Option Bounds → Option ℕ → Type 0
IsBehind v eoi None None = Unit {0}
IsBehind v eoi None (Some end) = IsPlace eoi end
IsBehind v eoi (Some bounds) None = (a b : ℤ) × Stands v bounds.first a × Stands v bounds.last b × (b ≤ℤ a)
IsBehind v eoi (Some bounds) (Some end) = (a b : ℤ) × Stands v bounds.first a × Stands v bounds.last b × (a <ℤ b) × IsPlace eoi end

-- variables have the values of what they stand for in an environment
pub record Fits (v : Valuation) (scope : Scope) (env : Environment) : Type 0 where
  pub length : v (whole scope.side) ≡ pos env.eoi
  pub own : (a : ℕ) (z : ℤ) → value_at env.own a ≡ Some z → limited z ≡ Val z → v (attribute scope.side a) ≡ z
  pub outer : (a : ℕ) (z : ℤ) → value_at env.outer a ≡ Some z → limited z ≡ Val z → v (attribute holder_side a) ≡ z
  pub turn : (z : ℤ) → env.item ≡ Some z → limited z ≡ Val z → v (loop scope.side) ≡ z
  pub results : (term : ℕ) (sym : Sym) (f : CoreField) (z : ℤ) → seen env.names sym f (done_at env.done term) ≡ Some z → limited z ≡ Val z
      → v (field scope.names scope.side term f) ≡ z
  pub numbers : (term : ℕ) (d : Done) (from to : ℕ) (prim : Primitive) (high low : ℕ) (name : List ℕ) (z : ℤ) → done_at env.done term ≡ Some d
      → d.kid ≡ Number from to prim high low
      → number_attr prim name high low ≡ Some z → limited z ≡ Val z → v (named scope.side term name) ≡ z
  pub opaques : (e : CoreExpr) (z : ℤ) → eval e env ≡ Val z → v (value scope.side e) ≡ z
  pub items : (term : ℕ) (f : CoreField) (i z : ℤ) → field_of_item env.names f (core.item_at (items_so_far (done_at env.done term)) i) ≡ Some z
      → IsItemField scope env.eoi (item_at scope term) f z
  pub ends : (term : ℕ) → IsBehind v env.eoi (touching scope term) (greatest_end (items_so_far (done_at env.done term)))

-- the attributes of a number are from 0 to their greatest values
abbrev pub AreRanged : Primitive → ℕ → ℕ → Type 0
AreRanged prim high low = (name : List ℕ) (z : ℤ) → number_attr prim name high low ≡ Some z → IsRanged (greatest prim name) z

-- a tree on a part of n bytes, which touches one where its rule must
pub record IsTreeOf (marks : List Bool) (callee n : ℕ) (tree : Tree) : Type 0 where
  pub rule : rule_of tree ≡ callee
  pub starts : (tree_ends tree).start ≤ n
  pub ends : (tree_ends tree).end ≤ n
  pub must : is_marked marks callee ≡ true → touches (tree_ends tree) ≡ true
  pub none : touches (tree_ends tree) ≡ false → ((tree_ends tree).start ≡ n) × ((tree_ends tree).end ≡ 0)

-- a symbol's result on the interval from l to r
abbrev pub IsResult : List Bool → Sym → ℕ → ℕ → Kid → Type 0
IsResult marks (Text bytes) l r (Token from to token) = (from ≡ l) × (to ≡ r) × (token ≡ bytes) × (length bytes ≤ r - l)
IsResult marks (Prim Bytes) l r (Raw from to bytes) = (from ≡ l) × (to ≡ r)
IsResult marks (Prim Bytes) l r (Number from to p high low) = ⊥
IsResult marks (Prim prim) l r (Number from to p high low) = (from ≡ l) × (to ≡ r) × (p ≡ prim) × (width prim ≤ r - l) × AreRanged prim high low
IsResult marks (Rule callee) l r (Sub from to tree) = (from ≡ l) × (to ≡ r) × IsTreeOf marks callee (r - l) tree
IsResult marks sym l r k = ⊥
