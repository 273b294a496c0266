-- Laws of conditions: facts that hold give a solution, and solutions of parts one of their joint.
use Rattle.std.specs.Prelude.{◌≡◌, map, slice_get, ◌^◌, ◌<◌, ◌≤◌, Some, List, [], ◌∷◌, length, ℤ, pos, negsuc, ◌≤ℤ◌, IsTrue, true, ℕ, Bool}
use Rattle.ipg_lin.specs.Form.{Assignment}
use Rattle.ipg_lin.specs.Formula.{holds_at, width, LiesIn}
use Rattle.ipg_lin.specs.declared.formula.Formula.{Formula}
use Rattle.ipg_lin.specs.declared.formula.Boxed.{Boxed}
use Rattle.ipg_facts_forms.specs.declared.fact.Fact.{Fact}
use Rattle.ipg_facts_variables.specs.declared.variable.Variable.{Variable}
use Rattle.ipg_facts_variables.specs.Variable.{whole, caller_side, holder_side}
use Rattle.ipg_facts_forms.specs.Numbers.{all_of}
use Rattle.ipg_facts_forms.specs.Joint.{joint}
use Rattle.ipg_num.specs.declared.op.Answer.TheVariants.{Val}
use Rattle.ipg_core.specs.declared.grammar.CoreExpr.{CoreExpr}
use Rattle.ipg_core.specs.declared.grammar.CoreTerm.{CoreTerm}
use Rattle.ipg_core.specs.Environment.{Environment}
use Rattle.ipg_core.specs.Eval.{eval}
use Rattle.ipg_facts.specs.Reading.{Scope, read}
use Rattle.ipg_facts_laws.specs.Valued.{Valuation, are_so}
use Rattle.ipg_facts.specs.Members.{members, own_members, terms_members, passed_all}
use Rattle.ipg_facts_laws.specs.Known.{AreSo, Fits, Knows}
use Rattle.std.specs.List.{AllByRecursion}
use Rattle.ipg_core.specs.Mention.{mentions}
use Rattle.ipg_facts_laws.specs.Grows.{Grows, IsSettled}
use Rattle.ipg_core.specs.Grammar.{Grammar}
use Rattle.ipg_core.specs.Environment.{Values}
use Rattle.ipg_core.specs.Meaning.{den}
use Rattle.ipg_core.specs.MustTouch.{Marks, AreLimit}
use Rattle.ipg_core.specs.Grown.{IsInput, Grown}
use Rattle.ipg_facts.specs.Keep.{keep}
use Rattle.ipg_graph.specs.declared.edge.Edge.{Edge}
use Rattle.ipg_core.specs.Good.{Good}
use Rattle.ipg_graph.specs.Graph.{IsInside}
use Rattle.ipg_facts_edges.specs.Edges.{edges_of}
use Rattle.ipg_facts_laws.specs.Reached.{Reached, ReachedOn, CallsAt, frame_of}
use Rattle.ipg_facts_laws.specs.Ran.{TermRan, AllRan, CallsWhole}

-- values in the box that make the formula hold
abbrev pub Solves : Assignment → Formula × Boxed → Type 0
Solves values part = LiesIn values part.1 × IsTrue (holds_at values part.0)

-- a length of a part is from 0 to 2^30, all else is a number of 64 bits
pub record IsInRange (v : Valuation) : Type 0 where
  pub caller : (pos 0 ≤ℤ v (whole caller_side)) × (v (whole caller_side) ≤ℤ pos 1073741824)
  pub holder : (pos 0 ≤ℤ v (whole holder_side)) × (v (whole holder_side) ≤ℤ pos 1073741824)
  pub number : (variable : Variable) → (negsuc 9223372036854775807 ≤ℤ v variable) × (v variable ≤ℤ pos 9223372036854775807)

-- facts that hold make their formula over numbers hold, in its box
abbrev pub FactsSolve : Type 0
FactsSolve = (v : Valuation) (facts : List Fact) → IsInRange v → are_so v facts ≡ true
    → (values : Assignment) × Solves values (all_of facts) × (values 0 ≡ v (whole caller_side))

-- what an expression is to the conditions holds of its value
abbrev pub ValuesAreKnown : Type 0
ValuesAreKnown = (v : Valuation) (scope : Scope) (env : Environment) → Fits v scope env
    → (e : CoreExpr) (z : ℤ) → eval e env ≡ Val z → Knows v (read scope e) z

-- what a term that has run puts holds
abbrev pub MembersAreKnown : Type 0
MembersAreKnown = (v : Valuation) (scope : Scope) (env : Environment) → Fits v scope env → env.eoi ≤ 2 ^ 30
    → (number : ℕ) (term : CoreTerm) → TermRan scope.marks env number term → AreSo v (members scope number (Some term))

-- what terms put that have run, one after another, holds; variables still fit where their arrays' bounds are known
abbrev pub TermsAreKnown : Type 0
TermsAreKnown = (v : Valuation) (scope : Scope) (env : Environment) → Fits v scope env → env.eoi ≤ 2 ^ 30
    → (order : List ℕ) → AllRan scope env order → AreSo v (terms_members scope order) × Fits v (passed_all scope order) env

-- what the edge's own term puts holds where its call is made on the whole part
abbrev pub OwnMembersAreKnown : Type 0
OwnMembersAreKnown = (v : Valuation) (scope : Scope) (env : Environment) → Fits v scope env
    → (branch : ℕ) (term : CoreTerm) → CallsWhole env branch term → AreSo v (own_members scope branch (Some term))

-- the calls of a good grammar are from its rules to its rules
abbrev pub EdgesAreInside : Type 0
EdgesAreInside = (g : Grammar) → Good g → AllByRecursion (IsInside (length g.rules)) (edges_of g)

-- they have numbers of 32 bits
abbrev pub EdgesAreFew : Type 0
EdgesAreFew = (g : Grammar) → Good g → length (edges_of g) < 2 ^ 32

-- where an edge is reached, its term makes a call on the whole part
abbrev pub EdgesCall : Type 0
EdgesCall = (g : Grammar) (e : Edge) (s : List ℕ) (outer : Values) (height : ℕ) → (reached : Reached g e s outer height)
    → CallsAt (den g height) (frame_of g e s outer) reached.state e.term e.branch reached.term

-- a value stays where its environment goes on
abbrev pub ValuesStay : Type 0
ValuesStay = (has_ended : ℕ → Bool) (env later : Environment) → Grows has_ended env later
    → (e : CoreExpr) (z : ℤ) → AllByRecursion (IsSettled has_ended) (mentions e) → eval e env ≡ Val z → eval e later ≡ Val z

-- where an edge is reached, its conditions have a solution, in which the part's length is that of the caller's part
abbrev pub ReachedEdgesSolve : Type 0
ReachedEdgesSolve = (g : Grammar) (marks : Marks) (e : Edge) (s : List ℕ) (outer : Values) (height : ℕ)
    → Good g → AreLimit g marks → IsInput s → Grown g e.caller s outer → Reached g e s outer height
    → (values : Assignment) × Solves values (keep g marks e) × (values 0 ≡ pos (length s))

-- a part has bounds for each variable of its formula, and for variable 0
pub record IsPart (part : Formula × Boxed) : Type 0 where
  pub bounded : width part.0 ≤ length part.1.bounds
  pub first : 0 < length part.1.bounds

-- a solution of each part, where variable 0 has the value eoi
abbrev pub AllSolved : ℤ → List (Formula × Boxed) → Type 0
AllSolved eoi [] = Unit {0}
AllSolved eoi (part ∷ parts) = (IsPart part × ((own : Assignment) × Solves own part × (own 0 ≡ eoi))) × AllSolved eoi parts

-- solutions of the parts with one value of variable 0 give one of their joint
abbrev pub PartsSolveJoint : Type 0
PartsSolveJoint = (parts : List (Formula × Boxed)) (eoi : ℤ) → AllSolved eoi parts
    → (values : Assignment) × Solves values (joint parts) × (values 0 ≡ eoi)

-- parts whose variable 0 has these bounds
abbrev pub ArePartsWith : ℤ × ℤ → List (Formula × Boxed) → Type 0
ArePartsWith bounds [] = Unit {0}
ArePartsWith bounds (part ∷ parts) = (IsPart part × (slice_get part.1.bounds 0 ≡ Some bounds)) × ArePartsWith bounds parts

-- a solution of the joint of such parts gives one of each, with its value of variable 0
abbrev pub JointSolvesParts : Type 0
JointSolvesParts = (parts : List (Formula × Boxed)) (bounds : ℤ × ℤ) → ArePartsWith bounds parts
    → (values : Assignment) → Solves values (joint parts) → AllSolved (values 0) parts

-- conditions of edges are such parts: their variable 0 is a length, from 0 to 2^30
abbrev pub ConditionsAreParts : Type 0
ConditionsAreParts = (g : Grammar) (marks : Marks) (edges : List Edge) → ArePartsWith (pos 0, pos 1073741824) (map (keep g marks) edges)

-- where edges are reached on parts of one length, their conditions have a solution together
abbrev pub ReachedCyclesSolve : Type 0
ReachedCyclesSolve = (g : Grammar) (marks : Marks) (edges : List Edge) (n : ℕ) → Good g → AreLimit g marks → AllByRecursion (ReachedOn g n) edges
    → (values : Assignment) × Solves values (joint (map (keep g marks) edges)) × (values 0 ≡ pos n)
