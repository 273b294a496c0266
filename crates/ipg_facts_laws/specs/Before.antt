-- The conditions as they were when they knew less ask no more than the present ones.
use Rattle.std.specs.Prelude.{◌≡◌, List, map, true}
use Rattle.ipg_lin.specs.Form.{Assignment}
use Rattle.ipg_core.specs.Grammar.{Grammar}
use Rattle.ipg_core.specs.MustTouch.{Marks}
use Rattle.ipg_graph.specs.declared.edge.Edge.{Edge}
use Rattle.ipg_facts_forms.specs.declared.fact.Fact.{Fact}
use Rattle.ipg_facts_variables.specs.Variable.{whole, caller_side}
use Rattle.ipg_facts_forms.specs.Numbers.{all_of}
use Rattle.ipg_facts.specs.Keep.{keep, keep_before}
use Rattle.ipg_facts_forms.specs.Joint.{joint}
use Rattle.ipg_facts_laws.specs.Valued.{Valuation, are_so}
use Rattle.ipg_facts_laws.specs.Laws.{Solves, IsInRange}

-- values of variables that make facts hold, where variable 0 has the value of the part's length
pub record IsValued (facts : List Fact) (values : Assignment) : Type 0 where
  pub values_by : Valuation
  pub ranged : IsInRange values_by
  pub so : are_so values_by facts ≡ true
  pub first : values_by (whole caller_side) ≡ values 0

-- a solution of the formula of facts gives values of variables that make the facts hold
abbrev pub SolutionsHold : Type 0
SolutionsHold = (facts : List Fact) (values : Assignment) → Solves values (all_of facts) → IsValued facts values

-- a solution of the conditions of an edge gives one of those before, with the same length of the part
abbrev pub KeepsSolveBefore : Type 0
KeepsSolveBefore = (g : Grammar) (marks : Marks) (e : Edge) (values : Assignment) → Solves values (keep g marks e)
    → (before : Assignment) × Solves before (keep_before g marks e) × (before 0 ≡ values 0)

-- and so does one of the joint of several
abbrev pub JointsSolveBefore : Type 0
JointsSolveBefore = (g : Grammar) (marks : Marks) (edges : List Edge) (values : Assignment) → Solves values (joint (map (keep g marks) edges))
    → (before : Assignment) × Solves before (joint (map (keep_before g marks) edges)) × (before 0 ≡ values 0)
