-- The core grammar of a text: it is read, resolved, completed and ordered, and no repetition is loose; or else what refuses it first.
use Rattle.std.specs.Prelude.{◌≡◌, ℕ, List, [], Result, Ok, Err, Option, None, Some}
use Rattle.ipg_ast.specs.declared.grammar.Grammar as written
use Rattle.ipg_read_tokens.specs.declared.fault.ReadFault.{ReadFault}
use Rattle.ipg_read_syntax.specs.Reading.{read_of}
use Rattle.ipg_names.specs.declared.fault.NameFault.{NameFault}
use Rattle.ipg_names.specs.Fault.{first_of}
use Rattle.ipg_names.specs.Faults.{faults_of}
use Rattle.ipg_names.specs.Resolved.{Resolved, names_of}
use Rattle.ipg_complete.specs.Unordered as unordered
use Rattle.ipg_complete.specs.Unordered.{Unordered}
use Rattle.ipg_complete.specs.Completion.{completed}
use Rattle.ipg_core.specs.declared.grammar.CoreRule.{CoreRule}
use Rattle.ipg_core.specs.Grammar.{Grammar, rule_at}
use Rattle.ipg_core.specs.Good.{Good}
use Rattle.ipg_core.specs.MustTouch.{Marks, AreLimit}
use Rattle.ipg_order.specs.Answer.{without_orders, IsFirstStuck}
use Rattle.ipg_touch.specs.Loose.{loose}
use Rattle.ipg_app_text.specs.Said.{Said}
use Rattle.ipg_app_text.specs.Refusal.{fault_said, name_said, circular, no_touch}

-- a core grammar, or what refuses it
abbrev pub Answer : Type 0
Answer = Result Grammar Said

-- what is refused stays so; what isn't goes on
abbrev pub On : {A : Type 0} → Result A Said → (A → Answer → Type 0) → Answer → Type 0
On (Ok a) next answer = next a answer
On (Err said) next answer = answer ≡ Err said

-- ---- G1 to G5: the text reads as a grammar

abbrev pub or_fault : Result written.Grammar ReadFault → Result written.Grammar Said
or_fault (Ok g) = Ok g
or_fault (Err fault) = Err (fault_said fault)

abbrev pub grammar_in : List ℕ → Result written.Grammar Said
grammar_in text = or_fault (read_of text)

-- ---- G6 to G11: each name stands for something

abbrev pub unless_fault : Option NameFault → Resolved → Result Resolved Said
unless_fault None n = Ok n
unless_fault (Some fault) n = Err (name_said fault)

abbrev pub resolved : written.Grammar → Result Resolved Said
resolved g = unless_fault (first_of (faults_of g)) (names_of g)

-- ---- G12: the terms of each alternative have an order

-- the first alternative whose terms have none, with the leftmost term that isn't run
pub record Circles (c : Unordered) (said : Said) : Type 0 where
  pub at : ℕ × ℕ
  pub term : ℕ
  pub first : IsFirstStuck (unordered.core_of c) at term
  pub is : said ≡ circular first.rule.name at.1 term

abbrev pub Orders : Unordered → Answer → Type 0
Orders c (Ok g) = Good g × (without_orders g ≡ unordered.core_of c)
Orders c (Err said) = Circles c said

-- ---- G14: no repetition is loose

abbrev pub name_of : Option CoreRule → List ℕ
name_of None = []
name_of (Some rule) = rule.name

abbrev pub unless_loose : Grammar → Option (ℕ × ℕ × ℕ) → Answer
unless_loose g None = Ok g
unless_loose g (Some at) = Err (no_touch (name_of (rule_at g at.0)) at.1 at.2)

pub record Touches (g : Grammar) (answer : Answer) : Type 0 where
  pub marks : Marks
  pub limit : AreLimit g marks
  pub is : answer ≡ unless_loose g (loose marks g.rules)

-- ---- the whole

pub record OrdersAndTouches (c : Unordered) (answer : Answer) : Type 0 where
  pub ordered : Answer
  pub orders : Orders c ordered
  pub touches : On ordered Touches answer

-- what follows of a grammar as it is written
abbrev pub CoreFrom : written.Grammar → Answer → Type 0
CoreFrom g = On (resolved g) (λ n. OrdersAndTouches (completed n))

abbrev pub CoreOf : List ℕ → Answer → Type 0
CoreOf text = On (grammar_in text) CoreFrom
