-- Why a text has no core grammar by which parsing ends: what is said of it, of which kind it is, where in the text, and what is noted.
use Rattle.std.specs.Prelude.{◌≡◌, ◌⊎◌, ℕ, List, [], ◌∷◌, slice_get, Result, Ok, Err, Option, None, Some}
use Rattle.ipg_ast.specs.declared.grammar.Grammar as written
use Rattle.ipg_ast.specs.declared.grammar.Rule.{Rule, out-Rule}
use Rattle.ipg_read_tokens.specs.declared.fault.ReadFault.{ReadFault}
use Rattle.ipg_read_tokens.specs.declared.fault.ReadFault.TheVariants as read
use Rattle.ipg_read_tokens.specs.declared.fault.Which.{Which}
use Rattle.ipg_read_tokens.specs.declared.fault.Which.TheVariants as which
use Rattle.ipg_read_syntax.specs.Reading.{read_of}
use Rattle.ipg_names.specs.declared.fault.NameFault.{NameFault}
use Rattle.ipg_names.specs.declared.fault.NameFault.TheVariants as name
use Rattle.ipg_names.specs.Fault.{first_of}
use Rattle.ipg_names.specs.Faults.{faults_of}
use Rattle.ipg_names.specs.Resolved.{Resolved}
use Rattle.ipg_complete.specs.Unordered as unordered
use Rattle.ipg_complete.specs.Unordered.{Unordered}
use Rattle.ipg_complete.specs.Completion.{completed}
use Rattle.ipg_core.specs.Grammar.{Grammar, rule_at}
use Rattle.ipg_core.specs.MustTouch.{Marks, AreLimit}
use Rattle.ipg_order.specs.Answer.{IsFirstStuck}
use Rattle.ipg_touch.specs.Loose.{loose}
use Rattle.ipg_app_explain.specs.declared.why.Why.{Why}
use Rattle.ipg_app_explain.specs.declared.why.Why.TheVariants as why
use Rattle.ipg_app_explain.specs.Terms.{all_rules, term_place}
use Rattle.ipg_app_text.specs.Said.{Said}
use Rattle.ipg_app_text.specs.Refusal.{fault_said, name_said, circular, no_touch}
use Rattle.ipg_app_text.specs.CoreOf.{resolved, name_of, Orders, CoreFrom}

pub record Reason : Type 0 where
  pub said : Said
  pub why : Why
  pub places : List ℕ
  pub notes : List ℕ

abbrev pub listed : Option ℕ → List ℕ
listed None = []
listed (Some at) = at ∷ []

-- ---- the text: G1 to G5

abbrev pub limit_why : Which → Why
limit_why which.Rules = why.Rules
limit_why which.Alternatives = why.Alternatives
limit_why which.Terms = why.Terms
limit_why which.Depth = why.Depth

-- no text reads as want of memory
abbrev pub read_reason : ReadFault → Reason
read_reason read.TooLong = record { said = fault_said read.TooLong; why = why.TooLong; places = []; notes = [] }
read_reason (read.Lex at) = record { said = fault_said (read.Lex at); why = why.Lex; places = at ∷ []; notes = [] }
read_reason (read.Number at) = record { said = fault_said (read.Number at); why = why.Number; places = at ∷ []; notes = [] }
read_reason (read.Syntax at) = record { said = fault_said (read.Syntax at); why = why.Syntax; places = at ∷ []; notes = [] }
read_reason (read.Limit which at) = record { said = fault_said (read.Limit which at); why = limit_why which; places = at ∷ []; notes = [] }
read_reason read.Memory = record { said = fault_said read.Memory; why = why.TooLong; places = []; notes = [] }

pub record IsUnread (text : List ℕ) (reason : Reason) : Type 0 where
  pub fault : ReadFault
  pub reads : read_of text ≡ Err fault
  pub is : reason ≡ read_reason fault

-- ---- names: G6 to G11

-- no name is at fault for want of memory either
abbrev pub name_reason : NameFault → Reason
name_reason (name.DuplicateRule at) = record { said = name_said (name.DuplicateRule at); why = why.DuplicateRule; places = at ∷ []; notes = [] }
name_reason (name.UnknownRule at) = record { said = name_said (name.UnknownRule at); why = why.UnknownRule; places = at ∷ []; notes = [] }
name_reason (name.DuplicateAttr at) = record { said = name_said (name.DuplicateAttr at); why = why.DuplicateAttr; places = at ∷ []; notes = [] }
name_reason (name.UnknownAttr at) = record { said = name_said (name.UnknownAttr at); why = why.UnknownAttr; places = at ∷ []; notes = [] }
name_reason (name.PartAttr at) = record { said = name_said (name.PartAttr at); why = why.PartAttr; places = at ∷ []; notes = [] }
name_reason (name.NoOccurrence at) = record { said = name_said (name.NoOccurrence at); why = why.NoOccurrence; places = at ∷ []; notes = [] }
name_reason name.Memory = record { said = name_said name.Memory; why = why.TooLong; places = []; notes = [] }

pub record IsUnnamed (g : written.Grammar) (reason : Reason) : Type 0 where
  pub fault : NameFault
  pub first : first_of (faults_of g) ≡ Some fault
  pub is : reason ≡ name_reason fault

-- ---- terms: G12, then G14

-- the completed grammar is that of the text
pub record IsCompleted (g : written.Grammar) (c : Unordered) : Type 0 where
  pub n : Resolved
  pub resolves : resolved g ≡ Ok n
  pub completes : c ≡ completed n

abbrev pub head_of : Option Rule → List ℕ
head_of None = []
head_of (Some rule) = (out-Rule rule).name.name

-- the name at the head of a rule of the text, by the rule's number
abbrev pub head_at : written.Grammar → ℕ → List ℕ
head_at g r = head_of (slice_get (all_rules g) r)

-- the place is that of the leftmost term that has no turn
pub record IsStuck (g : written.Grammar) (c : Unordered) (reason : Reason) : Type 0 where
  pub at : ℕ × ℕ
  pub term : ℕ
  pub first : IsFirstStuck (unordered.core_of c) at term
  pub is : reason ≡ record { said = circular first.rule.name at.1 term; why = why.Circular; places = listed (term_place g at.0 at.1 term); notes = [] }

-- the place is that of the first loose repetition
pub record IsLoose (g : written.Grammar) (core : Grammar) (reason : Reason) : Type 0 where
  pub marks : Marks
  pub limit : AreLimit core marks
  pub at : ℕ × ℕ × ℕ
  pub found : loose marks core.rules ≡ Some at
  pub is : reason ≡ record {
    said = no_touch (name_of (rule_at core at.0)) at.1 at.2;
    why = why.NoTouch;
    places = listed (term_place g at.0 at.1 at.2);
    notes = [];
  }

abbrev pub IsUnordered : written.Grammar → Unordered → Reason → Type 0
IsUnordered g c reason = IsStuck g c reason ⊎ ((core : Grammar) × Orders c (Ok core) × IsLoose g core reason)

-- ---- the whole

-- the core grammar of a grammar as it is written, or why it has none
abbrev pub CoreOrReason : written.Grammar → Result Grammar Reason → Type 0
CoreOrReason g (Ok core) = CoreFrom g (Ok core)
CoreOrReason g (Err reason) = IsUnnamed g reason ⊎ ((n : Resolved) × (resolved g ≡ Ok n) × IsUnordered g (completed n) reason)
