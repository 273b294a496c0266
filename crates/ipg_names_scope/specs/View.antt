-- The rules that the code holds, as the roster of them.
use Rattle.std.specs.Prelude.{Option, Some, None, if◌then◌else◌, bytes_eq, ℕ, ◌≤◌, List, map, length}
use Rattle.std.specs.List.{AllByRecursion}
use Rattle.ipg_ast.specs.declared.grammar.Rule.{Rule, out-Rule}
use Rattle.ipg_ast.specs.declared.grammar.Alt.{Alt, out-Alt}
use Rattle.ipg_ast.specs.Shape.{max_alts}
use Rattle.ipg_names_scope.specs.declared.roster.ListedRule as code
use Rattle.ipg_names_scope.specs.Roster.{ListedRule, local, name_of, head_at, alts_of}
use Rattle.ipg_names_scope.specs.Marks.{IsShort}

abbrev pub entry_view : code.ListedRule → ListedRule
entry_view e = record { rule = e.rule.now; holder = e.holder; outer = e.outer.now }

abbrev pub entries_view : List code.ListedRule → List ListedRule
entries_view entries = map entry_view entries

abbrev pub HasFewAlts : Rule → Type 0
HasFewAlts rule = length (out-Rule rule).alts ≤ max_alts

abbrev pub HaveFewAlts : List Rule → Type 0
HaveFewAlts rules = AllByRecursion HasFewAlts rules

-- the local rules of one alternative
abbrev pub local_entries : ℕ × ℕ → Alt → List ListedRule
local_entries at alt = map (local at.0 at.1 alt) (out-Alt alt).locals

abbrev pub entry_name : code.ListedRule → List ℕ
entry_name e = name_of (entry_view e)

abbrev pub entry_at : code.ListedRule → ℕ
entry_at e = head_at (entry_view e)

-- at most so many terms
abbrev pub HasShortTerms : Alt → Type 0
HasShortTerms alt = IsShort (out-Alt alt).terms

-- what the conditions of a call say of one rule
pub record IsFit (entry : ListedRule) : Type 0 where
  pub few : length (alts_of entry) ≤ max_alts
  pub short : AllByRecursion HasShortTerms (alts_of entry)
  pub outer : IsShort entry.outer

abbrev pub number_if : List ℕ → List ℕ → ℕ → Option ℕ
number_if name x rule = if bytes_eq name x then Some rule else None
