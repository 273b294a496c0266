-- The parts of a grammar with their names resolved, and their first faults, by the tables of the whole text.
use Rattle.std.specs.Prelude.{ℕ, List, Option}
use denote.Ref.{Bor}
use Rattle.ipg_ast.specs.declared.grammar.Alt.{Alt}
use Rattle.ipg_ast.specs.declared.grammar.Expr.{Expr}
use Rattle.ipg_core.specs.declared.grammar.Sym.{Sym}
use Rattle.ipg_names.specs.declared.fault.NameFault.{NameFault}
use Rattle.ipg_names.specs.declared.named.NamedAlt.{NamedAlt}
use Rattle.ipg_names.specs.declared.named.NamedTerm.{NamedTerm}
use Rattle.ipg_names_scope.specs.declared.roster.ListedRule as code
use Rattle.ipg_names_scope.specs.declared.tables.TermSpot.{TermSpot}
use Rattle.ipg_names_scope.specs.declared.tables.NameTables.{NameTables}
use Rattle.ipg_names_scope.specs.Roster.{alts_of}
use Rattle.ipg_names.specs.Fault.{first_of}
use Rattle.ipg_names.specs.Faults.{alt_faults, alts_faults, rules_faults}
use Rattle.ipg_names.specs.Resolved.{repeat_in, alts_from}
use Rattle.ipg_names_scope.specs.View.{entry_view}
use Rattle.ipg_names_scope.specs.Site.{spot_scope, roster_in, names_under}

-- an array's bounds in the scope of its term, its item interval in its own
abbrev pub repeat_named : TermSpot → Bor Expr × Bor Expr → Sym → TermSpot → Bor Expr × Bor Expr → NamedTerm
repeat_named spot bounds sym own ends = repeat_in (spot_scope spot) bounds.0.now bounds.1.now sym (spot_scope own) ends.0.now ends.1.now

abbrev pub alt_told : NameTables → code.ListedRule → ℕ × ℕ → Alt → Option NameFault
alt_told tables entry at alt = first_of (alt_faults (roster_in tables) (names_under tables) (entry_view entry) at alt)

abbrev pub alts_named : NameTables → ℕ → code.ListedRule → List NamedAlt
alts_named tables rule entry = alts_from (roster_in tables) (names_under tables) (entry_view entry) rule 0 (alts_of (entry_view entry))

abbrev pub alts_told : NameTables → ℕ → code.ListedRule → Option NameFault
alts_told tables rule entry =
    first_of (alts_faults (roster_in tables) (names_under tables) (entry_view entry) rule 0 (alts_of (entry_view entry)))

abbrev pub rules_told : NameTables → Option NameFault
rules_told tables = first_of (rules_faults (roster_in tables) (names_under tables) 0 (roster_in tables))
