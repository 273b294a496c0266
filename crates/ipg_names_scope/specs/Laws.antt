-- What is known of the rules of a text in the order of their heads, and of tables of names.
use Rattle.std.specs.Prelude.{◌≡◌, ℕ, List, length}
use Rattle.ipg_ast.specs.declared.grammar.Rule.{Rule}
use Rattle.ipg_ast.specs.declared.grammar.Term.{Term}
use Rattle.ipg_ast.specs.Shape.{tool_rules}
use Rattle.ipg_names_scope.specs.declared.roster.ListedRule as code
use Rattle.ipg_names_scope.specs.declared.tables.NameTables.{NameTables}
use Rattle.ipg_names_scope.specs.declared.tables.TermSite.{TermSite}
use Rattle.ipg_names_scope.specs.Roster.{roster_from}
use Rattle.ipg_names_scope.specs.Scope.{home_of}
use Rattle.ipg_names_scope.specs.Site.{site_scope, scopes_at, AreTables, AreMarks, IsOuter}

-- the roster has as many rules as the text
abbrev pub RosterIsWhole : Type 0
RosterIsWhole = (r : ℕ) (rules : List Rule) → length (roster_from r rules) ≡ tool_rules rules

-- at a term of an alternative of which the terms before it are passed, names mean by the tables of the text what they mean in the text
abbrev pub TablesTell : Type 0
TablesTell = (tables : NameTables) (entry : code.ListedRule) (at : ℕ × ℕ) (terms : List Term) (site : TermSite) → site.tables ≡ tables
    → site.home ≡ home_of at entry.holder
    → AreTables tables → AreMarks terms site.term site.marks.now → IsOuter entry.outer.now site.outer.now
    → site_scope site ≡ scopes_at tables entry at terms site.term
