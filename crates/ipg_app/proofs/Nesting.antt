-- No expression in the core grammar of a text nests deeper than a table file may hold.
use Rattle.std.proofs.Common.{◌≡◌, ℕ, List, Option, None, Some, Result, Ok, Err, refl, ap, ◌∙◌}
use Rattle.std.specs.List.{AllByRecursion}
use Rattle.ipg_ast.specs.declared.grammar.Grammar as written
use Rattle.ipg_read_tokens.specs.declared.fault.ReadFault.{ReadFault}
use Rattle.ipg_read_syntax.specs.Reading.{read_of}
use Rattle.ipg_names.specs.declared.fault.NameFault.{NameFault}
use Rattle.ipg_names.specs.Fault.{first_of}
use Rattle.ipg_names.specs.Faults.{faults_of}
use Rattle.ipg_names.specs.Resolved.{names_of}
use Rattle.ipg_complete.specs.Unordered as unordered
use Rattle.ipg_complete.specs.Unordered.{Unordered}
use Rattle.ipg_complete.specs.Completion.{completed}
use Rattle.ipg_core.specs.Grammar.{Grammar}
use Rattle.ipg_order.specs.Answer.{without_orders}
use Rattle.ipg_touch.specs.Loose.{loose}
use Rattle.ipg_store_body.specs.Fits.{NestsRule}
use Rattle.ipg_store_depth_laws.specs.Shallow.{IsOfText, TextNests}
use Rattle.ipg_app_text.specs.CoreOf.{Answer, On, or_fault, unless_fault, unless_loose, CoreFrom, CoreOf, Orders, Touches, OrdersAndTouches}

same_core : (g core : Grammar) (at : Option (ℕ × ℕ × ℕ)) → Ok core ≡ unless_loose g at → core ≡ g
same_core g core None e = let both : Answer = Ok core in cc
same_core g core (Some at) e = absurd (cc)

touched : (ordered : Answer) (c : Unordered) (core : Grammar) → Orders c ordered → On ordered Touches (Ok core) → without_orders core ≡ unordered.core_of c
touched (Ok g) c core orders t = ap without_orders (same_core g core (loose t.marks g.rules) t.is) ∙ orders.1
touched (Err said) c core orders e = absurd (cc)

named : (w : written.Grammar) (core : Grammar) (fault : Option NameFault)
    → On (unless_fault fault (names_of w)) (λ n. OrdersAndTouches (completed n)) (Ok core) → without_orders core ≡ unordered.core_of (completed (names_of w))
named w core None h = touched h.ordered (completed (names_of w)) core h.orders h.touches
named w core (Some fault) e = absurd (cc)

read : (text : List ℕ) (core : Grammar) (r : Result written.Grammar ReadFault) → read_of text ≡ r → On (or_fault r) CoreFrom (Ok core) → IsOfText text core
read text core (Ok w) e h = record { written_as = w; reads = e; is = named w core (first_of (faults_of w)) h }
read text core (Err fault) e h = absurd (cc)

-- the core grammar of a text is one that a table file can hold
pub core_nests : TextNests → (text : List ℕ) (core : Grammar) → CoreOf text (Ok core) → AllByRecursion NestsRule core.rules
core_nests nests text core h = nests text core (read text core (read_of text) refl h)
