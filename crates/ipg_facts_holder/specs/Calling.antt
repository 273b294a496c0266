-- Calls of local rules that are marked, or of all of them: what functions inside the crate promise each other.
use Rattle.std.specs.Prelude.{ℕ, List, Option, Some, None, Bool, true, false, ◌&&◌}
use Rattle.std.specs.List.{list_any}
use Rattle.ipg_core.specs.declared.grammar.Sym.{Sym}
use Rattle.ipg_core.specs.declared.grammar.Sym.TheVariants.{Text, Prim, Rule}
use Rattle.ipg_core.specs.declared.grammar.CoreTerm.{CoreTerm}
use Rattle.ipg_core.specs.Grammar.{Grammar, rule_at, holder_of}
use Rattle.ipg_core.specs.Mention.{term_syms}
use Rattle.ipg_core.specs.MustTouch.{is_marked}
use Rattle.ipg_facts_holder.specs.Holder.{is_held}

-- without marks each rule counts
abbrev pub counts : Option (List Bool) → ℕ → Bool
counts None rule = true
counts (Some marks) rule = is_marked marks rule

-- the symbol is a local rule that counts, of that alternative where one is asked for
abbrev pub calls_by : Grammar → Option (ℕ × ℕ) → Option (List Bool) → Sym → Bool
calls_by g at marks (Text bytes) = false
calls_by g at marks (Prim prim) = false
calls_by g at marks (Rule callee) = is_held at (holder_of (rule_at g callee)) && counts marks callee

unfoldable pub calls_some_by : Grammar → Option (ℕ × ℕ) → Option (List Bool) → CoreTerm → Bool
calls_some_by g at marks term = list_any (calls_by g at marks) (term_syms term)

-- the term calls a local rule of the alternative
abbrev pub calls_one : Grammar → ℕ × ℕ → Option CoreTerm → Bool
calls_one g at None = false
calls_one g at (Some term) = calls_some_by g (Some at) None term
