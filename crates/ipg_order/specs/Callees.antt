-- The rules that a term calls.
use Rattle.std.specs.Prelude.{ℕ, List, [], ◌∷◌, flat_map}
use Rattle.ipg_core.specs.declared.grammar.CoreExpr.{CoreExpr}
use Rattle.ipg_core.specs.declared.grammar.CoreSlot.{CoreSlot}
use Rattle.ipg_core.specs.declared.grammar.CoreTerm.{CoreTerm}
use Rattle.ipg_core.specs.declared.grammar.Sym.{Sym}
use Rattle.ipg_core.specs.declared.grammar.Sym.TheVariants.{Text, Prim, Rule}
use Rattle.ipg_core.specs.Mention.{term_syms}

abbrev pub sym_callees : Sym → List ℕ
sym_callees (Text bytes) = []
sym_callees (Prim prim) = []
sym_callees (Rule callee) = callee ∷ []

abbrev pub case_syms : CoreExpr × CoreSlot → List Sym
case_syms c = c.1.sym ∷ []

abbrev pub callees : CoreTerm → List ℕ
callees term = flat_map sym_callees (term_syms term)
