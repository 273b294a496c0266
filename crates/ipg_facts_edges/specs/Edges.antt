-- The calls of a grammar: where each stands, and which rule it calls.
use Rattle.std.specs.Prelude.{ℕ, ◌+◌, List, [], ◌∷◌, ◌++◌}
use Rattle.ipg_core.specs.declared.grammar.Sym.{Sym}
use Rattle.ipg_core.specs.declared.grammar.Sym.TheVariants.{Text, Prim, Rule}
use Rattle.ipg_core.specs.declared.grammar.CoreExpr.{CoreExpr}
use Rattle.ipg_core.specs.declared.grammar.CoreSlot.{CoreSlot}
use Rattle.ipg_core.specs.declared.grammar.CoreTerm.{CoreTerm}
use Rattle.ipg_core.specs.declared.grammar.CoreAlt.{CoreAlt}
use Rattle.ipg_core.specs.Grammar.{Grammar}
use Rattle.ipg_core.specs.Mention.{term_syms}
use Rattle.ipg_graph.specs.declared.edge.Edge.{Edge}

-- what f gives of each item and its number, one behind another; the first number is n
abbrev pub numbered : {A B : Type 0} → ℕ → (ℕ → A → List B) → List A → List B
numbered n f [] = []
numbered n f (x ∷ xs) = f n x ++ numbered (n + 1) f xs

-- a symbol that names a rule is a call
abbrev pub call : (rule alt term branch : ℕ) → Sym → List Edge
call rule alt term branch (Rule callee) = record { caller = rule; alt = alt; term = term; branch = branch; callee = callee } ∷ []
call rule alt term branch (Text bytes) = []
call rule alt term branch (Prim prim) = []

-- the branches of a term are numbered in the order of its symbols: `else` is the last of a switch, others have one
abbrev pub syms_edges : (rule alt term : ℕ) → List Sym → List Edge
syms_edges rule alt term syms = numbered 0 (call rule alt term) syms

abbrev pub terms_edges : (rule alt : ℕ) → List CoreTerm → List Edge
terms_edges rule alt terms = numbered 0 (λ u term. syms_edges rule alt u (term_syms term)) terms

abbrev pub alts_edges : (rule : ℕ) → List CoreAlt → List Edge
alts_edges rule alts = numbered 0 (λ a alt. terms_edges rule a alt.terms) alts

abbrev pub edges_of : Grammar → List Edge
edges_of g = numbered 0 (λ r rule. alts_edges r rule.alts) g.rules

-- the calls of a switch's cases, the first of which has the branch b
abbrev pub cases_edges : (rule alt term b : ℕ) → List (CoreExpr × CoreSlot) → List Edge
cases_edges rule alt term b cases = numbered b (λ b c. call rule alt term b c.1.sym) cases
