-- What is made of a term's symbols is made of the rules that it calls.
use Rattle.std.proofs.Common.{◌≡◌, ℕ, List, [], ◌∷◌, ◌++◌, refl, ap₂, ◌∙◌, append-nil}
use Rattle.std.specs.Prelude.{flat_map, length}
use Rattle.std.proofs.lemmas.Grind.{flat_map-append}
use Rattle.ipg_complete.specs.declared.completed.CompletedRule.{CompletedRule}
use Rattle.ipg_core.specs.declared.grammar.CoreTerm.{CoreTerm}
use Rattle.ipg_core.specs.declared.grammar.Sym.{Sym}
use Rattle.ipg_core.specs.declared.grammar.Sym.TheVariants.{Text, Prim, Rule}
use Rattle.ipg_core.specs.Mention.{term_syms}
use Rattle.ipg_core.specs.MustTouch.{Marks}
use Rattle.ipg_order.specs.Callees.{sym_callees, callees}
use Rattle.ipg_order.specs.Locals.{hands_to, sym_hands, term_hands}
use Rattle.ipg_order.specs.Providers.{Holders, callee_needs, sym_needs, syms_needs}

by_callees : {B : Type 0} (f : Sym → List B) (g : ℕ → List B) → ((s : Sym) → flat_map g (sym_callees s) ≡ f s) → (ss : List Sym)
    → flat_map g (flat_map sym_callees ss) ≡ flat_map f ss
by_callees f g each [] = refl
by_callees f g each (s ∷ ss) =
    flat_map-append g (sym_callees s) (flat_map sym_callees ss) ∙ ap₂ (λ first rest. first ++ rest) (each s) (by_callees f g each ss)

pub hands_by_callees : (rules : List CompletedRule) (rule : ℕ) (term : CoreTerm) → flat_map (hands_to rules rule) (callees term) ≡ term_hands rules rule term
hands_by_callees rules rule term = by_callees (sym_hands rules rule) (hands_to rules rule) each (term_syms term)
  where
    each : (s : Sym) → flat_map (hands_to rules rule) (sym_callees s) ≡ sym_hands rules rule s
    each (Text bytes) = refl
    each (Prim prim) = refl
    each (Rule callee) = append-nil (hands_to rules rule callee)

pub needs_by_callees : (holders : Holders) (flags : Marks) (at : ℕ × ℕ) (terms : List CoreTerm) (u : ℕ) (term : CoreTerm)
    → flat_map (callee_needs holders flags at (length terms) u) (callees term) ≡ syms_needs holders flags at terms u term
needs_by_callees holders flags at terms u term =
    by_callees (sym_needs holders flags at (length terms) u) (callee_needs holders flags at (length terms) u) each (term_syms term)
  where
    each : (s : Sym) → flat_map (callee_needs holders flags at (length terms) u) (sym_callees s) ≡ sym_needs holders flags at (length terms) u s
    each (Text bytes) = refl
    each (Prim prim) = refl
    each (Rule callee) = append-nil (callee_needs holders flags at (length terms) u callee)
