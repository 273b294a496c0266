use Rattle.std.proofs.Common.{◌≡◌, ◌++◌, ◌+◌, List, length, sym, ap, subst, ◌∙◌, arith}
use Rattle.std.specs.Prelude.{OnOk}
use Rattle.ipg_core.specs.declared.grammar.CoreExpr.{CoreExpr}
use Rattle.ipg_core.specs.declared.grammar.CoreSlot.{CoreSlot}
use Rattle.ipg_core.specs.Mention.{term_syms}
use Rattle.ipg_facts_edges.specs.Edges.{cases_edges, syms_edges, call}
use Rattle.ipg_facts_edges.proofs.Branches.{with_last}
use Rattle.ipg_facts_edges.proofs.listing.add_term.Goals as goal

pub returns-in-Pick : goal.returns-in-Pick
returns-in-Pick c =
    let r = c.args.at.rule in
    let a = c.args.at.alt in
    let u = c.args.at.term in
    let cases = c.in-Pick.cases in
    let other = c.in-Pick.other.sym in
    subst (λ edges. OnOk c.add_branches.result (c.add_branches.new.edges.items ≡ c.args.edges.now.items ++ edges))
    (ap (λ (cs : List (CoreExpr × CoreSlot)). cases_edges r a u 0 cs ++ call r a u (length cs) other) c.as_slice.ensures
    ∙ ap (λ n. cases_edges r a u 0 cases ++ call r a u n other) (let e : length cases ≡ 0 + length cases = omega arith in e)
    ∙ with_last (call r a u) (λ (c : CoreExpr × CoreSlot). c.1.sym) 0 cases other
    ∙ sym (ap (λ term. syms_edges r a u (term_syms term)) c.in-Pick.is))
    c.add_branches.ensures
