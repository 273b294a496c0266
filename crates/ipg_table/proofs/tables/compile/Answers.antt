use Rattle.std.proofs.Common.{sym, subst}
use Rattle.std.specs.List.{AllByRecursion}
use Rattle.ipg_core.specs.declared.grammar.CoreRule.{CoreRule}
use Rattle.ipg_core.specs.Good.{Good}
use Rattle.ipg_table.specs.Rows.{Each, Stands, HoldsRule, StandFor}
use Rattle.ipg_table.specs.Grows.{draft_rows, NamesTerms}
use Rattle.ipg_table.proofs.Compiled.{names_terms, stands_all}
use Rattle.ipg_table.proofs.tables.compile.Goals as goal

pub rule_rows-requires : goal.rule_rows-requires
rule_rows-requires c =
    subst (AllByRecursion (λ (rule : CoreRule). AllByRecursion NamesTerms rule.alts)) (sym c.rules.ensures.rules)
    (names_terms c.core-core.result.now c.rules.ensures.good)

pub invariant_of-result : goal.invariant_of-result
invariant_of-result c =
    let t = draft_rows c.rule_rows.new.draft in
    let u = draft_rows c.name_rows.new.draft in
    let rules = c.in_ok-rules.rules.items in
    let names = c.in_ok-names.names.items in
    let stands = stands_all t u rules names c.core-core.result.now c.in_ok-names.ensures.grows
    (subst (Each (HoldsRule t) rules) c.rules.ensures.rules c.in_ok-rules.ensures.holds)
    (subst (Each (Stands u.bytes) names) c.names.ensures c.in_ok-names.ensures.holds) in
    record {
      grammar = c.args.c.now;
      stands = subst (StandFor (record u { rules = rules; names = names })) c.core-core.ensures.core stands;
      good = subst Good c.core-core.ensures.core c.rules.ensures.good;
      total = c.core-core.ensures.total;
    }

pub returns : goal.returns
returns c =
    let t = draft_rows c.rule_rows.new.draft in
    let u = draft_rows c.name_rows.new.draft in
    let rules = c.in_ok-rules.rules.items in
    let names = c.in_ok-names.names.items in
    let stands = stands_all t u rules names c.core-core.result.now c.in_ok-names.ensures.grows
    (subst (Each (HoldsRule t) rules) c.rules.ensures.rules c.in_ok-rules.ensures.holds)
    (subst (Each (Stands u.bytes) names) c.names.ensures c.in_ok-names.ensures.holds) in
    subst (StandFor (record u { rules = rules; names = names })) c.core-core.ensures.core stands
