use Rattle.std.proofs.Common.{rules, ◌≡◌, ◌+◌, ◌∷◌, drop}
use Rattle.ipg_ast.specs.Spelling.{case_tokens, cases_tokens}
use Rattle.ipg_ast.specs.Canonical.{tokens_text}
use Rattle.ipg_ast.proofs.Lists.{cases_next}
use Rattle.ipg_ast.proofs.Texts.{at_item, Wrote, turn}
use Rattle.ipg_ast.proofs.text.put_cases.Goals as goal

pub loop-case-preserved : goal.loop-case-preserved
loop-case-preserved c =
    let here : drop c.loop-case.case-index c.args.cases.now ≡ c.case-item.result ∷ drop (c.loop-case.case-index + 1) c.args.cases.now =
    at_item c.args.cases.now c.loop-case.case-index _ c.case-item.is (search rules) in
    let wrote : Wrote c.loop-case.out.items (tokens_text (case_tokens c.case-item.result)) c.put_case.new.out.items = record { is = search rules } in
    turn (tokens_text (cases_tokens (drop (c.loop-case.case-index + 1) c.args.cases.now))) _ _ wrote (cases_next _ _ _ here) c.loop-case.invariant
