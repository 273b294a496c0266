-- The stages of a core grammar, one after another.
use Rattle.std.proofs.Common.{◌≡◌, ℕ, zero, suc, List, [], ◌∷◌, map, Some, sym, ap, ◌∙◌, slice_get}
use Rattle.ipg_complete.specs.declared.completed.CompletedRule.{CompletedRule}
use Rattle.ipg_complete.specs.Unordered.{Unordered, rule_of, core_of}
use Rattle.ipg_core.specs.declared.grammar.CoreRule.{CoreRule}
use Rattle.ipg_core.specs.Grammar.{Grammar, name_at}
use Rattle.ipg_order.specs.Answer.{IsFirstStuck}
use Rattle.ipg_app_text.specs.Refusal.{circular}
use Rattle.ipg_ast.specs.declared.grammar.Grammar as written
use Rattle.ipg_app_explain.specs.declared.why.Why.TheVariants as why
use Rattle.ipg_app_explain.specs.Terms.{term_place}
use Rattle.ipg_app_text.specs.Reasons.{Reason, listed, IsCompleted, IsStuck, head_at}
use Rattle.ipg_app_text.proofs.Heads.{name_is_head}

-- the name of a rule, with orders and without
head_of : (rules : List CompletedRule) (r : ℕ) (rule : CoreRule) → slice_get (map rule_of rules) r ≡ Some rule → name_at (map (λ x. x.name) rules) r ≡ rule.name
head_of [] r rule e = absurd (cc)
head_of (x ∷ rules) zero rule e = ap (λ (y : CoreRule). y.name) (let same : rule_of x ≡ rule = cc in same)
head_of (x ∷ rules) (suc r) rule e = head_of rules r rule e

pub stuck : (g : written.Grammar) (c : Unordered) (r a u : ℕ) (reason : Reason) → IsCompleted g c → IsFirstStuck (core_of c) (r, a) u
    → reason ≡ record { said = circular (head_at g r) a u; why = why.Circular; places = listed (term_place g r a u); notes = [] } → IsStuck g c reason
stuck g c r a u reason is first e =
    let named : List ℕ → Reason = λ name. record { said = circular name a u; why = why.Circular; places = listed (term_place g r a u); notes = [] } in
    record {
      at = (r, a);
      term = u;
      first = first;
      is = e ∙ ap named (sym (name_is_head g c r is) ∙ head_of c.rules r first.rule first.is_alt.is_rule);
    }
