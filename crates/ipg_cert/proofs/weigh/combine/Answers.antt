use Rattle.std.proofs.Common.{arith, rules, ap, subst, ◌∙◌, ◌≡◌, ◌&&◌, pos, length}
use Rattle.std.specs.Prelude.{int_lt}
use Rattle.std.proofs.lemmas.Int.{ints}
use mir.Val.{to_z, of_z, SFits}
use mir.Syntax.{w128}
use Rattle.ipg_cert.specs.Checks.{weighted_sum}
use Rattle.ipg_cert.specs.Seen.{all_seen, Sums}
use Rattle.ipg_cert.proofs.Absurd.{judged, none_left}
use Rattle.ipg_cert.proofs.weigh.combine.Goals as goal

pub returns-in-Some-clause-combines : goal.returns-in-Some-clause-combines
returns-in-Some-clause-combines c =
    let f : SFits w128 c.in-Some.constant = search rules in
    let same : to_z w128 (of_z w128 c.in-Some.constant) ≡ c.in-Some.constant = omega (arith, ints) in
    let n : length c.args.entries.now ≡ 0 → ⊥ = search rules in
    c.is_absurd.ensures
    ∙ ap (λ ts. none_left ts && int_lt (pos 0) (to_z w128 (of_z w128 c.in-Some.constant))) c.deref.ensures.value
    ∙ ap (λ z. none_left c.weigh.new.totals.items && int_lt (pos 0) z) same
    ∙ judged (all_seen c.args.known.now) c.args.entries.now c.weigh.new.totals.items c.in-Some.constant (omega arith) (omega arith)
    (subst (λ o. Sums c.weigh.new.totals.items o (weighted_sum (all_seen c.args.known.now) c.args.entries.now)) c.in-Some.is c.in_ok-constant.ensures)
