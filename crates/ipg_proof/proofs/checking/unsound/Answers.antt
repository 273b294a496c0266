use Rattle.std.proofs.Common.{◌≡◌, ℕ, ◌+◌, ◌++◌, List, Bool, None, map, length, ap, arith, sym, ◌∙◌}
use Rattle.ipg_cert.specs.declared.refutation.Refutation.{Refutation}
use Rattle.std.proofs.lemmas.List.{length-map}
use Rattle.std.proofs.lemmas.Result.{MatchResult-weaker}
use Rattle.ipg_proof.specs.Calls as spec
use Rattle.ipg_proof.specs.Proves.{first_false}
use Rattle.ipg_proof.specs.Seen.{seen}
use Rattle.ipg_proof.proofs.Found.{first_some, first_none}
use Rattle.ipg_proof.proofs.checking.unsound.Goals as goal

behind : (calls : spec.CallGraph) (dead : List (ℕ × Refutation)) (cycles : List Bool) → first_false 0 (map (spec.edge_checks calls) dead) ≡ None
    → first_false (length dead) cycles ≡ first_false 0 (map (spec.edge_checks calls) dead ++ cycles)
behind calls dead cycles none =
    let all = map (spec.edge_checks calls) dead in
    let size : length dead ≡ 0 + length all = omega (arith, length-map dead (spec.edge_checks calls)) in
    ap (λ n. first_false n cycles) size ∙ sym (first_none 0 all cycles none)

pub returns-in-Some : goal.returns-in-Some
returns-in-Some c =
    let calls = seen c.args.calls in
    let dead = map (spec.edge_checks calls) c.args.c.now.dead in
    let first = ap (λ entries. first_false 0 (map (spec.edge_checks calls) entries)) (sym c.as_slice-dead.ensures) ∙ sym (c.in_ok-at.ensures) ∙ c.in-Some.is in
    sym (first_some 0 c.in-Some.at dead (map (spec.cycle_checks calls) c.args.c.now.cycles) first)

pub returns-in-None : goal.returns-in-None
returns-in-None c =
    let calls = seen c.args.calls in
    let dead = map (spec.edge_checks calls) c.args.c.now.dead in
    let cycles = map (spec.cycle_checks calls) c.args.c.now.cycles in
    let none = ap (λ entries. first_false 0 (map (spec.edge_checks calls) entries)) (sym c.as_slice-dead.ensures) ∙ sym (c.in_ok-at.ensures) ∙ c.in-None.is in
    let ends = ap (λ entries. first_false (length c.as_slice-dead.result.now) (map (spec.cycle_checks calls) entries)) c.as_slice.ensures
    ∙ ap (λ entries. first_false (length entries) cycles) c.as_slice-dead.ensures
    ∙ behind calls c.args.c.now.dead cycles none in
    MatchResult-weaker c.unsound_cycle.result c.unsound_cycle.ensures (λ at e. e ∙ ends) (λ _ u. u)
