use Rattle.std.proofs.Common.{◌+◌, sym, subst}
use Rattle.std.proofs.lemmas.Result.{on_ok_weaker}
use Rattle.ipg_proof.specs.Seen.{seen}
use Rattle.ipg_term.specs.Refuted.{AreDead}
use Rattle.ipg_term.proofs.Rising.{more_alive, more_dead}
use Rattle.ipg_term.proofs.dead.put_refuted.Goals as goal

pub returns-in-Some : goal.returns-in-Some
returns-in-Some c =
    let calls = seen c.args.calls in
    let on = rw c.in-Some.is at c.in_ok-refutation.ensures in
    let more = more_dead calls c.args.edge c.args.dead.now c.in-Some.refutation c.requires.before on in
    on_ok_weaker c.push.result (λ e. subst (AreDead calls (c.args.edge + 1)) (sym e) more) c.push.ensures.ok

pub returns-in-None : goal.returns-in-None
returns-in-None c = more_alive (seen c.args.calls) c.args.edge c.args.dead.now c.requires.before
