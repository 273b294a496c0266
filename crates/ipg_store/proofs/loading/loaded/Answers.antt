use Rattle.ipg_store.proofs.Joined.{parts_fault, grammar_fault, hands_on, last, backs}
use Rattle.ipg_store.proofs.loading.loaded.Goals as goal

pub returns-in_err-parts-clause-back : goal.returns-in_err-parts-clause-back
returns-in_err-parts-clause-back c g cert holds =
    let file = c.args.file.now in
    let fault = c.in_err-parts.field-0.0 in
    backs c.load_once.ensures file c.from_residual.result g cert
    (hands_on file c.from_residual.result fault c.from_residual.ensures.1 (parts_fault file fault c.in_err-parts.ensures)) holds

pub returns-in_err-core-clause-is : goal.returns-in_err-core-clause-is
returns-in_err-core-clause-is c =
    let file = c.args.file.now in
    let fault = c.in_err-core.field-0.0 in
    let parts = c.in_ok-parts.parts in
    hands_on file c.from_residual-in_err-core.result fault c.from_residual-in_err-core.ensures.1
    (grammar_fault file parts.body.now parts.proof.now c.in_ok-parts.ensures.1 c.in_ok-parts.ensures.0 fault c.in_err-core.ensures)

pub returns-in_err-core-clause-back : goal.returns-in_err-core-clause-back
returns-in_err-core-clause-back c g cert holds =
    let file = c.args.file.now in
    let fault = c.in_err-core.field-0.0 in
    let parts = c.in_ok-parts.parts in
    backs c.load_once.ensures file c.from_residual-in_err-core.result g cert
    (hands_on file c.from_residual-in_err-core.result fault c.from_residual-in_err-core.ensures.1
    (grammar_fault file parts.body.now parts.proof.now c.in_ok-parts.ensures.1 c.in_ok-parts.ensures.0 fault c.in_err-core.ensures)) holds

pub returns-clause-is : goal.returns-clause-is
returns-clause-is c =
    let parts = c.in_ok-parts.parts in
    last c.args.file.now parts.body.now parts.proof.now c.in_ok-parts.ensures.1 c.in_ok-parts.ensures.0 c.in_ok-core.core c.in_ok-core.ensures c.proved.result
    c.proved.ensures

pub returns-clause-back : goal.returns-clause-back
returns-clause-back c g cert holds =
    let parts = c.in_ok-parts.parts in
    backs c.load_once.ensures c.args.file.now c.proved.result g cert
    (last c.args.file.now parts.body.now parts.proof.now c.in_ok-parts.ensures.1 c.in_ok-parts.ensures.0 c.in_ok-core.core c.in_ok-core.ensures
    c.proved.result c.proved.ensures) holds
