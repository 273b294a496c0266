use Rattle.std.proofs.Common.{arith}
use Rattle.ipg_store_body.specs.Reading.{body_at}
use Rattle.ipg_store_body.proofs.Bodies.{are_bytes, body_says, body_back}
use Rattle.ipg_store_body.proofs.reading.read.Goals as goal

pub returns-clause-is : goal.returns-clause-is
returns-clause-is c =
    let text = c.args.text.now in
    let numbers = c.numbers_are_exact.ensures in
    let are = are_bytes text (λ i. omega (arith, c.type_inv.text i)) in
    body_says numbers.short numbers.long numbers.signed c.texts_are_exact.ensures text are c.whole.result (c.whole.ensures (body_at text) c.body-read.ensures)

pub returns-clause-back : goal.returns-clause-back
returns-clause-back c body is =
    let text = c.args.text.now in
    let numbers = c.numbers_are_exact.ensures in
    let are = are_bytes text (λ i. omega (arith, c.type_inv.text i)) in
    body_back numbers.short numbers.long numbers.signed c.texts_are_exact.ensures text are c.whole.result body
    (c.whole.ensures (body_at text) c.body-read.ensures) is
