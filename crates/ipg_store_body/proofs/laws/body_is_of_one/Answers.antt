use Rattle.ipg_store_body.proofs.Bodies.{one_body}
use Rattle.ipg_store_body.proofs.laws.body_is_of_one.Goals as goal

pub returns : goal.returns
returns c =
    let numbers = c.numbers_are_exact.ensures in
    one_body numbers.short numbers.long numbers.signed c.texts_are_exact.ensures
