use Rattle.ipg_proof.proofs.Digits.{first_found}
use Rattle.ipg_proof.proofs.cursor.Cursor.first_digit.Goals as goal

pub returns : goal.returns
returns c = first_found c.args.least c.in-Some.digit c.args.self.now.left.now c.in-len1-up.len_at_least c.in-Some.ensures.0 c.in-Some.ensures.1
    c.if-digit-least.false
