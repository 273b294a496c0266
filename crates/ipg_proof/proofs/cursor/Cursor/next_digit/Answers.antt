use Rattle.std.proofs.Common.{arith}
use Rattle.ipg_proof.proofs.Digits.{next_found}
use Rattle.ipg_proof.proofs.cursor.Cursor.next_digit.Goals as goal

pub returns : goal.returns
returns c =
    next_found c.args.most c.args.value c.in-Some.digit c.in-Some-with_digit.next c.args.self.now.left.now (omega arith)
    c.in-len1-up.len_at_least c.in-Some.ensures.0
    c.in-Some.ensures.1 c.in-Some-with_digit.ensures
