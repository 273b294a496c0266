use Rattle.std.proofs.Common.{◌≡◌, ◌-◌, ◌≤◌, take, drop, length, arith}
use Rattle.std.proofs.lemmas.List.{length-drop, length-take-le}
use Rattle.std.proofs.lemmas.Result.{IfOk-weaker}
use Rattle.ipg_read_tokens.specs.Lexical.{front_of}
use Rattle.ipg_read_tokens.specs.Within.{TakesWithin}
use Rattle.ipg_read_tokens.proofs.Fronts.{begins_within}
use Rattle.ipg_read_tokens.proofs.scan.begins_at.Goals as goal

pub returns-clause-within : goal.returns-clause-within
returns-clause-within c =
    let text = c.args.text.now in
    let m = length text - c.args.at in
    let rest = take m (drop c.args.at text) in
    IfOk-weaker c.front_at.result (λ f. f ≡ front_of rest) (λ f. TakesWithin f m)
    (λ f is. begins_within rest m f (let m_fits : m ≤ length (drop c.args.at text) =
    omega (arith, length-drop c.args.at text) in omega (arith, length-take-le m (drop c.args.at text) m_fits)) is) c.front_at.ensures
