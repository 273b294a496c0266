use Rattle.std.proofs.Common.{◌≡◌, suc, sym, subst, arith}
use Rattle.ipg_reader.specs.Found.{Gives}
use Rattle.ipg_store_body.specs.Reading.{expr_at}
use Rattle.ipg_store_body.proofs.reading.BodyReader.+expr.Goals as goal

pub expr-returns-in-None : goal.expr-returns-in-None
unfolding expr_at
expr-returns-in-None t c =
    let none : c.args.below ≡ 0 = omega (arith, c.in-None.ensures) in
    subst (λ n. Gives (expr_at n c.args.self.now.bytes.left.now) c.whole_leaf.new.self.bytes.left.now c.whole_leaf.result) (sym none)
    c.whole_leaf.ensures

pub expr-returns-in-Some : goal.expr-returns-in-Some
unfolding expr_at
expr-returns-in-Some t c =
    let some : c.args.below ≡ suc c.in-Some.below = omega (arith, c.in-Some.ensures) in
    subst (λ n. Gives (expr_at n c.args.self.now.bytes.left.now) c.level.new.self.bytes.left.now c.level.result) (sym some) c.level.ensures
