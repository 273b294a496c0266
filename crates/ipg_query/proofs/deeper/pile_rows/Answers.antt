use Rattle.std.proofs.Common.{◌-◌, arith, le_refl, length}
use Rattle.ipg_query.specs.Spots.{seen}
use Rattle.ipg_query.proofs.Piling.{all_on, none_yet, one_more}
use Rattle.ipg_query.proofs.deeper.pile_rows.Goals as goal

pub loop-left-init : goal.loop-left-init
loop-left-init c = record {
  so_far = λ src st grammar ones xs stand near comes.
      none_yet src st grammar c.args.at c.args.rows.now ones c.args.steps.now stand near (seen c.args.pile.now.items) xs comes;
  within = le_refl (length c.args.rows.now);
}

pub loop-left-preserved : goal.loop-left-preserved
loop-left-preserved c = record {
  so_far = λ src st grammar ones xs stand near comes.
      one_more src st grammar c.args.at c.args.rows.now ones c.args.steps.now stand near (seen c.loop-left.pile.items) (seen c.pile_spot.new.pile.items)
      (c.loop-left.left - 1) c.loop-left.left _ xs (omega (arith, c.loop-left-test.true)) c.loop-left.invariant.within
      (c.loop-left.invariant.so_far src st grammar ones xs stand near comes)
      (λ x ys is below. c.in_ok-pile_spot.ensures src st grammar x ys is below);
  within = omega (arith, c.loop-left.invariant.within);
}

pub returns : goal.returns
returns c src st grammar ones xs stand near comes =
    all_on src st grammar c.args.at c.args.rows.now ones c.args.steps.now stand near (seen c.loop-left.pile.items) c.loop-left.left xs
    (omega (arith, c.loop-left-test.false)) (c.loop-left.invariant.so_far src st grammar ones xs stand near comes)
