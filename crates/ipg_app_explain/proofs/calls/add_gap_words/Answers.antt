use Rattle.std.proofs.Common.{codes, decimal}
use Rattle.ipg_app_explain.proofs.Joined.{behind}
use Rattle.ipg_app_explain.proofs.calls.add_gap_words.Goals as goal

pub returns : goal.returns
returns c = behind (codes ".. ") _ _ _ _ c.in_ok-extend_from_slice.ensures.items
    (behind (decimal c.args.left_out) _ _ _ _ c.in_ok-add_number.ensures (c.in_ok-extend_from_slice-2.ensures.items))
