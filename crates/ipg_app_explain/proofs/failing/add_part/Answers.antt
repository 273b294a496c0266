use Rattle.std.proofs.Common.{codes}
use Rattle.ipg_app_explain.specs.Bytes.{counted}
use Rattle.ipg_app_explain.proofs.Joined.{behind}
use Rattle.ipg_app_explain.proofs.failing.add_part.Goals as goal

pub returns : goal.returns
returns c = behind (codes ", in a part of ") _ _ _ _ c.in_ok-extend_from_slice.ensures.items
    (behind (counted c.args.size) _ _ _ _ c.in_ok-add_counted.ensures (c.in_ok-extend_from_slice-2.ensures.items))
