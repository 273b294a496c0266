use Rattle.std.proofs.Common.{codes}
use Rattle.ipg_app_explain.proofs.Joined.{behind}
use Rattle.ipg_app_explain.proofs.failing.add_next.Goals as goal

pub returns : goal.returns
returns c = behind (codes "The next alternative of ") _ _ _ _ c.in_ok-extend_from_slice.ensures.items
    (behind (c.args.name.now) _ _ _ _ c.in_ok-extend_from_slice-2.ensures.items (c.in_ok-extend_from_slice-3.ensures.items))
