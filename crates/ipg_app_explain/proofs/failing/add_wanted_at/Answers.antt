use Rattle.std.proofs.Common.{codes, decimal}
use Rattle.std.proofs.lemmas.Result.{on_ok_weaker}
use Rattle.ipg_app_explain.proofs.Joined.{behind}
use Rattle.ipg_app_explain.proofs.failing.add_wanted_at.Goals as goal

pub returns : goal.returns
returns c =
    on_ok_weaker c.add_wanted.result (λ e.
    behind (codes "Wanted at byte ") _ _ _ _ c.in_ok-extend_from_slice.ensures.items
    (behind (decimal c.args.at) _ _ _ _ c.in_ok-add_number.ensures (behind (codes ": ") _ _ _ _ c.in_ok-extend_from_slice-2.ensures.items (e))))
    c.add_wanted.ensures
