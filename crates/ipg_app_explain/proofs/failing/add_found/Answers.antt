use Rattle.std.proofs.Common.{codes}
use Rattle.std.proofs.lemmas.Result.{on_ok_weaker}
use Rattle.ipg_app_explain.specs.Bytes.{bytes_words}
use Rattle.ipg_app_explain.proofs.Joined.{behind}
use Rattle.ipg_app_explain.proofs.failing.add_found.Goals as goal

pub returns : goal.returns
returns c =
    on_ok_weaker c.add_common.result (λ e.
    behind (codes ". There stands ") _ _ _ _ c.in_ok-extend_from_slice.ensures.items
    (behind (bytes_words c.args.found.now) _ _ _ _ c.in_ok-add_bytes.ensures (e)))
    c.add_common.ensures
