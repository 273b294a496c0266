use Rattle.std.proofs.Common.{◌∙◌, ap}
use Rattle.ipg_names_scope.specs.Marks.{look, marked}
use Rattle.ipg_names_scope.proofs.Spots.{put}
use Rattle.ipg_names_scope.proofs.marks.mark_name.Goals as goal

pub returns-in_ok-insert : goal.returns-in_ok-insert
returns-in_ok-insert c = λ x.
    c.in_ok-insert.ensures.updates.0 (record { ref_ptr = c.args.name.ref_ptr; now = x })
    ∙ put (look c.args.places.now) c.args.mark c.args.name.now x _ (c.in-Some.ensures ∙ ap (marked c.args.mark) c.spots_at.ensures)
