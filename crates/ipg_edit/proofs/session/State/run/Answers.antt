use Rattle.std.proofs.Common.{sym, subst, Some}
use Rattle.std.proofs.lemmas.Result.{IfOk-weaker}
use Rattle.ipg_mach.specs.Known.{IsKnown}
use Rattle.ipg_mach.specs.Stage.{source}
use Rattle.ipg_edit.specs.Session.{holding}
use Rattle.ipg_edit.proofs.Answering as answering
use Rattle.ipg_edit.proofs.session.State.run.Goals as goal

pub returns-in-Ok : goal.returns-in-Ok
returns-in-Ok g c =
    IfOk-weaker c.run.result _ _
    (λ v ran. record {
      answers = λ grammar kept answer k means.
          let t = c.args.tables.now in
          let s = c.args.input.now in
          let h = holding c.args.self in
          let held = c.in_ok-kept.kept in
          let holds = subst (λ m. IsKnown (source t s) held.store m (Some k.known)) (sym c.in_ok-kept.ensures.1)
          (subst (λ st. IsKnown (source t s) st h.memo (Some k.known)) (sym c.in_ok-kept.ensures.0) k.holds) in
          let came = ran grammar (Some k.known) answer k.stand k.right holds means in
          answering.comes_to_answer c.counts_over.ensures c.deepest_over.ensures c.fresh_lie_inside.ensures c.known_at_end.ensures
          c.none_where_first_kept.ensures grammar t s kept h answer came.0 came.1 v k c.holds_bytes.ensures means came.2 came.3 came.4;
    })
    c.run.ensures
