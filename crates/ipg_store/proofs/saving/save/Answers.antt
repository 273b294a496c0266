use Rattle.std.proofs.Common.{◌≡◌, sym, subst, ◌∙◌}
use Rattle.ipg_core.specs.Good.{Good}
use Rattle.ipg_proof.specs.Texts.{IsSpeakable}
use Rattle.ipg_store_body.specs.Fits.{IsBody, bare}
use Rattle.ipg_store.proofs.Saved.{if_ok, holds}
use Rattle.ipg_store.proofs.saving.save.Goals as goal

pub returns-clause-holds : goal.returns-clause-holds
returns-clause-holds c proves =
    let g = c.args.g.now in
    let same : c.core-core.result.now ≡ g = c.core-core.ensures.core in
    let good : Good g = subst Good same c.rules.ensures.good in
    let body = subst (λ x. IsBody (bare x) c.in_ok-body.body.items) same c.in_ok-body.ensures.reads_back in
    let speakable : IsSpeakable c.args.c.now = c.proves_is_speakable.ensures g c.args.c.now good proves c.is_typed.ensures in
    if_ok _ _ _ c.file_with.result
    (λ file is counted. holds g c.args.c.now file.items c.as_slice.result.now c.as_slice-2.result.now good
    (subst (IsBody (bare g)) (sym c.as_slice.ensures.value) body) (c.as_slice-2.ensures.value ∙ c.in_ok-proof.ensures.text) speakable proves is counted)
    c.file_with.ensures.is c.file_with.ensures.counted
