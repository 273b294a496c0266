use Rattle.std.proofs.Common.{◌++◌, ap, sym, ◌∙◌, length, refl, take, flat_map}
use Rattle.std.proofs.lemmas.List.{append_assoc}
use Rattle.std.proofs.lemmas.Option.{slice_get_read}
use Rattle.ipg_app_explain.specs.Furthest.{story_lines}
use Rattle.ipg_app_explain.specs.Seen.{subject_of}
use Rattle.ipg_app_explain.proofs.Joined.{one_more}
use Rattle.ipg_app_explain.proofs.furthest.add_stories.Goals as goal

pub loop-one-preserved : goal.loop-one-preserved
loop-one-preserved c =
    let told = c.args.told.now in
    let i = c.loop-one.one-index in
    let lines = story_lines (subject_of c.args.subject) c.args.names.now in
    let one = c.one-item.result in
    let old = c.args.out.now.items in
    let at = slice_get_read told (length told) i one refl c.loop-one-test.true c.one-item.is in
    c.in_ok-add_story.ensures ∙ ap (λ l. l ++ lines one) c.loop-one.invariant ∙ append_assoc old (flat_map lines (take i told)) (lines one)
    ∙ ap (λ l. old ++ l) (sym (one_more lines told i one at))
