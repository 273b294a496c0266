use Rattle.std.proofs.Common.{◌++◌, ap, ◌∙◌, codes, w64}
use Rattle.std.proofs.lemmas.Int.{to_z-of_z}
use Rattle.std.proofs.lemmas.Result.{on_ok_weaker}
use Rattle.ipg_app_explain.specs.Furthest.{from_words, to_words}
use Rattle.ipg_app_explain.specs.Named.{wanted_of}
use Rattle.ipg_app_explain.proofs.Joined.{behind}
use Rattle.ipg_app_explain.proofs.failing.add_interval.Goals as goal

pub returns : goal.returns
returns c =
    let from = c.args.from in
    let to = c.args.to in
    let begun = c.in_ok-add_from.ensures ∙ ap (λ z. c.add_wanted.new.out.items ++ from_words z) (to_z-of_z w64 from c.ranges.from) in
    let ended = c.in_ok-add_to.ensures ∙ ap (λ z. c.add_from.new.out.items ++ to_words z) (to_z-of_z w64 to c.ranges.to) in
    on_ok_weaker c.add_part.result (λ e. behind (codes "Wanted: ") _ _ _ _ c.in_ok-extend_from_slice.ensures.items
    (behind (wanted_of c.args.f.now.branch c.args.term.now) _ _ _ _ c.in_ok-add_wanted.ensures
    (behind (from_words from) _ _ _ _ begun (behind (to_words to) _ _ _ _ ended e)))) c.add_part.ensures
