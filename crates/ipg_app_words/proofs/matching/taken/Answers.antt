use Rattle.std.proofs.Common.{◌≡◌, [], map, Some, None, sym, ap, ◌∙◌, if◌then◌else◌}
use Rattle.std.proofs.lemmas.Bool.{and_parts}
use Rattle.std.specs.String.{string_bytes}
use Rattle.clap.specs.Words.{app_of, matches_of, fault_of, rows_of, found_of, is_simple}
use Rattle.clap.specs.Faults.{is_free_app}
use Rattle.clap.specs.Simple.{built}
use Rattle.clap.specs.Walk.{is_empty}
use Rattle.ipg_app_words.proofs.matching.taken.Goals as goal

pub returns-in-Ok : goal.returns-in-Ok
returns-in-Ok c =
    let app = app_of c.args.command in
    let words = map string_bytes c.args.words.now in
    let simple = (and_parts (is_simple app) (is_free_app (built app)) c.requires).0 in
    let rows : rows_of (found_of c.in-Ok.matches) ≡ matches_of app words = (c.in-Ok.ensures.matches simple).0 in
    let none : fault_of app words ≡ [] = c.in-Ok.ensures.kinds c.requires in
    ap Some rows ∙ ap (λ kinds. if is_empty kinds then Some (matches_of app words) else None) (sym none)
