use Rattle.std.proofs.Common.{◌≡◌, map, Some, option_map}
use Rattle.std.specs.String.{string_bytes}
use Rattle.clap.specs.Words.{app_of, rows_of, found_of}
use Rattle.ipg_app_words.specs.Commands as command
use Rattle.ipg_app_words.specs.Commands.{taken}
use Rattle.ipg_app_words.specs.Request.{rebuild_task}
use Rattle.ipg_app_words.specs.Seen.{seen, task_seen}
use Rattle.ipg_app_words.proofs.Requests.{used}
use Rattle.ipg_app_words.proofs.requesting.rebuild_request.Goals as goal

pub returns-in-Some : goal.returns-in-Some
returns-in-Some c =
    let app = app_of c.in_ok-rebuild.field-0 in
    let words = map string_bytes c.args.words.now in
    let rows = rows_of (found_of c.in-Some.matches) in
    let found : Some rows ≡ taken app words = rw c.in-Some.is at c.in_ok-matches.ensures in
    used app command.rebuild rebuild_task words rows (option_map task_seen c.rebuild_wanted.result) (option_map seen c.use_of.result)
    c.in_ok-rebuild.ensures found
    c.rebuild_wanted.ensures c.use_of.ensures
