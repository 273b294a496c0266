use Rattle.std.proofs.Common.{map}
use Rattle.std.specs.String.{string_bytes}
use Rattle.ipg_outside.specs.Files.{holds}
use Rattle.ipg_outside.specs.Shelf.{bytes_in}
use Rattle.ipg_app.proofs.Replying.{surely_by}
use Rattle.ipg_app.proofs.sure.run_surely.Goals as goal

pub returns : goal.returns
returns c =
    surely_by (λ name. holds (bytes_in name c.args.files.now)) (λ name. holds (bytes_in name c.run.new.files)) (map string_bytes c.args.words.now) c.run.result
    c.run.ensures.replies
