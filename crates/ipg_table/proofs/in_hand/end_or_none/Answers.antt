use Rattle.std.proofs.Common.{[], ap}
use Rattle.ipg_table.specs.Running.{put, put_end}
use Rattle.ipg_table.proofs.Handing.{an_end, led_alike}
use Rattle.ipg_table.proofs.in_hand.end_or_none.Goals as goal

pub returns-in-Some : goal.returns-in-Some
returns-in-Some c room place within reads =
    let same = an_end room place c.args.end _ c.found.result c.args.skip [] reads c.in-Some.is c.found.ensures in
    led_alike c.taken.result (put room c.found.result c.args.skip []) (put_end room place c.args.skip []) (λ next. ap (λ f. f next) same)
    (c.taken.ensures room within)
