use Rattle.ipg_read.proofs.Places.{place_here, place_past}
use Rattle.ipg_read.proofs.reading.place_at.Goals as goal

pub returns-then-n-found : goal.returns-then-n-found
returns-then-n-found c = place_here c.args.text.now c.args.found.now c.args.n c.index-found-n.result c.if-n-found.true

pub returns-else-n-found : goal.returns-else-n-found
returns-else-n-found c = place_past c.args.text.now c.args.found.now c.args.n c.if-n-found.false
