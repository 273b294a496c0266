use Rattle.std.proofs.Common.{◌+◌, arith, refl, length}
use Rattle.ipg_graph.proofs.MarksLemmas.{marked-le}
use Rattle.ipg_graph.proofs.LeftLemmas.{left-skip}
use Rattle.ipg_graph.proofs.SearchLemmas.{same-past}
use Rattle.ipg_graph.specs.Search.{now}
use Rattle.ipg_graph.proofs.search.Search.skip.Goals as goal

pub returns : goal.returns
returns c =
    let s = c.args.self.now in
    let walk = c.requires.ready.walk in
    let next = c.following-self.ensures in
    record {
      links = refl;
      ready = record {
        walk = record {
          whole = walk.whole;
          runs = walk.runs;
          flags = walk.flags;
          count = walk.count;
          room = walk.room;
          sized = walk.sized;
          begun = walk.begun;
          tip = walk.tip;
          closed = walk.closed;
        };
        choice = record { within = next.choice.within; at_tip = next.choice.at_tip };
      };
      same = same-past s.links s.path.items (now s) s.cursor c.following-self.result walk.runs next.after c.requires.barren next.skipped;
      less = left-skip (length s.links.callers) s.cursor c.following-self.result next.after next.choice.within (s.links.rules + 2) s.path.items
          (omega (arith, walk.count, walk.flags, marked-le s.seen.items));
    }
