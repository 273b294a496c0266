use Rattle.std.proofs.Common.{◌∙◌, sym, ap, arith, refl}
use Rattle.ipg_graph.specs.Graph.{callee}
use Rattle.ipg_graph.specs.Walk.{enter}
use Rattle.ipg_graph.proofs.MarksLemmas.{marked-le}
use Rattle.ipg_graph.proofs.WalkLemmas.{enter-closed, barren-is}
use Rattle.ipg_graph.proofs.SearchLemmas.{barren-past}
use Rattle.ipg_graph.proofs.search.Search.try_live.Goals as goal

pub returns-then-callee-self-clause-found : goal.returns-then-callee-self-clause-found
returns-then-callee-self-clause-found c = λ _.
    let s = c.args.self.now in
    let walk = c.requires.ready.walk in
    record {
      links = refl;
      path = c.put.ensures.items;
      found = record {
        walked = s.path.items;
        last = s.cursor;
        path = c.put.ensures.items;
        walk = record {
          whole = walk.whole;
          runs = walk.runs;
          flags = walk.flags;
          count = walk.count;
          room = omega (arith, walk.room, c.put.ensures.room);
          sized = walk.sized;
          begun = walk.begun;
          tip = walk.tip;
          closed = walk.closed;
        };
        live = c.requires.live;
        at_tip = λ some. c.requires.ready.choice.at_tip some c.requires.within;
        closes = c.requires.tries ∙ enter-closed s.links s.start s.seen.items (callee s.links s.cursor)
            (sym c.callee-callee.ensures.value ∙ c.if-callee-self.true);
      };
    }

pub skip-requires-clause-barren : goal.skip-requires-clause-barren
skip-requires-clause-barren c =
    let s = c.args.self.now in
    barren-is s.links _ _ (c.requires.tries ∙ ap (enter s.links s.start s.seen.items) (sym c.callee-callee.ensures.value))
    (barren-past s.links s.start s.seen.items s.reach.marks.items c.callee-callee.result c.requires.ready.walk.closed
    c.if-callee-self.false (sym c.may_enter.ensures ∙ c.if-may_enter.false))

pub put-requires : goal.put-requires
put-requires c =
    let walk = c.requires.ready.walk in
    omega (arith, c.args.self.now.path.ok.0, walk.count, walk.flags, walk.room, marked-le c.args.self.now.seen.items)
