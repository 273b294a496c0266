use Rattle.std.proofs.Common.{◌≡◌, ◌<◌, ◌+◌, ◌++◌, ◌∷◌, [], ◌∙◌, true, set, sym, ap, length, arith, refl, length-set, append_assoc}
use Rattle.std.proofs.lemmas.List.{length_push}
use Rattle.ipg_graph.specs.Walk.{run, step, enter, Fresh, Open}
use Rattle.ipg_graph.proofs.MarksLemmas.{marked-set, grows-set, unseen-in, marked-le}
use Rattle.ipg_graph.proofs.ReachLemmas.{unseen-room}
use Rattle.ipg_graph.proofs.WalkLemmas.{run-push, enter-open}
use Rattle.ipg_graph.proofs.LeftLemmas.{left-push}
use Rattle.ipg_graph.proofs.SearchLemmas.{state-push, closed-grows, same-enter}
use Rattle.ipg_graph.proofs.search.Search.enter.Goals as goal

pub returns : goal.returns
returns c =
    let s = c.args.self.now in
    let g = s.links in
    let walk = c.requires.trying.ready.walk in
    let flags = set s.seen.items c.args.rule true in
    let goes : run g Fresh (s.path.items ++ s.cursor ∷ []) ≡ Open s.start c.args.rule flags =
    run-push g Fresh s.path.items s.cursor
    ∙ (ap (λ x. step g x s.cursor) walk.runs
    ∙ (c.requires.trying.tries
    ∙ (ap (enter g s.start s.seen.items) (sym c.requires.rule)
    ∙ enter-open g s.start s.seen.items c.args.rule c.requires.above c.requires.free))) in
    let inside : c.args.rule < g.rules = omega (arith, unseen-in s.seen.items c.args.rule c.requires.free, walk.flags) in
    let room = unseen-room s.seen.items c.args.rule c.requires.free in
    record {
      links = refl;
      ready = record {
        walk = record {
          whole = walk.whole;
          runs = rw c.put.ensures.items (goes ∙ sym (state-push s.path.items s.cursor s.start c.args.rule flags));
          flags = length-set s.seen.items c.args.rule true ∙ walk.flags;
          count = rw c.put.ensures.items (omega (arith, length_push s.path.items s.cursor, marked-set s.seen.items c.args.rule c.requires.free, walk.count));
          room = omega (arith, walk.room, c.put.ensures.room);
          sized = walk.sized;
          begun = λ _. c.requires.trying.begun;
          tip = λ _. inside;
          closed = closed-grows g s.start s.seen.items flags s.reach.marks.items (grows-set s.seen.items c.args.rule) walk.closed;
        };
        choice = record {
          within = c.first_out-self.ensures.within;
          at_tip = λ _ lt. c.first_out-self.ensures.here lt;
        };
      };
      same = rw c.put.ensures.items (same-enter g s.path.items s.cursor c.first_out-self.result s.start c.args.rule flags goes c.first_out-self.ensures);
      less = rw (c.put.ensures.items, append_assoc)
          (left-push (length g.callers) s.cursor c.first_out-self.result (g.rules + 2) s.path.items (omega (arith, room, walk.count, walk.flags)));
    }

pub put-requires : goal.put-requires
put-requires c =
    let walk = c.requires.trying.ready.walk in
    omega (arith, c.args.self.now.path.ok.0, walk.count, walk.flags, walk.room, marked-le c.args.self.now.seen.items)
