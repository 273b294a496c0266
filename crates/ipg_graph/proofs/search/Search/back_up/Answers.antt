use Rattle.std.proofs.Common.{◌+◌, ◌∙◌, false, set, ap, subst, length, arith, refl, length-set, append_assoc}
use Rattle.std.proofs.lemmas.List.{length_push}
use Rattle.ipg_graph.specs.Walk.{state_of}
use Rattle.ipg_graph.specs.Graph.{caller}
use Rattle.ipg_graph.specs.Reach.{IsClosed}
use Rattle.ipg_graph.proofs.MarksLemmas.{marked-le}
use Rattle.ipg_graph.proofs.LeftLemmas.{left-pop}
use Rattle.ipg_graph.proofs.SearchLemmas.{walks-back, same-back, past-end}
use Rattle.ipg_graph.proofs.search.Search.back_up.Goals as goal

pub caller-self-requires : goal.caller-self-requires
caller-self-requires c =
    let s = c.args.self.now in
    let walk = c.requires.ready.walk in
    let back = walks-back s.links s.path.items c.pop.new.self.items c.in-Some.edge s.start s.tip s.seen.items walk.whole c.in-Some.ensures.items walk.runs
    walk.count (walk.tip c.requires.some) in
    back.inside

pub following-self-requires-clause-walk : goal.following-self-requires-clause-walk
following-self-requires-clause-walk c =
    let s = c.args.self.now in
    let walk = c.requires.ready.walk in
    let back = walks-back s.links s.path.items c.pop.new.self.items c.in-Some.edge s.start s.tip s.seen.items walk.whole c.in-Some.ensures.items walk.runs
    walk.count (walk.tip c.requires.some) in
    record {
      whole = walk.whole;
      runs = rw c.caller-self.ensures back.runs;
      flags = length-set s.seen.items s.tip false ∙ walk.flags;
      count = back.count;
      room = omega (arith, walk.room, c.pop.ensures.capacity);
      sized = c.fill.ensures.sized;
      begun = λ _. walk.begun c.requires.some;
      tip = λ _. rw c.caller-self.ensures back.live;
      closed = subst (λ l. IsClosed s.links s.start l c.fill.new.self.marks.items) c.as_slice.ensures.value c.fill.ensures.closed;
    }

pub following-self-requires-clause-within : goal.following-self-requires-clause-within
following-self-requires-clause-within c =
    let s = c.args.self.now in
    let walk = c.requires.ready.walk in
    let back = walks-back s.links s.path.items c.pop.new.self.items c.in-Some.edge s.start s.tip s.seen.items walk.whole c.in-Some.ensures.items walk.runs
    walk.count (walk.tip c.requires.some) in
    back.inside

pub returns-in-Some : goal.returns-in-Some
returns-in-Some c =
    let s = c.args.self.now in
    let walk = c.requires.ready.walk in
    let p = c.pop.new.self.items in
    let back = walks-back s.links s.path.items p c.in-Some.edge s.start s.tip s.seen.items walk.whole c.in-Some.ensures.items walk.runs walk.count
    (walk.tip c.requires.some) in
    let next = c.following-self.ensures in
    record {
      links = refl;
      ready = record {
        walk = record {
          whole = walk.whole;
          runs = rw c.caller-self.ensures back.runs;
          flags = length-set s.seen.items s.tip false ∙ walk.flags;
          count = back.count;
          room = omega (arith, walk.room, c.pop.ensures.capacity);
          sized = c.fill.ensures.sized;
          begun = λ _. walk.begun c.requires.some;
          tip = λ _. rw c.caller-self.ensures back.live;
          closed = subst (λ l. IsClosed s.links s.start l c.fill.new.self.marks.items) c.as_slice.ensures.value c.fill.ensures.closed;
        };
        choice = record { within = next.choice.within; at_tip = next.choice.at_tip };
      };
      same = rw c.in-Some.ensures.items
          (same-back s.links p (state_of p s.start (caller s.links c.in-Some.edge) (set s.seen.items s.tip false)) c.in-Some.edge s.cursor
          c.following-self.result s.start s.tip s.seen.items
          back.long (walk.tip c.requires.some) (λ i from. past-end s.links i (omega (arith, c.requires.done))) back.runs next.after
          (rw c.caller-self.ensures at next.skipped));
      less = rw (c.in-Some.ensures.items, append_assoc)
          (left-pop (length s.links.callers) c.in-Some.edge s.cursor c.following-self.result next.after next.choice.within (s.links.rules + 2) p
          (omega (arith, walk.count, walk.flags, marked-le s.seen.items, ap length c.in-Some.ensures.items, length_push p c.in-Some.edge)));
    }
