use Rattle.std.proofs.Common.{◌≡◌, ◌<◌, ◌+◌, ◌∙◌, sym, subst, length, arith, refl}
use Rattle.std.proofs.lemmas.List.{same_from_push}
use Rattle.ipg_graph.specs.Marks.{marked}
use Rattle.ipg_graph.specs.Walk.{state_of, step, run, Fresh, Closed}
use Rattle.ipg_graph.proofs.MarksLemmas.{marked-le}
use Rattle.ipg_graph.proofs.LeftLemmas.{left-skip}
use Rattle.ipg_graph.proofs.SearchLemmas.{same-behind}
use Rattle.ipg_graph.proofs.search.Search.resume.Goals as goal

pub returns-in-Some : goal.returns-in-Some
returns-in-Some c =
    let s = c.args.self.now in
    let p = c.pop.new.self.items in
    let walk = c.requires.walk in
    let next = c.following-self.ensures in
    let parts = same_from_push c.requires.walked p c.requires.last c.in-Some.edge (sym c.requires.path ∙ c.in-Some.ensures.items) in
    let runs : run s.links Fresh p ≡ state_of p s.start s.tip s.seen.items =
    subst (λ l. run s.links Fresh l ≡ state_of l s.start s.tip s.seen.items) parts.0 walk.runs in
    let closes : step s.links (state_of p s.start s.tip s.seen.items) c.in-Some.edge ≡ Closed =
    subst (λ l. step s.links (state_of l s.start s.tip s.seen.items) c.in-Some.edge ≡ Closed) parts.0
    (subst (λ e. step s.links (state_of c.requires.walked s.start s.tip s.seen.items) e ≡ Closed) parts.1 c.requires.closes) in
    record {
      links = refl;
      ready = record {
        walk = record {
          whole = walk.whole;
          runs = runs;
          flags = walk.flags;
          count = subst (λ l. length l ≡ marked s.seen.items) parts.0 walk.count;
          room = omega (arith, walk.room, c.pop.ensures.capacity);
          sized = walk.sized;
          begun = subst (λ l. 0 < length l → s.start < s.links.rules) parts.0 walk.begun;
          tip = subst (λ l. 0 < length l → s.tip < s.links.rules) parts.0 walk.tip;
          closed = walk.closed;
        };
        choice = record { within = next.choice.within; at_tip = next.choice.at_tip };
      };
      behind = rw c.in-Some.ensures.items
          (same-behind s.links p (state_of p s.start s.tip s.seen.items) c.in-Some.edge c.following-self.result runs closes next.after next.skipped);
      less = rw c.in-Some.ensures.items
          (left-skip (length s.links.callers) c.in-Some.edge c.following-self.result next.after next.choice.within (s.links.rules + 2) p
          (omega (arith, subst (λ l. length l ≡ marked s.seen.items) parts.0 walk.count, walk.flags, marked-le s.seen.items)));
    }
