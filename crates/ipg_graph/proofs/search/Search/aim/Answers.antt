use Rattle.std.proofs.Common.{◌≡◌, ◌<◌, ◌∙◌, [], sym, ap, subst, length, refl}
use Rattle.ipg_graph.specs.Graph.{caller}
use Rattle.ipg_graph.specs.Walk.{step}
use Rattle.ipg_graph.specs.Reach.{IsClosed}
use Rattle.ipg_graph.proofs.WalkLemmas.{step-at}
use Rattle.ipg_graph.proofs.SearchLemmas.{state-open, tries-first, runs-first}
use Rattle.ipg_graph.proofs.search.Search.aim.Goals as goal

pub returns-then-not-is_at_root : goal.returns-then-not-is_at_root
returns-then-not-is_at_root c =
    let s = c.args.self.now in
    let some : 0 < length s.path.items = c.is_at_root.ensures.away c.if-not-is_at_root.true in
    let live : caller s.links s.cursor < s.links.rules = subst (λ v. v < s.links.rules) c.requires.at c.requires.live in
    record {
      links = refl;
      path = refl;
      cursor = refl;
      trying = record {
        ready = c.requires.ready;
        within = c.requires.within;
        live = live;
        begun = c.requires.ready.walk.begun some;
        tries = ap (λ x. step s.links x s.cursor) (state-open s.path.items s.start s.tip s.seen.items some)
            ∙ step-at s.links s.start s.tip s.seen.items s.cursor (c.requires.ready.choice.at_tip some c.requires.within);
      };
    }

pub returns-then-rule-self : goal.returns-then-rule-self
returns-then-rule-self c =
    let s = c.args.self.now in
    let root : s.path.items ≡ [] = c.is_at_root.ensures.root c.if-not-is_at_root.false in
    let live : caller s.links s.cursor < s.links.rules = subst (λ v. v < s.links.rules) c.requires.at c.requires.live in
    record {
      links = refl;
      path = refl;
      cursor = refl;
      trying = record {
        ready = c.requires.ready;
        within = c.requires.within;
        live = live;
        begun = subst (λ v. v < s.links.rules) c.if-rule-self.true c.requires.live;
        tries = tries-first s.links s.path.items s.start s.tip s.seen.items s.cursor root
            c.requires.ready.walk.count c.requires.ready.walk.flags live (sym c.requires.at ∙ c.if-rule-self.true);
      };
    }

pub returns : goal.returns
returns c =
    let s = c.args.self.now in
    let root : s.path.items ≡ [] = c.is_at_root.ensures.root c.if-not-is_at_root.false in
    let walk = c.requires.ready.walk in
    let live : caller s.links s.cursor < s.links.rules = subst (λ v. v < s.links.rules) c.requires.at c.requires.live in
    record {
      links = refl;
      path = refl;
      cursor = refl;
      trying = record {
        ready = record {
          walk = record {
            whole = walk.whole;
            runs = runs-first s.links s.path.items c.args.rule s.tip s.seen.items root;
            flags = walk.flags;
            count = walk.count;
            room = walk.room;
            sized = c.fill.ensures.sized;
            begun = λ _. c.requires.live;
            tip = walk.tip;
            closed = subst (λ l. IsClosed s.links c.args.rule l c.fill.new.self.marks.items) c.as_slice.ensures.value c.fill.ensures.closed;
          };
          choice = record { within = c.requires.ready.choice.within; at_tip = c.requires.ready.choice.at_tip };
        };
        within = c.requires.within;
        live = live;
        begun = c.requires.live;
        tries = tries-first s.links s.path.items c.args.rule s.tip s.seen.items s.cursor root
            walk.count walk.flags live (sym c.requires.at);
      };
    }
