use Rattle.std.proofs.Common.{◌≡◌, ◌<◌, ◌∙◌, sym, ap, length, arith}
use Rattle.ipg_graph.specs.Graph.{caller}
use Rattle.ipg_graph.specs.Walk.{step}
use Rattle.ipg_graph.proofs.WalkLemmas.{step-off}
use Rattle.ipg_graph.proofs.SearchLemmas.{state-open}
use Rattle.ipg_graph.proofs.search.Search.following.Goals as goal

pub returns : goal.returns
returns c =
    let s = c.args.self.now in
    let some : 0 < length s.path.items = c.is_at_root.ensures.away c.if-is_at_root.false in
    let at : caller s.links c.args.edge ≡ s.tip = c.requires.at_tip some in
    record {
      choice = record {
        within = c.next_out.ensures.within;
        at_tip = λ _ lt. c.next_out.ensures.here lt ∙ at;
      };
      after = omega (arith, c.next_out.ensures.from);
      skipped = λ j from below. ap (λ x. step s.links x j) (state-open s.path.items s.start s.tip s.seen.items some)
          ∙ step-off s.links s.start s.tip s.seen.items j (λ is. c.next_out.ensures.none j (omega arith) below (is ∙ sym at));
    }
