use Rattle.std.proofs.Common.{◌≡◌, ◌+◌, ◌*◌, ◌<◌, ◌≤◌, true, false, length, get_or, set, sym, ap, subst, ◌∙◌, arith, length-set}
use Rattle.std.specs.List.{All}
use Rattle.std.proofs.lemmas.List.{length_push, get_or_default}
use Rattle.std.proofs.lemmas.List.Elements.{All-push}
use Rattle.ipg_graph_parts.specs.Finished.{rule_of, unseen}
use Rattle.ipg_graph_parts.specs.declared.finished.Move.TheVariants.{Leave}
use Rattle.ipg_graph_parts.proofs.Both.{on_ok_both}
use Rattle.ipg_graph_parts.proofs.WalkLemmas.{unseen-set, entered}
use Rattle.ipg_graph_parts.proofs.finished.Walk.enter.Goals as goal

pub enter_next-requires : goal.enter_next-requires
enter_next-requires c =
    let rules = c.args.links.now.rules in
    record {
      walk = record {
        seen = length-set c.args.self.now.seen.items c.args.rule true ∙ c.requires.walk.seen;
        moves = subst (All (λ move. rule_of move < rules)) (sym c.in_ok-push.ensures.items)
            (All-push (λ move. rule_of move < rules) c.args.self.now.moves.items (Leave c.args.rule) c.requires.walk.moves c.requires.inside);
        left = c.requires.walk.left;
      };
      inside = c.requires.inside;
    }

pub returns : goal.returns
returns c =
    let edges = length c.args.links.now.callers in
    let old = c.args.self.now in
    let new = c.enter_next.new.self in
    let now = set old.seen.items c.args.rule true in
    let below : c.args.rule < length old.seen.items = omega (arith, c.requires.inside, c.requires.walk.seen) in
    let fresh : get_or old.seen.items c.args.rule false ≡ false =
    get_or_default old.seen.items c.args.rule false c.index.result.now below ∙ (sym c.index.ensures ∙ c.if-index.false) in
    record {
      walk = c.enter_next.ensures.walk;
      less = on_ok_both _ _ _ c.enter_next.result
          (λ seen few.
          subst (λ s. length new.moves.items + unseen s * (edges + 2) ≤ length old.moves.items + unseen old.seen.items * (edges + 2)) (sym seen)
          (entered edges (length old.moves.items) (length new.moves.items) (unseen old.seen.items) (unseen now)
          (unseen-set old.seen.items c.args.rule fresh below)
          (omega (arith, few, ap length c.in_ok-push.ensures.items, length_push old.moves.items (Leave c.args.rule)))))
          c.enter_next.ensures.seen c.enter_next.ensures.few;
    }
