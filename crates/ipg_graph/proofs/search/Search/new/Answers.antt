use Rattle.std.proofs.Common.{◌≡◌, ◌∙◌, [], ◌∷◌, ◌++◌, false, replicate, sym, ap, length, arith, refl}
use Rattle.ipg_graph.specs.Marks.{marked}
use Rattle.ipg_graph.proofs.MarksLemmas.{marked-replicate, unseen-in}
use Rattle.ipg_graph.proofs.SearchLemmas.{runs-first}
use Rattle.ipg_graph.proofs.search.Search.new.Goals as goal

pub returns : goal.returns
returns c =
    let root : c.in_ok-path.path.items ≡ [] = c.in_ok-path.ensures.items in
    let empty : length c.in_ok-path.path.items ≡ 0 = ap length root in
    let clear : c.in_ok-seen.seen.items ≡ replicate c.rules-rules.result false = c.in_ok-seen.ensures.items_if_clones_equal (λ _ e. e) in
    let flags : length c.in_ok-seen.seen.items ≡ c.args.links.rules =
    omega (arith, c.in_ok-seen.ensures.len, c.in_ok-seen.seen.ok.0, c.rules-rules.ensures) in (
      (
        record {
          walk = record {
            whole = c.len-edges.ensures.whole;
            runs = runs-first c.args.links _ _ _ _ root;
            flags = flags;
            count = empty ∙ sym (ap marked clear ∙ marked-replicate c.rules-rules.result);
            room = omega (arith, c.in_ok-path.ensures.exact, c.rules-rules.ensures);
            sized = rw c.rules-rules.ensures at c.in_ok-reach.ensures;
            begun = λ some. absurd (omega (arith, empty));
            tip = λ some. absurd (omega (arith, empty));
            closed = record {
              callers = λ e counts to. absurd
                  (omega (arith, counts.above, unseen-in c.in_ok-seen.seen.items _ counts.unseen, flags, c.rules-rules.ensures));
            };
          };
          choice = record { within = omega arith; at_tip = λ some. absurd (omega (arith, empty)) };
        },
        ap (λ l. l ++ 0 ∷ []) root,
      ),
      (refl, refl),
    )
