use Rattle.std.proofs.Common.{◌++◌, ◌∷◌, ◌+◌, ap, sym, ◌∙◌, add-one, drop, get_or}
use Rattle.std.proofs.lemmas.List.{drop_all}
use Rattle.std.proofs.Math.Seq.{drop-cons}
use Rattle.ipg_tree_view.proofs.Cuts.{lacks_byte, lacks_as}
use Rattle.ipg_tree_view.proofs.cut.Cut.push.Goals as goal

pub loop-byte-preserved : goal.loop-byte-preserved
loop-byte-preserved c all end h =
    let text = c.args.text.now in
    let i = c.loop-byte.byte-index in
    let b = get_or text i 0 in
    let next = drop-cons text i 0 c.loop-byte-test.true ∙ ap (λ k. b ∷ drop k text) (sym (add-one i)) in
    lacks_byte c.loop-byte.self c.push_byte.new.self all b (drop (i + 1) text ++ end) c.push_byte.ensures
    (lacks_as _ all _ _ (ap (λ t. t ++ end) next) (c.loop-byte.invariant all end h))

pub returns : goal.returns
returns c all end h =
    lacks_as _ all _ _ (ap (λ t. t ++ end) (drop_all c.loop-byte.byte-index c.args.text.now c.loop-byte-test.false)) (c.loop-byte.invariant all end h)
