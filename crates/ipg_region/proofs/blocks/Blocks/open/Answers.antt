use Rattle.std.proofs.Common.{◌≡◌, arith, length, ap, ◌∙◌, ◌++◌, ◌∷◌, []}
use Rattle.ipg_region.specs.Stack.{flat}
use Rattle.ipg_region.proofs.StackLemmas.{length_last, opened}
use Rattle.ipg_region.proofs.blocks.Blocks.open.Given.{Over}
use Rattle.ipg_region.proofs.blocks.Blocks.open.Goals as goal

-- the last block stands behind the full ones
more : (g : Over) (c : goal.After-self-1 g) → c.push_reserved.new.self.items ≡ c.self.inside.full.items ++ c.self.inside.last ∷ []
more g c =
    c.push_reserved.ensures.items ∙ ap (λ full. full ++ c.replace-last.result ∷ []) c.reserve.ensures.items
    ∙ ap (λ last. c.self.inside.full.items ++ last ∷ []) c.replace-last.ensures.value

pub invariant_of-self-2 : goal.invariant_of-self-2
invariant_of-self-2 g c =
    let n = ap (λ full. length (flat full)) (more g c) ∙ length_last c.self.inside.full.items c.self.inside.last in
    (omega (arith, n, c.len.ensures.value, c.self.invariant.0), omega (arith, c.if-before.false))

pub returns-clause-kept : goal.returns-clause-kept
returns-clause-kept g c =
    ap (λ full. flat full ++ c.replace-last.new.dest.runs) (more g c)
    ∙ ap (λ block. flat (c.self.inside.full.items ++ c.self.inside.last ∷ []) ++ block.runs) c.replace-last.ensures.after
    ∙ ap (λ runs. flat (c.self.inside.full.items ++ c.self.inside.last ∷ []) ++ runs) c.in_ok-block.ensures.empty
    ∙ opened c.self.inside.full.items c.self.inside.last
    ∙ ap (λ held. held.runs) c.self.view_is
