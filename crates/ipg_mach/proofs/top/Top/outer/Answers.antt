use Rattle.std.proofs.Common.{ap, sym, ◌∙◌, if◌then◌else◌}
use Rattle.ipg_core.specs.Grammar.{same_place}
use Rattle.ipg_core.specs.Meaning.{outer_for}
use Rattle.ipg_mach.proofs.Rows.{between_below}
use Rattle.ipg_mach.proofs.top.Top.outer.Goals as goal

pub returns-else-is_place-clause-outer : goal.returns-else-is_place-clause-outer
returns-else-is_place-clause-outer g c f own rule alt is_own outer inside base =
    let place = c.in-Some.place in
    let frame = c.args.self.now.frame in
    ap (outer_for f own) c.in-Some.is ∙ ap (λ r. if same_place place (r, f.alt) then own else f.outer) rule
    ∙ ap (λ a. if same_place place (frame.rule, a) then own else f.outer) alt
    ∙ ap (λ b. if b then own else f.outer) (sym c.is_place.ensures ∙ c.if-is_place.false) ∙ outer
    ∙ between_below c.args.self.now.piles.own frame.base.own frame.outer.from frame.outer.to inside
