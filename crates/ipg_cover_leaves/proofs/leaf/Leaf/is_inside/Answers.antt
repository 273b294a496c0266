use Rattle.std.proofs.Common.{ℕ, arith, subst, sym, ◌∙◌, MatchBool, eqb, ap₂, min, ◌+◌}
use Rattle.std.proofs.lemmas.Bool.{leb-true, leb-false}
use Rattle.std.proofs.Math.Dec.{leb}
use Rattle.ipg_cover_leaves.specs.Back.{IsInside}
use Rattle.ipg_cover_leaves.proofs.Firsts.{matched}
use Rattle.ipg_cover_leaves.proofs.Insides.{is_inside, ends_inside, sum_within, sum_past}
use Rattle.ipg_cover_leaves.proofs.leaf.Leaf.is_inside.Goals as goal

pub returns-then-count-eq0 : goal.returns-then-count-eq0
returns-then-count-eq0 c =
    let bytes = c.requires.0 in let is = c.requires.1 in
    subst (λ (n : ℕ). MatchBool (eqb n 0) (IsInside c.args.len c.args.self.now) (¬ IsInside c.args.len c.args.self.now)) (sym c.if-count-eq0.true)
    (is_inside c.args.len c.args.self.now bytes is (λ some. absurd (omega (arith, some, c.len-count.ensures bytes is, c.if-count-eq0.true))))

pub returns-else-count-eq0 : goal.returns-else-count-eq0
returns-else-count-eq0 c =
    let leaf = c.args.self.now in let bytes = c.requires.0 in let is = c.requires.1 in
    let count = c.len-count.ensures bytes is in let from = c.from-else-count-eq0.ensures ∙ c.from.ensures in
    let sum = c.saturating_add.ensures ∙ ap₂ (λ (a b : ℕ). min (a + b) 18446744073709551615) from count in
    matched (leb c.saturating_add.result c.from-else-count-eq0-2.result)
    (λ yes. is_inside c.args.len leaf bytes is (λ some. sum_within _ _ _ _ _ sum (omega (arith, c.ranges.len))
    (omega (arith, leb-true _ _ yes, c.from-else-count-eq0-2.ensures))))
    (λ no inside. sum_past _ _ _ _ c.args.len sum (omega (arith, leb-false _ _ no, c.from-else-count-eq0-2.ensures))
    (ends_inside c.args.len leaf bytes is inside (omega (arith, count, c.if-count-eq0.false))))
