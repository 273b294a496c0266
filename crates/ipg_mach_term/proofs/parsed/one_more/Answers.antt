use Rattle.std.proofs.Common.{w64, ap, sym, ◌∙◌, subst, arith, rules, ◌<◌, ◌+ℤ◌, pos, FitsSigned}
use Rattle.std.proofs.lemmas.Int.{to_z-of_z}
use Rattle.ipg_mach_term.proofs.Making as making
use Rattle.ipg_mach_term.proofs.parsed.one_more.Goals as goal

pub returns : goal.returns
returns c src st at n u k state items one name is e a b item =
    let more : 1 < c.args.left = omega arith in
    let shown = to_z-of_z w64 c.args.item c.ranges.item in
    let fits = subst (λ i. FitsSigned w64 (i +ℤ pos 1)) (sym shown) (making.next_fits c.args.item c.args.left (omega arith) a b) in
    let fit : FitsSigned w64 c.next.result = search rules in
    let next = to_z-of_z w64 c.next.result fit ∙ c.next.ensures fits ∙ ap (λ i. i +ℤ pos 1) shown in
    making.one_more src st at n u state items c.args.kid one name c.args.left k c.args.item _ item e more next a b
