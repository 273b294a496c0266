use Rattle.std.proofs.Common.{[], ◌∷◌, sym, ap, ◌∙◌}
use Rattle.ipg_mach_failures.specs.Values.{reads, with_values}
use Rattle.ipg_mach_watch.proofs.Reading as reading
use Rattle.ipg_mach_watch.proofs.reads.add_both.Goals as goal

pub returns : goal.returns
returns g c env a b stands one two =
    let old = c.args.values.now in
    c.add_expr-2.ensures env b stands two
    ∙ ap (λ v. with_values v (reads env b)) (c.add_expr.ensures env a stands one)
    ∙ sym (reading.with_first old (reads env) a (b ∷ []) ∙ reading.with_first (with_values old (reads env a)) (reads env) b [])
