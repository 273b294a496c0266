use Rattle.std.proofs.Common.{Some, ap, sym, ◌++◌, ◌∙◌}
use Rattle.std.proofs.lemmas.Option.{slice_get-get_or}
use Rattle.ipg_app_values.specs.Notes.{IsValue}
use Rattle.ipg_app_values.specs.Seen.{site_of}
use Rattle.ipg_app_values.proofs.Turns.{next}
use Rattle.ipg_app_values.proofs.values.values.Goals as goal

pub loop-x-preserved : goal.loop-x-preserved
loop-x-preserved c =
    let there = slice_get-get_or _ _ _ c.loop-x-test.true ∙ ap Some (sym c.index-variables-x.is) in
    let longer = c.in_ok-extend_from_slice.ensures.items ∙ ap (λ own. c.loop-x.text.items ++ own) c.deref.ensures.value in
    next (IsValue (site_of c.args.site) c.args.c.now.formula c.args.c.now.bounds) c.loop-x.x c.args.variables.now c.index-variables-x.result c.loop-x.text.items
    c.in_ok-own.own.items c.extend_from_slice.new.self.items there c.loop-x.invariant c.in_ok-own.ensures longer
