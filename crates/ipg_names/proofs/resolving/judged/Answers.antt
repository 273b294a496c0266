use Rattle.std.proofs.Common.{List, length, sym, ap, subst, ◌∙◌, arith}
use Rattle.std.proofs.lemmas.List.{length-map}
use Rattle.std.specs.List.{AllByRecursion}
use Rattle.ipg_names_scope.specs.Roster.{ListedRule, roster_from}
use Rattle.ipg_names_scope.specs.View.{entry_view, entries_view, IsFit}
use Rattle.ipg_names.proofs.Families.{roster_fit}
use Rattle.ipg_names.proofs.resolving.judged.Goals as goal

pub judged_roster-requires-clause-few : goal.judged_roster-requires-clause-few
judged_roster-requires-clause-few c =
    let whole = ap entries_view c.as_slice-2.ensures.value ∙ c.in_ok-roster.ensures ∙ ap (roster_from 0) c.as_slice.ensures in
    omega (arith, ap length whole, length-map c.as_slice-2.result.now entry_view, c.roster_is_whole.ensures 0 c.args.g.now.rules, c.requires.readable.count)

pub judged_roster-requires-clause-fit : goal.judged_roster-requires-clause-fit
judged_roster-requires-clause-fit c =
    let whole = ap entries_view c.as_slice-2.ensures.value ∙ c.in_ok-roster.ensures ∙ ap (roster_from 0) c.as_slice.ensures in
    let P : List ListedRule → Type 0 = AllByRecursion IsFit in
    subst P (sym whole) (roster_fit c.args.g.now c.requires.readable)
