use Rattle.std.proofs.Common.{List, ℕ, refl, sym, ap, subst}
use Rattle.ipg_core.specs.Lines.{lines}
use Rattle.ipg_query.specs.Picked.{picked}
use Rattle.ipg_tree.specs.Json.{json}
use Rattle.ipg_tree_view.specs.Picked.{picked_view}
use Rattle.ipg_tree_view.specs.View.{view}
use Rattle.ipg_app_tree.specs.Queried.{picks_text}
use Rattle.ipg_app_tree.specs.Shown.{Shows}
use Rattle.ipg_app_tree.proofs.Meant.{puts_of}
use Rattle.ipg_app_tree.proofs.answering.put.Goals as goal

pub returns-in-Lines : goal.returns-in-Lines
returns-in-Lines g c src grammar one h same holds =
    let text = lines grammar one 0 in
    let shows = subst (λ show. Shows show grammar c.args.input.now one text) (sym c.in-Lines.is) refl in
    puts_of c.args.show.now grammar c.args.input.now one text c.put_lines.result _ _ _ _ shows (c.put_lines.ensures src grammar one h)

pub returns-in-Json : goal.returns-in-Json
returns-in-Json g c src grammar one h same holds =
    let text = json grammar one in
    let shows = subst (λ show. Shows show grammar c.args.input.now one text) (sym c.in-Json.is) refl in
    puts_of c.args.show.now grammar c.args.input.now one text c.put_json.result _ _ _ _ shows (c.put_json.ensures src grammar one h)

pub returns-in-View : goal.returns-in-View
returns-in-View g c src grammar one h same holds =
    let text = view grammar c.args.input.now one in
    let shows = subst (λ show. Shows show grammar c.args.input.now one text) (sym c.in-View.is) refl in
    puts_of c.args.show.now grammar c.args.input.now one text c.put_view.result _ _ _ _ shows (c.put_view.ensures src grammar one h same)

pub returns-in-Picked : goal.returns-in-Picked
returns-in-Picked g c src grammar one h same holds =
    let text : List ℕ → List ℕ = λ bytes. picks_text (picked grammar bytes c.in-Picked.query one) in
    let here = text c.args.parsed.now.parse.input in
    let shows = subst (λ show. Shows show grammar c.args.input.now one here) (sym c.in-Picked.is) (ap text same) in
    puts_of c.args.show.now grammar c.args.input.now one here c.put_picked.result _ _ _ _ shows (c.put_picked.ensures src grammar one h)

pub returns-in-PickedView : goal.returns-in-PickedView
returns-in-PickedView g c src grammar one h same holds =
    let text : List ℕ → List ℕ = λ bytes. picked_view grammar bytes c.in-PickedView.query one in
    let here = text c.args.parsed.now.parse.input in
    let shows = subst (λ show. Shows show grammar c.args.input.now one here) (sym c.in-PickedView.is) (ap text same) in
    puts_of c.args.show.now grammar c.args.input.now one here c.put_picked_view.result _ _ _ _ shows (c.put_picked_view.ensures src grammar one h)
