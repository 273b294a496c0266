use Rattle.std.proofs.Common.{◌≡◌, ◌++◌, ◌∷◌, [], ap, sym, ◌∙◌, arith, refl, subst, true, false, add-one, length, ◌<◌, ◌≤◌}
use Rattle.std.specs.Prelude.{slice_set}
use Rattle.std.proofs.lemmas.Option.{slice_get_read}
use Rattle.ipg_facts_forms.specs.declared.fact.Part.{Part}
use Rattle.ipg_facts_variables.specs.Variable.{same_variable}
use Rattle.ipg_facts_forms.specs.Form.{add_part}
use Rattle.ipg_facts_forms.proofs.Parts.{Differ, found, other, nowhere}
use Rattle.ipg_facts_forms.specs.Pieces.{on_ok}
use Rattle.ipg_facts_forms.proofs.form.add_part.Goals as goal

pub returns-then-same_variable : goal.returns-then-same_variable
returns-then-same_variable c =
    let xs = c.loop-at.parts.items in
    let at = c.loop-at.at in
    let p = c.args.part.now in
    let x = c.index.result.now in
    let within : at < length xs = omega (arith, c.len-at-end.ensures, ap length c.loop-at.invariant.0) in
    let here = slice_get_read xs _ at x refl within c.index.ensures in
    let y = c.index_mut.result.now in
    let there = slice_get_read xs _ at y refl within c.index_mut.ensures.value in
    let one : x ≡ y = cc in
    let same : same_variable y.variable p.variable ≡ true = sym (c.same_variable.ensures ∙ ap (λ (z : Part). same_variable z.variable p.variable) one)
    ∙ c.if-same_variable.true in
    on_ok c.add_factor.result _ _
    (λ e. ap (slice_set xs at) e ∙ found at xs y p c.loop-at.invariant.1 there same ∙ ap (λ ps. add_part ps p) c.loop-at.invariant.0)
    c.add_factor.ensures

pub loop-at-preserved : goal.loop-at-preserved
loop-at-preserved c =
    let xs = c.loop-at.parts.items in
    let at = c.loop-at.at in
    let p = c.args.part.now in
    let x = c.index.result.now in
    let within : at < length xs = omega (arith, c.len-at-end.ensures, ap length c.loop-at.invariant.0) in
    let here = slice_get_read xs _ at x refl within c.index.ensures in
    let differs : same_variable x.variable p.variable ≡ false = sym c.same_variable.ensures ∙ c.if-same_variable.false in
    (c.loop-at.invariant.0, subst (λ n. Differ n xs p) (sym (add-one at)) (other at xs x p c.loop-at.invariant.1 here differs))

pub returns : goal.returns
returns c =
    let xs = c.loop-at.parts.items in
    let p = c.args.part.now in
    let past : length xs ≤ c.loop-at.at = omega (arith, c.len-at-end.ensures, ap length c.loop-at.invariant.0) in
    c.in_ok-push.ensures.items ∙ ap (λ q. xs ++ q ∷ []) c.in_ok-copy_part.ensures
    ∙ nowhere c.loop-at.at xs p c.loop-at.invariant.1 past ∙ ap (λ ps. add_part ps p) c.loop-at.invariant.0
