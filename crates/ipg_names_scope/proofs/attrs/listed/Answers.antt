use Rattle.std.proofs.Common.{◌∙◌, sym, refl, [], ◌∷◌, ◌+◌, drop}
use Rattle.std.proofs.lemmas.List.{length-map}
use Rattle.ipg_names_scope.specs.Lookup.{shown}
use Rattle.ipg_names_scope.proofs.Lists.{drop_get, pieces}
use Rattle.ipg_names_scope.proofs.attrs.listed.Goals as goal

pub loop-at-init : goal.loop-at-init
loop-at-init c = record {
  so_far = rw c.in_ok-names.ensures.items refl;
  count_is = c.len-count.ensures.len
      ∙ sym (length-map c.args.attrs.now.names.keys (λ name. name.now));
}

pub loop-at-preserved : goal.loop-at-preserved
loop-at-preserved c =
    let all = shown c.args.attrs.now.names in
    let at = c.loop-at.at in
    let name = c.in_ok-name_at.field-0 in
    record {
      so_far = pieces c.loop-at.names.items (name ∷ []) _ (drop (at + 1) all) (drop at all) all c.in_ok-push.ensures.items
          (drop_get all at name c.in_ok-name_at.ensures) c.loop-at.invariant.so_far;
      count_is = c.loop-at.invariant.count_is;
    }
