use Rattle.std.proofs.Common.{Some, ap, sym, ◌∙◌}
use Rattle.ipg_cover_leaves.specs.Bytes.{leaf_bytes, place_of}
use Rattle.ipg_cover_leaves.proofs.Insides.{fits, put_there}
use Rattle.ipg_cover_leaves.proofs.page.Page.put_leaf.Goals as goal

pub put_all-requires-clause-fits : goal.put_all-requires-clause-fits
put_all-requires-clause-fits c some =
    fits c.args.leaf.now _ _ (ap place_of c.in-Text.is) (ap leaf_bytes c.in-Text.is ∙ ap Some (sym c.as_slice.ensures)) _ c.requires.inside some

pub put_all-requires-in-Raw-clause-fits : goal.put_all-requires-in-Raw-clause-fits
put_all-requires-in-Raw-clause-fits c some =
    fits c.args.leaf.now _ _ (ap place_of c.in-Raw.is) (ap leaf_bytes c.in-Raw.is ∙ ap Some (sym c.as_slice-in-Raw.ensures)) _ c.requires.inside some

pub put_number-requires-clause-fits : goal.put_number-requires-clause-fits
put_number-requires-clause-fits c some =
    fits c.args.leaf.now _ _ (ap place_of c.in-Number.is) (ap leaf_bytes c.in-Number.is ∙ c.in-Some.ensures.1) _ c.requires.inside some

pub returns-in-Text-clause-put : goal.returns-in-Text-clause-put
returns-in-Text-clause-put c all holds =
    put_there c.args.leaf.now _ _ (ap place_of c.in-Text.is) (ap leaf_bytes c.in-Text.is ∙ ap Some (sym c.as_slice.ensures)) _ _ all
    (c.put_all.ensures.put all holds)

pub returns-in-Raw-clause-put : goal.returns-in-Raw-clause-put
returns-in-Raw-clause-put c all holds =
    put_there c.args.leaf.now _ _ (ap place_of c.in-Raw.is) (ap leaf_bytes c.in-Raw.is ∙ ap Some (sym c.as_slice-in-Raw.ensures)) _ _ all
    (c.put_all-in-Raw.ensures.put all holds)

pub returns-in-Some-clause-put : goal.returns-in-Some-clause-put
returns-in-Some-clause-put c all holds =
    put_there c.args.leaf.now _ _ (ap place_of c.in-Number.is) (ap leaf_bytes c.in-Number.is ∙ c.in-Some.ensures.1) _ _ all
    (c.put_number.ensures.put all holds)
