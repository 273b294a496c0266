-- A grammar that leaves no byte out gives its inputs back.
use Rattle.std.proofs.Common.{inl, Ok, refl}
use Rattle.ipg_cover_laws.specs.Covered.{CoveredComesBack}
use Rattle.ipg_app_tree.specs.declared.show.Show.TheVariants.{Bytes}
use Rattle.ipg_app_text.specs.Said.{done}
use Rattle.ipg_app.specs.Laws.{OneParse, CoveredIsRebuilt}

pub covered_is_rebuilt : OneParse → CoveredComesBack → CoveredIsRebuilt
covered_is_rebuilt one_parse comes_back g input tree covered said good is_input c m p =
    let comes = comes_back g c.refutations m.height input tree good c.covers is_input m.is in
    one_parse Bytes g input said (done input) p (record { answer = Ok tree; means = m; is = inl (input, comes.is, refl) })
