use Rattle.ipg_cover_laws.proofs.Gapless as gapless
use Rattle.ipg_cover_laws.proofs.laws.gapless_comes_back.Goals as goal

pub returns : goal.returns
returns c =
    gapless.gapless_comes_back c.missed_places_solve.ensures c.lies_within.ensures c.holds_its_bytes.ensures c.all_put_comes_back.ensures
    c.answers_are_one.ensures
