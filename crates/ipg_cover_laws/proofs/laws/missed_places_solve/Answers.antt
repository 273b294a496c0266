use Rattle.ipg_cover_laws.proofs.Covers as covers
use Rattle.ipg_cover_laws.proofs.laws.missed_places_solve.Goals as goal

pub returns : goal.returns
returns c =
    covers.missed_places_solve c.asks_what_fits.ensures c.calls_are_edges.ensures c.lies_within.ensures c.all_missed_solve.ensures
    c.holds_its_bytes.ensures c.covered_is_put.ensures
