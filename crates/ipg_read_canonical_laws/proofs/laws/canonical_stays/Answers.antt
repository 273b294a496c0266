use Rattle.ipg_read_canonical_laws.proofs.Trips as trips
use Rattle.ipg_read_canonical_laws.proofs.laws.canonical_stays.Goals as goal

pub returns : goal.returns
returns c = trips.canonical_stays c.gives_tokens_back.ensures c.reads_exactly.ensures c.keeps_tokens.ensures c.reads_shaped.ensures
    c.round_trip.ensures
