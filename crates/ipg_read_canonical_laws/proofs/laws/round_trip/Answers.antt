use Rattle.ipg_read_canonical_laws.proofs.Trips as trips
use Rattle.ipg_read_canonical_laws.proofs.laws.round_trip.Goals as goal

pub returns : goal.returns
returns c = trips.round_trip c.gives_tokens_back.ensures c.reads_tokens_back.ensures
