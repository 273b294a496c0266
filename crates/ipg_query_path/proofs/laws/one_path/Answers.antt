use Rattle.ipg_reader.specs.Stepwise.{read_back, same_found}
use Rattle.ipg_query_path.proofs.Answered.{reader}
use Rattle.ipg_query_path.proofs.laws.one_path.Goals as goal

pub returns : goal.returns
returns c text query other is also = same_found reader text query other (read_back reader text query is.fits is.written) also.fits also.written
