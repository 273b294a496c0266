use Rattle.ipg_reader.specs.Stepwise.{read_back, same_found}
use Rattle.ipg_edit_script.proofs.Answered.{reader}
use Rattle.ipg_edit_script.proofs.laws.one_script.Goals as goal

pub returns : goal.returns
returns c text edits others is also =
    same_found reader text edits others (read_back reader text edits is.each is.written) also.each also.written
