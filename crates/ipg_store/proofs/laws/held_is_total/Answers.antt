use Rattle.ipg_store.proofs.laws.held_is_total.Goals as goal

pub returns : goal.returns
returns c file g cert holds = c.proves_is_total.ensures g cert holds.good holds.proves
