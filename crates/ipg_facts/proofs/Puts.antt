-- Pieces that are put one after another.
use Rattle.ipg_facts_forms.specs.Pieces.{then, then_last}

pub ruleset in_turn = (then, then_last)
