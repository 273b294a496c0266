use Rattle.ipg_edit.proofs.Editing as editing
use Rattle.ipg_edit.proofs.session.stays_known.Goals as goal

pub returns : goal.returns
returns c =
    let laws : editing.Laws = record {
      early = c.earlier_trees_stay.ensures;
      late = c.later_trees_move.ensures;
      long = c.edited_length.ensures;
      stays = c.known_stays.ensures;
      goes = c.known_moves.ensures;
      only = c.nothing_else.ensures;
      origin = c.one_origin.ensures;
      keys = c.keys_after_are_known.ensures;
      right = c.stays_right_to_know.ensures;
    } in
    record {
      knows = λ g kept t s h from to with memo knows allowed moved. editing.knows_later laws g kept t s h knows from to with allowed memo moved;
    }
