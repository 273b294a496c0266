use Rattle.ipg_app_reply_laws.proofs.Replying as replying
use Rattle.ipg_app_reply_laws.proofs.laws.some_reply.Goals as goal

pub returns : goal.returns
returns c = replying.some_reply (record {
  readable = c.read_is_readable.ensures;
  faultless = c.faultless_is_formed.ensures;
  completing = c.completed_is_formed.ensures;
  as_ordered = c.good_as_ordered.ensures;
  are_parts = c.conditions_are_parts.ensures;
  is_part = c.joint_is_part.ensures;
  noted = c.noted_somehow.ensures;
  accepts = c.accepts_is_total.ensures;
  held = c.held_is_total.ensures;
  of_one = c.text_is_of_one.ensures;
  ends = c.ends_as_meant.ensures;
  are_known = c.keys_are_known.ensures;
  over = c.counts_over.ensures;
  none_run = c.none_where_first_kept.ensures;
  all_run = c.all_where_none_kept.ensures;
  holds = c.holds_its_bytes.ensures;
  within = c.lies_within.ensures;
  agree = c.leaves_agree.ensures;
  back = c.all_put_comes_back.ensures;
  refuted = c.gaps_are_refuted.ensures;
  bounded = c.gaps_are_bounded.ensures;
  inside = c.edges_are_inside.ensures;
})
