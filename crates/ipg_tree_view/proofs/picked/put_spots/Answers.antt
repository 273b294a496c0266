use Rattle.std.proofs.Common.{◌≤◌, ap, sym, ◌∙◌, subst, refl, flat_map}
use Rattle.ipg_mach_nodes.specs.Stored.{kid_levels}
use Rattle.ipg_tree_view.specs.Picked.{shown_view}
use Rattle.ipg_tree.specs.Putting.{begun, next, exits, all_put}
use Rattle.ipg_tree_view.proofs.Members.{next_spot, no_spot}
use Rattle.ipg_tree_view.proofs.picked.put_spots.Goals as goal

pub loop-spot-init : goal.loop-spot-init
loop-spot-init g c = record {
  room = refl;
  so_far = λ src grammar xs shares are shallow. record {
    left = xs;
    are_spots = are;
    are_shallow = shallow;
    so_far = begun (flat_map (shown_view grammar c.args.p.now.parse.input c.args.field.now) xs) _ _;
  };
}

pub loop-spot-preserved : goal.loop-spot-preserved
loop-spot-preserved g c = record {
  room = c.put_shown.ensures.room ∙ c.loop-spot.invariant.room;
  so_far = λ src grammar xs shares are shallow.
      let f = shown_view grammar c.args.p.now.parse.input c.args.field.now in
      let h = c.loop-spot.invariant.so_far src grammar xs shares are shallow in
      let n = next_spot src c.args.p.now.parse.store c.args.walk.now.room c.args.spots.now c.loop-spot.spot-index _ h.left c.loop-spot-test.true
      h.are_spots h.are_shallow in
      let fits = subst (λ r. kid_levels n.first.child ≤ r) (sym c.loop-spot.invariant.room) n.is_shallow in
      record {
        left = n.more;
        are_spots = n.are_spots;
        are_shallow = n.are_shallow;
        so_far = next (ap (flat_map f) n.is) h.so_far (c.in_ok-put_shown.ensures.shown src grammar n.first shares n.is_spot fits);
      };
}

pub returns-in_err-put_shown : goal.returns-in_err-put_shown
returns-in_err-put_shown g c src grammar xs shares are shallow =
    let f = shown_view grammar c.args.p.now.parse.input c.args.field.now in
    let h = c.loop-spot.invariant.so_far src grammar xs shares are shallow in
    let n = next_spot src c.args.p.now.parse.store c.args.walk.now.room c.args.spots.now c.loop-spot.spot-index _ h.left c.loop-spot-test.true
    h.are_spots h.are_shallow in
    let fits = subst (λ r. kid_levels n.first.child ≤ r) (sym c.loop-spot.invariant.room) n.is_shallow in
    exits _ c.from_residual.result c.from_residual.ensures.1 (flat_map f n.more) (ap (flat_map f) n.is) h.so_far
    (c.in_err-put_shown.ensures.shown src grammar n.first shares n.is_spot fits)

pub returns : goal.returns
returns g c src grammar xs shares are shallow =
    let f = shown_view grammar c.args.p.now.parse.input c.args.field.now in
    let h = c.loop-spot.invariant.so_far src grammar xs shares are shallow in
    all_put (ap (flat_map f) (no_spot src c.args.p.now.parse.store c.args.spots.now c.loop-spot.spot-index h.left c.loop-spot-test.false h.are_spots)) h.so_far
