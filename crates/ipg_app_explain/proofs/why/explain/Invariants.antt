use Rattle.std.proofs.Common.{◌≡◌, ◌++◌, take, flat_map}
use Rattle.ipg_app_explain.specs.Spot.{spot_lines}
use Rattle.ipg_app_explain.proofs.why.explain.Given as goal

-- the places gone over are told
abbrev pub invariant-loop-at : goal.invariant-loop-at
invariant-loop-at l = l.out.items ≡ l.said ++ flat_map (spot_lines l.source.name.now l.source.text.now) (take l.at-index l.places)
