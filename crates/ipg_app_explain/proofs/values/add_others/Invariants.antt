use Rattle.std.proofs.Common.{◌≡◌, ◌++◌, take, flat_map}
use Rattle.ipg_app_explain.specs.Values.{next_valued}
use Rattle.ipg_app_explain.proofs.values.add_others.Given as goal

-- the names gone over are told
abbrev pub invariant-loop-one : goal.invariant-loop-one
invariant-loop-one l = l.out.items ≡ l.fn.out.items ++ flat_map (next_valued l.g l.names l.f) (take l.one-index l.others)
