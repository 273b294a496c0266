use Rattle.std.proofs.Common.{◌≡◌, ◌++◌, take, flat_map}
use Rattle.ipg_app_explain.specs.Furthest.{call_line}
use Rattle.ipg_app_explain.specs.Seen.{subject_of}
use Rattle.ipg_app_explain.proofs.calls.add_calls.Given as goal

-- the calls gone over are told
abbrev pub invariant-loop-call : goal.invariant-loop-call
invariant-loop-call l = l.out.items ≡ l.fn.out.items ++ flat_map (call_line (subject_of l.subject)) (take l.call-index l.calls)
