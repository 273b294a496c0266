use Rattle.std.proofs.Common.{◌≡◌, ◌++◌, take, flat_map}
use Rattle.ipg_app_explain.specs.Furthest.{story_lines}
use Rattle.ipg_app_explain.specs.Seen.{subject_of}
use Rattle.ipg_app_explain.proofs.furthest.add_stories.Given as goal

-- the failures gone over are told
abbrev pub invariant-loop-one : goal.invariant-loop-one
invariant-loop-one l = l.out.items ≡ l.fn.out.items ++ flat_map (story_lines (subject_of l.subject) l.names) (take l.one-index l.told)
