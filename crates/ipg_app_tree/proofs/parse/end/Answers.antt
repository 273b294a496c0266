use Rattle.std.proofs.Common.{refl}
use Rattle.ipg_core.specs.Run.{NoTree, OutOfRange}
use Rattle.ipg_app_text.specs.Said.{no_parse, range}
use Rattle.ipg_app_tree.proofs.Parsing.{shows_all, misses, says_stop}
use Rattle.ipg_app_tree.proofs.parse.end.Goals as goal

pub returns-in-Tree : goal.returns-in-Tree
returns-in-Tree g c show grammar input answer before counted means h =
    let given = rw c.in-Tree.is at h in
    shows_all show grammar input answer means before counted _ _ _ given.0 given.1 given.2 given.3 (c.finish.ensures before counted given.2 given.4)

pub returns-in-NoTree : goal.returns-in-NoTree
returns-in-NoTree g c show grammar input answer before counted means h =
    let given = rw c.in-NoTree.is at h in
    says_stop show grammar input answer means before counted _ _ _ NoTree given.0 no_parse refl _ _ given.1 given.2 c.tell.ensures

pub returns-in-Range : goal.returns-in-Range
returns-in-Range g c show grammar input answer before counted means h =
    let given = rw c.in-Range.is at h in
    says_stop show grammar input answer means before counted _ _ _ OutOfRange given.0 range refl _ _ given.1 given.2 c.tell-in-Range.ensures

pub returns-in-Gap : goal.returns-in-Gap
returns-in-Gap g c show grammar input answer before counted means h =
    let given = rw c.in-Gap.is at h in
    misses show grammar input answer means before counted _ _ _ given.0 given.1 c.in-Gap.at given.2 _ _ given.3 given.4 c.tell_gap.ensures
