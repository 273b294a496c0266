use Rattle.std.proofs.Common.{◌≡◌, ◌+◌, List, None, length}
use Rattle.ipg_core.specs.declared.grammar.CoreExpr.{CoreExpr}
use Rattle.ipg_core.specs.declared.grammar.CoreSlot.{CoreSlot}
use Rattle.ipg_core.specs.Meaning.{Frame, State, environment}
use Rattle.ipg_table.specs.Rows.{Each, HoldsCase}
use Rattle.ipg_mach_watch.proofs.Steps.{Picks}
use Rattle.ipg_mach_watch.proofs.terms.pick.Given as goal

-- the branches that are left fail as all do
abbrev pub invariant-loop-case : goal.invariant-loop-case
invariant-loop-case g l =
    ((f : Frame) (state : State) (branches : List (CoreExpr × CoreSlot)) (last : CoreSlot) → g.R.Results.stands l.results (environment f state None)
    → Each (HoldsCase l.site.tables.now) l.cases branches → Picks l.site.tables.now f state branches last l.left l.branch)
    × (l.branch + length l.left ≡ length l.cases) × (length l.area ≡ length l.fn.area)

abbrev pub decreases-loop-case : goal.decreases-loop-case
decreases-loop-case g l = length l.left
