-- Flags of rules on the way to all that are reached: what is flagged is reached, and a pass over the edges flags more or ends.
use Rattle.std.specs.Prelude.{◌≡◌, ℕ, ◌+◌, ◌<◌, List, [], ◌∷◌, Bool, true, false, slice_set, Contains}
use Rattle.ipg_core.specs.MustTouch.{Marks, is_marked}
use Rattle.ipg_graph.specs.declared.edge.Edge.{Edge}
use Rattle.ipg_cover.specs.Reach.{Leads}

abbrev pub AreSound : List Edge → Marks → Type 0
AreSound edges flags = (rule : ℕ) → is_marked flags rule ≡ true → Leads edges rule

-- whom a flagged rule calls is flagged
abbrev pub IsFollowed : Marks → Edge → Type 0
IsFollowed flags e = is_marked flags e.caller ≡ true → is_marked flags e.callee ≡ true

abbrev pub AreClosed : List Edge → Marks → Type 0
AreClosed edges flags = (e : Edge) → Contains edges e → IsFollowed flags e

-- the callee is flagged since the caller is, or all flags stay
abbrev pub Stepped : Bool → Marks → Edge → Marks → Type 0
Stepped true old e new = (new ≡ slice_set old e.callee true) × (is_marked old e.caller ≡ true) × (is_marked old e.callee ≡ false)
Stepped false old e new = (new ≡ old) × IsFollowed old e

abbrev pub unset : Marks → ℕ
unset [] = 0
unset (true ∷ flags) = unset flags
unset (false ∷ flags) = unset flags + 1

-- a pass over edges: something was flagged, or nothing and their callees are flagged
abbrev pub Passed : Bool → List Edge → Marks → Marks → Type 0
Passed true edges old new = unset new < unset old
Passed false edges old new = (new ≡ old) × AreClosed edges new
