-- The first visit of a walk.
use Rattle.std.proofs.Common.{◌≡◌, ℕ, ◌+◌, ◌-◌, ◌*◌, ◌^◌, ◌<◌, ◌≤◌, sym, ap, ◌∙◌, refl, subst, arith, inl, inr, true, List, [], ◌∷◌, length, append-nil}
use Rattle.std.proofs.lemmas.Bool.{cases_lt}
use Rattle.std.proofs.Math.Nat.{pow-succ'}
use Rattle.std.proofs.Common.{add-one}
use Rattle.std.specs.Prelude.{slice_get, Some}
use Rattle.ipg_core.specs.Tree as tree
use Rattle.ipg_core.specs.Tree.{Tree}
use Rattle.ipg_region.specs.declared.region.RunId.{RunId}
use Rattle.ipg_mach_nodes.specs.declared.kid.Node.{Node}
use Rattle.ipg_mach_nodes.specs.Stored.{Stored, Source, StandsTree, tree_levels}
use Rattle.ipg_tree_walk.specs.declared.walk.Visit.{Visit}
use Rattle.ipg_tree_walk.specs.Visits.{Seen, seen, size_of, whole, visits}
use Rattle.ipg_tree_walk.specs.Left.{Shows, Leave}
use Rattle.ipg_tree_walk.specs.Stack.{Stacked}
use Rattle.ipg_tree_walk.specs.Falls.{wide, some_steps}
use Rattle.ipg_tree_walk.specs.Steps.{steps}
use Rattle.ipg_tree_walk.specs.Parse.{Walked, Left, LeftBy}
use Rattle.ipg_tree_walk.proofs.Walking.{Entered, its_visits, heads, tails}

pub at_first : (src : Source) (p : Walked) (left : List Seen) → p.is_ahead ≡ true → Left src p left → LeftBy true src p left
at_first src p left e h = subst (λ b. LeftBy b src p left) e h

none_entered : (room : ℕ) (stack : Stacked) → stack.levels ≡ [] → steps stack.room stack.levels < wide ^ (room + 1)
none_entered room stack e =
    let n = ap (steps stack.room) e in
    let some = some_steps (room + 1) in
    omega (arith, n, some)

one_entered : (room n : ℕ) → n ≤ (2 ^ 64 + 1) * wide ^ room → n < wide ^ (room + 1)
one_entered room n le =
    let some = some_steps room in
    let more = ap (λ k. wide ^ k) (add-one room) ∙ pow-succ' wide room in
    omega (arith, le, some, more)

-- what the root is entered with has fewer steps than all of the walk
pub entered : (room : ℕ) (cleared stack : Stacked) → cleared.room ≡ room → cleared.levels ≡ []
    → (cleared.room ≤ length cleared.levels → stack.levels ≡ cleared.levels)
    → (length cleared.levels < cleared.room
    → steps stack.room stack.levels ≤ (2 ^ 64 + 1) * wide ^ (cleared.room - length cleared.levels) + steps cleared.room cleared.levels)
    → steps stack.room stack.levels < wide ^ (room + 1)
entered room cleared stack is none full ends = elim (cases_lt (length cleared.levels) cleared.room) [
  | inl lt ↦ one_entered room _ (
      let bound = ap (λ levels. (2 ^ 64 + 1) * wide ^ (cleared.room - length levels) + steps cleared.room levels) none in
      let all = ap (λ r. wide ^ r) (let e : cleared.room - 0 ≡ room = omega (arith, is) in e) in
      let le = ends lt in
      omega (arith, bound, all, le))
  | inr ge ↦ none_entered room stack (full ge ∙ none)
]

-- a tree has no more levels than its node says
levels_fit : (src : Source) (st : Stored) (id : RunId) (at room : ℕ) (one : Tree) → StandsTree src st at id one
    → ((node : Node) → slice_get st.nodes id.place ≡ Some (node ∷ []) → node.levels ≤ room) → 0 + tree_levels one ≤ room
levels_fit src st id at room (tree.Node rule size attrs start end kids) stands roomy =
    let has = stands.1 in
    let levels = has.are_levels in
    let le = roomy has.node has.is_node in
    omega (arith, levels, le)

-- behind the visit of the root the rest of its visits is left
pub root_left : (src : Source) (st : Stored) (id : RunId) (visit : Visit) (one : Tree) (first : Seen) (more : List Seen) (cleared stack : Stacked) (n : ℕ)
    → cleared.levels ≡ [] → ((node : Node) → slice_get st.nodes id.place ≡ Some (node ∷ []) → node.levels ≤ cleared.room) → StandsTree src st 0 id one
    → Shows src st visit (seen 0 0 (size_of one) (whole one)) → visits one ≡ first ∷ more
    → Entered src st cleared.room cleared.levels 0 n visit.kid stack.room stack.levels
    → Shows src st visit first × Leave src st stack.room stack.levels more
root_left src st id visit one first more cleared stack n none roomy stands shows is enter =
    let into = subst (λ levels. Entered src st cleared.room levels 0 n visit.kid stack.room stack.levels) none enter in
    let all = sym (its_visits 0 0 (size_of one) (whole one)) ∙ is in
    let inner = into (whole one) [] shows.stands (omega arith) (omega arith) (levels_fit src st id 0 cleared.room one stands roomy) refl in (
      subst (Shows src st visit) (heads src st _ _ _ _ all) shows,
      subst (Leave src st stack.room stack.levels) (append-nil _ ∙ tails src st _ _ _ _ all) inner,
    )
