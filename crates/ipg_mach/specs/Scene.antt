-- The term at hand of the highest call, as it is lent.
use Rattle.std.specs.Prelude.{◌≡◌, ℕ, ◌+◌, List, [], ◌∷◌, length, slice_get, Option, Some, None}
use Rattle.ipg_core.specs.declared.grammar.CoreTerm.{CoreTerm}
use Rattle.ipg_mach_moves.specs.Moves.{OpenCall, Highest, Works, Holds}
use Rattle.ipg_mach_nodes.specs.Stored.{Source}
use Rattle.ipg_table.specs.Rows.{HoldsTerm}
use Rattle.ipg_mach_slot.specs.Now.{lent, Stands, AreResults}
use Rattle.ipg_mach_term.specs.Advance.{IsEntry, environment_at}
use Rattle.ipg_mach_node.specs.Items.{HasItems}
use Rattle.ipg_mach.specs.Calls.{items_in}
use Rattle.ipg_mach.specs.declared.scene.Scene as code

-- the term at hand of an open call, and what the call has come to
pub record IsScene {A : Type 0} (src : Source) (s : code.Scene A) (c : OpenCall) : Type 0 where
  pub number : ℕ
  pub rest : List ℕ
  pub left : c.left ≡ number ∷ rest
  pub term : CoreTerm
  pub is_term : slice_get c.terms number ≡ Some term
  pub is_number : s.instr.term ≡ number
  pub holds : HoldsTerm s.site.tables.now s.instr.action term
  pub entry : IsEntry s.site.size s.entry (items_in c.entry) c.entry
  pub stands : Stands (lent s.now) (environment_at c.frame c.state number c.entry term)
  -- the call
  pub rule : c.frame.rule ≡ s.rule
  pub alt : c.frame.alt ≡ s.alt
  pub begins : c.from ≡ s.from
  pub ends : c.from + length c.frame.bytes ≡ s.to
  pub bytes : c.frame.bytes ≡ s.site.bytes.now
  pub size : length s.site.bytes.now ≡ s.site.size
  -- what it has come to
  pub syms : src.syms ≡ s.site.tables.now.syms
  pub done : AreResults src s.now.store.now c.from s.site.size s.now.done.now c.state.done
  pub have : HasItems src s.now.store.now c.from s.site.size s.items.now (items_in c.entry)

-- none where the call has no term left
abbrev pub ShowsAtHand : {A : Type 0} → Source → Option (code.Scene A) → OpenCall → Type 0
ShowsAtHand src None c = c.left ≡ []
ShowsAtHand src (Some s) c = IsScene src s c

-- none where the highest call holds its answer
abbrev pub IsSceneOf : {A : Type 0} → Source → Option (code.Scene A) → Highest → Type 0
IsSceneOf src scene (Works c) = ShowsAtHand src scene c
IsSceneOf src None (Holds key answer) = Unit {0}
IsSceneOf src (Some s) (Holds key answer) = ⊥
