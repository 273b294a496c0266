-- A text is of one script.
use Rattle.std.specs.Prelude.{◌≡◌, ℕ, List}
use Rattle.ipg_edit_script.specs.declared.script.Edit.{Edit}
use Rattle.ipg_edit_script.specs.Scripts.{IsScript}

abbrev pub OneScript : Type 0
OneScript = (text : List ℕ) (edits others : List Edit) → IsScript edits text → IsScript others text → edits ≡ others
