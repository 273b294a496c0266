-- What is due at a position of the machine.
use Rattle.std.proofs.Common.{◌+◌, List, [], ◌∷◌}
use Rattle.ipg_read_syntax.specs.Classes.{level}
use Rattle.ipg_read_syntax.specs.Machine as M
use Rattle.ipg_read_syntax.specs.Machine.{Acts}
use Rattle.ipg_read_scan.specs.Lexemes.{coded_infix}
use Rattle.ipg_read_scan.specs.declared.row.Site.{Site}
use Rattle.ipg_read_scan.specs.declared.row.Site.TheVariants.{Global, Local}
use Rattle.ipg_read_scan.specs.declared.row.Role.{Role}
use Rattle.ipg_read_scan.specs.declared.row.Role.TheVariants as Use
use Rattle.ipg_read_scan.specs.declared.due.Due.{Due}
use Rattle.ipg_read_scan.specs.declared.due.Due.TheVariants as D

module _ {A : Acts} where
  abbrev pub use_role : M.SlotUse A → Role
  use_role M.alone = Use.Term
  use_role (M.chosen at cs c) = Use.Case
  use_role (M.other at cs) = Use.Other

  -- after a slot
  abbrev pub use_due : M.SlotUse A → List Due → List Due
  use_due M.alone r = r
  use_due (M.chosen at cs c) r = D.Cases at ∷ r
  use_due (M.other at cs) r = D.PickEnd at ∷ r

  abbrev pub frames_due : List (M.Frame A) → List Due → List Due
  frames_due [] r = D.Rest 0 ∷ r
  frames_due (M.neg ∷ fs) r = D.Neg ∷ frames_due fs r
  frames_due (M.isnt ∷ fs) r = D.Not ∷ frames_due fs r
  frames_due (M.left i a ∷ fs) r = D.Rest (level i + 1) ∷ D.Two (coded_infix i) ∷ frames_due fs r
  frames_due (M.group ∷ fs) r = D.Rest 0 ∷ D.GroupEnd ∷ frames_due fs r
  frames_due (M.index i ∷ fs) r = D.Rest 0 ∷ D.IndexEnd ∷ frames_due fs r
  frames_due (M.then_of c at ∷ fs) r = D.Rest 0 ∷ D.CondColon ∷ frames_due fs r
  frames_due (M.else_of c at a ∷ fs) r = D.Rest 0 ∷ D.Cond ∷ frames_due fs r

  abbrev pub inner_due : M.Inner A → List Due → List Due
  inner_due (M.want fs) r = D.Operand ∷ frames_due fs r
  inner_due (M.have fs e) r = frames_due fs r
  inner_due (M.named fs i) r = D.AfterName ∷ frames_due fs r
  inner_due (M.dotted fs i) r = D.PartField ∷ frames_due fs r
  inner_due (M.indexed fs i e) r = D.IndexDot ∷ frames_due fs r
  inner_due (M.index_dotted fs i e) r = D.ItemField ∷ frames_due fs r

  abbrev pub base_due : M.Base A → List Due → List Due
  base_due (M.length_or_left u w at) r = D.Length (use_role u) ∷ use_due u r
  base_due (M.right_of u w at l) r = D.Right (use_role u) ∷ use_due u r
  base_due (M.value_of x) r = D.SetEnd ∷ r
  base_due (M.test_of at) r = D.TestEnd at ∷ r
  base_due (M.first_bound x) r = D.ForTo ∷ r
  base_due (M.last_bound x a) r = D.ForDo ∷ r
  base_due (M.item_left x a b i) r = D.ForComma ∷ r
  base_due (M.item_right x a b i l) r = D.ForEnd ∷ r
  base_due (M.many_length_or_left at i) r = D.Length (Use.Many at) ∷ r
  base_due (M.many_right at i l) r = D.Right (Use.Many at) ∷ r
  base_due (M.case_of at cs) r = D.CaseEnd ∷ D.Cases at ∷ r

  abbrev pub part_due : M.Part A → List Due → List Due
  part_due (M.slot_named u w at) r = D.Place (use_role u) ∷ use_due u r
  part_due (M.expr base first inner) r = inner_due inner (D.Whole first ∷ base_due base r)
  part_due M.set_open r = D.Naming ∷ D.SetEquals ∷ r
  part_due (M.set_named x) r = D.SetEquals ∷ r
  part_due (M.test_open at) r = D.TestOpen at ∷ r
  part_due M.repeat_open r = D.Naming ∷ D.ForEquals ∷ r
  part_due (M.repeat_named x) r = D.ForEquals ∷ r
  part_due (M.item_due x a b) r = D.Naming ∷ D.ForOpen ∷ r
  part_due (M.item_named x a b i) r = D.ForOpen ∷ r
  part_due (M.many_open at) r = D.Naming ∷ D.Place (Use.Many at) ∷ r
  part_due (M.many_named at i) r = D.Place (Use.Many at) ∷ r
  part_due (M.pick_open at) r = D.PickOpen at ∷ r
  part_due (M.first_case at) r = D.FirstCase at ∷ r
  part_due (M.next_case at cs) r = D.Cases at ∷ r
  part_due (M.case_open at cs) r = D.CaseOpen ∷ D.Cases at ∷ r
  part_due (M.slot_due u) r = D.Slot (use_role u) ∷ use_due u r
  part_due (M.pick_close at cs s) r = D.PickEnd at ∷ r

  abbrev pub site_kind : M.Site A → Site
  site_kind (M.global h) = Global
  site_kind (M.local h outer ls n las) = Local

  -- after the rule of the alternative
  abbrev pub rule_due : M.Site A → List Due
  rule_due (M.global h) = D.Rules ∷ []
  rule_due (M.local h outer ls n las) = D.Locals ∷ D.After ∷ D.Rules ∷ []

  abbrev pub site_due : M.Site A → List Due
  site_due site = D.Tail (site_kind site) ∷ rule_due site

  abbrev pub pos_due : M.Pos A → List Due
  pos_due M.start = D.Rule Global ∷ D.Rules ∷ []
  pos_due (M.between rs) = D.Rules ∷ []
  pos_due (M.rule_named rs i) = D.Arrow Global ∷ D.Rules ∷ []
  pos_due (M.local_named h ts ls i) = D.Arrow Local ∷ D.Locals ∷ D.After ∷ D.Rules ∷ []
  pos_due (M.before_term site) = D.First (site_kind site) ∷ site_due site
  pos_due (M.in_term site ts p) = part_due p (site_due site)
  pos_due (M.after_term site ts) = site_due site
  pos_due (M.where_named h ts) = D.WhereOpen ∷ D.After ∷ D.Rules ∷ []
  pos_due (M.before_local h ts) = D.Rule Local ∷ D.Locals ∷ D.After ∷ D.Rules ∷ []
  pos_due (M.after_local h ts ls) = D.Locals ∷ D.After ∷ D.Rules ∷ []
  pos_due (M.after_where h) = D.After ∷ D.Rules ∷ []
