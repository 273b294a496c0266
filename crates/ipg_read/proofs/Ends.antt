-- Where tokens end within a term, no grammar ends.
use Rattle.std.proofs.Common.{◌≡◌, ℕ, List, [], ◌∷◌, Err, refl}
use Rattle.ipg_read_syntax.specs.Machine as M
use Rattle.ipg_read_syntax.specs.Machine.{Acts}
use Rattle.ipg_read_scan.specs.declared.due.Due.{Due}
use Rattle.ipg_read_scan.specs.declared.due.Due.TheVariants as D
use Rattle.ipg_read_scan.specs.Asked as Asked
use Rattle.ipg_read.proofs.Dues.{frames_due, base_due, part_due}

frames_end : {B : Acts} (at : ℕ) (fs : List (M.Frame B)) (r : List Due) → Asked.ended at (frames_due fs r) ≡ Err at
frames_end at [] r = refl
frames_end at (M.neg ∷ fs) r = refl
frames_end at (M.isnt ∷ fs) r = refl
frames_end at (M.left i a ∷ fs) r = refl
frames_end at (M.group ∷ fs) r = refl
frames_end at (M.index i ∷ fs) r = refl
frames_end at (M.then_of c q ∷ fs) r = refl
frames_end at (M.else_of c q a ∷ fs) r = refl

pub part_end : {B : Acts} (at : ℕ) (p : M.Part B) (r : List Due) → Asked.ended at (part_due p r) ≡ Err at
part_end at (M.slot_named u w span) r = refl
part_end at (M.expr base first (M.want fs)) r = refl
part_end at (M.expr base first (M.have fs e)) r = frames_end at fs (D.Whole first ∷ base_due base r)
part_end at (M.expr base first (M.named fs i)) r = refl
part_end at (M.expr base first (M.dotted fs i)) r = refl
part_end at (M.expr base first (M.indexed fs i e)) r = refl
part_end at (M.expr base first (M.index_dotted fs i e)) r = refl
part_end at M.set_open r = refl
part_end at (M.set_named x) r = refl
part_end at (M.test_open span) r = refl
part_end at M.repeat_open r = refl
part_end at (M.repeat_named x) r = refl
part_end at (M.item_due x a b) r = refl
part_end at (M.item_named x a b i) r = refl
part_end at (M.many_open span) r = refl
part_end at (M.many_named span i) r = refl
part_end at (M.pick_open span) r = refl
part_end at (M.first_case span) r = refl
part_end at (M.next_case span cs) r = refl
part_end at (M.case_open span cs) r = refl
part_end at (M.slot_due u) r = refl
part_end at (M.pick_close span cs s) r = refl
