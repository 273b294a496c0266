-- What expressions read of an open call, by the rows of its results.
use Rattle.std.proofs.Common.{◌≡◌, ◌≢◌, ℕ, zero, suc, ◌<◌, ℤ, refl, sym, ap, ◌∙◌, subst, arith, List, [], ◌∷◌, length, Option, Some, None, Bool, true}
use Rattle.std.proofs.Common.{false, if◌then◌else◌}
use Rattle.std.specs.Prelude.{slice_set, nat_eq}
use Rattle.std.proofs.lemmas.Bool.{eq-eqb}
use Rattle.ipg_core.specs.declared.grammar.Sym.{Sym}
use Rattle.ipg_core.specs.declared.grammar.CoreField.{CoreField}
use Rattle.ipg_core.specs.Tree as tree
use Rattle.ipg_core.specs.Environment as core
use Rattle.ipg_core.specs.Environment.{Environment, is_read_by, field_of, seen, done_at, items_so_far}
use Rattle.ipg_core.specs.Within.{KidWithin, KidsWithin}
use Rattle.ipg_mach_nodes.specs.declared.kid.Kid.{Kid}
use Rattle.ipg_mach_nodes.specs.Stored.{Stored, Source, StandsKid, StandKids}
use Rattle.ipg_mach_slot.specs.declared.now.Done.{Done}
use Rattle.ipg_mach_slot.specs.declared.now.Running.{Running}
use Rattle.ipg_mach_slot.specs.Now.{IsDone, IsResult, AreResults, WithRunning, Lent, HasRun, ItemsStand, row_of, running_at}

-- the rows of a term and its result

pub result_at : (src : Source) (st : Stored) (at n : ℕ) (rows : List (Option Done)) (done : List (Option core.Done)) (term : ℕ)
    → AreResults src st at n rows done
    → IsResult src st at n (row_of rows term) (done_at done term)
result_at src st at n [] [] term h = tt
result_at src st at n (row ∷ rows) (one ∷ done) zero h = h.0
result_at src st at n (row ∷ rows) (one ∷ done) (suc term) h = result_at src st at n rows done term h.1
result_at src st at n [] (one ∷ done) term h = absurd h
result_at src st at n (row ∷ rows) [] term h = absurd h

-- an array that runs in the place of its term

set_same : (done : List (Option core.Done)) (term : ℕ) (d : core.Done) → term < length done → done_at (slice_set done term (Some d)) term ≡ Some d
set_same [] term d h = absurd (omega (arith, h))
set_same (one ∷ done) zero d h = refl
set_same (one ∷ done) (suc term) d h = set_same done term d (omega arith)

set_other : (done : List (Option core.Done)) (term other : ℕ) (d : core.Done) → term ≢ other → done_at (slice_set done term (Some d)) other ≡ done_at done other
set_other [] term other d h = refl
set_other (one ∷ done) zero zero d h = absurd (h refl)
set_other (one ∷ done) zero (suc other) d h = refl
set_other (one ∷ done) (suc term) zero d h = refl
set_other (one ∷ done) (suc term) (suc other) d h = set_other done term other d (λ e. h (ap suc e))

other_by : (run : Running) (term : ℕ) (b : Bool) → nat_eq run.term term ≡ b → (let found : Option Running = if b then Some run else None in found ≡ None)
    → run.term ≢ term
other_by run term true t e = absurd (cc)
other_by run term false t e = λ same. let no = sym (eq-eqb run.term term same) ∙ t in absurd (cc)

-- of any other term than the array that runs the result is the one that it has
pub other_done : (src : Source) (st : Stored) (at n : ℕ) (running : Option Running) (results all : List (Option core.Done)) (term : ℕ)
    → running_at running term ≡ None → WithRunning src st at n running results all → done_at all term ≡ done_at results term
other_done src st at n None results all term e h = ap (λ d. done_at d term) h
other_done src st at n (Some run) results all term e h =
    ap (λ d. done_at d term) h.is ∙ set_other results run.term term _ (other_by run term _ refl e)

by_test : (b c : Bool) → b ≡ c → (value field : Option ℤ) → (b ≡ true → value ≡ field) → (b ≡ false → value ≡ None)
    → value ≡ (if c then field else None)
by_test true c e value field held lacked = held refl ∙ ap (λ t. if t then field else None) e
by_test false c e value field held lacked = lacked refl ∙ ap (λ t. if t then field else None) e

-- ---- items of what has run

within_items : (n : ℕ) (one : tree.Kid) → KidWithin n one → KidsWithin n (tree.items_of one)
within_items n (tree.Sub from to sub) h = tt
within_items n (tree.Token from to bytes) h = tt
within_items n (tree.Number from to prim high low) h = tt
within_items n (tree.Raw from to bytes) h = tt
within_items n (tree.Array sym items) h = h
within_items n (tree.Many sym items) h = h

module _ (now : Lent) (src : Source) (at : ℕ) (results : List (Option core.Done)) (run : HasRun now src at results) (term : ℕ) where
  no_items_by : (row : Option Done) (done : Option core.Done) → row ≡ None → IsResult src now.store at now.size row done → ItemsStand now [] (items_so_far done)
  no_items_by None None e h = record { src = src; at = at; syms = run.syms; short = run.short; stand = tt; within = tt }
  no_items_by None (Some d) e h = absurd h
  no_items_by (Some row) done e h = absurd (cc)

  pub no_items : row_of now.done term ≡ None → ItemsStand now [] (items_so_far (done_at results term))
  no_items e = no_items_by _ _ e (result_at src now.store at now.size now.done results term run.done)

  some_items_by : (found : Option Done) (done : Option core.Done) (row : Done) (rows : List Kid) → found ≡ Some row
      → ((one : tree.Kid) → StandsKid src now.store at row.kid one → StandKids src now.store at rows (tree.items_of one))
      → IsResult src now.store at now.size found done → ItemsStand now rows (items_so_far done)
  some_items_by None done row rows e stand h = absurd (cc)
  some_items_by (Some found) None row rows e stand h = absurd h
  some_items_by (Some found) (Some d) row rows e stand h =
      let same : found ≡ row = cc in
      let is : IsDone src now.store at now.size row d = subst (λ r. IsDone src now.store at now.size r d) same h in
      record { src = src; at = at; syms = run.syms; short = run.short; stand = stand d.kid is.stands; within = within_items now.size d.kid is.within }

  pub some_items : (row : Done) (rows : List Kid) → row_of now.done term ≡ Some row
      → ((one : tree.Kid) → StandsKid src now.store at row.kid one → StandKids src now.store at rows (tree.items_of one))
      → ItemsStand now rows (items_so_far (done_at results term))
  some_items row rows e stand = some_items_by _ _ row rows e stand (result_at src now.store at now.size now.done results term run.done)

  -- ---- a field of what has run

  module _ (names : List (List ℕ)) (by : Sym) (field : CoreField) where
    no_field_by : (row : Option Done) (done : Option core.Done) → row ≡ None → IsResult src now.store at now.size row done → seen names by field done ≡ None
    no_field_by None None e h = refl
    no_field_by None (Some d) e h = absurd h
    no_field_by (Some row) done e h = absurd (cc)

    pub no_field : row_of now.done term ≡ None → seen names by field (done_at results term) ≡ None
    no_field e = no_field_by _ _ e (result_at src now.store at now.size now.done results term run.done)

    -- what is said of each child that stands in a row
    abbrev Of : Done → (tree.Kid → Type 0) → Type 0
    Of row Fact = (one : tree.Kid) → StandsKid src now.store at row.kid one → KidWithin now.size one → Fact one

    field_by : (found : Option Done) (done : Option core.Done) (row : Done) (b : Bool) (value : Option ℤ) → found ≡ Some row
        → Of row (λ one. b ≡ is_read_by (record { is_switch = row.is_switch; kid = one }) by)
        → (b ≡ true → Of row (λ one. value ≡ field_of names field one)) → (b ≡ false → value ≡ None)
        → IsResult src now.store at now.size found done → value ≡ seen names by field done
    field_by None done row b value e read held lacked h = absurd (cc)
    field_by (Some found) None row b value e read held lacked h = absurd h
    field_by (Some found) (Some d) row b value e read held lacked h =
        let same : found ≡ row = cc in
        let is : IsDone src now.store at now.size row d = subst (λ r. IsDone src now.store at now.size r d) same h in
        let test = read d.kid is.stands is.within ∙ ap (λ s. is_read_by (record { is_switch = s; kid = d.kid }) by) is.switch in
        by_test b (is_read_by d by) test value (field_of names field d.kid) (λ t. held t d.kid is.stands is.within) lacked

    pub some_field : (row : Done) (b : Bool) (value : Option ℤ) → row_of now.done term ≡ Some row
        → Of row (λ one. b ≡ is_read_by (record { is_switch = row.is_switch; kid = one }) by)
        → (b ≡ true → Of row (λ one. value ≡ field_of names field one)) → (b ≡ false → value ≡ None)
        → value ≡ seen names by field (done_at results term)
    some_field row b value e read held lacked = field_by _ _ row b value e read held lacked (result_at src now.store at now.size now.done results term run.done)
