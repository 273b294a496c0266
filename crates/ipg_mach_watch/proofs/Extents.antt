-- The greatest end of results, one by one; it lies in the part.
use Rattle.std.proofs.Common.{◌≡◌, ℕ, max, refl, sym, subst, arith, List, [], ◌∷◌, length, Option, Some, None, Bool, true, false}
use Rattle.std.specs.Prelude.{if◌then◌else◌}
use Rattle.ipg_core.specs.Tree.{Kid, Sub, Token, Number, Raw, Array, Many, items_of}
use Rattle.ipg_core.specs.Touch.{Ends, touches}
use Rattle.ipg_core.specs.Eval.{later as later_end}
use Rattle.ipg_core.specs.Environment as core
use Rattle.ipg_core.specs.Within.{KidWithin, KidsWithin}
use Rattle.ipg_mach_nodes.specs.Stored.{Stored, Source}
use Rattle.ipg_mach_slot.specs.declared.now.Done.{Done}
use Rattle.ipg_mach_slot.specs.Now.{IsResult, AreResults}
use Rattle.ipg_mach_failures.specs.Failing.{or_zero, end_in, reach_of}

module _ (src : Source) (st : Stored) (at n : ℕ) where
  -- the greatest so far, and what is left, give the greatest of all
  pub record Leaves (rows : List (Option Done)) (done : List (Option core.Done)) (greatest : ℕ) : Type 0 where
    pub rest : List (Option core.Done)
    pub each : AreResults src st at n rows rest
    pub same : reach_of done ≡ max greatest (reach_of rest)

  pub all_left : (rows : List (Option Done)) (done : List (Option core.Done)) → AreResults src st at n rows done → Leaves rows done 0
  all_left rows done each = record { rest = done; each = each; same = omega arith }

  pub record First (row : Option Done) (rows : List (Option Done)) (done : List (Option core.Done)) (greatest : ℕ) : Type 0 where
    pub one : Option core.Done
    pub is : IsResult src st at n row one
    pub later : Leaves rows done (max greatest (end_in one))

  first_by : (row : Option Done) (rows : List (Option Done)) (done rest : List (Option core.Done)) (greatest : ℕ)
      → AreResults src st at n (row ∷ rows) rest → reach_of done ≡ max greatest (reach_of rest) → First row rows done greatest
  first_by row rows done [] greatest each same = absurd each
  first_by row rows done (one ∷ rest) greatest each same =
      record { one = one; is = each.0; later = record { rest = rest; each = each.1; same = omega (arith, same) } }

  pub first : (row : Option Done) (rows left : List (Option Done)) (done : List (Option core.Done)) (greatest : ℕ) → left ≡ row ∷ rows
      → Leaves left done greatest → First row rows done greatest
  first row rows left done greatest e leaves =
      first_by row rows done leaves.rest greatest (subst (λ l. AreResults src st at n l leaves.rest) e leaves.each) leaves.same

  last_by : (rows : List (Option Done)) (done rest : List (Option core.Done)) (greatest : ℕ) → length rows ≡ 0
      → AreResults src st at n rows rest → reach_of done ≡ max greatest (reach_of rest) → greatest ≡ reach_of done
  last_by [] done [] greatest e each same = omega (arith, same)
  last_by [] done (one ∷ rest) greatest e each same = absurd each
  last_by (row ∷ rows) done rest greatest e each same = absurd (omega arith)

  pub last : (rows : List (Option Done)) (done : List (Option core.Done)) (greatest : ℕ) → length rows ≡ 0
      → Leaves rows done greatest → greatest ≡ reach_of done
  last rows done greatest e leaves = last_by rows done leaves.rest greatest e leaves.each leaves.same

-- ---- a result and its items

later_touching : (e : Ends) (g : Option ℕ) (b : Bool) → touches e ≡ b → or_zero (later_end e g) ≡ (if b then max e.end (or_zero g) else or_zero g)
later_touching e None true t = rw t (omega arith)
later_touching e None false t = rw t refl
later_touching e (Some end) true t = rw t refl
later_touching e (Some end) false t = rw t refl

pub later_is : (e : Ends) (g : Option ℕ) → or_zero (later_end e g) ≡ (if touches e then max e.end (or_zero g) else or_zero g)
later_is e g = later_touching e g (touches e) refl

-- ---- items lie in the part that their array or repetition lies in

pub items_within : (n : ℕ) (k : Kid) → KidWithin n k → KidsWithin n (items_of k)
items_within n (Sub from to tree) h = tt
items_within n (Token from to bytes) h = tt
items_within n (Number from to prim high low) h = tt
items_within n (Raw from to bytes) h = tt
items_within n (Array sym items) h = h
items_within n (Many sym items) h = h
