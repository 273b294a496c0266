-- A term is made of what was parsed for it.
use Rattle.std.proofs.Common.{◌≡◌, ℕ, suc, zero, ◌<◌, ◌-◌, refl, sym, ap, subst, arith, List, [], ◌∷◌, ◌++◌, Option, Some, Result, Ok, Err, Bool}
use Rattle.std.proofs.Common.{false, length, ℤ, pos, ◌+ℤ◌, FitsSigned}
use Rattle.std.specs.Int.{w64}
use Rattle.std.proofs.lemmas.Int.{ints}
use Rattle.ipg_core.specs.declared.grammar.Sym.{Sym}
use Rattle.ipg_core.specs.declared.grammar.CoreTerm.{CoreTerm}
use Rattle.ipg_core.specs.Tree as tree
use Rattle.ipg_core.specs.Touch.{ends_of}
use Rattle.ipg_core.specs.Within.{KidWithin}
use Rattle.ipg_core.specs.Run.{Stop, NoTree, OutOfRange, Run, finish, stop}
use Rattle.ipg_core.specs.Meaning.{Frame, State, with_kid}
use Rattle.ipg_mach_moves.specs.Moves as moves
use Rattle.ipg_mach_nodes.specs.declared.kid.Kid.{Kid}
use Rattle.ipg_mach_nodes.specs.Stored.{Stored, Source}
use Rattle.ipg_mach_results.specs.Flat.{has_items, AreItems}
use Rattle.ipg_mach_slot.specs.declared.found.Found.{Found}
use Rattle.ipg_mach_slot.specs.declared.found.Found.TheVariants as found
use Rattle.ipg_mach_slot.specs.Found.{IsFound}
use Rattle.ipg_mach_term.specs.declared.entry.TermEntry.{TermEntry}
use Rattle.ipg_mach_term.specs.declared.entry.TermEntry.TheVariants as entry
use Rattle.ipg_mach_term.specs.declared.advance.Advance.{Advance}
use Rattle.ipg_mach_term.specs.declared.advance.Advance.TheVariants as advance
use Rattle.ipg_mach_term.specs.Advance.{EndsBy, IsItem, IsParsed, IsAdvance, IsMade}
use Rattle.ipg_mach_term.specs.Parts.{FoundEndsBy, made_of}

flat : (one : tree.Kid) → has_items one ≡ false → AreItems (tree.items_of one)
flat (tree.Sub from to sub) e = tt
flat (tree.Token from to bytes) e = tt
flat (tree.Number from to prim high low) e = tt
flat (tree.Raw from to bytes) e = tt
flat (tree.Array name items) e = absurd (cc)
flat (tree.Many name items) e = absurd (cc)

-- the next value of a loop variable that isn't at its last

pub next_fits : (z : ℤ) (left : ℕ) → 0 < left → FitsSigned w64 z → FitsSigned w64 (z +ℤ pos left) → FitsSigned w64 (z +ℤ pos 1)
next_fits z left lt a b = search (arith, ints)

last_fits : (z next : ℤ) (left : ℕ) → 0 < left → next ≡ z +ℤ pos 1 → FitsSigned w64 (z +ℤ pos left) → FitsSigned w64 (next +ℤ pos (left - 1))
last_fits z next left lt e fits = let same : z +ℤ pos left ≡ next +ℤ pos (left - 1) = omega (arith, ints) in subst (FitsSigned w64) same fits

module _ (src : Source) (st : Stored) (at n u : ℕ) (state : State) (items : List tree.Kid) where
  abbrev Is : Advance → Result moves.Advance Stop → Type 0
  Is adv result = IsAdvance src st at n u state items adv result

  -- a slot or a switch
  pub past : (is_switch : Bool) (parsed : Option Kid) (kid : Kid) (answer : Result tree.Kid Stop) → parsed ≡ Some kid
      → IsParsed src st at n entry.Outside parsed answer
      → Is (advance.Result (record { is_switch = is_switch; kid = kid })) (moves.lifted (λ k. moves.Past (with_kid state u is_switch k)) answer)
  past is_switch parsed kid answer e h =
      let is = subst (λ p. IsParsed src st at n entry.Outside p answer) e h in (
        record { is_switch = is_switch; kid = is.0 },
        record { switch = refl; stands = is.1.stands; within = is.1.within; flat = flat is.0 is.1.single },
        ap (moves.lifted (λ k. moves.Past (with_kid state u is_switch k))) is.3,
      )

  -- an item of an array that isn't its last
  pub one_more : (row : Kid) (one : tree.Kid) (name : Sym) (left k : ℕ) (z next : ℤ) → IsItem src st at n row one → left ≡ suc k → 1 < left
      → next ≡ z +ℤ pos 1 → FitsSigned w64 z → FitsSigned w64 (z +ℤ pos left)
      → Is (advance.Item row (entry.Items (left - 1) next)) (Ok (moves.array_on state u name k (z +ℤ pos 1) (items ++ one ∷ [])))
  one_more row one name left zero z next item e more is a b = absurd (omega arith)
  one_more row one name left (suc k) z next item e more is a b =
      let fits = subst (FitsSigned w64) (sym is) (next_fits z left (omega arith) a b) in (
        one,
        item,
        moves.Items (suc k) next (items ++ one ∷ []),
        (k, omega arith, refl, fits, last_fits z next left (omega arith) is b),
        ap (λ i. Ok (moves.Inside (moves.Items (suc k) i (items ++ one ∷ [])))) (sym is),
      )

-- what a run comes to, made of what was found
module _ (src : Source) (st : Stored) (at n u : ℕ) (f : Frame) (state : State) (items : List tree.Kid) (e : moves.Entry) (term : CoreTerm)
    (entered : TermEntry) (x : Found) (run : Run tree.Kid) (is : IsFound src st at f state.own x run) where
  abbrev Makes : Advance → Type 0
  Makes adv = IsMade src st at n u state items adv (made_of state u e term run)

  made_by : (adv : Advance) (other : Run tree.Kid) → run ≡ other → other.asked ≡ []
      → IsAdvance src st at n u state items adv (moves.taken state u e term other.answer) → Makes adv
  made_by adv other same none h = subst (λ r. IsMade src st at n u state items adv (made_of state u e term r)) (sym same) (none, h)

  pub of_kid : (row : Kid) (adv : Advance) → x ≡ found.Kid row → length f.bytes ≡ n → FoundEndsBy entered x run
      → ((one : tree.Kid) → IsItem src st at n row one × EndsBy entered (ends_of one).end
      → IsAdvance src st at n u state items adv (moves.taken state u e term (Ok one)))
      → Makes adv
  unfolding finish
  of_kid row adv same size ends h =
      let gives = subst (λ y. IsFound src st at f state.own y run) same is in
      let end = subst (λ y. FoundEndsBy entered y run) same ends gives.one gives.is in
      let within = subst (λ m. KidWithin m gives.one) size gives.within in
      made_by adv (finish gives.one) gives.is refl (h gives.one (record { stands = gives.stands; within = within; single = gives.single }, end))

  pub of_none : (adv : Advance) → x ≡ found.NoTree → IsAdvance src st at n u state items adv (moves.taken state u e term (Err NoTree)) → Makes adv
  unfolding stop
  of_none adv same h = made_by adv (stop NoTree) (subst (λ y. IsFound src st at f state.own y run) same is) refl h

  pub of_range : x ≡ found.Range → moves.taken state u e term (Err OutOfRange) ≡ Err OutOfRange → Makes advance.Range
  unfolding stop
  of_range same h = made_by advance.Range (stop OutOfRange) (subst (λ y. IsFound src st at f state.own y run) same is) refl h
