-- What is told of failures that were met.
use Rattle.std.proofs.Common.{◌≡◌, ◌≢◌, ℕ, min, ◌-◌, ◌^◌, refl, sym, ap, ◌∙◌, subst, List, [], ◌∷◌, Option, Some, None, Result, Ok, Err}
use Rattle.std.proofs.lemmas.Option.{same_Some}
use Rattle.ipg_core.specs.Tree.{Tree}
use Rattle.ipg_core.specs.Run.{Stop, NoTree, OutOfRange, Deep}
use Rattle.ipg_mach_moves.specs.Moves.{moves, opening, ended}
use Rattle.ipg_mach_failures.specs.declared.story.Story.{Story}
use Rattle.ipg_mach_failures.specs.Furthest.{Furthest, stories, furthest}
use Rattle.ipg_mach_failures.specs.Laws.{AreFurthest, FurthestAreFurthest, SomeWhereNone}
use Rattle.ipg_mach_watch.specs.declared.findings.End.{End}
use Rattle.ipg_mach_watch.specs.declared.findings.End.TheVariants as end
use Rattle.ipg_mach_watch.specs.Found.{Found, last_worked, found_with}
use Rattle.ipg_mach_watch.specs.Laws.{IsEnd, ToldWhereNone, ToldAreFurthest}
use Rattle.ipg_mach_watch.proofs.Behind.{by_end}

-- what is found tells the furthest
record Tells (f : Furthest) (one : Found) : Type 0 where
  told : one.told ≡ f.told
  more : one.more ≡ min f.more (2 ^ 64 - 1)

tells : (is : Option End) (f : Furthest) (one : Found) → found_with is f ≡ Some one → Tells f one
tells None f one e = absurd (cc)
tells (Some end) f one e =
    let is = same_Some _ one e in
    record { told = ap (λ (x : Found). x.told) (sym is); more = ap (λ (x : Found). x.more) (sym is) }

none_of : (one : End) (answer : Result Tree Stop) → IsEnd one answer → one ≡ end.NoTree → answer ≡ Err NoTree
none_of end.Tree answer is e = absurd (cc)
none_of (end.Range call) answer is e = absurd (cc)
none_of end.NoTree (Ok tree) is e = absurd is
none_of end.NoTree (Err NoTree) is e = refl
none_of end.NoTree (Err OutOfRange) is e = absurd is
none_of end.NoTree (Err Deep) is e = absurd is

some_told : FurthestAreFurthest → (met : List Story) → met ≢ [] → (furthest met).told ≢ []
some_told are [] some = absurd (some refl)
some_told are (one ∷ met) some = (are one met).1.some

pub told_where_none : SomeWhereNone → FurthestAreFurthest → ToldWhereNone
told_where_none some are g s f good found none empty =
    let e = opening g s (Some []) in
    let n = found.0 in
    let ends = by_end (last_worked None n e) (ended (moves n e)) (furthest (stories n e)) f found.1 in
    let no_tree : ended (moves n e) ≡ Some (Err NoTree) = ends.1 ∙ ap (λ a. Some a) (none_of f.end ends.0 ends.2 none) in
    let told = tells _ (furthest (stories n e)) f found.1 in
    some_told are (stories n e) (some g s (Some []) n good (λ key. λ is. cc) no_tree) (sym told.told ∙ empty)

furthest_of : FurthestAreFurthest → (met : List Story) → (furthest met).told ≢ [] → (place : ℕ) × AreFurthest met (furthest met) place
furthest_of are [] some = absurd (some refl)
furthest_of are (one ∷ met) some = are one met

pub told_are_furthest : FurthestAreFurthest → ToldAreFurthest
told_are_furthest are g s f found some =
    let e = opening g s (Some []) in
    let n = found.0 in
    let f_met = furthest (stories n e) in
    let told = tells _ f_met f found.1 in
    let it = furthest_of are (stories n e) (λ none. some (told.told ∙ none)) in (
      n,
      f_met.more,
      it.0,
      subst (λ l. AreFurthest (stories n e) (record { told = l; more = f_met.more }) it.0) (sym told.told) it.1,
      told.more,
    )
