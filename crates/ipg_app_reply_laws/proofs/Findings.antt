-- What an input came to is found, with the furthest failures.
use Rattle.std.proofs.Common.{◌≡◌, ◌≢◌, ℕ, zero, suc, ◌<◌, ◌-◌, ◌^◌, refl, sym, ap, ◌∙◌, subst, arith, List, [], ◌∷◌, length, Option, Some, None}
use Rattle.std.proofs.Common.{Result, Ok, Err}
use Rattle.std.specs.Prelude.{min, slice_get}
use Rattle.std.proofs.lemmas.Bool.{true≢false}
use Rattle.ipg_core.specs.declared.grammar.CoreAlt.{CoreAlt}
use Rattle.ipg_core.specs.declared.grammar.CoreRule.{CoreRule}
use Rattle.ipg_core.specs.Grammar.{Grammar}
use Rattle.ipg_core.specs.Good.{Good, AltAt}
use Rattle.ipg_core.specs.Meaning.{Frame, State, start, Means}
use Rattle.ipg_core.specs.Order.{Provides, InOrder}
use Rattle.ipg_core.specs.Run.{Stop, NoTree, OutOfRange, Deep}
use Rattle.ipg_core.specs.Tree.{Tree}
use Rattle.ipg_mach_moves.specs.Moves.{OpenCall, Outside, Highest, Works, Known, Evaluation, begins, runs_on, alts_of, opening, move, moves, ended}
use Rattle.ipg_mach_moves.specs.Moves.{ended_by}
use Rattle.ipg_mach_moves.specs.Laws.{EndsAsMeant}
use Rattle.ipg_mach_failures.specs.declared.story.Call.{Call}
use Rattle.ipg_mach_failures.specs.Chain.{call_of}
use Rattle.ipg_mach_failures.specs.Furthest.{stories, furthest}
use Rattle.ipg_mach_watch.specs.declared.findings.End.{End}
use Rattle.ipg_mach_watch.specs.declared.findings.End.TheVariants as end
use Rattle.ipg_mach_watch.specs.Found.{Found, at_work, worked, last_worked, end_with, end_of, found_with, found_by, AreFindings}

-- ---- the first call works at first

pub record IsAtWork (highest : Highest) : Type 0 where
  pub call : OpenCall
  pub works : highest ≡ Works call
  pub term : ℕ
  pub rest : List ℕ
  pub left : call.left ≡ term ∷ rest

at_first : (c : OpenCall) (state : State) (order : List ℕ) → 0 < length order → IsAtWork (runs_on c state order)
at_first c state [] some = absurd (omega (arith, some))
at_first c state (u ∷ order) some = record { call = _; works = refl; term = u; rest = order; left = refl }

begun : (f : Frame) (from : ℕ) (alts : List CoreAlt) → 0 < length alts → ((alt : CoreAlt) → slice_get alts 0 ≡ Some alt → 0 < length alt.order)
    → IsAtWork (begins f from alts)
begun f from [] some each = absurd (omega (arith, some))
begun f from (alt ∷ alts) some each =
    let fresh = start (length alt.terms) in
    at_first (record { frame = f; from = from; terms = alt.terms; alts = alts; state = fresh; left = []; entry = Outside }) fresh alt.order (each alt refl)

some_order : (provides : ℕ → ℕ → Type 0) (n : ℕ) (order : List ℕ) → 0 < n → InOrder provides n [] order → 0 < length order
some_order provides n [] some all = absurd (true≢false (sym (all 0 some)))
some_order provides n (u ∷ order) some all = omega arith

module _ (g : Grammar) (good : Good g) where
  abbrev rule : CoreRule
  rule = good.well_formed.first.0

  alt_order : (alt : CoreAlt) → slice_get rule.alts 0 ≡ Some alt → 0 < length alt.order
  alt_order alt e =
      let there : AltAt g rule alt (0, 0) = record { is_rule = good.well_formed.first.1; is_alt = e } in
      some_order (Provides g (0, 0) alt.terms) (length alt.terms) alt.order (good.well_formed.alts (0, 0) rule alt there).some
      (good.ordered (0, 0) rule alt there)

  at_work_first : (s : List ℕ) (known : Option Known) → IsAtWork (opening g s known).highest
  unfolding opening
  at_work_first s known =
      subst (λ (o : Option CoreRule). IsAtWork (begins (record { grammar = g; rule = 0; alt = 0; bytes = s; outer = [] }) 0 (alts_of o)))
      (sym good.well_formed.first.1) (begun _ 0 rule.alts (good.well_formed.rules 0 rule good.well_formed.first.1).some alt_order)

-- ---- from then on a call has worked

still_worked : (call : Call) (highest : Highest) → (other : Call) × (worked (Some call) highest ≡ Some other)
still_worked call (Works c) = by c.left
  where
    by : (left : List ℕ) → (other : Call) × (at_work (Some call) c left ≡ Some other)
    by [] = (call, refl)
    by (u ∷ left) = (call_of c, refl)
still_worked call (Highest.Holds key answer) = (call, refl)

stays_worked : (n : ℕ) (call : Call) (last : Option Call) (e : Evaluation) → last ≡ Some call → (other : Call) × (last_worked last n e ≡ Some other)
unfolding last_worked
stays_worked zero call last e is = (call, is)
stays_worked (suc n) call last e is =
    let next = still_worked call e.highest in
    stays_worked n next.0 (worked last e.highest) (move e) (ap (λ l. worked l e.highest) is ∙ next.1)

-- ---- what is found

ends_with : (call : Call) (answer : Result Tree Stop) → answer ≢ Err Deep → (e : End) × (end_with (Some call) answer ≡ Some e)
ends_with call (Ok tree) settled = (end.Tree, refl)
ends_with call (Err NoTree) settled = (end.NoTree, refl)
ends_with call (Err OutOfRange) settled = (end.Range call, refl)
ends_with call (Err Deep) settled = absurd (settled refl)

module _ (e : Evaluation) (first : IsAtWork e.highest) (answer : Result Tree Stop) (settled : answer ≢ Err Deep) where
  found_there : (n : ℕ) → ended (moves n e) ≡ Some answer → (f : Found) × (found_by n e ≡ Some f)
  unfolding moves last_worked
  found_there zero ends =
      let none : ended e ≡ None = ap (ended_by e.lower) first.works in
      absurd (let no : None ≡ Some answer = sym none ∙ ends in cc)
  found_there (suc n) ends =
      let now : worked None e.highest ≡ Some (call_of first.call) = ap (worked None) first.works ∙ ap (at_work None first.call) first.left in
      let last = stays_worked n (call_of first.call) (worked None e.highest) (move e) now in
      let f = furthest (stories (suc n) e) in
      let by = ends_with last.0 answer settled in (
        record { end = by.0; told = f.told; more = min f.more (2 ^ 64 - 1) },
        ap (λ l. found_with (end_of l (ended (moves n (move e)))) f) last.1 ∙ ap (λ a. found_with (end_of (Some last.0) a) f) ends
            ∙ ap (λ o. found_with o f) by.1,
      )

pub findings : EndsAsMeant → (g : Grammar) → Good g → (s : List ℕ) (answer : Result Tree Stop) → Means g s answer → (f : Found) × AreFindings g s f
findings ends g good s answer means =
    let e = ends g s (Some []) answer tt means in
    let f = found_there (opening g s (Some [])) (at_work_first g good s (Some [])) answer means.settled e.0 e.1 in
    (f.0, (e.0, f.1))
