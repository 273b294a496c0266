-- A call that is answered gives what was parsed.
use Rattle.std.proofs.Common.{◌≡◌, ℕ, ℤ, refl, sym, ap, subst, List, [], ◌∷◌, Option, Some, None, Result, Bool, true, false, if◌then◌else◌}
use Rattle.ipg_num.specs.declared.op.Answer.{Answer}
use Rattle.ipg_num.specs.declared.op.Answer.TheVariants.{Val, Fail, Range}
use Rattle.ipg_core.specs.declared.grammar.CoreTerm.{CoreTerm}
use Rattle.ipg_core.specs.declared.grammar.CoreTerm.TheVariants.{Slot, Set, Test, Repeat, Many, Pick}
use Rattle.ipg_core.specs.Tree as tree
use Rattle.ipg_core.specs.Tree.{Tree}
use Rattle.ipg_core.specs.Run.{Stop, Asked, Run, finish, stop, after, go_on, ◌>>=◌, value_of, some_of}
use Rattle.ipg_core.specs.Meaning.{Frame, State, value_in}
use Rattle.ipg_mach_moves.specs.Moves as moves
use Rattle.ipg_mach_moves.specs.Moves.{silent, always, parsed, lifted}
use Rattle.ipg_mach_moves.specs.Laws.{ByCalls, ParsesByOneCall}
use Rattle.ipg_mach_term.specs.Advance.{AnsweredIsTaken}

-- runs that make no call

after_value : {A : Type 0} (a : Answer) (go : ℤ → Run A) → ((z : ℤ) → (go z).asked ≡ []) → (value_of a >>= go).asked ≡ []
unfolding finish stop ◌>>=◌ after go_on
after_value (Val z) go h = h z
after_value Fail go h = refl
after_value Range go h = refl

after_some : {A B : Type 0} (opt : Option A) (go : A → Run B) → ((a : A) → (go a).asked ≡ []) → (some_of opt >>= go).asked ≡ []
unfolding finish stop ◌>>=◌ after go_on
after_some (Some a) go h = h a
after_some None go h = refl

either : {A : Type 0} (b : Bool) (x y : Run A) → x.asked ≡ [] → y.asked ≡ [] → (if b then x else y).asked ≡ []
either true x y p q = p
either false x y p q = q

module _ (parses_by_one_call : ParsesByOneCall) (f : Frame) (state : State) (u : ℕ) (ask : Asked) (answer : Result Tree Stop) where
  abbrev Asks : moves.Entry → CoreTerm → Type 0
  Asks e term = (moves.advance silent f state u e (Some term)).asked ≡ ask ∷ []

  abbrev Takes : moves.Entry → CoreTerm → Type 0
  Takes e term = (moves.advance (always answer) f state u e (Some term)).answer ≡ moves.taken state u e term (lifted (tree.Sub ask.from ask.to) answer)

  none_asked : (asked : List Asked) → asked ≡ [] → asked ≡ ask ∷ [] → ⊥
  none_asked asked a b = absurd (cc)

  by_one : (e : moves.Entry) (term : CoreTerm) → (parsed silent f state u e term).asked ≡ ask ∷ []
      → moves.taken state u e term (parsed (always answer) f state u e term).answer ≡ moves.taken state u e term (lifted (tree.Sub ask.from ask.to) answer)
  by_one e term h =
      let quiet = parsed silent f state u e term in
      let run = parsed (always answer) f state u e term in
      let is = subst (λ asked. ByCalls (always answer) f asked quiet run) h (parses_by_one_call (always answer) f state u e term) in
      ap (λ (r : Run tree.Kid). moves.taken state u e term r.answer) is

  answered : (e : moves.Entry) (term : CoreTerm) → Asks e term → Takes e term
  unfolding value_in finish stop
  answered moves.Outside (Slot slot) h = by_one moves.Outside (Slot slot) h
  answered moves.Outside (Set attr value) h = absurd (none_asked _ (after_value _ _ (λ z. refl)) h)
  answered moves.Outside (Test cond) h = absurd (none_asked _ (after_value _ _ (λ z. either _ _ _ refl refl)) h)
  answered moves.Outside (Repeat first last sym from to) h = absurd (none_asked _ (after_value _ _ (λ a. after_value _ _ (λ b. refl))) h)
  answered moves.Outside (Many sym from to) h =
      absurd (none_asked _ (after_value _ _ (λ l. after_value _ _ (λ r. after_some _ _ (λ ends. refl)))) h)
  answered moves.Outside (Pick cases other) h = by_one moves.Outside (Pick cases other) h
  answered (moves.Items n i items) term h = by_one (moves.Items n i items) term h
  answered (moves.Turns p r items) term h = by_one (moves.Turns p r items) term h

pub answered_is_taken : ParsesByOneCall → AnsweredIsTaken
answered_is_taken parses f state u e term ask answer h = answered parses f state u ask answer e term h
