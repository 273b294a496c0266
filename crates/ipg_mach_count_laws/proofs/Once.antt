-- A term at hand makes one call at most, and hangs on its answer alone.
use Rattle.std.proofs.Common.{◌≡◌, ℕ, suc, ℤ, refl, sym, ap, ◌∙◌, List, [], ◌∷◌, Option, Some, None, Result, Ok, Err, Bool, true, false}
use Rattle.std.proofs.Common.{if◌then◌else◌, ◌⊎◌, inl, inr, ◌++◌, length}
use Rattle.std.specs.Prelude.{slice_get}
use Rattle.ipg_core.specs.declared.grammar.CoreTerm.{CoreTerm}
use Rattle.ipg_core.specs.declared.grammar.CoreTerm.TheVariants.{Slot, Set, Test, Repeat, Many, Pick}
use Rattle.ipg_core.specs.Part.{part, interval}
use Rattle.ipg_core.specs.Tree.{Tree, Kid}
use Rattle.ipg_core.specs.declared.grammar.CoreExpr.{CoreExpr}
use Rattle.ipg_core.specs.Eval.{eval, is_zero}
use Rattle.ipg_core.specs.Run.{Stop, NoTree, OutOfRange, Deep, Asked, Run, finish, stop, after, go_on, ◌>>=◌, value_of}
use Rattle.ipg_core.specs.Meaning.{Call, Frame, State, environment, value_in}
use Rattle.ipg_mach_moves.specs.Moves.{Entry, Outside, Items, Turns, OpenCall, Past, always, silent, parsed, taken, advance, first_left, at_hand}
use Rattle.ipg_mach_moves.specs.Laws.{ByCalls, ParsesByOneCall}
use Rattle.ipg_mach_count_laws.proofs.Follows.{value_asks, some_asks}
use Rattle.ipg_mach_count_laws.proofs.Plain.{IsPlain, plain_one}

-- the answer of a call
abbrev pub reply : Call → Frame → Asked → Result Tree Stop
reply call f ask = call ask.callee (part f.bytes ask.from ask.to) ask.outer

-- a run that makes no call
pub record Quiet {A : Type 0} (run : Call → Run A) : Type 0 where
  pub none : (run silent).asked ≡ []
  pub is : (call : Call) → run call ≡ run silent

-- a run that makes one, on the bytes of a frame
pub record Asking (f : Frame) {A : Type 0} (run : Call → Run A) : Type 0 where
  pub ask : Asked
  pub one : (run silent).asked ≡ ask ∷ []
  pub is : (call : Call) → run call ≡ record { answer = (run (always (reply call f ask))).answer; asked = ask ∷ [] }
  pub range : (run (always (Err OutOfRange))).answer ≡ Err OutOfRange
  pub deep : (run (always (Err Deep))).answer ≡ Err Deep
  pub plain : IsPlain f.grammar ask

abbrev pub Once : Frame → {A : Type 0} → (Call → Run A) → Type 0
Once f run = Quiet run ⊎ Asking f run

answered_once : (f : Frame) {A B : Type 0} (run : Call → Run A) (m : Result A Stop → Result B Stop) → m (Err OutOfRange) ≡ Err OutOfRange
    → m (Err Deep) ≡ Err Deep → Once f run → Once f (λ call. record { answer = m (run call).answer; asked = (run call).asked })
answered_once f run m range deep (inl quiet) =
    inl (record { none = quiet.none; is = λ call. ap (λ (run : Run _). record { answer = m run.answer; asked = run.asked }) (quiet.is call) })
answered_once f run m range deep (inr one) = inr (record {
  ask = one.ask;
  one = one.one;
  is = λ call. ap (λ (run : Run _). record { answer = m run.answer; asked = run.asked }) (one.is call);
  range = ap m one.range ∙ range;
  deep = ap m one.deep ∙ deep;
  plain = one.plain;
})

-- ---- what makes no call

go_quiet : {A B : Type 0} (answer : Result A Stop) (go : A → Run B) → ((a : A) → (go a).asked ≡ []) → (go_on answer go).asked ≡ []
unfolding go_on stop
go_quiet (Ok a) go h = h a
go_quiet (Err why) go h = refl

both_quiet : {A B : Type 0} (run : Run A) (go : A → Run B) → run.asked ≡ [] → ((a : A) → (go a).asked ≡ []) → (run >>= go).asked ≡ []
unfolding ◌>>=◌ after
both_quiet run go e h = ap (λ xs. xs ++ (go_on run.answer go).asked) e ∙ go_quiet run.answer go h

value_quiet : {A : Type 0} (f : Frame) (state : State) (e : CoreExpr) (go : ℤ → Run A) → ((z : ℤ) → (go z).asked ≡ [])
    → (value_in f state None e >>= go).asked ≡ []
unfolding value_in
value_quiet f state e go h = both_quiet (value_of (eval e (environment f state None))) go (value_asks (eval e (environment f state None))) h

test_quiet : {A : Type 0} (b : Bool) (why : Stop) (a : A) → (if b then stop why else finish a).asked ≡ []
unfolding stop finish
test_quiet true why a = refl
test_quiet false why a = refl

-- ---- terms

module _ (parses : ParsesByOneCall) (f : Frame) (state : State) (u : ℕ) where
  parsed_by : (entry : Entry) (term : CoreTerm) (asked : List Asked) → (parsed silent f state u entry term).asked ≡ asked
      → ((call : Call) → ByCalls call f asked (parsed silent f state u entry term) (parsed call f state u entry term))
      → Once f (λ call. parsed call f state u entry term)
  parsed_by entry term [] none by = inl (record { none = none; is = by })
  parsed_by entry term (ask ∷ []) one by = inr (record {
    ask = ask;
    one = one;
    is = λ call. by call ∙ ap (λ (answer : Result Kid Stop). record { answer = answer; asked = ask ∷ [] })
        (sym (ap (λ (run : Run Kid). run.answer) (by (always (reply call f ask)))));
    range = ap (λ (run : Run Kid). run.answer) (by (always (Err OutOfRange)));
    deep = ap (λ (run : Run Kid). run.answer) (by (always (Err Deep)));
    plain = plain_one f state u entry term ask one;
  })
  parsed_by entry term (ask ∷ other ∷ more) e by = absurd (by silent)

  parsed_once : (entry : Entry) (term : CoreTerm) → Once f (λ call. parsed call f state u entry term)
  parsed_once entry term = parsed_by entry term _ refl (λ call. parses call f state u entry term)

  advance_once : (entry : Entry) (term : Option CoreTerm) → Once f (λ call. advance call f state u entry term)
  unfolding stop finish
  advance_once entry None = inl (record { none = refl; is = λ call. refl })
  advance_once Outside (Some (Set attr e)) = inl (record { none = value_quiet f state e _ (λ z. refl); is = λ call. refl })
  advance_once Outside (Some (Test e)) = inl (record { none = value_quiet f state e _ (λ z. test_quiet (is_zero z) NoTree (Past state)); is = λ call. refl })
  advance_once Outside (Some (Repeat first last one from to)) =
      inl (record { none = value_quiet f state first _ (λ a. value_quiet f state last _ (λ b. refl)); is = λ call. refl })
  advance_once Outside (Some (Many one from to)) = inl (record {
    none = value_quiet f state from _ (λ l. value_quiet f state to _ (λ r. both_quiet _ _ (some_asks (interval (length f.bytes) l r)) (λ ends. refl)));
    is = λ call. refl;
  })
  advance_once Outside (Some (Slot slot)) = answered_once f _ (taken state u Outside (Slot slot)) refl refl (parsed_once Outside (Slot slot))
  advance_once Outside (Some (Pick cases other)) =
      answered_once f _ (taken state u Outside (Pick cases other)) refl refl (parsed_once Outside (Pick cases other))
  advance_once (Items (suc n) i items) (Some (Repeat first last one from to)) =
      answered_once f _ (taken state u (Items (suc n) i items) (Repeat first last one from to)) refl refl
      (parsed_once (Items (suc n) i items) (Repeat first last one from to))
  advance_once (Turns p r items) (Some (Many one from to)) =
      answered_once f _ (taken state u (Turns p r items) (Many one from to)) refl refl (parsed_once (Turns p r items) (Many one from to))
  advance_once entry (Some term) = inl (record { none = refl; is = λ call. refl })

left_once : ParsesByOneCall → (c : OpenCall) (left : List ℕ) → Once c.frame (λ call. first_left call c left)
unfolding stop
left_once parses c [] = inl (record { none = refl; is = λ call. refl })
left_once parses c (u ∷ left) = advance_once parses c.frame c.state u c.entry (slice_get c.terms u)

pub hand_once : ParsesByOneCall → (c : OpenCall) → Once c.frame (λ call. at_hand call c)
hand_once parses c = left_once parses c c.left
