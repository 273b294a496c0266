-- A term is entered by the values of its expressions.
use Rattle.std.proofs.Common.{◌≡◌, ◌≢◌, ℕ, suc, zero, ◌≤◌, refl, sym, ap, ◌∙◌, subst, arith, [], Option, Some, None, Ok, true, false, ℤ, pos, negsuc}
use Rattle.std.proofs.Common.{◌+ℤ◌, ◌-ℤ◌, FitsSigned}
use Rattle.std.specs.Prelude.{slice_get}
use Rattle.std.specs.Int.{w64}
use Rattle.std.proofs.lemmas.Int.{ints}
use Rattle.ipg_num.specs.declared.op.Answer.TheVariants.{Val, Fail, Range}
use Rattle.ipg_core.specs.declared.grammar.Sym.{Sym}
use Rattle.ipg_core.specs.Part.{interval}
use Rattle.ipg_core.specs.Eval.{is_zero}
use Rattle.ipg_core.specs.Run.{Run, finish, stop, after, go_on, ◌>>=◌, value_of, some_of}
use Rattle.ipg_core.specs.Meaning.{State, with_value, times}
use Rattle.ipg_mach_moves.specs.Moves as moves
use Rattle.ipg_mach_nodes.specs.Stored.{Stored, Source}
use Rattle.ipg_mach_term.specs.declared.entry.TermEntry.TheVariants as entry
use Rattle.ipg_mach_term.specs.declared.advance.Advance.{Advance}
use Rattle.ipg_mach_term.specs.declared.advance.Advance.TheVariants as advance
use Rattle.ipg_mach_term.specs.Advance.{IsMade}
use Rattle.ipg_mach_term.specs.Parts.{tested, array_between}

-- numbers as the code hands them on

pub same_ends : (n size : ℕ) (l low r high : ℤ) (found : Option (ℕ × ℕ)) → n ≡ size → low ≡ l → high ≡ r → found ≡ interval size low high
    → interval n l r ≡ found
same_ends n size l low r high found a b d e = ap (λ m. interval m l r) a ∙ ap (λ x. interval size x r) (sym b) ∙ ap (interval size low) (sym d) ∙ sym e

-- how many items an array has

times_by : (first last d : ℤ) → d ≡ last -ℤ first → times d ≢ 0 → first +ℤ pos (times d) ≡ last
times_by first last (pos n) e some = omega (arith, ints)
times_by first last (negsuc n) e some = absurd (some refl)

pub counted : (first last low high : ℤ) (left : ℕ) → low ≡ first → high ≡ last → left ≡ times (high -ℤ low) → left ≡ times (last -ℤ first)
counted first last low high left a b e = e ∙ ap (λ x. times (high -ℤ x)) a ∙ ap (λ x. times (x -ℤ first)) b

last_fits : (first last : ℤ) (left : ℕ) → left ≡ times (last -ℤ first) → left ≢ 0 → FitsSigned w64 last → FitsSigned w64 (first +ℤ pos left)
last_fits first last left e some fits =
    let same = ap (λ n. first +ℤ pos n) e ∙ times_by first last (last -ℤ first) refl (λ none. some (e ∙ none)) in
    subst (FitsSigned w64) (sym same) fits

module _ (src : Source) (st : Stored) (at n u : ℕ) (state : State) where
  abbrev Is : Advance → Run moves.Advance → Type 0
  Is adv run = IsMade src st at n u state [] adv run

  same : (adv : Advance) (run other : Run moves.Advance) → run ≡ other → Is adv other → Is adv run
  same adv run other e h = subst (Is adv) (sym e) h

  -- a run that begins with a value, or with none
  module _ (run : Run ℤ) (go : ℤ → Run moves.Advance) where
    pub on_value : (z shown : ℤ) (adv : Advance) → run ≡ value_of (Val z) → shown ≡ z → Is adv (go shown) → Is adv (run >>= go)
    unfolding finish ◌>>=◌ after go_on
    on_value z shown adv e is h = same adv _ _ (ap (λ r. r >>= go) e) (subst (λ i. Is adv (go i)) is h)

    pub on_fail : run ≡ value_of Fail → Is advance.NoTree (run >>= go)
    unfolding stop ◌>>=◌ after go_on
    on_fail e = same advance.NoTree _ _ (ap (λ r. r >>= go) e) (refl, refl)

    pub on_range : run ≡ value_of Range → Is advance.Range (run >>= go)
    unfolding stop ◌>>=◌ after go_on
    on_range e = same advance.Range _ _ (ap (λ r. r >>= go) e) (refl, refl)

  -- an attribute
  pub sets : (attr : ℕ) (run : Run ℤ) (z shown : ℤ) → run ≡ value_of (Val z) → shown ≡ z → FitsSigned w64 shown
      → Is (advance.Value attr shown) (run >>= λ x. finish (moves.Past (with_value state attr x)))
  unfolding finish
  sets attr run z shown e is sized =
      on_value run (λ x. finish (moves.Past (with_value state attr x))) z shown (advance.Value attr shown) e is (refl, (sized, refl))

  -- a test
  pub fails : (z shown : ℤ) → shown ≡ z → is_zero shown ≡ true → Is advance.NoTree (tested state z)
  unfolding stop
  fails z shown is e = rw (← is, e) (refl, refl)

  pub holds : (z shown : ℤ) → shown ≡ z → is_zero shown ≡ false → Is advance.Passed (tested state z)
  unfolding finish
  holds z shown is e = rw (← is, e) (refl, refl)

  -- an array
  module _ (row : ℕ) (name : Sym) (is : slice_get src.syms row ≡ Some name) (first last : ℤ) where
    none_by : (left : ℕ) → left ≡ 0 → Is (advance.Array row) (finish (moves.array_on state u name left first []))
    unfolding finish
    none_by zero e = (refl, (name, is, refl))
    none_by (suc left) e = absurd (omega arith)

    pub none : (left : ℕ) → left ≡ times (last -ℤ first) → left ≡ 0 → Is (advance.Array row) (array_between state u name first last)
    none left e ended = none_by (times (last -ℤ first)) (sym e ∙ ended)

    some_by : (left : ℕ) (shown : ℤ) → left ≢ 0 → shown ≡ first → FitsSigned w64 shown → FitsSigned w64 (shown +ℤ pos left)
        → Is (advance.Inside (entry.Items left shown)) (finish (moves.array_on state u name left first []))
    unfolding finish
    some_by zero shown e same a b = absurd (e refl)
    some_by (suc left) shown e same a b =
        (refl, (moves.Items (suc left) shown [], (left, refl, refl, a, b), ap (λ i. Ok (moves.Inside (moves.Items (suc left) i []))) (sym same)))

    pub some : (left : ℕ) (shown : ℤ) → left ≡ times (last -ℤ first) → left ≢ 0 → shown ≡ first → FitsSigned w64 first → FitsSigned w64 last
        → Is (advance.Inside (entry.Items left shown)) (array_between state u name first last)
    some left shown e more same a b =
        let fits = last_fits first last left e more b in
        subst (λ m. Is (advance.Inside (entry.Items left shown)) (finish (moves.array_on state u name m first []))) e
        (some_by left shown more same (subst (FitsSigned w64) (sym same) a) (subst (λ i. FitsSigned w64 (i +ℤ pos left)) (sym same) fits))

  -- a repetition
  abbrev turning : ℕ × ℕ → Run moves.Advance
  turning ends = finish (moves.Inside (moves.Turns ends.0 ends.1 []))

  pub turns : (opt : Option (ℕ × ℕ)) (ends : ℕ × ℕ) → opt ≡ Some ends → ends.0 ≤ ends.1 → ends.1 ≤ n
      → Is (advance.Inside (entry.Turns ends.0 ends.1)) (some_of opt >>= turning)
  unfolding finish ◌>>=◌ after go_on
  turns opt ends e le inside =
      same (advance.Inside (entry.Turns ends.0 ends.1)) _ _ (ap (λ o. some_of o >>= turning) e) (refl, (moves.Turns ends.0 ends.1 [], (refl, le, inside), refl))

  pub no_turns : (opt : Option (ℕ × ℕ)) → opt ≡ None → Is advance.NoTree (some_of opt >>= turning)
  unfolding stop ◌>>=◌ after go_on
  no_turns opt e = same advance.NoTree _ _ (ap (λ o. some_of o >>= turning) e) (refl, refl)
