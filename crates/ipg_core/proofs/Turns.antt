-- A repetition never uses up its turns.
use Rattle.std.proofs.Common.{◌≡◌, ℕ, zero, suc, ◌+◌, ◌<◌, ◌≤◌, refl, sym, ap, ◌∙◌, arith, add-one, List}
use Rattle.std.proofs.Common.{[], ◌∷◌, ◌++◌, Result, Ok, Err, Bool, true, false, if◌then◌else◌, length}
use Rattle.std.proofs.lemmas.Bool.{ltb-true}
use Rattle.ipg_core.specs.declared.grammar.Sym.{Sym}
use Rattle.ipg_core.specs.Tree.{Kid}
use Rattle.ipg_core.specs.Touch.{touches, ends_of}
use Rattle.ipg_core.specs.Environment.{Values}
use Rattle.ipg_core.specs.Run.{Stop, NoTree, OutOfRange, Deep, Run, after}
use Rattle.ipg_core.specs.Meaning.{Call, Frame, Place, item_on, kept, many_on, den}
use Rattle.ipg_core.specs.Within.{IsInterval}
use Rattle.ipg_core.specs.Laws.{TurnsSuffice}
use Rattle.ipg_core.proofs.Within.{StandsOn, WithinCalls, item_yields, den_within}

chosen_same : (b : Bool) (x x' y : Run (List Kid)) → (b ≡ true → x ≡ x') → (if b then x else y) ≡ (if b then x' else y)
chosen_same true x x' y h = h refl
chosen_same false x x' y h = refl

kept_same : (answer : Result Kid Stop) (items : List Kid) (go go' : ℕ → List Kid → Run (List Kid))
    → ((item : Kid) → answer ≡ Ok item → touches (ends_of item) ≡ true
    → go (ends_of item).end (items ++ item ∷ []) ≡ go' (ends_of item).end (items ++ item ∷ []))
    → kept answer items go ≡ kept answer items go'
unfolding kept
kept_same (Ok item) items go go' h = chosen_same (touches (ends_of item)) _ _ _ (h item refl)
kept_same (Err NoTree) items go go' h = refl
kept_same (Err OutOfRange) items go go' h = refl
kept_same (Err Deep) items go go' h = refl

-- with a turn to spare, one more comes to the same
more_turns : (call : Call) → WithinCalls call → (f : Frame) (place : Place) (own : Values) (sym : Sym) (n from to : ℕ) (items : List Kid)
    → IsInterval (length f.bytes) from to → to < from + n → many_on call f place own sym (suc n) from to items ≡ many_on call f place own sym n from to items
unfolding many_on
more_turns call calls f place own sym zero from to items i h = let a = i.valid in absurd (omega arith)
more_turns call calls f place own sym (suc n) from to items i h =
    let item = item_on call f place own from to sym in
    ap (after item.asked) (kept_same item.answer items _ _ (λ one e t.
    let on = (item_yields call calls f place own from to sym i).holds one e in
    let a = on.starts in let b : (ends_of one).start < (ends_of one).end = ltb-true _ _ t in
    more_turns call calls f place own sym n (ends_of one).end to (items ++ one ∷ []) (record { valid = on.ends; inside = i.inside }) (omega arith)))

pub turns_suffice : TurnsSuffice
turns_suffice g h f place own sym n from to items le inside lt =
    ap (λ k. many_on (den g h) f place own sym k from to items) (add-one n)
    ∙ more_turns (den g h) (den_within g h) f place own sym n from to items (record { valid = le; inside = inside }) lt
