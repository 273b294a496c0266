-- Answers that the height sufficed for, and how runs pass them on.
use Rattle.std.proofs.Common.{◌≡◌, ◌≢◌, ℕ, refl, ap, ◌∙◌, List, Result, Ok, Err, Bool, true, false, if◌then◌else◌}
use Rattle.ipg_core.specs.Run.{Stop, NoTree, OutOfRange, Deep, Asked, Run, finish, stop, after, go_on, ◌>>=◌, or_next, or_else}
use Rattle.ipg_core.specs.Tree.{Kid}
use Rattle.ipg_core.specs.Touch.{touches, ends_of}
use Rattle.ipg_core.specs.Meaning.{kept}

pub record Settled {A : Type 0} (answer : Result A Stop) : Type 0 where
  pub not_deep : answer ≢ Err Deep

pub settled_ok : {A : Type 0} (a : A) → Settled {A = A} (Ok a)
settled_ok a = record { not_deep = λ e. cc }

pub settled_no_tree : {A : Type 0} → Settled {A = A} (Err NoTree)
settled_no_tree = record { not_deep = λ e. cc }

pub settled_range : {A : Type 0} → Settled {A = A} (Err OutOfRange)
settled_range = record { not_deep = λ e. cc }

settled_go : {A B : Type 0} (answer : Result A Stop) (go : A → Run B) → Settled answer → ((a : A) → answer ≡ Ok a → Settled (go a).answer)
    → Settled (go_on answer go).answer
unfolding go_on stop
settled_go (Ok a) go h k = k a refl
settled_go (Err NoTree) go h k = settled_no_tree
settled_go (Err OutOfRange) go h k = settled_range
settled_go (Err Deep) go h k = absurd (h.not_deep refl)

-- a run whose parts settle does
pub settled_bind : {A B : Type 0} (run : Run A) (go : A → Run B) → Settled run.answer → ((a : A) → run.answer ≡ Ok a → Settled (go a).answer)
    → Settled (run >>= go).answer
unfolding ◌>>=◌ after
settled_bind run go h k = settled_go run.answer go h k

-- two runs agree where the first one settles
pub record Agree {A : Type 0} (run other : Run A) : Type 0 where
  pub agree : Settled run.answer → other ≡ run

pub agree_refl : {A : Type 0} (run : Run A) → Agree run run
agree_refl run = record { agree = λ s. refl }

agree_go : {A B : Type 0} (answer : Result A Stop) (asked : List Asked) (other : Run A) (go go' : A → Run B)
    → (Settled answer → other ≡ record { answer = answer; asked = asked }) → ((a : A) → Agree (go a) (go' a)) → Settled (go_on answer go).answer
    → (other >>= go') ≡ after asked (go_on answer go)
unfolding ◌>>=◌ go_on after stop
agree_go (Ok a) asked other go go' h k s = ap (λ run. after run.asked (go_on run.answer go')) (h (settled_ok a)) ∙ ap (after asked) ((k a).agree s)
agree_go (Err NoTree) asked other go go' h k s = ap (λ run. after run.asked (go_on run.answer go')) (h settled_no_tree)
agree_go (Err OutOfRange) asked other go go' h k s = ap (λ run. after run.asked (go_on run.answer go')) (h settled_range)
agree_go (Err Deep) asked other go go' h k s = absurd (s.not_deep refl)

pub agree_bind : {A B : Type 0} {run other : Run A} {go go' : A → Run B} → Agree run other → ((a : A) → Agree (go a) (go' a))
    → Agree (run >>= go) (other >>= go')
unfolding ◌>>=◌ after
agree_bind {A} {B} {run} {other} {go} {go'} h k = record { agree = λ s. agree_go run.answer run.asked other go go' h.agree k s }

agree_next : {A : Type 0} (answer : Result A Stop) (asked : List Asked) (other next next' : Run A)
    → (Settled answer → other ≡ record { answer = answer; asked = asked }) → Agree next next' → Settled (or_next answer next).answer
    → or_else other next' ≡ after asked (or_next answer next)
unfolding or_else or_next after stop finish
agree_next (Ok a) asked other next next' h k s = ap (λ run. after run.asked (or_next run.answer next')) (h (settled_ok a))
agree_next (Err NoTree) asked other next next' h k s = ap (λ run. after run.asked (or_next run.answer next')) (h settled_no_tree) ∙ ap (after asked) (k.agree s)
agree_next (Err OutOfRange) asked other next next' h k s = ap (λ run. after run.asked (or_next run.answer next')) (h settled_range)
agree_next (Err Deep) asked other next next' h k s = absurd (s.not_deep refl)

pub agree_else : {A : Type 0} {run other next next' : Run A} → Agree run other → Agree next next' → Agree (or_else run next) (or_else other next')
unfolding or_else after
agree_else {A} {run} {other} {next} {next'} h k = record { agree = λ s. agree_next run.answer run.asked other next next' h.agree k s }

settled_next : {A : Type 0} (answer : Result A Stop) (next : Run A) → Settled answer → Settled next.answer → Settled (or_next answer next).answer
unfolding or_next stop finish
settled_next (Ok a) next h k = settled_ok a
settled_next (Err NoTree) next h k = k
settled_next (Err OutOfRange) next h k = settled_range
settled_next (Err Deep) next h k = absurd (h.not_deep refl)

pub settled_else : {A : Type 0} (run next : Run A) → Settled run.answer → Settled next.answer → Settled (or_else run next).answer
unfolding or_else after
settled_else run next h k = settled_next run.answer next h k

-- an item that a repetition keeps or ends with
settled_item : (b : Bool) (x y : Run (List Kid)) → Settled x.answer → Settled y.answer → Settled (if b then x else y).answer
settled_item true x y h k = h
settled_item false x y h k = k

settled_keep : (answer : Result Kid Stop) (items : List Kid) (go : ℕ → List Kid → Run (List Kid)) → Settled answer
    → ((end : ℕ) (more : List Kid) → Settled (go end more).answer) → Settled (kept answer items go).answer
unfolding kept stop finish
settled_keep (Ok item) items go h k = settled_item (touches (ends_of item)) _ _ (k _ _) (settled_ok items)
settled_keep (Err NoTree) items go h k = settled_ok items
settled_keep (Err OutOfRange) items go h k = settled_range
settled_keep (Err Deep) items go h k = absurd (h.not_deep refl)

pub settled_kept : (item : Run Kid) (items : List Kid) (go : ℕ → List Kid → Run (List Kid)) → Settled item.answer
    → ((end : ℕ) (more : List Kid) → Settled (go end more).answer) → Settled (after item.asked (kept item.answer items go)).answer
unfolding after
settled_kept item items go h k = settled_keep item.answer items go h k

agree_item : (b : Bool) (x x' y : Run (List Kid)) → Agree x x' → Settled (if b then x else y).answer → (if b then x' else y) ≡ (if b then x else y)
agree_item true x x' y h s = h.agree s
agree_item false x x' y h s = refl

agree_keep : (answer : Result Kid Stop) (asked : List Asked) (other : Run Kid) (items : List Kid) (go go' : ℕ → List Kid → Run (List Kid))
    → (Settled answer → other ≡ record { answer = answer; asked = asked }) → ((end : ℕ) (more : List Kid) → Agree (go end more) (go' end more))
    → Settled (kept answer items go).answer → after other.asked (kept other.answer items go') ≡ after asked (kept answer items go)
unfolding kept stop finish
agree_keep (Ok item) asked other items go go' h k s =
    ap (λ run. after run.asked (kept run.answer items go')) (h (settled_ok item)) ∙ ap (after asked) (agree_item (touches (ends_of item)) _ _ _ (k _ _) s)
agree_keep (Err NoTree) asked other items go go' h k s = ap (λ run. after run.asked (kept run.answer items go')) (h settled_no_tree)
agree_keep (Err OutOfRange) asked other items go go' h k s = ap (λ run. after run.asked (kept run.answer items go')) (h settled_range)
agree_keep (Err Deep) asked other items go go' h k s = absurd (s.not_deep refl)

pub agree_kept : {item other : Run Kid} → Agree item other → (items : List Kid) {go go' : ℕ → List Kid → Run (List Kid)}
    → ((end : ℕ) (more : List Kid) → Agree (go end more) (go' end more))
    → Agree (after item.asked (kept item.answer items go)) (after other.asked (kept other.answer items go'))
unfolding after
agree_kept {item} {other} h items {go} {go'} k = record { agree = λ s. agree_keep item.answer item.asked other items go go' h.agree k s }
