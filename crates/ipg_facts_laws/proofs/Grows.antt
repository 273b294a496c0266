-- A value stays where its environment goes on.
use Rattle.std.proofs.Common.{◌≡◌, ℕ, Bool, true, false, not, List, [], ◌∷◌, ◌++◌, sym, ap, subst, ◌∙◌, ℤ, pos, Option, Some, None, if◌then◌else◌}
use Rattle.std.specs.List.{AllByRecursion}
use Rattle.ipg_num.specs.Number.{limited, flag, apply_of, negate_of}
use Rattle.ipg_num.specs.declared.op.Answer.{Answer}
use Rattle.ipg_num.specs.declared.op.Answer.TheVariants.{Val}
use Rattle.ipg_core.specs.declared.grammar.CoreExpr.{CoreExpr, map-CoreExpr, roll-CoreExpr, fold-roll-CoreExpr}
use Rattle.ipg_core.specs.declared.grammar.CoreExpr.TheOpen.{CoreExpr-F}
use Rattle.ipg_core.specs.Environment.{Environment, done_at, items_so_far, field_of_item}
use Rattle.ipg_core.specs.Eval as core
use Rattle.ipg_core.specs.Eval.{eval, on_value, found, is_zero, behind, greatest_end, limited_reading}
use Rattle.ipg_core.specs.Mention.{Mention, mentions, mentions_step, field_mentions}
use Rattle.ipg_facts_laws.specs.Grows.{Grows, IsSettled}
use Rattle.ipg_facts_laws.specs.Laws.{ValuesStay}
use Rattle.ipg_facts_variables.specs.Induct.{Sure, bare, induct}
use Rattle.ipg_facts_laws.proofs.Answers.{found_is, kept, first_of}

pub all_left : {A : Type 0} (P : A → Type 0) (xs ys : List A) → AllByRecursion P (xs ++ ys) → AllByRecursion P xs
all_left P [] ys h = tt
all_left P (x ∷ xs) ys h = (h.0, all_left P xs ys h.1)

pub all_right : {A : Type 0} (P : A → Type 0) (xs ys : List A) → AllByRecursion P (xs ++ ys) → AllByRecursion P ys
all_right P [] ys h = h
all_right P (x ∷ xs) ys h = all_right P xs ys h.1

then_is : (r : Answer) (go : ℤ → Answer) (x z : ℤ) → r ≡ Val x → go x ≡ Val z → on_value r go ≡ Val z
then_is r go x z e f = ap (λ a. on_value a go) e ∙ f

found_at : (o : Option ℤ) (z : ℤ) → o ≡ Some z → found o ≡ Val z
found_at o z e = ap found e

module _ (ended : ℕ → Bool) (env later : Environment) (grows : Grows ended env later) where
  abbrev Stays : CoreExpr → Type 0
  Stays e = (z : ℤ) → AllByRecursion (IsSettled ended) (mentions e) → eval e env ≡ Val z → eval e later ≡ Val z

  abbrev evals : CoreExpr-F (Sure Stays) → CoreExpr-F core.Reading
  evals y = map-CoreExpr CoreExpr core.Reading eval (bare y)

  abbrev mentioned : CoreExpr-F (Sure Stays) → List Mention
  mentioned y = mentions_step (map-CoreExpr CoreExpr (List Mention) mentions (bare y))

  behind_is : (one two : Option ℕ) (left right : Answer) (z : ℤ) → two ≡ one → (left ≡ Val z → right ≡ Val z) → behind one left ≡ Val z
      → behind two right ≡ Val z
  behind_is None two left right z e f h = ap (λ o. behind o right) e ∙ f h
  behind_is (Some end) two left right z e f h = ap (λ o. behind o right) e ∙ h

  both_is : (zero : Bool) (rest more : Answer) (z : ℤ) → ((y : ℤ) → rest ≡ Val y → more ≡ Val y)
      → (if zero then flag false else on_value rest (λ y. flag (not (is_zero y)))) ≡ Val z
      → (if zero then flag false else on_value more (λ y. flag (not (is_zero y)))) ≡ Val z
  both_is true rest more z f h = h
  both_is false rest more z f h =
      let y = first_of rest (λ y. flag (not (is_zero y))) z h in then_is more (λ y. flag (not (is_zero y))) y.first z (f y.first y.is) y.goes

  either_is : (zero : Bool) (rest more : Answer) (z : ℤ) → ((y : ℤ) → rest ≡ Val y → more ≡ Val y)
      → (if zero then on_value rest (λ y. flag (not (is_zero y))) else flag true) ≡ Val z
      → (if zero then on_value more (λ y. flag (not (is_zero y))) else flag true) ≡ Val z
  either_is false rest more z f h = h
  either_is true rest more z f h =
      let y = first_of rest (λ y. flag (not (is_zero y))) z h in then_is more (λ y. flag (not (is_zero y))) y.first z (f y.first y.is) y.goes

  cond_is : (zero : Bool) (a b c d : Answer) (z : ℤ) → (a ≡ Val z → c ≡ Val z) → (b ≡ Val z → d ≡ Val z) → (if zero then b else a) ≡ Val z
      → (if zero then d else c) ≡ Val z
  cond_is true a b c d z f g h = g h
  cond_is false a b c d z f g h = f h

  layer : (y : CoreExpr-F (Sure Stays)) (z : ℤ) → AllByRecursion (IsSettled ended) (mentioned y) → core.reading (evals y) env ≡ Val z
      → core.reading (evals y) later ≡ Val z
  layer (CoreExpr-F.Num n) z m e = e
  layer CoreExpr-F.Eoi z m e = ap (λ n. Val (pos n)) grows.eoi ∙ e
  layer (CoreExpr-F.Own a) z m e = found_at _ z (grows.own a z (found_is _ z e))
  layer (CoreExpr-F.Outer a) z m e = found_at _ z (grows.outer a z (found_is _ z e))
  layer CoreExpr-F.Loop z m e = found_at _ z (grows.turn z (found_is _ z e))
  layer (CoreExpr-F.Seen term symbol f) z m e = found_at _ z (grows.results term symbol f z (found_is _ z e))
  layer (CoreExpr-F.Item term index f) z m e =
      let i = first_of (eval index.0 env) (λ i. found (field_of_item env.names f (core.item_at (items_so_far (done_at env.done term)) i))) z e in
      then_is (eval index.0 later) (λ i. found (field_of_item later.names f (core.item_at (items_so_far (done_at later.done term)) i))) i.first z
      (index.1 i.first (all_left (IsSettled ended) (mentions index.0) (field_mentions f) m.1) i.is)
      (found_at _ z (grows.items term f i.first z (found_is _ z i.goes)))
  layer (CoreExpr-F.After term left) z m e =
      behind_is (greatest_end (items_so_far (done_at env.done term))) (greatest_end (items_so_far (done_at later.done term))) (eval left.0 env)
      (eval left.0 later) z (grows.ended term m.0) (left.1 z m.1) e
  layer (CoreExpr-F.Neg a) z m e =
      let x = first_of (eval a.0 env) negate_of z e in then_is (eval a.0 later) negate_of x.first z (a.1 x.first m x.is) x.goes
  layer (CoreExpr-F.Not a) z m e =
      let x = first_of (eval a.0 env) (λ x. flag (is_zero x)) z e in then_is (eval a.0 later) (λ x. flag (is_zero x)) x.first z (a.1 x.first m x.is) x.goes
  layer (CoreExpr-F.Two op a b) z m e =
      let x = first_of (eval a.0 env) (λ x. on_value (eval b.0 env) (λ y. apply_of op x y)) z e in
      let y = first_of (eval b.0 env) (λ y. apply_of op x.first y) z x.goes in
      then_is (eval a.0 later) (λ x. on_value (eval b.0 later) (λ y. apply_of op x y)) x.first z
      (a.1 x.first (all_left (IsSettled ended) (mentions a.0) (mentions b.0) m) x.is)
      (then_is (eval b.0 later) (λ y. apply_of op x.first y) y.first z (b.1 y.first (all_right (IsSettled ended) (mentions a.0) (mentions b.0) m) y.is) y.goes)
  layer (CoreExpr-F.Both a b) z m e =
      let x = first_of (eval a.0 env) (λ x. if is_zero x then flag false else on_value (eval b.0 env) (λ y. flag (not (is_zero y)))) z e in
      then_is (eval a.0 later) (λ x. if is_zero x then flag false else on_value (eval b.0 later) (λ y. flag (not (is_zero y)))) x.first z
      (a.1 x.first (all_left (IsSettled ended) (mentions a.0) (mentions b.0) m) x.is)
      (both_is (is_zero x.first) (eval b.0 env) (eval b.0 later) z (λ y f. b.1 y (all_right (IsSettled ended) (mentions a.0) (mentions b.0) m) f) x.goes)
  layer (CoreExpr-F.Either a b) z m e =
      let x = first_of (eval a.0 env) (λ x. if is_zero x then on_value (eval b.0 env) (λ y. flag (not (is_zero y))) else flag true) z e in
      then_is (eval a.0 later) (λ x. if is_zero x then on_value (eval b.0 later) (λ y. flag (not (is_zero y))) else flag true) x.first z
      (a.1 x.first (all_left (IsSettled ended) (mentions a.0) (mentions b.0) m) x.is)
      (either_is (is_zero x.first) (eval b.0 env) (eval b.0 later) z (λ y f. b.1 y (all_right (IsSettled ended) (mentions a.0) (mentions b.0) m) f) x.goes)
  layer (CoreExpr-F.Cond c a b) z m e =
      let x = first_of (eval c.0 env) (λ x. if is_zero x then eval b.0 env else eval a.0 env) z e in
      let rest : AllByRecursion (IsSettled ended) (mentions a.0 ++ mentions b.0) = all_right (IsSettled ended) (mentions c.0)
      (mentions a.0 ++ mentions b.0) m in
      then_is (eval c.0 later) (λ x. if is_zero x then eval b.0 later else eval a.0 later) x.first z
      (c.1 x.first (all_left (IsSettled ended) (mentions c.0) (mentions a.0 ++ mentions b.0) m) x.is)
      (cond_is (is_zero x.first) (eval a.0 env) (eval b.0 env) (eval a.0 later) (eval b.0 later) z
      (a.1 z (all_left (IsSettled ended) (mentions a.0) (mentions b.0) rest)) (b.1 z (all_right (IsSettled ended) (mentions a.0) (mentions b.0) rest)) x.goes)

  rolled : (y : CoreExpr-F (Sure Stays)) → Stays (roll-CoreExpr (bare y))
  unfolding eval
  rolled y z m e =
      let was : eval (roll-CoreExpr (bare y)) env ≡ limited_reading (evals y) env = ap (λ f. f env)
      (fold-roll-CoreExpr core.Reading limited_reading (bare y)) in
      let is : eval (roll-CoreExpr (bare y)) later ≡ limited_reading (evals y) later = ap (λ f. f later)
      (fold-roll-CoreExpr core.Reading limited_reading (bare y)) in
      let k = kept (core.reading (evals y) env) z (sym was ∙ e) in
      is ∙ ap (λ a. on_value a limited) (layer y z (subst (AllByRecursion (IsSettled ended)) (fold-roll-CoreExpr (List Mention) mentions_step (bare y)) m) k.is)
      ∙ k.number

  stays : (e : CoreExpr) → Stays e
  stays = induct Stays rolled

pub values_stay : ValuesStay
values_stay ended env later grows e z m h = stays ended env later grows e z m h
