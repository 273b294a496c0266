-- An input has one parse.
use Rattle.std.proofs.Common.{◌≡◌, ◌≢◌, ℕ, ◌+◌, inl, inr, List, [], length, Ok, Err, Result, sym, subst, ap, ◌∙◌, arith}
use Rattle.ipg_core.specs.Grammar.{Grammar}
use Rattle.ipg_core.specs.Tree.{Tree}
use Rattle.ipg_core.specs.Run.{Stop, NoTree, OutOfRange, Deep}
use Rattle.ipg_core.specs.Meaning.{Means, den}
use Rattle.ipg_core.specs.Laws.{HeightsAgree}
use Rattle.ipg_cover_leaves.specs.declared.fault.PutFault.TheVariants.{Gap}
use Rattle.ipg_cover_leaves.specs.Laws.{AnswersAreOne}
use Rattle.ipg_cover_leaves.specs.Leaves.{leaves_of}
use Rattle.ipg_app_tree.specs.declared.show.Show.{Show}
use Rattle.ipg_app_tree.specs.declared.show.Show.TheVariants as show
use Rattle.ipg_app_text.specs.Said.{Said, done}
use Rattle.ipg_app_tree.specs.Shown.{Shows, Misses, TreeSays, gap_said}
use Rattle.ipg_app_tree.specs.Parses.{ParseSays}
use Rattle.ipg_app.specs.Laws.{OneParse}

module _ (heights : HeightsAgree) where
  -- an answer stays at each greater height
  higher : (g : Grammar) (s : List ℕ) (answer : Result Tree Stop) (m : Means g s answer) (h : ℕ) → den g (m.height + h) 0 s [] ≡ answer
  higher g s answer m h =
      heights g m.height (m.height + h) 0 s [] (omega arith) (subst (λ a. a ≢ Err Deep) (sym m.is) m.settled) ∙ m.is

  pub one_answer : (g : Grammar) (s : List ℕ) (one other : Result Tree Stop) → Means g s one → Means g s other → one ≡ other
  one_answer g s one other m n =
      let same : n.height + m.height ≡ m.height + n.height = omega arith in
      sym (higher g s one m n.height) ∙ ap (λ h. den g h 0 s []) (sym same) ∙ higher g s other n m.height

  module _ (once : AnswersAreOne) where
    one_text : (show : Show) (g : Grammar) (input : List ℕ) (one : Tree) (a b : List ℕ) → Shows show g input one a → Shows show g input one b → a ≡ b
    one_text show.Lines g input one a b e f = e ∙ sym f
    one_text (show.Picked query) g input one a b e f = e ∙ sym f
    one_text show.Json g input one a b e f = e ∙ sym f
    one_text show.View g input one a b e f = e ∙ sym f
    one_text (show.PickedView query) g input one a b e f = e ∙ sym f
    one_text show.Bytes g input one a b e f = (once (leaves_of one) (length input)).one_back a b e f

    never_both : (show : Show) (g : Grammar) (input : List ℕ) (one : Tree) (a : List ℕ) (at : ℕ) → Shows show g input one a → Misses show input one at → ⊥
    never_both show.Lines g input one a at e f = f
    never_both (show.Picked query) g input one a at e f = f
    never_both show.Json g input one a at e f = f
    never_both show.View g input one a at e f = f
    never_both (show.PickedView query) g input one a at e f = f
    never_both show.Bytes g input one a at e f = let none = (once (leaves_of one) (length input)).never_both a (Gap at) e f in absurd (cc)

    one_place : (show : Show) (input : List ℕ) (one : Tree) (at other : ℕ) → Misses show input one at → Misses show input one other → at ≡ other
    one_place show.Lines input one at other e f = absurd e
    one_place (show.Picked query) input one at other e f = absurd e
    one_place show.Json input one at other e f = absurd e
    one_place show.View input one at other e f = absurd e
    one_place (show.PickedView query) input one at other e f = absurd e
    one_place show.Bytes input one at other e f = elim ((once (leaves_of one) (length input)).one_fault (Gap at) (Gap other) e f) [
      | inl none ↦ absurd (cc)
      | inr more ↦ elim more [ inl none ↦ absurd (cc) | inr same ↦ cc ]
    ]

    tree_says : (show : Show) (g : Grammar) (input : List ℕ) (one : Tree) (a b : Said) → TreeSays show g input one a → TreeSays show g input one b → a ≡ b
    tree_says show g input one a b (inl (x, e, p)) (inl (y, f, q)) = p ∙ ap done (one_text show g input one x y e f) ∙ sym q
    tree_says show g input one a b (inl (x, e, p)) (inr (at, f, q)) = absurd (never_both show g input one x at e f)
    tree_says show g input one a b (inr (at, e, p)) (inl (y, f, q)) = absurd (never_both show g input one y at f e)
    tree_says show g input one a b (inr (at, e, p)) (inr (other, f, q)) = p ∙ ap gap_said (one_place show input one at other e f) ∙ sym q

    says_one : (show : Show) (g : Grammar) (input : List ℕ) (answer : Result Tree Stop) (a b : Said) → ParseSays show g input answer a
        → ParseSays show g input answer b → a ≡ b
    says_one show g input (Ok one) a b e f = tree_says show g input one a b e f
    says_one show g input (Err NoTree) a b e f = e ∙ sym f
    says_one show g input (Err OutOfRange) a b e f = e ∙ sym f
    says_one show g input (Err Deep) a b e f = absurd e

    pub one_parse : OneParse
    one_parse show g input a b h k =
        let same = one_answer g input h.answer k.answer h.means k.means in
        says_one show g input k.answer a b (subst (λ answer. ParseSays show g input answer a) same h.is) k.is
