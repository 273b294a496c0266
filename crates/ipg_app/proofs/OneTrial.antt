-- Of a trial one thing is said.
use Rattle.std.proofs.Common.{◌≡◌, ℕ, List, [], length, min, ◌-◌, ◌^◌, Ok, Err, Result, sym, subst, ap, ◌∙◌}
use Rattle.ipg_core.specs.Grammar.{Grammar}
use Rattle.ipg_core.specs.Laws.{HeightsAgree}
use Rattle.ipg_core.specs.Run.{Stop, NoTree, OutOfRange, Deep}
use Rattle.ipg_core.specs.Tree.{Tree}
use Rattle.ipg_mach_count_laws.specs.Laws.{AllWhereNoneKept, FreshAtAnyHeight, OneReach}
use Rattle.ipg_formats.specs.declared.Kind.{Kind}
use Rattle.ipg_formats.specs.Sample.{sample_of}
use Rattle.ipg_app_tree.specs.declared.measuring.Size.{Size}
use Rattle.ipg_app_tree.specs.Measured.{IsSize}
use Rattle.ipg_app_text.specs.Said.{Said, done_line}
use Rattle.ipg_app.specs.Trial.{IsTried, size_words}
use Rattle.ipg_app.specs.Laws.{OneTrial}
use Rattle.ipg_app.proofs.OneParse.{one_answer}

abbrev most : ℕ
most = 2 ^ 64 - 1

module _ (heights : HeightsAgree) (any_height : FreshAtAnyHeight) (one_reach : OneReach) (none_kept : AllWhereNoneKept) where
  -- as many keys are reached, at whatever heights
  as_many : (g : Grammar) (input : List ℕ) (tree : Tree) (one other : Size) (h : IsSize g input tree one) (k : IsSize g input tree other)
      → length h.keys ≡ length k.keys
  as_many g input tree one other h k =
      let fresh = (none_kept g input h.height h.keys).0 h.reach in
      let there = (any_height g input h.height k.height [] h.keys h.settled k.settled fresh).0 in
      let reach = (none_kept g input k.height h.keys).1 there in
      (one_reach g input k.height h.keys k.keys reach k.reach).1

  words_same : (g : Grammar) (name : List ℕ) (kind : Kind) (n : ℕ) (tree : Tree) (one other : Size) → IsSize g (sample_of kind n) tree one
      → IsSize g (sample_of kind n) tree other → size_words name n (length (sample_of kind n)) one ≡ size_words name n (length (sample_of kind n)) other
  words_same g name kind n tree one other h k =
      let input = sample_of kind n in
      let lines : one.lines ≡ other.lines = h.lines ∙ sym k.lines in
      let bodies : one.bodies ≡ other.bodies = h.bodies ∙ ap (λ m. min m most) (as_many g input tree one other h k) ∙ sym k.bodies in
      ap (λ m. size_words name n (length input) (record { lines = m; bodies = one.bodies })) lines
      ∙ ap (λ m. size_words name n (length input) (record { lines = other.lines; bodies = m })) bodies

  tried_same : (name : List ℕ) (kind : Kind) (n : ℕ) (g : Grammar) (answer : Result Tree Stop) (a b : Said) → IsTried name kind n g answer a
      → IsTried name kind n g answer b → a ≡ b
  tried_same name kind n g (Ok tree) a b (one, h, is) (other, k, too) = is ∙ ap done_line (words_same g name kind n tree one other h k) ∙ sym too
  tried_same name kind n g (Err NoTree) a b e f = e ∙ sym f
  tried_same name kind n g (Err OutOfRange) a b e f = e ∙ sym f
  tried_same name kind n g (Err Deep) a b e f = absurd e

  pub one_trial : OneTrial
  one_trial name kind n g one other p q =
      let same = one_answer heights g (sample_of kind n) p.answer q.answer p.means q.means in
      tried_same name kind n g q.answer one other (subst (λ x. IsTried name kind n g x one) same p.is) q.is
