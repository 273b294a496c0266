-- A core grammar is accepted, or is refused in one way.
use Rattle.std.proofs.Common.{◌≡◌, Ok, Err, sym, ap, ◌∙◌}
use Rattle.ipg_core.specs.Grammar.{Grammar}
use Rattle.ipg_lin.specs.Formula.{assigned}
use Rattle.ipg_term.specs.Laws.{LoopsArentAccepted, OneLoops}
use Rattle.ipg_app_text.specs.Said.{Said}
use Rattle.ipg_app_grammar.specs.Checks.{may_loop, IsLoop}
use Rattle.ipg_app.specs.Laws.{OneCheck}

module _ (loops_arent_accepted : LoopsArentAccepted) (one_loops : OneLoops) where
  loops_once : (g : Grammar) (one other : Said) → IsLoop g one → IsLoop g other → one ≡ other
  loops_once g one other h k =
      let same = one_loops g h.cycle k.cycle h.values k.values h.loops k.loops in
      h.is
      ∙ ap (λ cycle. may_loop g cycle (assigned h.values 0)) same.0
      ∙ ap (λ n. may_loop g k.cycle n) same.1
      ∙ sym k.is

  pub one_check : OneCheck
  one_check g (Ok x) (Ok y) h k = ap Ok (h.0 ∙ sym k.0)
  one_check g (Ok x) (Err said) h k = absurd (loops_arent_accepted g k.cycle k.values k.loops h.1)
  one_check g (Err said) (Ok y) h k = absurd (loops_arent_accepted g h.cycle h.values h.loops k.1)
  one_check g (Err one) (Err other) h k = ap Err (loops_once g one other h k)
