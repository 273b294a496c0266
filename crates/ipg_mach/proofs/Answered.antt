-- What the term at hand makes of the answer of its call.
use Rattle.std.proofs.Common.{◌≡◌, ℕ, ◌≤◌, refl, sym, ap, ◌∙◌, subst, List, [], ◌∷◌, Option, Some, None, Result}
use Rattle.std.specs.Prelude.{slice_get}
use Rattle.ipg_core.specs.declared.grammar.CoreTerm.{CoreTerm}
use Rattle.ipg_core.specs.Tree as tree
use Rattle.ipg_core.specs.Tree.{Tree, Sub}
use Rattle.ipg_core.specs.Run.{Stop, Asked}
use Rattle.ipg_mach_moves.specs.Moves as moves
use Rattle.ipg_mach_moves.specs.Moves.{OpenCall, lifted, taken, first_left, at_hand, silent, always}
use Rattle.ipg_mach_nodes.specs.declared.kid.Kid.{Kid}
use Rattle.ipg_mach_nodes.specs.Stored.{Stored, Source}
use Rattle.ipg_mach_term.specs.declared.advance.Advance.{Advance}
use Rattle.ipg_mach_term.specs.Advance.{IsParsed, IsAdvance, EndsBy, SubEndsBy, AnsweredIsTaken}
use Rattle.ipg_mach.specs.declared.frame.Frame.{Frame}
use Rattle.ipg_mach.specs.Calls.{IsSub, size_of, items_in, term_at_hand}

module _ (src : Source) (st : Stored) (frame : Frame) where
  -- the answer of a call, as a child, is what was parsed
  pub is_parsed : (ask : Asked) (answer : Result Tree Stop) → SubEndsBy → ask.from ≤ ask.to → ask.to ≤ size_of frame → EndsBy frame.entry ask.to
      → (kid : Option Kid) → IsSub src st frame.from ask kid answer
      → IsParsed src st frame.from (size_of frame) frame.entry kid (lifted (Sub ask.from ask.to) answer)
  is_parsed ask answer ends_by valid inside ends None sub = ap (lifted (Sub ask.from ask.to)) sub
  is_parsed ask answer ends_by valid inside ends (Some row) sub =
      let one = sub.2 in (
        Sub ask.from ask.to one,
        record {
          stands = (sub.0, sub.1, sub.4);
          within = (record { valid = valid; inside = inside }, sub.5);
          single = refl;
        },
        ends_by frame.entry ask.from ask.to one valid ends sub.5,
        ap (lifted (Sub ask.from ask.to)) sub.3,
      )

  module _ (c : OpenCall) (ask : Asked) (answer : Result Tree Stop) (kid : Option Kid) (adv : Advance) where
    pub answers : AnsweredIsTaken → (u : ℕ) (rest : List ℕ) (term : CoreTerm) → c.left ≡ u ∷ rest → slice_get c.terms u ≡ Some term
        → (at_hand silent c).asked ≡ ask ∷ []
        → ((given : Result tree.Kid Stop) → IsParsed src st frame.from (size_of frame) frame.entry kid given
        → IsAdvance src st frame.from (size_of frame) u c.state (items_in c.entry) adv (taken c.state u c.entry term given))
        → IsParsed src st frame.from (size_of frame) frame.entry kid (lifted (Sub ask.from ask.to) answer)
        → IsAdvance src st frame.from (size_of frame) (term_at_hand c.left) c.state (items_in c.entry) adv (at_hand (always answer) c).answer
    answers law u rest term is_left is_term asks makes parsed =
        let advance = λ (call : _) (t : Option CoreTerm). moves.advance call c.frame c.state u c.entry t in
        let quiet : (at_hand silent c).asked ≡ (advance silent (Some term)).asked =
        ap (λ l. (first_left silent c l).asked) is_left ∙ ap (λ t. (advance silent t).asked) is_term in
        let same : (at_hand (always answer) c).answer ≡ (advance (always answer) (Some term)).answer =
        ap (λ l. (first_left (always answer) c l).answer) is_left ∙ ap (λ t. (advance (always answer) t).answer) is_term in
        let taken_so = law c.frame c.state u c.entry term ask answer (sym quiet ∙ asks) in
        subst (λ n. IsAdvance src st frame.from (size_of frame) n c.state (items_in c.entry) adv (at_hand (always answer) c).answer)
        (sym (ap term_at_hand is_left))
        (subst (IsAdvance src st frame.from (size_of frame) u c.state (items_in c.entry) adv) (sym (same ∙ taken_so)) (makes _ parsed))
