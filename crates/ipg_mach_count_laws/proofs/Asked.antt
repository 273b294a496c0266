-- A call that an open call makes, by its key in the input.
use Rattle.std.proofs.Common.{◌≡◌, ◌≢◌, ℕ, ◌+◌, sym, ap, ◌∙◌, arith, List, [], None, Result, Err}
use Rattle.ipg_core.specs.Grammar.{Grammar, rule_at, holder_of}
use Rattle.ipg_core.specs.Part.{part}
use Rattle.ipg_core.specs.Tree.{Tree}
use Rattle.ipg_core.specs.Run.{Stop, Deep}
use Rattle.ipg_core.specs.Meaning.{den}
use Rattle.ipg_core.specs.Laws.{HeightsAgree}
use Rattle.ipg_mach_moves.specs.Moves.{Key, OpenCall, at_hand, asked_part, asked_key}
use Rattle.ipg_mach_moves.specs.Laws.{IsRight}
use Rattle.ipg_mach_count_laws.specs.Counts.{keys_in, direct}
use Rattle.ipg_mach_count_laws.proofs.Once.{Asking, reply}
use Rattle.ipg_mach_count_laws.specs.Standing.{StandsAt}
use Rattle.ipg_mach_count_laws.proofs.Parts.{part_at, part_stands}

module _ (s : List ℕ) (c : OpenCall) (one : Asking c.frame (λ call. at_hand call c)) (stands : StandsAt s c.from c.frame.bytes) where
  abbrev g : Grammar
  g = c.frame.grammar

  abbrev part_asked : List ℕ
  part_asked = asked_part c one.ask

  abbrev key : Key
  key = asked_key c one.ask

  abbrev IsGlobal : Type 0
  IsGlobal = holder_of (rule_at g one.ask.callee) ≡ None

  pub there : StandsAt s (c.from + one.ask.from) part_asked
  there = part_stands s c.from one.ask.from one.ask.to c.frame.bytes stands

  pub den_is : (h : ℕ) → IsGlobal → den g h key.rule (part s key.from key.to) [] ≡ den g h one.ask.callee part_asked one.ask.outer
  den_is h global =
      ap (λ bytes. den g h one.ask.callee bytes []) (part_at s _ _ there) ∙ ap (den g h one.ask.callee part_asked) (sym (one.plain global))

  pub direct_is : (h : ℕ) → IsGlobal → direct g s h key ≡ keys_in g h one.ask.callee (c.from + one.ask.from) part_asked one.ask.outer
  direct_is h global =
      ap (λ bytes. keys_in g h one.ask.callee key.from bytes []) (part_at s _ _ there)
      ∙ ap (keys_in g h one.ask.callee key.from part_asked) (sym (one.plain global))

  -- what is right of its key is its answer
  pub found_is : HeightsAgree → (h : ℕ) (found : Result Tree Stop) → IsRight g s (key, found) → reply (den g h) c.frame one.ask ≢ Err Deep
      → found ≡ reply (den g h) c.frame one.ask
  found_is heights h found right settled =
      let both = right.height + h in
      sym right.is
      ∙ sym (heights g right.height both key.rule (part s key.from key.to) [] (omega arith) (λ deep. right.settled (sym right.is ∙ deep)))
      ∙ den_is both right.global
      ∙ heights g h both one.ask.callee part_asked one.ask.outer (omega arith) settled

  -- its answer is right of its key
  pub right_is : (h : ℕ) (given : Result Tree Stop) → reply (den g h) c.frame one.ask ≡ given → reply (den g h) c.frame one.ask ≢ Err Deep
      → IsGlobal → IsRight g s (key, given)
  right_is h given is settled global =
      record { global = global; height = h; is = den_is h global ∙ is; settled = λ deep. settled (is ∙ deep) }
