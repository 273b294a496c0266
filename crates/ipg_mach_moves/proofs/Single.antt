-- What is parsed next hangs on the answer of one call at most.
use Rattle.std.proofs.Common.{sym, ap, ◌∙◌, subst, [], ◌∷◌, inl, inr}
use Rattle.ipg_core.specs.Part.{part}
use Rattle.ipg_core.specs.Tree.{Kid}
use Rattle.ipg_core.specs.Run.{Run}
use Rattle.ipg_core.specs.Meaning.{Call}
use Rattle.ipg_mach_moves.specs.Moves.{silent, parsed}
use Rattle.ipg_mach_moves.specs.Laws.{ByCalls, ParsesByOneCall}
use Rattle.ipg_mach_moves.proofs.Asks.{parsed_once}

pub parses_by_one_call : ParsesByOneCall
parses_by_one_call call f state u entry term =
    let run = λ (c : Call). parsed c f state u entry term in
    elim (parsed_once f state u entry term) [
      | inl quiet ↦
          subst (λ (q : Run Kid). ByCalls call f q.asked q (run call)) (sym (quiet.is silent)) (quiet.is call)
      | inr one ↦
          subst (λ (q : Run Kid). ByCalls call f q.asked q (run call)) (sym (one.is silent))
          (one.is call
          ∙ ap (λ answer. record { answer = answer; asked = one.ask ∷ [] })
          (one.makes (call one.ask.callee (part f.bytes one.ask.from one.ask.to) one.ask.outer)))
    ]
