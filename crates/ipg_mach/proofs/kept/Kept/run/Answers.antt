use Rattle.std.proofs.Common.{refl, sym, ap, ◌∙◌, subst, length, Some, inl, inr}
use Rattle.std.proofs.lemmas.Result.{IfOk-weaker}
use Rattle.ipg_mach_moves.specs.Moves.{known_of}
use Rattle.ipg_mach.specs.Known.{IsEntryOf}
use Rattle.ipg_mach.specs.Stage.{source}
use Rattle.ipg_mach.proofs.Verdicts as verdicts
use Rattle.ipg_mach.proofs.kept.Kept.run.Goals as goal

pub returns-in-Some : goal.returns-in-Some
returns-in-Some g c grammar known answer stand right knows means =
    let t = c.args.tables.now in
    let input = c.args.input.now in
    let src = source t input in
    let st = c.args.self.store in
    let here = c.in-Some.ensures src st known knows in
    let there = verdicts.at_first src st input c.first_key-key.result c.in-Some.entry known c.first_key-key.ensures here in
    let had = verdicts.had src st (record { rule = 0; from = 0; to = length input }) c.in-Some.entry _ there in
    let same = verdicts.known_means grammar input c.heights_agree.ensures known answer had.0 right means had.1 in
    let entry = subst (λ found. IsEntryOf src st (record { rule = 0; from = 0; to = length input }) (Some c.in-Some.entry) found) (had.1
    ∙ ap Some same) there in (
      record { bodies = 0; hits = 1; deepest = 0 },
      known,
      inl (record { kept = had.1 ∙ ap Some same; counts = refl; same = refl }),
      right,
      c.verdict_known.ensures src (length input) answer known entry knows,
    )

pub returns-in-None : goal.returns-in-None
returns-in-None g c =
    IfOk-weaker c.evaluate.result _ _
    (λ verdict gives grammar known answer stand right knows means.
    let t = c.args.tables.now in
    let input = c.args.input.now in
    let src = source t input in
    let here = c.in-None.ensures src c.args.self.store known knows in
    let fresh = verdicts.had_none src c.args.self.store c.first_key-key.result _ here in
    let it = gives grammar known answer stand right knows means (sym (ap (known_of known) c.first_key-key.ensures) ∙ fresh) in
    (it.0, it.1, inr it.2, it.3, it.4))
    c.evaluate.ensures
