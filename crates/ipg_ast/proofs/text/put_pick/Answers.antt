use Rattle.std.proofs.Common.{rules, ◌∷◌, []}
use Rattle.ipg_ast.specs.Spelling.{slot_tokens, cases_tokens}
use Rattle.ipg_ast.specs.Canonical.{tokens_text}
use Rattle.ipg_ast.proofs.Forms.{pick_text}
use Rattle.ipg_ast.proofs.Texts.{Wrote, then, finally}
use Rattle.ipg_ast.proofs.text.put_pick.Goals as goal

pub returns : goal.returns
returns c =
    let a : Wrote c.args.out.now.items (115 ∷ 119 ∷ 105 ∷ 116 ∷ 99 ∷ 104 ∷ 32 ∷ []) c.put.new.out.items = record { is = search rules } in
    let b : Wrote c.put.new.out.items (123 ∷ 32 ∷ []) c.put-2.new.out.items = record { is = search rules } in
    let d : Wrote c.put-2.new.out.items (tokens_text (cases_tokens c.args.cases.now)) c.put_cases.new.out.items = record { is = search rules } in
    let e : Wrote c.put_cases.new.out.items (101 ∷ 108 ∷ 115 ∷ 101 ∷ 32 ∷ []) c.put-3.new.out.items = record { is = search rules } in
    let f : Wrote c.put-3.new.out.items (tokens_text (slot_tokens c.args.other.now)) c.put_slot.new.out.items = record { is = search rules } in
    finally _ _ _ _ (then (then (then (then a b) d) e) f) (pick_text c.args.cases.now c.args.other.now) c.put-4.ensures
