use Rattle.std.proofs.Common.{◌++◌, ◌∙◌, ap, sym, subst, ap₂, ◌<◌}
use Rattle.ipg_cover_leaves.specs.Bytes.{from_on, limits, written}
use Rattle.ipg_cover_leaves.specs.Page.{Holds}
use Rattle.ipg_cover_leaves.proofs.Places.{one_byte}
use Rattle.ipg_cover_leaves.proofs.page.Page.put_number.Goals as goal

pub returns-in-U8-clause-put : goal.returns-in-U8-clause-put
returns-in-U8-clause-put c all holds =
    let to = c.put_all.new.self in let low = c.args.number.low in
    subst (λ bytes. Holds to.cells.items to.clash (all ++ from_on c.args.from bytes))
    (c.to_le_bytes.ensures ∙ one_byte low (subst (λ p. low < (limits p).1) c.in-U8.is c.requires.below)
    ∙ ap (λ p. written p c.args.number.high low) (sym c.in-U8.is))
    (c.put_all.ensures.put all holds)

pub returns-in-U16LE-clause-put : goal.returns-in-U16LE-clause-put
returns-in-U16LE-clause-put c all holds =
    let to = c.put_all-in-U16LE.new.self in let low = c.args.number.low in
    subst (λ bytes. Holds to.cells.items to.clash (all ++ from_on c.args.from bytes))
    (c.to_le_bytes-in-U16LE.ensures ∙ ap (λ p. written p c.args.number.high low) (sym c.in-U16LE.is)) (c.put_all-in-U16LE.ensures.put all holds)

pub returns-in-U16BE-clause-put : goal.returns-in-U16BE-clause-put
returns-in-U16BE-clause-put c all holds =
    let to = c.put_all-in-U16BE.new.self in let low = c.args.number.low in
    subst (λ bytes. Holds to.cells.items to.clash (all ++ from_on c.args.from bytes))
    (c.to_be_bytes.ensures ∙ ap (λ p. written p c.args.number.high low) (sym c.in-U16BE.is)) (c.put_all-in-U16BE.ensures.put all holds)

pub returns-in-U32LE-clause-put : goal.returns-in-U32LE-clause-put
returns-in-U32LE-clause-put c all holds =
    let to = c.put_all-in-U32LE.new.self in let low = c.args.number.low in
    subst (λ bytes. Holds to.cells.items to.clash (all ++ from_on c.args.from bytes))
    (c.to_le_bytes-in-U32LE.ensures ∙ ap (λ p. written p c.args.number.high low) (sym c.in-U32LE.is)) (c.put_all-in-U32LE.ensures.put all holds)

pub returns-in-U32BE-clause-put : goal.returns-in-U32BE-clause-put
returns-in-U32BE-clause-put c all holds =
    let to = c.put_all-in-U32BE.new.self in let low = c.args.number.low in
    subst (λ bytes. Holds to.cells.items to.clash (all ++ from_on c.args.from bytes))
    (c.to_be_bytes-in-U32BE.ensures ∙ ap (λ p. written p c.args.number.high low) (sym c.in-U32BE.is)) (c.put_all-in-U32BE.ensures.put all holds)

pub returns-in-U64LE-clause-put : goal.returns-in-U64LE-clause-put
returns-in-U64LE-clause-put c all holds =
    let to = c.put_both.new.self in
    subst (λ bytes. Holds to.cells.items to.clash (all ++ from_on c.args.from bytes))
    (ap₂ (λ xs ys. xs ++ ys) c.to_le_bytes-in-U64LE.ensures c.to_le_bytes-in-U64LE-2.ensures
    ∙ ap (λ p. written p c.args.number.high c.args.number.low) (sym c.in-U64LE.is))
    (c.put_both.ensures.put all holds)

pub returns-in-U64BE-clause-put : goal.returns-in-U64BE-clause-put
returns-in-U64BE-clause-put c all holds =
    let to = c.put_both-in-U64BE.new.self in
    subst (λ bytes. Holds to.cells.items to.clash (all ++ from_on c.args.from bytes))
    (ap₂ (λ xs ys. xs ++ ys) c.to_be_bytes-in-U64BE.ensures c.to_be_bytes-in-U64BE-2.ensures
    ∙ ap (λ p. written p c.args.number.high c.args.number.low) (sym c.in-U64BE.is))
    (c.put_both-in-U64BE.ensures.put all holds)
