use Rattle.std.proofs.Common.{◌+◌, ◌∙◌, subst, arith, drop}
use Rattle.ipg_cover_leaves.specs.Bytes.{from_on}
use Rattle.ipg_cover_leaves.proofs.Places.{Put, go_on, at_end, next_byte, no_byte}
use Rattle.ipg_cover_leaves.proofs.page.Page.put_all.Goals as goal

pub loop-byte-preserved : goal.loop-byte-preserved
loop-byte-preserved c =
    let l = c.loop-byte in
    let bytes = c.args.bytes.now in (
      omega (arith, l.invariant.0),
      c.put.ensures.long ∙ l.invariant.1,
      λ all holds.
          go_on _ _ all _ _ _ (from_on (l.at + 1) (drop (l.byte-index + 1) bytes)) _
          (subst (λ left. Put l.self.cells.items l.self.clash all left (from_on c.args.from bytes))
          (next_byte bytes c.args.from l.at l.byte-index _ c.loop-byte-test.true l.invariant.0) (l.invariant.2 all holds))
          c.put.ensures.put,
    )

pub returns-clause-put : goal.returns-clause-put
returns-clause-put c all holds =
    let l = c.loop-byte in
    at_end _ _ all _ (subst (λ left. Put l.self.cells.items l.self.clash all left (from_on c.args.from c.args.bytes.now))
    (no_byte c.args.bytes.now l.at l.byte-index c.loop-byte-test.false) (l.invariant.2 all holds))
