use Rattle.std.proofs.Common.{◌≡◌, ◌+◌, ◌-◌, ◌<◌, ◌++◌, length, sym, ap, ◌∙◌, arith}
use Rattle.std.specs.Prelude.{slice_set}
use Rattle.ipg_memo.specs.Table.{Table}
use Rattle.ipg_memo.proofs.ChunksLemmas.{set_left, set_right}
use Rattle.ipg_memo.proofs.index.Index.set_cell.Goals as goal

pub returns-then-cell-heads-clause-cells : goal.returns-then-cell-heads-clause-cells
returns-then-cell-heads-clause-cells g c =
    let top = c.self.inside.top.items in
    let lt : c.args.cell < length top = omega (arith, c.if-cell-heads.true, c.len-heads.ensures, c.self.inside.top.ok.0) in
    sym (set_left top c.self.inside.under.items c.args.cell c.args.link lt) ∙ ap (λ (t : Table). slice_set t.cells c.args.cell c.args.link) c.self.view_is

pub returns-else-cell-heads-clause-cells : goal.returns-else-cell-heads-clause-cells
returns-else-cell-heads-clause-cells g c =
    let top = c.self.inside.top.items in
    let at : c.args.cell ≡ length top + (c.args.cell - c.len-heads.result) =
    omega (arith, c.if-cell-heads.false, c.len-heads.ensures, c.self.inside.top.ok.0) in
    ap (λ l. top ++ l) c.set.ensures
    ∙ sym (set_right top c.self.inside.under.items c.args.cell (c.args.cell - c.len-heads.result) c.args.link at)
    ∙ ap (λ (t : Table). slice_set t.cells c.args.cell c.args.link) c.self.view_is
