use Rattle.std.proofs.Common.{sym, ap, ◌∙◌}
use Rattle.std.specs.Prelude.{option_map}
use Rattle.ipg_memo.specs.declared.memo.Key.{Key}
use Rattle.ipg_memo.specs.declared.memo.Entry.{Entry}
use Rattle.ipg_memo.proofs.GrowthLemmas.{on_ok}
use Rattle.ipg_memo.proofs.PartedLemmas.{free_end}
use Rattle.ipg_memo.proofs.WholeLemmas.{new_key, whole_more}
use Rattle.ipg_memo.proofs.index.Index.enter_row.Goals as goal

pub add-requires-clause-free : goal.add-requires-clause-free
add-requires-clause-free g c =
    let at = ap (option_map (λ (k : Key × Entry). k.0)) c.read.ensures in
    free_end c.reach-end.result
    (λ row e. new_key c.args.rows.now.items c.args.self.now c.args.row c.read.result.now.0 c.requires.distinct c.requires.whole c.reach-end.ensures.bits at row
    (sym c.reach-end.ensures.value ∙ e))
    c.reach-end.ensures.ends

pub returns : goal.returns
returns g c =
    let at = ap (option_map (λ (k : Key × Entry). k.0)) c.read.ensures in
    on_ok c.add.result c.add.ensures.ok (λ leads.
    whole_more c.args.rows.now.items c.args.self.now c.add.new.self c.reach-end.result c.args.row c.read.result.now.0 leads c.requires.whole
    c.reach-end.ensures.bits at (sym c.reach-end.ensures.value))
