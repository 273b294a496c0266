use Rattle.std.proofs.Common.{sym, subst, ◌∙◌}
use Rattle.ipg_cover_leaves.specs.Bytes.{puts}
use Rattle.ipg_cover_leaves.specs.Page.{IsClashIf}
use Rattle.ipg_cover_leaves.proofs.Settled.{settled}
use Rattle.ipg_cover_leaves.proofs.back.put_back.Goals as goal

pub returns : goal.returns
returns c =
    let leaves = c.args.leaves.now in
    let page = c.put_leaves.new.self in
    let holds = c.put_leaves.ensures.put c.in_ok-page.ensures.1 in
    record {
      is = settled leaves c.args.len _ (c.put_leaves.ensures.long ∙ c.in_ok-page.ensures.0)
          ((c.in_default.ensures, c.in_default-outside.ensures), subst (IsClashIf (puts leaves)) (sym c.clash.ensures ∙ c.in-None.is) holds.clashes)
          c.bytes.result (c.bytes.ensures (puts leaves) holds);
    }
