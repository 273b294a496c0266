use Rattle.std.proofs.Common.{◌∙◌, sym, ap, subst, length, None, Some}
use Rattle.ipg_graph_parts.specs.Way.{turned}
use Rattle.ipg_graph_parts.specs.Labels.{label, IsFilled}
use Rattle.ipg_graph_parts.specs.declared.labels.Search as code
use Rattle.ipg_graph_parts.proofs.Both.{on_ok_both}
use Rattle.ipg_graph_parts.proofs.WayLemmas.{whole-turned}
use Rattle.ipg_graph_parts.proofs.LabelLemmas.{search-of, field-is}
use Rattle.ipg_graph_parts.proofs.PartLemmas.{is-free, into, no-name, not-found, one-more, still, now}
use Rattle.ipg_graph_parts.proofs.parts.Parts.make.Goals as goal

pub fill-requires : goal.fill-requires
fill-requires c =
    let g = c.args.links.now in
    let root = c.args.root in
    let names = c.args.self.now.names.of.items in
    let found = c.args.self.now.found.of.items in
    let are = c.requires.parts in
    record {
      search = search-of _ (turned g) c.callees.ensures c.callers.ensures (whole-turned g c.rules.ensures.whole) (ap length c.as_slice.ensures ∙ are.names_len)
          c.requires.rule (ap (λ l. label l root) c.as_slice.ensures ∙ is-free names root c.requires.free);
      sized = are.found_len ∙ sym (ap (λ k. k.limit) c.callees.ensures);
      fresh = not-found g c.rules.ensures.whole names found root c.requires.free are;
    }

pub fill-requires-2 : goal.fill-requires-2
fill-requires-2 c =
    let g = c.args.links.now in
    let root = c.args.root in
    let names = c.args.self.now.names.of.items in
    let found = c.args.self.now.found.of.items in
    let are = c.requires.parts in
    let leads = c.fill.new.self.of.items in
    let search : code.Search = record { from = c.callees.result; to = c.callers.result; fence = c.as_slice.result; «open» = None; root = root } in
    let in_is : IsFilled (into g names root) leads =
    subst (λ f. IsFilled f leads) (field-is search (turned g) names c.callees.ensures c.callers.ensures c.as_slice.ensures) c.in_ok-fill.ensures.filled in
    record {
      search = search-of _ g c.callers-2.ensures c.callees-2.ensures c.rules.ensures.whole (ap length c.as_slice-2.ensures ∙ in_is.sized) c.requires.rule
          (ap (λ l. label l root) c.as_slice-2.ensures ∙ in_is.start);
      sized = are.names_len ∙ sym (ap (λ k. k.limit) c.callers-2.ensures);
      fresh = no-name g c.rules.ensures.whole names found root c.requires.free are;
    }

pub returns : goal.returns
returns c =
    let g = c.args.links.now in
    let whole = c.rules.ensures.whole in
    let root = c.args.root in
    let names = c.args.self.now.names.of.items in
    let found = c.args.self.now.found.of.items in
    let are = c.requires.parts in
    let leads = c.fill.new.self.of.items in
    let made = c.fill-2.new.self.of.items in
    let keeps = c.in_ok-fill.ensures.kept in
    let search : code.Search = record { from = c.callees.result; to = c.callers.result; fence = c.as_slice.result; «open» = None; root = root } in
    let in_is : IsFilled (into g names root) leads =
    subst (λ f. IsFilled f leads) (field-is search (turned g) names c.callees.ensures c.callers.ensures c.as_slice.ensures) c.in_ok-fill.ensures.filled in
    let search_out : code.Search = record {
      from = c.callers-2.result;
      to = c.callees-2.result;
      fence = c.as_slice-2.result;
      «open» = Some root;
      root = root;
    } in
    let out_of = field-is search_out g leads c.callers-2.ensures c.callees-2.ensures c.as_slice-2.ensures in
    record {
      parts = on_ok_both _ _ _ c.fill-2.result
          (λ filled kept. one-more g whole names found root c.requires.free are leads keeps in_is made kept (subst (λ f. IsFilled f made) out_of filled))
          c.fill-2.ensures.filled c.fill-2.ensures.kept;
      stays = on_ok_both _ _ _ c.fill-2.result
          (λ filled kept. still g whole names found root c.requires.free are leads keeps in_is made kept (subst (λ f. IsFilled f made) out_of filled))
          c.fill-2.ensures.filled c.fill-2.ensures.kept;
      rule = on_ok_both _ _ _ c.fill-2.result
          (λ filled kept. now g whole names found root c.requires.free are leads keeps in_is made kept (subst (λ f. IsFilled f made) out_of filled))
          c.fill-2.ensures.filled c.fill-2.ensures.kept;
    }
