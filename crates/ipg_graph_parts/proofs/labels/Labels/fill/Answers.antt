use Rattle.std.proofs.Common.{◌<◌, ◌++◌, ◌∷◌, [], length, ap, ◌∙◌, arith}
use Rattle.std.proofs.lemmas.List.{length_push}
use Rattle.ipg_graph_parts.specs.Labels.{field_of}
use Rattle.ipg_graph_parts.proofs.LabelLemmas.{begun, popped, between, filled, keeps-put, keeps-over}
use Rattle.ipg_graph_parts.proofs.labels.Labels.fill.Goals as goal

pub loop-rule-init : goal.loop-rule-init
loop-rule-init c =
    let s = c.args.search in
    let labels = c.args.self.now.of.items in
    let waits = c.in_ok-put.ensures.waits ∙ ap (λ l. l ++ s.root ∷ []) c.clear.ensures.items in
    let below : s.root < length labels = omega (arith, c.requires.search.root, c.requires.sized) in
    rw (c.in_ok-put.ensures.label, waits) record {
      spreading = begun (field_of s) labels c.requires.sized c.requires.search.root c.requires.search.start c.requires.fresh;
      kept = keeps-put s.root s.root labels below;
    }

pub go_on-requires : goal.go_on-requires
go_on-requires c = record {
  search = c.requires.search;
  rule = popped (field_of c.args.search) c.loop-rule.self.of.items c.loop-rule.self.waiting.items c.pop.new.self.items c.args.search.root c.in-Some.rule
      c.in-Some.ensures.items c.loop-rule.invariant.spreading;
}

pub loop-rule-preserved : goal.loop-rule-preserved
loop-rule-preserved c = record {
  spreading = between (field_of c.args.search) c.go_on.new.self.of.items c.go_on.new.self.waiting.items c.in-Some.rule c.in_ok-go_on.ensures.done;
  kept = keeps-over c.args.search.root c.args.self.now.of.items c.loop-rule.self.of.items c.go_on.new.self.of.items c.loop-rule.invariant.kept
      c.in_ok-go_on.ensures.kept;
}

pub loop-rule-smaller : goal.loop-rule-smaller
loop-rule-smaller c =
    omega (arith, c.in_ok-go_on.ensures.less, ap length c.in-Some.ensures.items, length_push c.pop.new.self.items c.in-Some.rule)

pub returns : goal.returns
returns c = record {
  filled = filled (field_of c.args.search) c.loop-rule.self.of.items c.loop-rule.self.waiting.items c.args.search.root
      (omega (arith, c.in_default.ensures.cases.0, c.loop-rule.self.waiting.ok)) c.loop-rule.invariant.spreading;
  kept = c.loop-rule.invariant.kept;
}
