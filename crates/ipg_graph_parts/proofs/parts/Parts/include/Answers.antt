use Rattle.std.proofs.Common.{◌∙◌, sym, ap}
use Rattle.std.specs.Option.{is_some}
use Rattle.std.proofs.lemmas.Bool.{false≢true}
use Rattle.ipg_graph_parts.specs.Labels.{label}
use Rattle.ipg_graph_parts.proofs.parts.Parts.include.Goals as goal

pub make-requires : goal.make-requires
make-requires c = record {
  rule = c.requires.rule;
  free = λ is.
      false≢true (sym c.if-is_some.false ∙ (c.is_some.ensures ∙ ap is_some (ap (λ l. label l c.args.rule) c.as_slice.ensures ∙ is.1)));
  parts = c.requires.parts;
}
