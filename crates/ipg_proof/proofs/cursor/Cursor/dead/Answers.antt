use Rattle.ipg_proof.specs.Texts.{heading, edge_line, AreFew, IsShort, IsEdgeEntry}
use Rattle.ipg_proof.proofs.Readers.{exits}
use Rattle.ipg_proof.proofs.Lines.{alone_edge_line}
use Rattle.ipg_proof.proofs.Whole.{one_edge, one_edge_is, short_counts, section_text, section_word, section_count, section_lines}
use Rattle.ipg_proof.proofs.cursor.Cursor.dead.Goals as goal

pub returns-in_err-word : goal.returns-in_err-word
returns-in_err-word c =
    let first = c.args.self.now.left.now in
    let left = c.word.new.self.left.now in
    let why = c.in_err-word.field-0.0 in
    exits (AreFew IsEdgeEntry) (section_text heading IsShort short_counts IsEdgeEntry edge_line alone_edge_line one_edge one_edge_is)
    first left c.from_residual.result why
    c.from_residual.ensures.1
    (section_word heading IsShort short_counts IsEdgeEntry edge_line alone_edge_line one_edge one_edge_is first left why c.in_err-word.ensures)

pub returns-in_err-count : goal.returns-in_err-count
returns-in_err-count c =
    let first = c.args.self.now.left.now in
    let mid = c.word.new.self.left.now in
    let left = c.short.new.self.left.now in
    let why = c.in_err-count.field-0.0 in
    exits (AreFew IsEdgeEntry) (section_text heading IsShort short_counts IsEdgeEntry edge_line alone_edge_line one_edge one_edge_is) first left
    c.from_residual-in_err-count.result why c.from_residual-in_err-count.ensures.1
    (section_count heading IsShort short_counts IsEdgeEntry edge_line alone_edge_line one_edge one_edge_is
    first mid left why c.in_ok-word.ensures c.in_err-count.ensures)

pub returns : goal.returns
returns c =
    section_lines heading IsShort short_counts IsEdgeEntry edge_line alone_edge_line one_edge one_edge_is c.args.self.now.left.now c.word.new.self.left.now
    c.short.new.self.left.now c.edge_lines.new.self.left.now
    c.in_ok-count.count c.edge_lines.result c.in_ok-word.ensures c.in_ok-count.ensures c.edge_lines.ensures
