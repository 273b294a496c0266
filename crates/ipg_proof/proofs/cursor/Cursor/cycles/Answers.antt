use Rattle.ipg_proof.specs.Texts.{between, cycle_line, AreCounted, IsLong, IsCycleEntry}
use Rattle.ipg_proof.proofs.Readers.{exits}
use Rattle.ipg_proof.proofs.Lines.{alone_cycle_line}
use Rattle.ipg_proof.proofs.Whole.{one_cycle, one_cycle_is, long_counts, section_text, section_word, section_count, section_lines}
use Rattle.ipg_proof.proofs.cursor.Cursor.cycles.Goals as goal

pub returns-in_err-word : goal.returns-in_err-word
returns-in_err-word c =
    let first = c.args.self.now.left.now in
    let left = c.word.new.self.left.now in
    let why = c.in_err-word.field-0.0 in
    exits (AreCounted IsLong IsCycleEntry) (section_text between IsLong long_counts IsCycleEntry cycle_line alone_cycle_line one_cycle one_cycle_is) first left
    c.from_residual.result why c.from_residual.ensures.1
    (section_word between IsLong long_counts IsCycleEntry cycle_line alone_cycle_line one_cycle one_cycle_is first left why c.in_err-word.ensures)

pub returns-in_err-count : goal.returns-in_err-count
returns-in_err-count c =
    let first = c.args.self.now.left.now in
    let mid = c.word.new.self.left.now in
    let left = c.long.new.self.left.now in
    let why = c.in_err-count.field-0.0 in
    exits (AreCounted IsLong IsCycleEntry) (section_text between IsLong long_counts IsCycleEntry cycle_line alone_cycle_line one_cycle one_cycle_is) first left
    c.from_residual-in_err-count.result why c.from_residual-in_err-count.ensures.1
    (section_count between IsLong long_counts IsCycleEntry cycle_line alone_cycle_line one_cycle one_cycle_is
    first mid left why c.in_ok-word.ensures c.in_err-count.ensures)

pub returns : goal.returns
returns c =
    section_lines between IsLong long_counts IsCycleEntry cycle_line alone_cycle_line one_cycle one_cycle_is c.args.self.now.left.now c.word.new.self.left.now
    c.long.new.self.left.now c.cycle_lines.new.self.left.now
    c.in_ok-count.count c.cycle_lines.result c.in_ok-word.ensures c.in_ok-count.ensures c.cycle_lines.ensures
