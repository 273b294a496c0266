use Rattle.std.proofs.Common.{rules}
use Rattle.ipg_formats.proofs.EachLemmas.{each-none, each-more}
use Rattle.ipg_formats.proofs.samples.elf.write_sections.Goals as goal

pub loop-i-init : goal.loop-i-init
loop-i-init c = each-none _ _

pub loop-i-preserved : goal.loop-i-preserved
loop-i-preserved c = each-more _ _ _ _ c.write.new.out.items c.loop-i.invariant (Prim.search rules)
