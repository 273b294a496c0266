use Rattle.std.proofs.Common.{◌≡◌, [], arith}
use Rattle.std.proofs.lemmas.Grind.{common_steps}
use Rattle.ipg_outside.proofs.Known.{split-more, split-same, part-from_split, whole-from_split}
use Rattle.ipg_outside.proofs.std_sink.write_whole.Goals as goal

pub loop-rest-preserved : goal.loop-rest-preserved
loop-rest-preserved g c = let h = split-more _ _ _ _ _ c.in-Ok.count c.loop-rest.invariant c.in-Ok.ensures.bytes in rw c.split_at.ensures.back h

pub returns-in-Ok-eq0-clause-part : goal.returns-in-Ok-eq0-clause-part
returns-in-Ok-eq0-clause-part g c = part-from_split _ _ _ _ (split-more _ _ _ _ _ _ c.loop-rest.invariant c.in-Ok-eq0.ensures.bytes)

pub returns-in-Err-clause-part : goal.returns-in-Err-clause-part
returns-in-Err-clause-part g c = part-from_split _ _ _ _ (split-same _ _ _ _ _ c.loop-rest.invariant c.in-Err.ensures.bytes)

pub returns-clause-whole : goal.returns-clause-whole
returns-clause-whole g c = whole-from_split _ _ _ _ c.loop-rest.invariant (let e : c.loop-rest.rest.now ≡ [] = grind (arith, common_steps) in e)
