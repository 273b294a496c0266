use Rattle.std.proofs.Common.{◌≡◌, length, rules, ap, ◌∙◌}
use Rattle.ipg_formats.specs.Sample.{sample_of}
use Rattle.ipg_formats.proofs.LengthLemmas.{length-sample}
use Rattle.ipg_formats.proofs.sample.Goals as goal

pub returns-clause-size : goal.returns-clause-size
returns-clause-size c =
    let all : c.write.new.out.items ≡ sample_of c.args.kind c.args.n = Prim.search rules in
    c.write.new.out.ok.0 ∙ (ap length all ∙ length-sample c.args.kind c.args.n)
