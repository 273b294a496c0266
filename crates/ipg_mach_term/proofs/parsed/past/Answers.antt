use Rattle.ipg_mach_term.proofs.Making as making
use Rattle.ipg_mach_term.proofs.parsed.past.Goals as goal

pub returns-in-Some : goal.returns-in-Some
returns-in-Some c src st at n u state items answer parsed =
    making.past src st at n u state items c.args.is_switch c.args.parsed c.in-Some.kid answer c.in-Some.is parsed
