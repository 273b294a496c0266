use Rattle.std.proofs.Common.{refl, Ok, Err}
use Rattle.ipg_core.specs.Run.{NoTree}
use Rattle.ipg_mach_term.proofs.Making as making
use Rattle.ipg_mach_term.proofs.hand.made.Goals as goal

pub returns-in-Kid : goal.returns-in-Kid
returns-in-Kid g c src at n u f state items e term run syms size holds entered found ends range =
    making.of_kid src _ at n u f state items e term c.args.entry c.args.found run found c.in-Kid.kid c.taken.result c.in-Kid.is size ends
    (λ one is. c.taken.ensures src at n u state items e term (Ok one) syms holds entered (one, is.0, is.1, refl))

pub returns-in-NoTree : goal.returns-in-NoTree
returns-in-NoTree g c src at n u f state items e term run syms size holds entered found ends range =
    making.of_none src _ at n u f state items e term c.args.entry c.args.found run found c.taken-in-NoTree.result c.in-NoTree.is
    (c.taken-in-NoTree.ensures src at n u state items e term (Err NoTree) syms holds entered refl)

pub returns-in-Range : goal.returns-in-Range
returns-in-Range g c src at n u f state items e term run syms size holds entered found ends range =
    making.of_range src c.args.store.now at n u f state items e term c.args.entry c.args.found run found c.in-Range.is range
