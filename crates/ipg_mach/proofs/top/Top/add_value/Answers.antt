use Rattle.std.proofs.Common.{w64, ap, subst, ◌++◌, ◌∷◌, [], OnOk}
use Rattle.std.proofs.lemmas.Int.{to_z-of_z}
use Rattle.std.proofs.lemmas.Result.{on_ok_weaker}
use Rattle.ipg_core.specs.Meaning.{with_value}
use Rattle.ipg_mach.specs.Piled.{Turns, above}
use Rattle.ipg_mach.specs.Calls.{shown}
use Rattle.ipg_mach.proofs.Working as working
use Rattle.ipg_mach.proofs.top.Top.add_value.Goals as goal

pub returns-clause-work : goal.returns-clause-work
unfolding with_value
returns-clause-work g c t src frames lower items call work =
    let s = shown c.args.self.now in
    let own = above s.piles s.frame.base in
    on_ok_weaker c.add_own.result
    (λ turns. working.turns_to t src s frames lower items call work c.add_own.new.self _ _ items turns
    work.is_open.count (ap (λ vs. vs ++ (c.args.attr, c.args.value) ∷ []) work.is_open.attrs) work.is_open.done work.is_open.have)
    (subst (λ z. OnOk c.add_own.result (Turns s.piles c.add_own.new.self s.frame.base (record own { own = own.own ++ (c.args.attr, z) ∷ [] })))
    (to_z-of_z w64 c.args.value c.ranges.value)
    (c.add_own.ensures s.frame.base work.base))
