use Rattle.std.proofs.Common.{◌≤◌, ◌∷◌, [], Some, subst, w64, arith}
use Rattle.std.proofs.lemmas.Int.{to_z-of_z}
use Rattle.ipg_table.specs.Hand.{LeadsOn}
use Rattle.ipg_table.proofs.Handing.{row_leads}
use Rattle.ipg_table.proofs.in_hand.further.Goals as goal

pub returns-in-Some : goal.returns-in-Some
returns-in-Some g c env room stands within =
    let some : 1 ≤ room = omega arith in
    row_leads env room c.args.rows.now c.index-rows-0.result (c.args.a ∷ []) (Some c.in-Some.hand) c.index-rows-0.is c.requires
    (subst (λ a. LeadsOn env room c.index-rows-0.result (a ∷ []) c.in-Some.hand) (to_z-of_z w64 c.args.a (record { sfits = c.ranges.a.sfits }))
    (c.in-Some.ensures env room stands some))
