use Rattle.std.proofs.Common.{sym, subst}
use Rattle.ipg_mach_moves.specs.Moves as moves
use Rattle.ipg_table.specs.Rows.{HoldsTerm}
use Rattle.ipg_mach_term.specs.Advance.{IsAdvance}
use Rattle.ipg_mach_term.proofs.parsed.outside.Goals as goal

pub returns-in-Slot : goal.returns-in-Slot
returns-in-Slot c src st t at n u state items term answer holds parsed =
    let is = subst (λ a. HoldsTerm t a term) c.in-Slot.is holds in
    subst (λ x. IsAdvance src st at n u state items c.past.result (moves.taken state u moves.Outside x answer)) (sym is.1)
    (c.past.ensures src st at n u state items answer parsed)

pub returns-in-Pick : goal.returns-in-Pick
returns-in-Pick c src st t at n u state items term answer holds parsed =
    let is = subst (λ a. HoldsTerm t a term) c.in-Pick.is holds in
    subst (λ x. IsAdvance src st at n u state items c.past-in-Pick.result (moves.taken state u moves.Outside x answer)) (sym is.2)
    (c.past-in-Pick.ensures src st at n u state items answer parsed)
