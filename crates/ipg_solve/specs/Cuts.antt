-- Halving the box: the cuts that led to the part at hand, and what waits to be refuted.
use Rattle.std.specs.Prelude.{◌≡◌, ℕ, ◌+◌, ◌-◌, ◌<◌, Bool, true, false, if◌then◌else◌, ℤ, pos, ◌+ℤ◌, ◌≤ℤ◌, ◌<ℤ◌, List, [], ◌∷◌, ◌++◌, map, length}
use Rattle.std.specs.Prelude.{reverse, slice_set}
use Rattle.ipg_cert.specs.Facts.{Fact, at_least, at_most}
use Rattle.ipg_lin.specs.declared.formula.Formula.{Formula}
use Rattle.ipg_lin.specs.declared.formula.Boxed.{Boxed}
use Rattle.ipg_cert.specs.Checks.{refutes, root_facts}
use Rattle.ipg_cert.specs.declared.refutation.Step.{Step}
use Rattle.ipg_cert.specs.declared.refutation.Step.TheVariants.{Split}
use Rattle.ipg_solve.specs.declared.domain.Domain.{Domain}
use Rattle.ipg_solve.specs.declared.domain_cut.CutSide.{CutSide}
use Rattle.ipg_solve.specs.declared.domain_cut.CutSide.TheVariants.{Below, Above}
use Rattle.ipg_solve.specs.declared.domain_cut.DomainCut.{DomainCut}
use Rattle.ipg_solve.specs.declared.halving.HalvingTurn.{HalvingTurn}
use Rattle.ipg_solve.specs.declared.halving.HalvingTurn.TheVariants.{More, Solved, Refuted}
use Rattle.ipg_solve.specs.Domains.{domain_at, points}
use Rattle.ipg_solve.specs.Decides.{Solves}

-- the box as domains: the bounds of variable x are the facts 2x and 2x + 1
abbrev pub start_domains : ℕ → List (ℤ × ℤ) → List Domain
start_domains x [] = []
start_domains x (bounds ∷ rest) = record { low = bounds.0; low_at = x + x; high = bounds.1; high_at = x + x + 1 } ∷ start_domains (x + 1) rest

abbrev pub is_below : CutSide → Bool
is_below Below = true
is_below Above = false

-- the fact that the side of the cut adds
abbrev pub fact_of_cut : DomainCut → Fact
fact_of_cut cut = if is_below cut.side then at_most cut.var cut.at else at_least cut.var (cut.at +ℤ pos 1)

-- the domain of the cut's variable on its side: n is the number of the cut's fact
abbrev pub side_of : ℕ → DomainCut → Domain
side_of n cut = if is_below cut.side then record { low = cut.old.low; low_at = cut.old.low_at; high = cut.at; high_at = n }
    else record { low = cut.at +ℤ pos 1; low_at = n; high = cut.old.high; high_at = cut.old.high_at }

-- the cut's other side
abbrev pub above : DomainCut → DomainCut
above cut = record { var = cut.var; at = cut.at; side = Above; old = cut.old }

-- the domains after these cuts, the last one first; first is the number of the first cut's fact
abbrev pub domains_after : ℕ → List Domain → List DomainCut → List Domain
domains_after first start [] = start
domains_after first start (cut ∷ cuts) = slice_set (domains_after first start cuts) cut.var (side_of (first + length cuts) cut)

-- the facts of the part at hand
abbrev pub facts_after : List Fact → List DomainCut → List Fact
facts_after root [] = root
facts_after root (cut ∷ cuts) = facts_after root cuts ++ fact_of_cut cut ∷ []

-- the parts that wait: behind each cut whose lower side is at hand, its upper side
abbrev pub waiting : List Fact → List DomainCut → List (List Fact)
waiting root [] = []
waiting root (cut ∷ cuts) = if is_below cut.side then facts_after root (above cut ∷ cuts) ∷ waiting root cuts else waiting root cuts

-- each cut lies within the domain that it cuts
abbrev pub AreCuts : ℕ → List Domain → List DomainCut → Type 0
AreCuts first start [] = Unit {0}
AreCuts first start (cut ∷ cuts) =
    (cut.var < length start) × (domain_at (domains_after first start cuts) cut.var ≡ cut.old) × (cut.old.low ≤ℤ cut.at) × (cut.at <ℤ cut.old.high)
    × AreCuts first start cuts

-- a part of so many points takes fewer than twice as many steps
abbrev pub work_in : List Domain → ℕ
work_in domains = points domains + points domains - 1

abbrev pub work_waiting : ℕ → List Domain → List DomainCut → ℕ
work_waiting first start [] = 0
work_waiting first start (cut ∷ cuts) =
    (if is_below cut.side then work_in (domains_after first start (above cut ∷ cuts)) else 0) + work_waiting first start cuts

-- what there is to do in the part at hand and in those that wait
abbrev pub work : ℕ → List Domain → List DomainCut → ℕ
work first start cuts = work_in (domains_after first start cuts) + work_waiting first start cuts

-- the steps so far refute the root exactly where what comes refutes the part at hand and those that wait
abbrev pub Leads : ℕ → List Fact → List Step → List (List Fact) → Type 0
Leads vars root steps goals = (more : List Step) → refutes vars (steps ++ more) (root ∷ []) ≡ refutes vars more goals

-- the state of a halving
pub record Halved (f : Formula) (box : Boxed) (first : ℕ) (domains : List Domain) (cuts : List DomainCut) (steps : List Step) : Type 0 where
  pub first_is : first ≡ length (root_facts f box)
  pub domains_are : domains ≡ domains_after first (start_domains 0 box.bounds) cuts
  pub cuts_are : AreCuts first (start_domains 0 box.bounds) cuts
  pub leads : Leads (length box.bounds) (root_facts f box) steps (facts_after (root_facts f box) cuts ∷ waiting (root_facts f box) cuts)

-- the lower side of a cut
abbrev pub lower : ℕ → ℤ → Domain → DomainCut
lower x at old = record { var = x; at = at; side = Below; old = old }

-- the part at hand was cut within the variable's domain, and its lower side is at hand
abbrev pub IsCut : ℕ → ℕ → List Domain → List Domain → List DomainCut → List DomainCut → List Step → List Step → Type 0
IsCut first x old_domains new_domains old_cuts new_cuts old_steps new_steps =
    (at : ℤ) × ((domain_at old_domains x).low ≤ℤ at) × (at <ℤ (domain_at old_domains x).high)
    × (new_cuts ≡ old_cuts ++ lower x at (domain_at old_domains x) ∷ [])
    × (new_domains ≡ slice_set old_domains x (side_of (first + length old_cuts) (lower x at (domain_at old_domains x))))
    × (new_steps ≡ old_steps ++ Split x at ∷ [])

-- the part that waits next is at hand, or none waits
abbrev pub Backs : ℕ → List Domain → List Domain → List DomainCut → List DomainCut → HalvingTurn → Type 0
Backs first start domains old new More =
    (domains ≡ domains_after first start new) × AreCuts first start new × ((root : List Fact)
    → waiting root old ≡ facts_after root new ∷ waiting root new) × (work_waiting first start old ≡ work first start new)
Backs first start domains old new Solved = ⊥
Backs first start domains old new Refuted = (root : List Fact) → waiting root old ≡ []

-- a turn: less is to do, or a point solves the formula, or the steps refute it
abbrev pub Turns : Formula → Boxed → ℕ → List Domain → List DomainCut → List DomainCut → List Step → HalvingTurn → Type 0
Turns f box first domains old new steps More =
    Halved f box first domains (reverse new) steps
    × (work first (start_domains 0 box.bounds) (reverse new) < work first (start_domains 0 box.bounds) (reverse old))
Turns f box first domains old new steps Solved = Solves f box (map (λ s. s.low) domains)
Turns f box first domains old new steps Refuted = refutes (length box.bounds) steps (root_facts f box ∷ []) ≡ true
