-- What is counted of the rows, each count up to one past its limit, and the first limit passed.
use Rattle.std.specs.Prelude.{ℕ, List, [], ◌∷◌, None, max, option_map}
use Rattle.ipg_read_tokens.specs.declared.fault.Which.TheVariants.{Alternatives, Terms, Depth}
use Rattle.ipg_read_syntax.specs.Limits as Limits
use Rattle.ipg_read_syntax.specs.Counting as Counting
use Rattle.ipg_read_syntax.specs.Counting.{more, deeper, noted, noted_rule}
use Rattle.ipg_read.specs.declared.limits.Over.{Over}
use Rattle.ipg_read.specs.declared.limits.Seen.{Seen}
use Rattle.ipg_read_scan.specs.declared.row.Site.{Site}
use Rattle.ipg_read_scan.specs.declared.row.Site.TheVariants.{Global, Local}
use Rattle.ipg_read_scan.specs.declared.row.Role.{Role}
use Rattle.ipg_read_scan.specs.declared.row.Role.TheVariants as Use
use Rattle.ipg_read.specs.declared.count.Count.{Count}
use Rattle.ipg_read_scan.specs.Rowed.{Row}
use Rattle.ipg_read_scan.specs.Rowed as R

abbrev pub over_of : Over → Limits.Over
over_of o = record { which = o.which; at = o.at }

abbrev pub seen_of : Seen → Counting.Seen
seen_of s = record { rules = s.rules; over = option_map over_of s.over }

-- the depths of expressions that are still parts to be, the last one first; and the lengths of the lists that are being made
pub record Counts : Type 0 where
  pub seen : Counting.Seen
  pub depths : List ℕ
  pub terms : ℕ
  pub alts : ℕ
  pub local_alts : ℕ

abbrev pub counts_of : Count → Counts
counts_of c = record { seen = seen_of c.seen; depths = c.depths; terms = c.terms; alts = c.alts; local_alts = c.local_alts }

abbrev pub put_seen : Counting.Seen → Counts → Counts
put_seen s c = record { seen = s; depths = c.depths; terms = c.terms; alts = c.alts; local_alts = c.local_alts }

abbrev pub put_depths : List ℕ → Counts → Counts
put_depths ds c = record { seen = c.seen; depths = ds; terms = c.terms; alts = c.alts; local_alts = c.local_alts }

-- after an alternative
abbrev pub put_alts : ℕ → Counts → Counts
put_alts n c = record { seen = c.seen; depths = c.depths; terms = 0; alts = n; local_alts = c.local_alts }

abbrev pub put_local_alts : ℕ → Counts → Counts
put_local_alts n c = record { seen = c.seen; depths = c.depths; terms = 0; alts = c.alts; local_alts = n }

abbrev pub top : List ℕ → ℕ
top [] = 0
top (d ∷ ds) = d

abbrev pub below : {T : Type 0} → List T → List T
below [] = []
below (x ∷ xs) = xs

abbrev pub one_deeper : List ℕ → List ℕ
one_deeper ds = deeper (top ds) ∷ below ds

abbrev pub two_deeper : List ℕ → List ℕ
two_deeper ds = deeper (max (top (below ds)) (top ds)) ∷ below (below ds)

abbrev pub three_deeper : List ℕ → List ℕ
three_deeper ds = deeper (max (top (below (below ds))) (max (top (below ds)) (top ds))) ∷ below (below (below ds))

-- a whole expression is a part of no other
abbrev pub whole : ℕ → Counts → Counts
whole from c = put_seen (noted Depth (top c.depths) from c.seen) (put_depths (below c.depths) c)

abbrev pub term_ends : Counts → Counts
term_ends c = record { seen = c.seen; depths = c.depths; terms = more Terms c.terms; alts = c.alts; local_alts = c.local_alts }

abbrev pub alts_at : Site → Counts → ℕ
alts_at Global c = c.alts
alts_at Local c = c.local_alts

abbrev pub first_term : Site → ℕ → Counts → Counts
first_term site at c = put_seen (noted Terms (more Terms 0) at (noted Alternatives (more Alternatives (alts_at site c)) at c.seen)) c

abbrev pub alt_ends : Site → Counts → Counts
alt_ends Global c = put_alts (more Alternatives c.alts) c
alt_ends Local c = put_local_alts (more Alternatives c.local_alts) c

abbrev pub rule_ends : Site → Counts → Counts
rule_ends Global c = put_alts 0 c
rule_ends Local c = put_local_alts 0 c

abbrev pub slot_ends : Role → Counts → Counts
slot_ends Use.Term c = term_ends c
slot_ends (Use.Many at) c = term_ends c
slot_ends Use.Case c = c
slot_ends Use.Other c = c

abbrev pub note : Row → Counts → Counts
note (R.rule at) c = put_seen (noted_rule at c.seen) c
note (R.name i) c = c
note (R.first site at) c = first_term site at c
note (R.term at) c = put_seen (noted Terms (more Terms c.terms) at c.seen) c
note (R.text i) c = c
note (R.call i) c = c
note (R.placed extent role) c = slot_ends role c
note R.set c = term_ends c
note (R.test at) c = term_ends c
note R.repeat c = term_ends c
note (R.pick at) c = term_ends c
note (R.next_alt site) c = alt_ends site c
note (R.end_rule site) c = rule_ends site c
note R.locals c = put_alts c.alts c
note R.end_locals c = put_alts (more Alternatives c.alts) c
note R.close c = put_alts 0 c
note (R.num z) c = put_depths (1 ∷ c.depths) c
note R.eoi c = put_depths (1 ∷ c.depths) c
note R.own c = put_depths (1 ∷ c.depths) c
note (R.part f) c = put_depths (1 ∷ c.depths) c
note (R.item f) c = put_depths (one_deeper c.depths) c
note R.group c = put_depths (one_deeper c.depths) c
note R.neg c = put_depths (one_deeper c.depths) c
note R.isnt c = put_depths (one_deeper c.depths) c
note (R.two i) c = put_depths (two_deeper c.depths) c
note R.choose c = put_depths (three_deeper c.depths) c
note (R.whole from) c = whole from c

abbrev pub notes : List Row → Counts → Counts
notes [] c = c
notes (r ∷ rs) c = notes rs (note r c)

abbrev pub nothing : Counts
nothing = record { seen = record { rules = 0; over = None }; depths = []; terms = 0; alts = 0; local_alts = 0 }
