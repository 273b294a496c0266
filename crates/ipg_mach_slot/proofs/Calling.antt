-- A symbol that names a rule makes its call.
use Rattle.std.proofs.Common.{ℕ, refl, length}
use Rattle.ipg_core.specs.declared.grammar.Sym.TheVariants.{Rule}
use Rattle.ipg_core.specs.Grammar.{rule_at, holder_of}
use Rattle.ipg_core.specs.Within.{IsInterval}
use Rattle.ipg_core.specs.Environment.{Values}
use Rattle.ipg_core.specs.Run.{stop, after, go_on, ◌>>=◌}
use Rattle.ipg_core.specs.Meaning.{Frame, Place, outer_for, ask, symbol_on}
use Rattle.ipg_mach_slot.specs.Found.{Calls}
use Rattle.ipg_mach_moves.specs.Moves.{silent}

pub rule_calls : (f : Frame) (place : Place) (own : Values) (rule from to : ℕ) → IsInterval (length f.bytes) from to
    → Calls f own rule from to (symbol_on silent f place own from to (Rule rule)).asked
unfolding ask ◌>>=◌ after go_on stop
rule_calls f place own rule from to i = record {
  ask = record {
    alt = f.alt;
    term = place.term;
    branch = place.branch;
    callee = rule;
    from = from;
    to = to;
    outer = outer_for f own (holder_of (rule_at f.grammar rule));
  };
  is_asked = refl;
  is_rule = refl;
  is_from = refl;
  is_to = refl;
  is_outer = refl;
  valid = i.valid;
  inside = i.inside;
}
