-- The actions that only count, each count up to one past its limit, and keep the first limit passed.
use Rattle.std.specs.Prelude.{ℕ, ◌+◌, Option, Some, None, min, max, if◌then◌else◌}
use Rattle.ipg_read_tokens.specs.declared.fault.Which.{Which}
use Rattle.ipg_read_tokens.specs.declared.fault.Which.TheVariants.{Rules, Alternatives, Terms, Depth}
use Rattle.ipg_read_syntax.specs.Limits.{limit, Over, Size, is_over}
use Rattle.ipg_read_syntax.specs.Machine.{Acts}

-- one more, up to one past the limit
abbrev pub more : Which → ℕ → ℕ
more which n = min (n + 1) (limit which + 1)

abbrev pub deeper : ℕ → ℕ
deeper n = more Depth n

pub record Seen : Type 0 where
  pub rules : ℕ
  pub over : Option Over

abbrev pub first_kept : Option Over → Size → Option Over
first_kept (Some o) s = Some o
first_kept None s = if is_over s then Some (record { which = s.which; at = s.at }) else None

abbrev pub noted : Which → ℕ → ℕ → Seen → Seen
noted which count at seen = record { rules = seen.rules; over = first_kept seen.over (record { which = which; count = count; at = at }) }

abbrev pub noted_rule : ℕ → Seen → Seen
noted_rule at seen =
    record { rules = more Rules seen.rules; over = first_kept seen.over (record { which = Rules; count = more Rules seen.rules; at = at }) }

-- a whole expression counts by its depth, and lists by their lengths
abbrev pub counters : Acts
counters = record {
  Expr = ℕ;
  Place = Unit {0};
  Slot = Unit {0};
  Cases = Unit {0};
  Term = Unit {0};
  Terms = ℕ;
  LocalAlts = ℕ;
  Locals = Unit {0};
  Alts = ℕ;
  Rules = Unit {0};
  Log = Seen;
  num = λ z. 1;
  eoi = 1;
  own = λ i. 1;
  part = λ i f. 1;
  item = λ i e f. deeper e;
  group = deeper;
  neg = deeper;
  isnt = deeper;
  two = λ i a b. deeper (max a b);
  choose = λ c at a b. deeper (max c (max a b));
  anywhere = tt;
  long = λ e. tt;
  ends = λ l r. tt;
  slot = λ what at p. tt;
  no_cases = tt;
  with_case = λ cs c s. tt;
  slot_term = λ s. tt;
  set_term = λ x e. tt;
  test_term = λ at e. tt;
  repeat_term = λ x a b i l r. tt;
  many_term = λ at i p. tt;
  pick_term = λ at cs s. tt;
  no_terms = 0;
  with_term = λ n t. more Terms n;
  no_local_alts = 0;
  with_local_alt = λ n ts. more Alternatives n;
  no_locals = tt;
  with_local = λ ls n las. tt;
  no_alts = 0;
  with_alt = λ n ts ls. more Alternatives n;
  no_rules = tt;
  with_rule = λ rs n alts. tt;
  blank = record { rules = 0; over = None };
  saw_rule = noted_rule;
  saw_local_alt = λ n at seen. noted Alternatives (more Alternatives n) at seen;
  saw_alt = λ n at seen. noted Alternatives (more Alternatives n) at seen;
  saw_term = λ n at seen. noted Terms (more Terms n) at seen;
  saw_expr = λ d first seen. noted Depth d first seen;
}
