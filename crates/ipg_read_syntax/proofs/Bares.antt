-- To leave out the places of tokens is a map of what is made.
use Rattle.std.proofs.Common.{◌≡◌, List, [], ◌∷◌, refl, ap, map}
use Rattle.ipg_ast.specs.declared.grammar.Ident.{Ident}
use Rattle.ipg_ast.specs.declared.grammar.Expr.{Expr}
use Rattle.ipg_ast.specs.declared.grammar.Alt.{Alt, out-roll-Alt, roll-Alt}
use Rattle.ipg_ast.specs.declared.grammar.Rule.{Rule, out-roll-Rule, roll-Rule}
use Rattle.ipg_ast.specs.declared.grammar.Term.{Term}
use Rattle.ipg_read_syntax.specs.Classes.{Infix, either, both, op}
use Rattle.ipg_read_syntax.specs.Bare.{bare_ident, bare_step, bare_expr, bare_place, bare_slot, bare_case, bare_term, bare_local_alt, bare_local}
use Rattle.ipg_read_syntax.specs.Bare.{bare_alt, bare_rule}
use Rattle.ipg_read_syntax.specs.Making.{made, last}
use Rattle.ipg_read_syntax.proofs.Maps.{Maps}
use Rattle.ipg_read_syntax.specs.Grammars.{infix_expr, alt_of, rule_of}
use Rattle.ipg_ast.specs.Folds.{at_both, at_cond, at_either, at_eoi, at_group, at_id, at_item, at_neg, at_not, at_num, at_part, at_two}

pub bare_infix : (i : Infix) (a b : Expr) → bare_expr (infix_expr i a b) ≡ infix_expr i (bare_expr a) (bare_expr b)
bare_infix either a b = at_either bare_step a b
bare_infix both a b = at_both bare_step a b
bare_infix (op o) a b = at_two bare_step o a b

pub map_last : {A B : Type 0} (f : A → B) (xs : List A) (x : A) (y : B) → f x ≡ y → map f (last xs x) ≡ last (map f xs) y
map_last f [] x y same = ap (λ z. z ∷ []) same
map_last f (z ∷ xs) x y same = ap (λ zs. f z ∷ zs) (map_last f xs x y same)

pub bare_alt_of : (ts : List Term) (ls : List Rule) → bare_alt (alt_of ts ls) ≡ alt_of (map bare_term ts) (map bare_local ls)
bare_alt_of ts ls = ap (λ a. roll-Alt (record { terms = map bare_term a.terms; locals = map bare_local a.locals }))
    (out-roll-Alt (record { terms = ts; locals = ls }))

pub bare_local_alt_of : (ts : List Term) → bare_local_alt (alt_of ts []) ≡ alt_of (map bare_term ts) []
bare_local_alt_of ts = ap (λ a. roll-Alt (record { terms = map bare_term a.terms; locals = a.locals })) (out-roll-Alt (record { terms = ts; locals = [] }))

pub bare_local_of : (n : Ident) (alts : List Alt) → bare_local (rule_of n alts) ≡ rule_of (bare_ident n) (map bare_local_alt alts)
bare_local_of n alts = ap (λ r. roll-Rule (record { name = bare_ident r.name; alts = map bare_local_alt r.alts }))
    (out-roll-Rule (record { name = n; alts = alts }))

pub bare_rule_of : (n : Ident) (alts : List Alt) → bare_rule (rule_of n alts) ≡ rule_of (bare_ident n) (map bare_alt alts)
bare_rule_of n alts = ap (λ r. roll-Rule (record { name = bare_ident r.name; alts = map bare_alt r.alts })) (out-roll-Rule (record { name = n; alts = alts }))

abbrev pub bared : Maps made made
bared = record {
  on_expr = bare_expr;
  on_place = bare_place;
  on_slot = bare_slot;
  on_cases = map bare_case;
  on_term = bare_term;
  on_terms = map bare_term;
  on_local_alts = map bare_local_alt;
  on_locals = map bare_local;
  on_alts = map bare_alt;
  on_rules = map bare_rule;
  on_log = λ log. tt;
  num = λ z. at_num bare_step z;
  eoi = at_eoi bare_step;
  own = λ i. at_id bare_step i;
  part = λ i f. at_part bare_step i f;
  item = λ i e f. at_item bare_step i e f;
  group = λ e. at_group bare_step e;
  neg = λ e. at_neg bare_step e;
  isnt = λ e. at_not bare_step e;
  two = bare_infix;
  choose = λ c at a b. at_cond bare_step c a b;
  anywhere = refl;
  long = λ e. refl;
  ends = λ l r. refl;
  slot = λ w at p. refl;
  no_cases = refl;
  with_case = λ cs c s. map_last bare_case cs (record { cond = c; slot = s }) (record { cond = bare_expr c; slot = bare_slot s }) refl;
  slot_term = λ s. refl;
  set_term = λ x e. refl;
  test_term = λ at e. refl;
  repeat_term = λ x a b i l r. refl;
  many_term = λ at i p. refl;
  pick_term = λ at cs s. refl;
  no_terms = refl;
  with_term = λ ts t. map_last bare_term ts t (bare_term t) refl;
  no_local_alts = refl;
  with_local_alt = λ las ts. map_last bare_local_alt las (alt_of ts []) (alt_of (map bare_term ts) []) (bare_local_alt_of ts);
  no_locals = refl;
  with_local = λ ls n las. map_last bare_local ls (rule_of n las) (rule_of (bare_ident n) (map bare_local_alt las)) (bare_local_of n las);
  no_alts = refl;
  with_alt = λ alts ts ls. map_last bare_alt alts (alt_of ts ls) (alt_of (map bare_term ts) (map bare_local ls)) (bare_alt_of ts ls);
  no_rules = refl;
  with_rule = λ rs n alts. map_last bare_rule rs (rule_of n alts) (rule_of (bare_ident n) (map bare_alt alts)) (bare_rule_of n alts);
  blank = refl;
  saw_rule = λ at log. refl;
  saw_local_alt = λ las at log. refl;
  saw_alt = λ alts at log. refl;
  saw_term = λ ts at log. refl;
  saw_expr = λ e at log. refl;
}
