-- The roster has as many rules as the text.
use Rattle.std.proofs.Common.{◌≡◌, ℕ, ◌+◌, ◌^◌, ◌<◌, ◌≤◌, List, [], ◌∷◌, ◌++◌, length, drop, map, get_or, refl, sym, ap, ◌∙◌, arith, sum_by, length-append}
use Rattle.std.proofs.lemmas.List.{length-map}
use Rattle.std.proofs.lemmas.List.Sums.{sum_by-cons}
use Rattle.ipg_ast.specs.declared.grammar.Rule.{Rule, out-Rule}
use Rattle.ipg_ast.specs.declared.grammar.Alt.{Alt, out-Alt}
use Rattle.ipg_ast.specs.Shape.{locals_in, rules_in, tool_rules, max_rules}
use Rattle.ipg_names_scope.specs.Roster.{ListedRule, local, locals_from, family_of, roster_from}
use Rattle.ipg_names_scope.proofs.Lists.{at_item, pieces}

locals_length : (r a : ℕ) (alts : List Alt) → length (locals_from r a alts) ≡ sum_by locals_in alts
locals_length r a [] = refl
locals_length r a (alt ∷ alts) =
    let rest = locals_length r (a + 1) alts in
    omega (
      arith,
      rest,
      sum_by-cons locals_in alt alts,
      length-map (out-Alt alt).locals (local r a alt),
      length-append (map (local r a alt)
          (out-Alt alt).locals) (locals_from r (a + 1) alts),
    )

pub family_length : (r : ℕ) (rule : Rule) → length (family_of r rule) ≡ rules_in rule
family_length r rule = let h = locals_length r 0 (out-Rule rule).alts in omega (arith, h)

pub roster_length : (r : ℕ) (rules : List Rule) → length (roster_from r rules) ≡ tool_rules rules
roster_length r [] = refl
roster_length r (rule ∷ rules) =
    let next = r + length (family_of r rule) in
    let rest = roster_length next rules in
    omega (arith, rest, family_length r rule, sum_by-cons rules_in rule rules, length-append (family_of r rule) (roster_from next rules))

-- one rule more
pub roster_turn : (rules : List Rule) (i : ℕ) (rule : Rule) (old new all : List ListedRule) → rule ≡ get_or rules i rule → i < length rules
    → new ≡ old ++ family_of (length old) rule → old ++ roster_from (length old) (drop i rules) ≡ all
    → new ++ roster_from (length new) (drop (i + 1) rules) ≡ all
roster_turn rules i rule old new all is within put so_far =
    let family = family_of (length old) rule in
    let rest = drop (i + 1) rules in
    let counted : length new ≡ length old + length family = ap length put ∙ length-append old family in
    pieces old family new (roster_from (length new) rest) (family ++ roster_from (length old + length family) rest) all put
    (ap (λ n. family ++ roster_from n rest) (sym counted)) (ap (λ rs. old ++ roster_from (length old) rs) (sym (at_item rules i rule is within)) ∙ so_far)

pub locals_turn : (r : ℕ) (alts : List Alt) (a : ℕ) (alt : Alt) (old new all : List ListedRule) → alt ≡ get_or alts a alt → a < length alts
    → new ≡ old ++ map (local r a alt) (out-Alt alt).locals → old ++ locals_from r a (drop a alts) ≡ all
    → new ++ locals_from r (a + 1) (drop (a + 1) alts) ≡ all
locals_turn r alts a alt old new all is within put so_far =
    pieces old _ new (locals_from r (a + 1) (drop (a + 1) alts)) (locals_from r a (alt ∷ drop (a + 1) alts)) all put refl
    (ap (λ xs. old ++ locals_from r a xs) (sym (at_item alts a alt is within)) ∙ so_far)

pub few_so_far : (rules : List Rule) (old rest : List ListedRule) → old ++ rest ≡ roster_from 0 rules → tool_rules rules ≤ max_rules → length old < 2 ^ 32
few_so_far rules old rest whole few = omega (arith, ap length whole, length-append old rest, roster_length 0 rules)
