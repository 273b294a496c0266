-- Rows of the language's description, computed.
use Rattle.std.proofs.Common.{◌≡◌, ℕ, List, [], ◌∷◌, ◌++◌, Result, Ok, Err, Bool, true, false, pos, refl, codes}
use Rattle.ipg_num.specs.declared.op.Op2.TheVariants.{Sub, Mul, BitOr, Eq}
use Rattle.ipg_read_tokens.specs.declared.fault.ReadFault.TheVariants.{Syntax}
use Rattle.ipg_read_tokens.specs.declared.fault.ReadFault.{ReadFault}
use Rattle.ipg_ast.specs.declared.grammar.Grammar.{Grammar}
use Rattle.ipg_read_tokens.specs.Lexical.{tokens_of}
use Rattle.ipg_read_tokens.specs.declared.token.Token.{Token}
use Rattle.ipg_read_syntax.specs.Classes.{classes, either, op}
use Rattle.ipg_read_syntax.specs.Written.{ExprTree, TermTree, RuleTree, AltTree, num, two, choose, test_term, neg}
use Rattle.ipg_read_syntax.specs.Machine.{Read, verdict, start_state}
use Rattle.ipg_read_syntax.specs.Making.{trees}
use Rattle.ipg_read_syntax.specs.Reading.{read_of}

-- `S -> "a" [ 0 , ] ;`
fault_15 : read_of (codes "S -> \"a\" [ 0 , ] ;") ≡ Err (Syntax 15)
fault_15 = refl

fault_end : read_of (codes "S -> ?(((") ≡ Err (Syntax 9)
fault_end = refl

-- the conditions of the tests in the first alternatives
abbrev tests_among : List TermTree → List ExprTree
tests_among [] = []
tests_among (test_term at e ∷ ts) = e ∷ tests_among ts
tests_among (t ∷ ts) = tests_among ts

abbrev first_alt : List AltTree → List ExprTree
first_alt [] = []
first_alt (a ∷ rest) = tests_among a.terms

abbrev first_rule : List RuleTree → List ExprTree
first_rule [] = []
first_rule (r ∷ rs) = first_alt r.alts

abbrev tests_in : Result (Read trees) ℕ → List ExprTree
tests_in (Err n) = []
tests_in (Ok r) = first_rule r.rules

abbrev tests_of : Result (List Token) ReadFault → List ExprTree
tests_of (Err f) = []
tests_of (Ok ts) = tests_in (verdict trees 0 (start_state trees) (classes ts))

left_associative : tests_of (tokens_of (codes "S -> ?(1 - 2 - 3) ;")) ≡ two (op Sub) (two (op Sub) (num (pos 1)) (num (pos 2))) (num (pos 3)) ∷ []
left_associative = refl

looser_comparison : tests_of (tokens_of (codes "S -> ?(1 | 2 == 3) ;")) ≡ two (op Eq) (two (op BitOr) (num (pos 1)) (num (pos 2))) (num (pos 3)) ∷ []
looser_comparison = refl

whole_parts : tests_of (tokens_of (codes "S -> ?(1 || 2 ? 3 ? 4 : 5 : 6 ? 7 : 8 || -9 * 10) ;"))
    ≡ choose (two either (num (pos 1)) (num (pos 2))) (record { from = 14; to = 15 })
    (choose (num (pos 3)) (record { from = 18; to = 19 }) (num (pos 4)) (num (pos 5)))
    (choose (num (pos 6)) (record { from = 30; to = 31 }) (num (pos 7)) (two either (num (pos 8)) (two (op Mul) (neg (num (pos 9))) (num (pos 10))))) ∷ []
whole_parts = refl

abbrev is_read : Result Grammar ReadFault → Bool
is_read (Ok g) = true
is_read (Err f) = false

empty_slot : is_read (read_of (codes "S -> \"\"[0,0] ;")) ≡ true
empty_slot = refl

-- each form of a term, local rules, and more than one rule
all_forms : is_read (read_of (
    codes "S -> A[1] {x = A(A.n + 1).end} ?(!x && -1 < 2) for i = 0 to 3 do A[i, i + 1] "
    ++ codes "switch { case (x) A case (1) \"b\"[2] else A[0, EOI] } where { A -> \"a\" / B ; B -> \"b\" ; } / \"c\" ; T -> S ;"
    )) ≡ true
all_forms = refl

no_where_in_a_local_rule : read_of (codes "S -> A where { A -> B where { B -> C ; } ; } ;") ≡ Err (Syntax 22)
no_where_in_a_local_rule = refl

-- a repetition, with and without an interval; `many` is no name, and no string follows it
repetitions : is_read (read_of (codes "S -> many A many A[1] many U8[1, EOI] / many A ; A -> U8 ;")) ≡ true
repetitions = refl

many_is_no_name : read_of (codes "S -> A ; many -> U8 ;") ≡ Err (Syntax 9)
many_is_no_name = refl

many_before_a_string : read_of (codes "S -> many \"a\" ;") ≡ Err (Syntax 10)
many_before_a_string = refl
