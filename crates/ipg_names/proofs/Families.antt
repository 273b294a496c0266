-- What holds of each rule of a roster, by the text.
use Rattle.std.proofs.Common.{ℕ, ◌+◌, List, [], ◌∷◌, ◌++◌, length, map, arith}
use Rattle.std.specs.List.{AllByRecursion}
use Rattle.ipg_ast.specs.declared.grammar.Grammar.{Grammar}
use Rattle.ipg_ast.specs.declared.grammar.Rule.{Rule, out-Rule}
use Rattle.ipg_ast.specs.declared.grammar.Alt.{Alt, out-Alt}
use Rattle.ipg_names_scope.specs.Roster.{ListedRule, global, local, locals_from, family_of, roster_from, roster_of}
use Rattle.ipg_names.specs.Readable.{IsReadable, IsReadableRule, IsReadableAlt, IsReadableLocal, IsReadableLocalAlt}
use Rattle.ipg_names_scope.specs.View.{IsFit, HasShortTerms}

pub all_append : {A : Type 0} (P : A → Type 0) (xs ys : List A) → AllByRecursion P xs → AllByRecursion P ys → AllByRecursion P (xs ++ ys)
all_append P [] ys h k = k
all_append P (x ∷ xs) ys h k = (h.0, all_append P xs ys h.1 k)

pub all_left : {A : Type 0} (P : A → Type 0) (xs ys : List A) → AllByRecursion P (xs ++ ys) → AllByRecursion P xs
all_left P [] ys h = tt
all_left P (x ∷ xs) ys h = (h.0, all_left P xs ys h.1)

pub all_right : {A : Type 0} (P : A → Type 0) (xs ys : List A) → AllByRecursion P (xs ++ ys) → AllByRecursion P ys
all_right P [] ys h = h
all_right P (x ∷ xs) ys h = all_right P xs ys h.1

pub all_of_all : {A : Type 0} (P Q : A → Type 0) → ((x : A) → P x → Q x) → (xs : List A) → AllByRecursion P xs → AllByRecursion Q xs
all_of_all P Q f [] h = tt
all_of_all P Q f (x ∷ xs) h = (f x h.0, all_of_all P Q f xs h.1)

pub all_map : {A B : Type 0} (P : B → Type 0) (f : A → B) (xs : List A) → AllByRecursion (λ x. P (f x)) xs → AllByRecursion P (map f xs)
all_map P f [] h = tt
all_map P f (x ∷ xs) h = (h.0, all_map P f xs h.1)

module _ (P : ListedRule → Type 0) where
  -- it holds of the local rules of an alternative, whatever the numbers of their holder
  abbrev pub HasLocals : Alt → Type 0
  HasLocals alt = (r a : ℕ) → AllByRecursion (λ rule. P (local r a alt rule)) (out-Alt alt).locals

  -- it holds of a rule and of its local ones
  pub record HasFamily (rule : Rule) : Type 0 where
    pub head : P (global rule)
    pub locals : AllByRecursion HasLocals (out-Rule rule).alts

  locals_all : (r a : ℕ) (alts : List Alt) → AllByRecursion HasLocals alts → AllByRecursion P (locals_from r a alts)
  locals_all r a [] h = tt
  locals_all r a (alt ∷ alts) h = all_append P (map (local r a alt) (out-Alt alt).locals) (locals_from r (a + 1) alts) (all_map P (local r a alt)
      (out-Alt alt).locals (h.0 r a)) (locals_all r (a + 1) alts h.1)

  pub roster_all : (r : ℕ) (rules : List Rule) → AllByRecursion HasFamily rules → AllByRecursion P (roster_from r rules)
  roster_all r [] h = tt
  roster_all r (rule ∷ rules) h = all_append P (family_of r rule) (roster_from (r + length (family_of r rule)) rules) (
    h.0.head,
    locals_all r 0
        (out-Rule rule).alts h.0.locals,
  ) (roster_all (r + length (family_of r rule)) rules h.1)

-- ---- the conditions of the call, for each rule

fit_local : (alt : Alt) → IsReadableAlt alt → (r a : ℕ) → AllByRecursion (λ rule. IsFit (local r a alt rule)) (out-Alt alt).locals
fit_local alt h r a = all_of_all IsReadableLocal (λ rule. IsFit (local r a alt rule))
    (λ rule l. record {
      few = l.count.1;
      short = all_of_all IsReadableLocalAlt HasShortTerms (λ b m. m.terms.1) (out-Rule rule).alts l.each;
      outer =
          h.terms.1;
    }) (out-Alt alt).locals h.locals

fit_family : (rule : Rule) → IsReadableRule rule → HasFamily IsFit rule
fit_family rule h = record {
  head = record { few = h.count.1; short = all_of_all IsReadableAlt HasShortTerms (λ alt m. m.terms.1) (out-Rule rule).alts h.each; outer = omega arith };
  locals = all_of_all IsReadableAlt (HasLocals IsFit) (λ alt m. fit_local alt m) (out-Rule rule).alts h.each;
}

pub roster_fit : (g : Grammar) → IsReadable g → AllByRecursion IsFit (roster_of g)
roster_fit g h = roster_all IsFit 0 g.rules (all_of_all IsReadableRule (HasFamily IsFit) fit_family g.rules h.each)
