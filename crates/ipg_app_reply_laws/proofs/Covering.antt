-- A grammar leaves no byte out, or has a first alternative that may leave one out, with the least length and the least place.
use Rattle.std.proofs.Common.{◌≡◌, ℕ, zero, suc, ◌+◌, ◌-◌, ◌<◌, ◌≤◌, ◌⊎◌, inl, inr, refl, sym, ap, ◌∙◌, subst, arith}
use Rattle.std.proofs.Common.{ℤ, pos, negsuc, ◌+ℤ◌, List, [], ◌∷◌, ◌++◌, length, Option, Some, None, Bool, true, false, if◌then◌else◌}
use Rattle.std.specs.Prelude.{slice_get, ◌≤ℤ◌, ◌↔◌, codes, Contains}
use Rattle.std.specs.List.{AllByRecursion}
use Rattle.std.proofs.lemmas.Int.{ints}
use Rattle.std.proofs.lemmas.List.Elements.{All-from_recursion}
use Rattle.std.proofs.lemmas.Option.{slice_get_cases, slice_get_within}
use Rattle.ipg_core.specs.declared.grammar.CoreAlt.{CoreAlt}
use Rattle.ipg_core.specs.declared.grammar.CoreRule.{CoreRule}
use Rattle.ipg_core.specs.Grammar.{Grammar, rule_at}
use Rattle.ipg_core.specs.Good.{Good}
use Rattle.ipg_core.specs.MustTouch.{Marks, is_marked}
use Rattle.ipg_graph.specs.declared.edge.Edge.{Edge}
use Rattle.ipg_graph.specs.Graph.{IsInside}
use Rattle.ipg_lin.specs.Form.{Assignment}
use Rattle.ipg_lin.specs.Formula.{Solvable}
use Rattle.ipg_lin.specs.declared.formula.Formula.{Formula}
use Rattle.ipg_lin.specs.declared.formula.Boxed.{Boxed}
use Rattle.ipg_cert.specs.declared.refutation.Refutation.{Refutation}
use Rattle.ipg_facts.specs.Gap.{HasAlternative}
use Rattle.ipg_facts_edges.specs.Edges.{edges_of, numbered}
use Rattle.ipg_facts_laws.specs.Gapped.{GapsAreBounded}
use Rattle.ipg_facts_laws.specs.Laws.{EdgesAreInside, Solves}
use Rattle.ipg_cover.specs.Cover.{alternatives_of, alternatives, gap_at, Leaves, AreRefuted, Ground, IsLeastGap}
use Rattle.ipg_cover.specs.Reach.{Reaches, first, called}
use Rattle.ipg_cover_refute_laws.specs.Refuted.{GapsAreRefuted}
use Rattle.ipg_app_grammar.specs.Covering.{CoverSays, may_gap}
use Rattle.ipg_app_text.specs.Said.{Said, done_line}
use Rattle.ipg_app_reply_laws.proofs.Classical.{Somehow, some, ◌>>=◌, by, middle, first_of}
use Rattle.ipg_app_reply_laws.proofs.Limits.{Tells, tell, inside_or, marked_inside, limits}

-- ---- the places are those of alternatives

all_joined : {X : Type 0} (P : X → Type 0) (xs ys : List X) → AllByRecursion P xs → AllByRecursion P ys → AllByRecursion P (xs ++ ys)
all_joined P [] ys a b = b
all_joined P (x ∷ xs) ys a b = (a.0, all_joined P xs ys a.1 b)

all_numbered : {X Y : Type 0} (P : Y → Type 0) (n : ℕ) (f : ℕ → X → List Y) (xs : List X)
    → ((k : ℕ) (x : X) → slice_get xs k ≡ Some x → AllByRecursion P (f (n + k) x)) → AllByRecursion P (numbered n f xs)
all_numbered P n f [] each = tt
all_numbered P n f (x ∷ xs) each =
    all_joined P (f n x) (numbered (n + 1) f xs) (subst (λ m. AllByRecursion P (f m x)) (let at : n + 0 ≡ n = omega arith in at) (each zero x refl))
    (all_numbered P (n + 1) f xs
    (λ k y e. subst (λ m. AllByRecursion P (f m y)) (let at : n + suc k ≡ (n + 1) + k = omega arith in at) (each (suc k) y e)))

module _ (g : Grammar) where
  abbrev IsPlace : ℕ × ℕ → Type 0
  IsPlace place = HasAlternative g place.0 place.1

  rule_places : (r : ℕ) (rule : CoreRule) → rule_at g r ≡ Some rule → AllByRecursion IsPlace (alternatives_of r rule.alts)
  rule_places r rule e =
      all_numbered IsPlace 0 (λ a alt. (r, a) ∷ []) rule.alts
      (λ a alt k. let at : a ≡ 0 + a = omega arith in
      (subst (λ m. IsPlace (r, m)) at (alt, ap (λ (o : Option CoreRule). alt_in o a) e ∙ k), tt))
    where
      alt_in : Option CoreRule → ℕ → Option CoreAlt
      alt_in None a = None
      alt_in (Some rule) a = slice_get rule.alts a

  perhaps : (b : Bool) (places : List (ℕ × ℕ)) → AllByRecursion IsPlace places → AllByRecursion IsPlace (if b then places else [])
  perhaps true places all = all
  perhaps false places all = tt

  all_places : (flags : Marks) → AllByRecursion IsPlace (alternatives g flags)
  all_places flags =
      all_numbered IsPlace 0 (λ r rule. if is_marked flags r then alternatives_of r rule.alts else []) g.rules
      (λ r rule e. let at : r ≡ 0 + r = omega arith in
      perhaps (is_marked flags (0 + r)) (alternatives_of (0 + r) rule.alts) (rule_places (0 + r) rule (ap (rule_at g) (sym at) ∙ e)))

-- ---- the rules that are reached

callee_inside : (n : ℕ) (edges : List Edge) (e : Edge) → AllByRecursion (IsInside n) edges → Contains edges e → e.callee < n
callee_inside n edges e all has =
    (subst (IsInside n) has.2 (All-from_recursion (IsInside n) edges all has.0 e has.1)).1

reach_inside : (g : Grammar) → Good g → EdgesAreInside → (rule : ℕ) → Reaches g rule → rule < length g.rules
reach_inside g good inside _ first = slice_get_within g.rules 0 good.well_formed.first.0 good.well_formed.first.1
reach_inside g good inside _ (called e has from) = callee_inside (length g.rules) (edges_of g) e (inside g good) has

exact_all : (g : Grammar) → Good g → EdgesAreInside → (flags : Marks) → Tells (Reaches g) (length g.rules) flags → (r : ℕ)
    → (is_marked flags r ≡ true) ↔ Reaches g r
exact_all g good inside flags told r =
    by (inside_or (length g.rules) r) (told.exact r) (λ le. (
      λ e. absurd (let lt = marked_inside flags r e in let size = told.size in omega (arith, lt, size, le)),
      λ h. absurd (let lt = reach_inside g good inside r h in omega (arith, lt, le)),
    ))

ground : (g : Grammar) → Good g → EdgesAreInside → Somehow (Ground g)
ground g good inside = do
  marks ← limits g
  flags ← tell (Reaches g) (length g.rules)
  some (record {
    marks = marks.0;
    limit = marks.1;
    flags = flags.0;
    reached = record { size = flags.1.size; exact = exact_all g good inside flags.0 flags.1 };
  })

-- ---- the least length, and the least place

apart : (low high : ℤ) → low ≤ℤ high → (n : ℕ) × (low +ℤ pos n ≡ high)
apart (pos a) (pos b) le = (b - a, omega (arith, ints, le))
apart (pos a) (negsuc b) le = absurd (omega (arith, ints, le))
apart (negsuc a) (pos b) le = (suc a + b, omega (arith, ints, le))
apart (negsuc a) (negsuc b) le = (a - b, omega (arith, ints, le))

order : (a b : ℕ) → (a < b) ⊎ (b ≤ a)
order a b = inside_or b a

-- of what takes values from a least one on, one takes the least
pub record Least {A : Type 0} (P : A → Type 0) (value : A → ℤ) : Type 0 where
  pub one : A
  pub holds : P one
  pub least : (other : A) → P other → value one ≤ℤ value other

least_of : {A : Type 0} (P : A → Type 0) (value : A → ℤ) (low : ℤ) → ((a : A) → P a → low ≤ℤ value a) → (a : A) → P a → Somehow (Least P value)
least_of P value low bounded a p = do
  f ← first_of (λ n. (b : _) × P b × (low +ℤ pos n ≡ value b)) (apart low (value a) (bounded a p)).0 (a, p, (apart low (value a) (bounded a p)).1)
  some (record {
    one = f.holds.0;
    holds = f.holds.1;
    least = λ other q.
        let n = apart low (value other) (bounded other q) in
        let le = by (order n.0 f.at) (λ less. absurd (f.before n.0 less (other, q, n.1))) (λ more. more) in
        at_most (value f.holds.0) (value other) low f.at n.0 f.holds.2 n.1 le;
  })
  where
    at_most : (x y low : ℤ) (n m : ℕ) → low +ℤ pos n ≡ x → low +ℤ pos m ≡ y → n ≤ m → x ≤ℤ y
    at_most x y low n m p q le = omega (arith, ints, p, q, le)

bounds_at : (bounds : List (ℤ × ℤ)) (x : ℕ) → x < length bounds → (b : ℤ × ℤ) × (slice_get bounds x ≡ Some b)
bounds_at bounds x lt = by (slice_get_cases bounds x).1 (λ c. (c.0, c.2)) (λ past. absurd (let few = past.0 in omega (arith, lt, few)))

module _ (part : Formula × Boxed) (two : 1 < length part.1.bounds) where
  abbrev Solution : Assignment → Type 0
  Solution v = Solves v part

  above : (x : ℕ) (lt : x < length part.1.bounds) (v : Assignment) → Solution v → (bounds_at part.1.bounds x lt).0.0 ≤ℤ v x
  above x lt v s = let b = bounds_at part.1.bounds x lt in (s.0 x b.0.0 b.0.1 b.1).0

  least_gap : Solvable part.0 part.1 → Somehow ((at : ℤ) × (eoi : ℤ) × IsLeastGap part at eoi)
  least_gap s = do
    let none : 0 < length part.1.bounds = omega (arith, two)
    length ← least_of Solution (λ v. v 0) (bounds_at part.1.bounds 0 none).0.0 (above 0 none) s.0 (s.1, s.2)
    place ← least_of (λ v. Solution v × (v 0 ≡ length.one 0)) (λ v. v 1) (bounds_at part.1.bounds 1 two).0.0 (λ v h. above 1 two v h.0)
        length.one (length.holds, refl)
    some (
      place.one 1,
      length.one 0,
      record {
        values = place.one;
        solves = place.holds.0;
        length_is = place.holds.1;
        place_is = refl;
        least = length.least;
        least_place = λ other t e. place.least other (t, e);
      },
    )

-- ---- each place in turn

module _ (refuted : GapsAreRefuted) (bounded : GapsAreBounded) (g : Grammar) where
  pub record FirstGap (marks : Marks) (places : List (ℕ × ℕ)) : Type 0 where
    pub place : ℕ × ℕ
    pub is : IsPlace g place
    pub earlier : List (ℕ × ℕ)
    pub later : List (ℕ × ℕ)
    pub order : places ≡ earlier ++ place ∷ later
    pub first : AllByRecursion (λ other. ¬ Leaves g marks other) earlier
    pub leaves : Leaves g marks place

  each_place : (marks : Marks) (places : List (ℕ × ℕ)) → AllByRecursion (IsPlace g) places
      → Somehow (((refutations : List Refutation) × AreRefuted g marks places refutations) ⊎ FirstGap marks places)
  each_place marks [] are = some (inl ([], tt))
  each_place marks (place ∷ places) are = do
    leaves ← middle (Leaves g marks place)
    by leaves (λ solved. some (inr (record { place = place; is = are.0; earlier = []; later = places; order = refl; first = tt; leaves = solved })))
        (λ none. do
          rest ← each_place marks places are.1
          let r = refuted g marks place.0 place.1 are.0 none
          some (by rest (λ all. inl (r.0 ∷ all.0, (r.1, all.1))) (λ f. inr (record {
            place = f.place;
            is = f.is;
            earlier = place ∷ f.earlier;
            later = f.later;
            order = ap (λ ps. place ∷ ps) f.order;
            first = (none, f.first);
            leaves = f.leaves;
          }))))

  gap_said : (base : Ground g) → FirstGap base.marks (alternatives g base.flags) → Somehow ((said : Said) × CoverSays g said)
  gap_said base f = do
    gap ← least_gap (gap_at g base.marks f.place) (bounded g base.marks f.place.0 f.place.1 f.is).there f.leaves
    some (
      may_gap g f.place gap.0 gap.1,
      inr (record {
        place = f.place;
        at = gap.0;
        eoi = gap.1;
        gap = record { ground = base; earlier = f.earlier; later = f.later; order = f.order; first = f.first; least = gap.2 };
        is = refl;
      }),
    )

  pub covers : Good g → EdgesAreInside → Somehow ((said : Said) × CoverSays g said)
  covers good inside = do
    base ← ground g good inside
    found ← each_place base.marks (alternatives g base.flags) (all_places g base.flags)
    by found (λ all. some (
      done_line (codes "covered"),
      inl (record {
        refutations = all.0;
        covers = record { ground = base; refuted = all.1 };
        is = refl;
      }),
    )) (gap_said base)
