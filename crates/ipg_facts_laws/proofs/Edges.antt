-- Each call that a rule makes is an edge's; on the whole part, the edge is reached.
use Rattle.std.proofs.Common.{◌≡◌, ℕ, zero, suc, ◌+◌, refl, sym, ap, ◌∙◌, subst, arith, List, [], ◌∷◌, ◌++◌, append_assoc, Option, Some, None}
use Rattle.std.proofs.Common.{Ok, length}
use Rattle.std.specs.Prelude.{slice_get, unwrap_or, Contains}
use Rattle.std.specs.List.{AllByRecursion}
use Rattle.std.proofs.lemmas.Option.{slice_get_within, unwrap_or-slice_get}
use Rattle.ipg_core.specs.declared.grammar.Sym.TheVariants.{Prim, Rule}
use Rattle.ipg_core.specs.declared.grammar.CoreTerm.{CoreTerm}
use Rattle.ipg_core.specs.declared.grammar.CoreAlt.{CoreAlt}
use Rattle.ipg_core.specs.declared.grammar.CoreRule.{CoreRule}
use Rattle.ipg_core.specs.Grammar.{Grammar, rule_at}
use Rattle.ipg_core.specs.Environment.{Values}
use Rattle.ipg_core.specs.Run.{NoTree, Asked, Run, finish}
use Rattle.ipg_core.specs.Meaning.{Call, Frame, State, term_on, terms_on, start, alt_on, alts_on, rule_run, rule_on, den}
use Rattle.ipg_core.specs.Mention.{term_syms}
use Rattle.ipg_core.specs.Good.{AltAt}
use Rattle.ipg_graph.specs.declared.edge.Edge.{Edge}
use Rattle.ipg_facts_edges.specs.Edges.{numbered, edges_of}
use Rattle.ipg_facts_laws.specs.Ends.{IsEdgeCall, CallsAreEdges}
use Rattle.ipg_facts_laws.proofs.Runs.{went, goes}
use Rattle.ipg_facts_laws.proofs.Asks.{Asks, asks_finish, asks_stop, asks_bind, asks_else}
use Rattle.ipg_facts_laws.proofs.Named.{IsNamed, term_named}

-- ---- where things stand in a list

-- x stands in the list
pub record Stands {X : Type 0} (xs : List X) (x : X) : Type 0 where
  pub number : ℕ
  pub at : slice_get xs number ≡ Some x

pub contains_got : {X : Type 0} (xs : List X) (k : ℕ) (x : X) → slice_get xs k ≡ Some x → Contains xs x
contains_got xs k x e = (k, slice_get_within xs k x e, sym (unwrap_or-slice_get xs k x) ∙ ap (λ o. unwrap_or o x) e)

stands_left : {X : Type 0} (xs ys : List X) (k : ℕ) (x : X) → slice_get xs k ≡ Some x → slice_get (xs ++ ys) k ≡ Some x
stands_left [] ys k x e = absurd (cc)
stands_left (y ∷ xs) ys zero x e = e
stands_left (y ∷ xs) ys (suc k) x e = stands_left xs ys k x e

stands_right : {X : Type 0} (xs ys : List X) (x : X) → Stands ys x → Stands (xs ++ ys) x
stands_right [] ys x h = h
stands_right (y ∷ xs) ys x h = let t = stands_right xs ys x h in record { number = suc t.number; at = t.at }

-- what f gives of an item stands among what it gives of all
in_numbered : {A B : Type 0} (f : ℕ → A → List B) (n k : ℕ) (xs : List A) (x : A) (y : B) → slice_get xs k ≡ Some x → Stands (f (n + k) x) y
    → Stands (numbered n f xs) y
in_numbered f n k [] x y e h = absurd (cc)
in_numbered f n zero (w ∷ xs) x y e h =
    let same : x ≡ w = cc in
    let here : Stands (f n w) y = subst (λ v. Stands (f n v) y) same (subst (λ m. Stands (f m x) y) (let s : n + 0 ≡ n = omega arith in s) h) in
    record { number = here.number; at = stands_left (f n w) (numbered (n + 1) f xs) here.number y here.at }
in_numbered f n (suc k) (w ∷ xs) x y e h =
    stands_right (f n w) _ y (in_numbered f (n + 1) k xs x y e (subst (λ m. Stands (f m x) y) (let s : n + suc k ≡ (n + 1) + k = omega arith in s) h))

in_all : {A B : Type 0} (f : ℕ → A → List B) (k : ℕ) (xs : List A) (x : A) (y : B) → slice_get xs k ≡ Some x → Stands (f k x) y → Stands (numbered 0 f xs) y
in_all f k xs x y e h = in_numbered f 0 k xs x y e (subst (λ m. Stands (f m x) y) (let s : k ≡ 0 + k = omega arith in s) h)

all_of : {X : Type 0} (Q : X → Type 0) (xs : List X) → ((x : X) → Contains xs x → Q x) → AllByRecursion Q xs
all_of Q [] h = tt
all_of Q (x ∷ xs) h = (h x (contains_got (x ∷ xs) 0 x refl), all_of Q xs (λ y m. h y (suc m.0, (let lt = m.1 in omega (arith, lt)), m.2)))

pub contained : {X : Type 0} (Q : X → Type 0) (xs : List X) (x : X) → AllByRecursion Q xs → Contains xs x → Q x
contained Q [] x h (k, lt, e) = absurd (omega (arith, lt))
contained Q (y ∷ ys) x h (zero, lt, e) = subst Q e h.0
contained Q (y ∷ ys) x h (suc k, lt, e) = contained Q ys x h.1 (k, omega (arith, lt), e)

-- ---- the calls of an alternative at work

module _ (g : Grammar) (h r a : ℕ) (s : List ℕ) (outer : Values) where
  abbrev frame : Frame
  frame = record { grammar = g; rule = r; alt = a; bytes = s; outer = outer }

  abbrev Here : {A : Type 0} → Run A → Type 0
  Here run = Asks (IsEdgeCall g h r s outer) run

module _ (g : Grammar) (h r a : ℕ) (s : List ℕ) (outer : Values) (rule : CoreRule) (alt : CoreAlt) (is : AltAt g rule alt (r, a)) where
  -- the edge of a branch of the term u
  abbrev edge_at : ℕ → ℕ → ℕ → Edge
  edge_at u b callee = record { caller = r; alt = a; term = u; branch = b; callee = callee }

  edge_stands : (u b callee : ℕ) (term : CoreTerm) → slice_get alt.terms u ≡ Some term → slice_get (term_syms term) b ≡ Some (Rule callee)
      → Stands (edges_of g) (edge_at u b callee)
  edge_stands u b callee term e k =
      in_all _ r g.rules rule _ is.is_rule
      (in_all _ a rule.alts alt _ is.is_alt
      (in_all _ u alt.terms term _ e
      (in_all _ b (term_syms term) (Rule callee) _ k (record { number = 0; at = refl }))))

  module _ (before behind : List ℕ) (u : ℕ) (state : State) (splits : alt.order ≡ before ++ u ∷ behind)
      (came : (terms_on (den g h) (frame g h r a s outer) alt.terms before (start (length alt.terms))).answer ≡ Ok state) where
    one_call : (term : CoreTerm) → slice_get alt.terms u ≡ Some term → (asked : Asked)
        → Contains (term_on (den g h) (frame g h r a s outer) state u (Some term)).asked asked
        → IsEdgeCall g h r s outer asked
    one_call term e asked m =
        let named = contained (IsNamed a u (term_syms term)) _ asked (term_named (den g h) (frame g h r a s outer) state u term).each m in
        let stands = edge_stands u asked.branch asked.callee term e named.sym in
        record {
          number = stands.number;
          edge = edge_at u asked.branch asked.callee;
          at = stands.at;
          caller = refl;
          callee = refl;
          reached = λ from to. record {
            rule = rule;
            alt = alt;
            at = is;
            before = before;
            behind = behind;
            splits = splits;
            state = state;
            came = came;
            term = term;
            is_term = e;
            asked = asked;
            asks = m;
            is_call = record { alt = named.alt; term = named.term; branch = refl; callee = refl; from = from; to = to };
          };
        }

    term_calls : (term : Option CoreTerm) → slice_get alt.terms u ≡ term → Here g h r a s outer (term_on (den g h) (frame g h r a s outer) state u term)
    term_calls None e = asks_stop NoTree
    term_calls (Some term) e = record { each = all_of _ _ (one_call term e) }

-- ---- terms one after another

module _ (c : Call) (f : Frame) (terms : List CoreTerm) where
  same_state : (a b : State) → (finish a).answer ≡ Ok b → a ≡ b
  unfolding finish
  same_state a b e = cc

  one_term : (u : ℕ) (state next : State) → (term_on c f state u (slice_get terms u)).answer ≡ Ok next → (terms_on c f terms (u ∷ []) state).answer ≡ Ok next
  unfolding terms_on finish
  one_term u state next e = goes (term_on c f state u (slice_get terms u)) _ next e

  one_more : (before : List ℕ) (u : ℕ) (from state next : State) → (terms_on c f terms before from).answer ≡ Ok state
      → (term_on c f state u (slice_get terms u)).answer ≡ Ok next → (terms_on c f terms (before ++ u ∷ []) from).answer ≡ Ok next
  unfolding terms_on
  one_more [] u from state next h k =
      one_term u from next (subst (λ s. (term_on c f s u (slice_get terms u)).answer ≡ Ok next) (sym (same_state from state h)) k)
  one_more (v ∷ before) u from state next h k =
      let p = went (term_on c f from v (slice_get terms v)) _ state h in
      goes (term_on c f from v (slice_get terms v)) _ p.value p.first ∙ one_more before u p.value state next p.rest k

module _ (g : Grammar) (h r a : ℕ) (s : List ℕ) (outer : Values) (rule : CoreRule) (alt : CoreAlt) (is : AltAt g rule alt (r, a)) where
  terms_call : (before order : List ℕ) (state : State) → alt.order ≡ before ++ order
      → (terms_on (den g h) (frame g h r a s outer) alt.terms before (start (length alt.terms))).answer ≡ Ok state
      → Here g h r a s outer (terms_on (den g h) (frame g h r a s outer) alt.terms order state)
  unfolding terms_on
  terms_call before [] state splits came = asks_finish state
  terms_call before (u ∷ order) state splits came =
      asks_bind _ _ (term_calls g h r a s outer rule alt is before order u state splits came (slice_get alt.terms u) refl) (λ next e.
      terms_call (before ++ u ∷ []) order next (splits ∙ sym (append_assoc before (u ∷ []) order))
      (one_more (den g h) (frame g h r a s outer) alt.terms before u (start (length alt.terms)) state next came e))

  first_state : (terms_on (den g h) (frame g h r a s outer) alt.terms [] (start (length alt.terms))).answer ≡ Ok (start (length alt.terms))
  unfolding terms_on finish
  first_state = refl

  alt_calls : Here g h r a s outer (alt_on (den g h) (frame g h r a s outer) alt)
  unfolding alt_on
  alt_calls = asks_bind _ _ (terms_call [] alt.order (start (length alt.terms)) refl first_state) (λ state _. asks_finish _)

-- the alternatives from the one at hand on
abbrev AreAlts : Grammar → CoreRule → ℕ → ℕ → List CoreAlt → Type 0
AreAlts g rule r a alts = (k : ℕ) (alt : CoreAlt) → slice_get alts k ≡ Some alt → AltAt g rule alt (r, a + k)

alts_call : (g : Grammar) (h r a : ℕ) (s : List ℕ) (outer : Values) (rule : CoreRule) (alts : List CoreAlt) → AreAlts g rule r a alts
    → Here g h r a s outer (alts_on (den g h) (frame g h r a s outer) alts)
unfolding alts_on
alts_call g h r a s outer rule [] is = asks_stop NoTree
alts_call g h r a s outer rule (alt ∷ alts) is =
    asks_else _ _
    (alt_calls g h r a s outer rule alt (subst (λ k. AltAt g rule alt (r, k)) (let e : a + 0 ≡ a = omega arith in e) (is 0 alt refl)))
    (alts_call g h r (a + 1) s outer rule alts (λ k other e.
    let t : a + suc k ≡ (a + 1) + k = omega arith in
    subst (λ n. AltAt g rule other (r, n)) t (is (suc k) other e)))

rule_calls : (g : Grammar) (h r : ℕ) (s : List ℕ) (outer : Values) (rule : Option CoreRule) → rule_at g r ≡ rule
    → Here g h r 0 s outer (rule_run (den g h) (frame g h r 0 s outer) rule)
rule_calls g h r s outer None e = asks_stop NoTree
rule_calls g h r s outer (Some rule) e =
    alts_call g h r 0 s outer rule rule.alts (λ k alt q.
    let t : k ≡ 0 + k = omega arith in
    record { is_rule = e; is_alt = subst (λ n. slice_get rule.alts n ≡ Some alt) t q })

pub calls_are_edges : CallsAreEdges
unfolding rule_on
calls_are_edges g h r s outer = (rule_calls g h r s outer (rule_at g r) refl).each
