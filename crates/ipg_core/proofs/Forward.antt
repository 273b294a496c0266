-- Where each call goes to a later rule, the height falls with the rules that are left.
use Rattle.std.proofs.Common.{◌≡◌, ℕ, zero, suc, ◌+◌, ◌*◌, ◌<◌, ◌≤◌, ℤ, ◌+ℤ◌, ◌-ℤ◌, pos, refl, arith, List, []}
use Rattle.std.proofs.Common.{◌∷◌, ◌++◌, Option, Some, None, Bool, true, false, if◌then◌else◌, length}
use Rattle.std.specs.Prelude.{slice_get}
use Rattle.std.specs.List.{AllByRecursion}
use Rattle.ipg_core.specs.declared.grammar.Sym.{Sym}
use Rattle.ipg_core.specs.declared.grammar.Sym.TheVariants.{Text, Prim, Rule}
use Rattle.ipg_core.specs.declared.grammar.Primitive.{Primitive}
use Rattle.ipg_core.specs.declared.grammar.Primitive.TheVariants.{Bytes}
use Rattle.ipg_core.specs.declared.grammar.CoreExpr.{CoreExpr}
use Rattle.ipg_core.specs.declared.grammar.CoreSlot.{CoreSlot}
use Rattle.ipg_core.specs.declared.grammar.CoreTerm.{CoreTerm}
use Rattle.ipg_core.specs.declared.grammar.CoreTerm.TheVariants.{Slot, Set, Test, Repeat, Many, Pick}
use Rattle.ipg_core.specs.declared.grammar.CoreAlt.{CoreAlt}
use Rattle.ipg_core.specs.declared.grammar.CoreRule.{CoreRule}
use Rattle.ipg_num.specs.declared.op.Answer.{Answer}
use Rattle.ipg_num.specs.declared.op.Answer.TheVariants.{Val, Fail, Range}
use Rattle.ipg_core.specs.Grammar.{Grammar, rule_at}
use Rattle.ipg_core.specs.Part.{interval}
use Rattle.ipg_core.specs.Tree.{Kid}
use Rattle.ipg_core.specs.Environment.{Values}
use Rattle.ipg_core.specs.Eval.{is_zero, eval}
use Rattle.ipg_core.specs.Run.{NoTree, Run, finish, stop, some_of, value_of}
use Rattle.ipg_core.specs.Meaning.{Call, Frame, State, Place, environment, value_in, ask, token_on, number_on, primitive_on}
use Rattle.ipg_core.specs.Meaning.{symbol_on, slot_on, items_on, times, item_end, item_on, many_on, turns, repetition_on}
use Rattle.ipg_core.specs.Meaning.{pick_on, term_on, terms_on, start, alt_on, alts_on, rule_run, rule_on, den}
use Rattle.ipg_core.specs.Mention.{EachSym}
use Rattle.ipg_core.specs.Total.{IsForward, IsLater}
use Rattle.ipg_core.specs.Laws.{ForwardIsTotal}
use Rattle.ipg_core.proofs.Settled.{Settled, settled_ok, settled_no_tree, settled_range, settled_bind, settled_else, settled_kept}

settled_finish : {A : Type 0} (a : A) → Settled (finish a).answer
unfolding finish
settled_finish a = settled_ok a

settled_stop : {A : Type 0} → Settled {A = A} (stop NoTree).answer
unfolding stop
settled_stop = settled_no_tree

settled_value : (a : Answer) → Settled (value_of a).answer
unfolding finish stop
settled_value (Val z) = settled_ok z
settled_value Fail = settled_no_tree
settled_value Range = settled_range

settled_some : {A : Type 0} (a : Option A) → Settled (some_of a).answer
settled_some (Some a) = settled_finish a
settled_some None = settled_stop

settled_chosen : {A : Type 0} (b : Bool) (x y : Run A) → Settled x.answer → Settled y.answer → Settled (if b then x else y).answer
settled_chosen true x y h k = h
settled_chosen false x y h k = k

-- calls of the symbol settle
abbrev pub Leads : Call → Sym → Type 0
Leads call (Rule callee) = (s : List ℕ) (outer : Values) → Settled (call callee s outer)
Leads call (Text token) = Unit {0}
Leads call (Prim prim) = Unit {0}

abbrev LeadsSome : Call → Option CoreTerm → Type 0
LeadsSome call None = Unit {0}
LeadsSome call (Some term) = EachSym (Leads call) term

module _ (call : Call) (f : Frame) where
  value_settles : (state : State) (item : Option ℤ) (e : CoreExpr) → Settled (value_in f state item e).answer
  unfolding value_in
  value_settles state item e = settled_value (eval e (environment f state item))

  token_settles : (from to : ℕ) (bytes token : List ℕ) → Settled (token_on from to bytes token).answer
  unfolding token_on
  token_settles from to bytes token = settled_chosen _ _ _ (settled_finish _) settled_stop

  number_settles : (from to : ℕ) (bytes : List ℕ) (prim : Primitive) → Settled (number_on from to bytes prim).answer
  unfolding number_on
  number_settles from to bytes prim = settled_chosen _ _ _ settled_stop (settled_finish _)

  primitive_settles : (from to : ℕ) (bytes : List ℕ) (prim : Primitive) → Settled (primitive_on from to bytes prim).answer
  primitive_settles from to bytes Bytes = settled_finish _
  primitive_settles from to bytes prim = number_settles from to bytes prim

  symbol_settles : (p : Place) (own : Values) (from to : ℕ) (sym : Sym) → Leads call sym → Settled (symbol_on call f p own from to sym).answer
  unfolding ask
  symbol_settles p own from to (Text token) h = token_settles from to _ token
  symbol_settles p own from to (Prim prim) h = primitive_settles from to _ prim
  symbol_settles p own from to (Rule callee) h = settled_bind _ _ (h _ _) (λ tree _. settled_finish _)

  slot_settles : (p : Place) (state : State) (item : Option ℤ) (slot : CoreSlot) → Leads call slot.sym → Settled (slot_on call f p state item slot).answer
  unfolding slot_on
  slot_settles p state item slot h =
      settled_bind _ _ (value_settles state item slot.from) (λ from _.
      settled_bind _ _ (value_settles state item slot.to) (λ to _.
      settled_bind _ _ (settled_some (interval (length f.bytes) from to)) (λ ends _.
      symbol_settles p state.own ends.0 ends.1 slot.sym h)))

  items_settle : (term : ℕ) (state : State) (slot : CoreSlot) (n : ℕ) (i : ℤ) (items : List Kid) → Leads call slot.sym
      → Settled (items_on call f term state slot n i items).answer
  unfolding items_on
  items_settle term state slot zero i items h = settled_finish items
  items_settle term state slot (suc n) i items h =
      settled_bind _ _ (slot_settles _ _ (Some i) slot h) (λ item _. items_settle term state slot n (i +ℤ pos 1) (items ++ item ∷ []) h)

  pick_settles : (p : Place) (state : State) (cases : List (CoreExpr × CoreSlot)) (other : CoreSlot) → AllByRecursion (λ c. Leads call c.1.sym) cases
      → Leads call other.sym → Settled (pick_on call f p state cases other).answer
  unfolding pick_on
  pick_settles p state [] other h k = slot_settles p state None other k
  pick_settles p state (c ∷ cases) other h k =
      settled_bind _ _ (value_settles state None c.0) (λ x _.
      settled_chosen (is_zero x) _ _ (pick_settles (record p { branch = p.branch + 1 }) state cases other h.1 k) (slot_settles p state None c.1 h.0))

  item_settles : (p : Place) (own : Values) (from to : ℕ) (sym : Sym) → Leads call sym → Settled (item_on call f p own from to sym).answer
  unfolding item_on
  item_settles p own from to sym h = settled_bind _ _ (settled_some (item_end from to sym)) (λ end _. symbol_settles p own from end sym h)

  many_settles : (p : Place) (own : Values) (sym : Sym) → Leads call sym → (n from to : ℕ) (items : List Kid)
      → Settled (many_on call f p own sym n from to items).answer
  unfolding many_on
  many_settles p own sym h zero from to items = settled_finish items
  many_settles p own sym h (suc n) from to items =
      settled_kept _ items _ (item_settles p own from to sym h) (λ end more. many_settles p own sym h n end to more)

  repetition_settles : (p : Place) (state : State) (slot : CoreSlot) → Leads call slot.sym → Settled (repetition_on call f p state slot).answer
  unfolding repetition_on
  repetition_settles p state slot h =
      settled_bind _ _ (value_settles state None slot.from) (λ l _.
      settled_bind _ _ (value_settles state None slot.to) (λ r _.
      settled_bind _ _ (settled_some (interval (length f.bytes) l r)) (λ ends _.
      many_settles p state.own slot.sym h (turns ends.0 ends.1) ends.0 ends.1 [])))

  term_settles : (state : State) (u : ℕ) (term : Option CoreTerm) → LeadsSome call term → Settled (term_on call f state u term).answer
  term_settles state u None h = settled_stop
  term_settles state u (Some (Slot slot)) h = settled_bind _ _ (slot_settles _ state None slot h) (λ kid _. settled_finish _)
  term_settles state u (Some (Set attr e)) h = settled_bind _ _ (value_settles state None e) (λ z _. settled_finish _)
  term_settles state u (Some (Test e)) h =
      settled_bind _ _ (value_settles state None e) (λ z _. settled_chosen (is_zero z) _ _ settled_stop (settled_finish _))
  term_settles state u (Some (Repeat first last sym from to)) h =
      settled_bind _ _ (value_settles state None first) (λ a _.
      settled_bind _ _ (value_settles state None last) (λ b _.
      settled_bind _ _ (items_settle u state (record { sym = sym; from = from; to = to }) (times (b -ℤ a)) a [] h) (λ items _. settled_finish _)))
  term_settles state u (Some (Many sym from to)) h = settled_bind _ _ (repetition_settles _ state _ h) (λ items _. settled_finish _)
  term_settles state u (Some (Pick cases other)) h =
      settled_bind _ _ (pick_settles _ state cases other h.0 h.1) (λ kid _. settled_finish _)

  -- what each term of a list leads to, at a number
  leads_at : (terms : List CoreTerm) → AllByRecursion (EachSym (Leads call)) terms → (u : ℕ) → LeadsSome call (slice_get terms u)
  leads_at [] h u = tt
  leads_at (t ∷ terms) h zero = h.0
  leads_at (t ∷ terms) h (suc u) = leads_at terms h.1 u

  terms_settle : (terms : List CoreTerm) → AllByRecursion (EachSym (Leads call)) terms → (order : List ℕ) (state : State)
      → Settled (terms_on call f terms order state).answer
  unfolding terms_on
  terms_settle terms h [] state = settled_finish state
  terms_settle terms h (u ∷ order) state =
      settled_bind _ _ (term_settles state u (slice_get terms u) (leads_at terms h u)) (λ next _. terms_settle terms h order next)

  alt_settles : (alt : CoreAlt) → AllByRecursion (EachSym (Leads call)) alt.terms → Settled (alt_on call f alt).answer
  unfolding alt_on
  alt_settles alt h = settled_bind _ _ (terms_settle alt.terms h alt.order (start (length alt.terms))) (λ state _. settled_finish _)

alts_settle : (call : Call) (f : Frame) (alts : List CoreAlt) → AllByRecursion (λ alt. AllByRecursion (EachSym (Leads call)) alt.terms) alts
    → Settled (alts_on call f alts).answer
unfolding alts_on
alts_settle call f [] h = settled_stop
alts_settle call f (alt ∷ alts) h = settled_else _ _ (alt_settles call f alt h.0) (alts_settle call (record f { alt = f.alt + 1 }) alts h.1)

-- a fact on symbols that another one follows from
module _ (P Q : Sym → Type 0) (follows : (sym : Sym) → P sym → Q sym) where
  cases_follow : (cases : List (CoreExpr × CoreSlot)) → AllByRecursion (λ c. P c.1.sym) cases → AllByRecursion (λ c. Q c.1.sym) cases
  cases_follow [] h = tt
  cases_follow (c ∷ cases) h = (follows c.1.sym h.0, cases_follow cases h.1)

  term_follows : (term : CoreTerm) → EachSym P term → EachSym Q term
  term_follows (Slot slot) h = follows slot.sym h
  term_follows (Set attr e) h = tt
  term_follows (Test e) h = tt
  term_follows (Repeat first last item from to) h = follows item h
  term_follows (Many item from to) h = follows item h
  term_follows (Pick cases other) h = (cases_follow cases h.0, follows other.sym h.1)

  terms_follow : (terms : List CoreTerm) → AllByRecursion (EachSym P) terms → AllByRecursion (EachSym Q) terms
  terms_follow [] h = tt
  terms_follow (t ∷ terms) h = (term_follows t h.0, terms_follow terms h.1)

  alts_follow : (alts : List CoreAlt) → AllByRecursion (λ alt. AllByRecursion (EachSym P) alt.terms) alts
      → AllByRecursion (λ alt. AllByRecursion (EachSym Q) alt.terms) alts
  alts_follow [] h = tt
  alts_follow (alt ∷ alts) h = (terms_follow alt.terms h.0, alts_follow alts h.1)

rule_settles : (call : Call) (f : Frame) (g : Grammar) (r : ℕ) (rule : Option CoreRule) → rule_at g r ≡ rule → IsForward g
    → ((sym : Sym) → IsLater g r sym → Leads call sym) → Settled (rule_run call f rule).answer
rule_settles call f g r None e forward leads = settled_stop
rule_settles call f g r (Some rule) e forward leads =
    alts_settle call f rule.alts (alts_follow (IsLater g r) (Leads call) leads rule.alts (forward r rule e))

-- as many calls nest as there are rules from r on
abbrev SettlesFrom : Grammar → ℕ → Type 0
SettlesFrom g h = (r : ℕ) (s : List ℕ) (outer : Values) → r < length g.rules → length g.rules ≤ h + r → Settled (den g h r s outer)

leads_on : (g : Grammar) (h r : ℕ) → SettlesFrom g h → length g.rules ≤ suc h + r → (sym : Sym) → IsLater g r sym → Leads (den g h) sym
leads_on g h r settles le (Rule callee) later = λ s outer. settles callee s outer later.1 (let lt : r < callee = later.0 in omega arith)
leads_on g h r settles le (Text token) later = tt
leads_on g h r settles le (Prim prim) later = tt

forward_settles : (g : Grammar) → IsForward g → (h : ℕ) → SettlesFrom g h
unfolding den rule_on
forward_settles g forward zero r s outer lt le = absurd (omega arith)
forward_settles g forward (suc h) r s outer lt le =
    rule_settles (den g h) (record { grammar = g; rule = r; alt = 0; bytes = s; outer = outer }) g r (rule_at g r) refl forward
    (leads_on g h r (forward_settles g forward h) le)

pub forward_is_total : ForwardIsTotal
forward_is_total g forward r s outer fits = (forward_settles g forward ((length s + 1) * length g.rules) r s outer fits.rule (omega arith)).not_deep
