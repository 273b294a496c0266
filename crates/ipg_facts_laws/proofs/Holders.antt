-- What an alternative's holder puts holds where the alternative may be asked.
use Rattle.std.proofs.Common.{◌≡◌, ℕ, ◌≤◌, ◌^◌, refl, sym, ap, ◌∙◌, subst, arith, List, [], length, Option, Some, None, Bool, true, false}
use Rattle.std.proofs.Common.{if◌then◌else◌, pos, inr}
use Rattle.std.specs.Prelude.{slice_get, ◌≤ℤ◌, Contains}
use Rattle.std.proofs.lemmas.Int.{ints}
use Rattle.ipg_core.specs.declared.grammar.Sym.TheVariants.{Rule}
use Rattle.ipg_core.specs.declared.grammar.CoreTerm.{CoreTerm}
use Rattle.ipg_core.specs.declared.grammar.CoreTerm.TheVariants.{Set}
use Rattle.ipg_core.specs.declared.grammar.CoreAlt.{CoreAlt}
use Rattle.ipg_core.specs.declared.grammar.CoreRule.{CoreRule}
use Rattle.ipg_core.specs.Grammar.{Grammar}
use Rattle.ipg_core.specs.Environment.{Environment, Values}
use Rattle.ipg_core.specs.Meaning.{environment}
use Rattle.ipg_core.specs.Mention.{OuterOf, term_mentions, term_syms}
use Rattle.ipg_core.specs.MustTouch.{Marks, AreLimit}
use Rattle.ipg_core.specs.Order.{Sets, TermOf, Passes, itself, is_taken}
use Rattle.ipg_core.specs.Good.{AltAt, Good}
use Rattle.ipg_core.specs.Grown.{ComesTo, GrownLocal, GrownUnder}
use Rattle.ipg_core.specs.Laws.{LiesWithin, TouchingTouches}
use Rattle.ipg_facts_variables.specs.declared.variable.Side.{Side}
use Rattle.ipg_facts_variables.specs.declared.variable.Quantity.{Quantity}
use Rattle.ipg_facts_variables.specs.Variable.{caller_side, holder_side}
use Rattle.ipg_facts_forms.specs.Form.{leq}
use Rattle.ipg_facts.specs.declared.edition.Edition.TheVariants.{Later}
use Rattle.ipg_facts.specs.Reading.{Scope, length_of}
use Rattle.ipg_facts.specs.Members.{terms_members}
use Rattle.ipg_facts_holder.specs.Holder.{kept}
use Rattle.ipg_facts.specs.Keep.{opening, mentions_holder, alt_of, alt_at, held_facts, held, holder_facts}
use Rattle.ipg_facts_laws.specs.Valued.{Valuation}
use Rattle.ipg_facts_laws.specs.Known.{AreSo, Fits}
use Rattle.ipg_facts_laws.specs.Ran.{AllRan}
use Rattle.ipg_facts_laws.proofs.Forms.{so_append, so_leq}
use Rattle.ipg_facts_laws.proofs.Relate.{stands_length}
use Rattle.ipg_facts_laws.proofs.Ran.{terms_are_known}
use Rattle.ipg_facts_laws.proofs.Came.{stays_same}
use Rattle.ipg_facts_laws.proofs.Steps.{passed}
use Rattle.ipg_facts_laws.proofs.Ordered.{some_ran}
use Rattle.ipg_facts_laws.proofs.Held.{contains_at, read_before, kept_taken}
use Rattle.ipg_facts_laws.proofs.Valuing.{clamped, of_quantity, variable_of}
use Rattle.ipg_facts_laws.proofs.Works.{first_scope, at_work, Work, work, work_fits}

pub opened : (g : Grammar) (marks : Marks) (side : Side) (alt : CoreAlt) → opening g marks Later side alt ≡ first_scope g marks side alt
unfolding opening
opened g marks side alt = refl

pub alt_is : (g : Grammar) (at : ℕ × ℕ) (rule : CoreRule) (alt : CoreAlt) → AltAt g rule alt at → alt_at g at ≡ Some alt
alt_is g at rule alt is = ap (λ o. alt_of o at.1) is.is_rule ∙ is.is_alt

-- an environment of the holder, in which what it puts holds
pub record Holder (g : Grammar) (marks : Marks) (o : Option (ℕ × ℕ)) (caller : CoreAlt) (s : List ℕ) (outer : Values) : Type 0 where
  pub env : Environment
  pub own : env.own ≡ outer
  pub size : env.eoi ≤ 2 ^ 30
  pub so : (v : Valuation) → ((quantity : Quantity) → v (variable_of holder_side quantity) ≡ clamped (of_quantity env quantity))
      → (here : Environment) → here.eoi ≡ length s → Fits v (first_scope g marks caller_side caller) here → AreSo v (holder_facts g marks o caller)

no_syms : (term : CoreTerm) (terms : List CoreTerm) (u v attr callee : ℕ) → slice_get terms u ≡ Some term → Contains (term_syms term) (Rule callee)
    → Sets terms v attr → v ≡ u → ⊥
no_syms term terms u v attr callee e calls sets same =
    let both : Some (Set attr sets.0) ≡ Some term = sym sets.1 ∙ ap (slice_get terms) same ∙ e in
    let is : Set attr sets.0 ≡ term = cc in
    let none : Contains [] (Rule callee) = subst (λ t. Contains (term_syms t) (Rule callee)) (sym is) calls in
    let lt = none.1 in omega arith

module _ (lies : LiesWithin) (must : TouchingTouches) (g : Grammar) (good : Good g) (marks : Marks) (limit : AreLimit g marks) where
  module _ (at : ℕ × ℕ) (r : ℕ) (s : List ℕ) (outer : Values) (grown : GrownLocal g at r s outer) (rule : CoreRule) (k : ℕ) (caller : CoreAlt)
      (is_at : AltAt g rule caller (r, k)) where
    comes : ComesTo g at grown.called s outer
    comes = grown.comes

    abbrev terms : List CoreTerm
    terms = comes.alt.terms

    abbrev done : List ℕ
    done = passed [] comes.before

    holder_work : Work g marks at comes.alt comes.part [] holder_side comes.before comes.at_hand comes.state
    holder_work =
        work lies must g good marks limit at comes.rule comes.alt comes.at comes.height comes.part comes.input [] holder_side comes.before comes.behind
        comes.at_hand comes.splits comes.state comes.came

    -- what the caller mentions was set before it was called
    wanted : (v attr : ℕ) (term : CoreTerm) → Sets terms v attr → Contains caller.terms term → Contains (term_mentions term) (OuterOf attr)
        → is_taken done v ≡ true
    wanted v attr term sets there mentions =
        let of : TermOf g r term = record {
          rule = rule;
          alt = caller;
          is_rule = is_at.is_rule;
          is_alt = contains_at rule.alts k caller is_at.is_alt;
          is_term = there;
        } in
        let passes : Passes g at terms comes.term v = record {
          callee = grown.called;
          attr = attr;
          calls = comes.calls;
          is_local = comes.is_local;
          reads = read_before g attr at grown.called r grown.leads (itself r term of mentions);
          sets = sets;
        } in
        holder_work.at_hand v (record {
          other = no_syms comes.term terms comes.at_hand v attr grown.called comes.is_term comes.calls sets;
          term = comes.term;
          is_term = comes.is_term;
          how = inr passes;
        })

    abbrev env : Environment
    env = environment (at_work g at comes.part []) comes.state None

    abbrev scope : Scope
    scope = first_scope g marks holder_side comes.alt

    abbrev these : List ℕ
    these = kept g at terms caller.terms comes.alt.order

    kept_ran : AllRan scope env these
    kept_ran =
        some_ran scope env comes.before (holder_work.ran comes.state None (stays_same done comes.state)) these
        (kept_taken g at terms caller.terms done holder_work.provided wanted comes.alt.order)

    module _ (v : Valuation) (agree : (quantity : Quantity) → v (variable_of holder_side quantity) ≡ clamped (of_quantity env quantity))
        (here : Environment) (size : here.eoi ≡ length s) (fits : Fits v (first_scope g marks caller_side caller) here) where
      holder_fits : Fits v scope env
      holder_fits =
          work_fits g good marks at comes.alt comes.part comes.input [] holder_side comes.state None
          (record { items = holder_work.holds.items; named = holder_work.holds.named }) v agree (λ a z e n. absurd (cc))

      part_size : env.eoi ≤ 2 ^ 30
      unfolding environment
      part_size = comes.input.size

      longer : pos here.eoi ≤ℤ pos env.eoi
      unfolding environment
      longer = let a = comes.longer in omega (arith, ints, size)

      held_facts_so : AreSo v (held_facts g marks comes.alt caller these)
      unfolding held_facts opening
      held_facts_so =
          so_append v (leq (length_of (first_scope g marks caller_side caller)) (length_of scope)) (terms_members scope these)
          (so_leq v (length_of (first_scope g marks caller_side caller)) (length_of scope) (pos here.eoi) (pos env.eoi)
          (stands_length v (first_scope g marks caller_side caller) here fits) (stands_length v scope env holder_fits) longer)
          (terms_are_known v scope env holder_fits part_size these kept_ran).0

      held_so : AreSo v (held g marks at (alt_at g at) caller)
      unfolding held
      held_so = subst (λ o. AreSo v (held g marks at o caller)) (sym (alt_is g at comes.rule comes.alt comes.at)) held_facts_so

      chosen_so : (b : Bool) → AreSo v (if b then held g marks at (alt_at g at) caller else [])
      chosen_so true = held_so
      chosen_so false = refl

      holder_so : AreSo v (holder_facts g marks (Some at) caller)
      unfolding holder_facts
      holder_so = chosen_so (mentions_holder caller)

    local_holder : Holder g marks (Some at) caller s outer
    unfolding environment
    local_holder = record { env = env; own = comes.attributes; size = comes.input.size; so = holder_so }

  no_holder : (s : List ℕ) (outer : Values) (caller : CoreAlt) → Holder g marks None caller s outer
  unfolding holder_facts
  no_holder s outer caller = record {
    env = record { eoi = 0; own = outer; outer = []; item = None; done = []; names = [] };
    own = refl;
    size = omega arith;
    so = λ v agree here size fits. refl;
  }

  pub holder_of_call : (o : Option (ℕ × ℕ)) (r : ℕ) (s : List ℕ) (outer : Values) → GrownUnder g o r s outer → (rule : CoreRule) (k : ℕ) (caller : CoreAlt)
      → AltAt g rule caller (r, k) → Holder g marks o caller s outer
  holder_of_call None r s outer grown rule k caller is_at = no_holder s outer caller
  holder_of_call (Some at) r s outer grown rule k caller is_at = local_holder at r s outer grown rule k caller is_at
