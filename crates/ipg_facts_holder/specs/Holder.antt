-- Which terms of a holder matter to a caller: those that set what the caller mentions, and their providers, step by step.
use Rattle.std.specs.Prelude.{ℕ, zero, suc, List, [], ◌∷◌, length, map, Option, Some, None, Bool, true, false, ◌&&◌, ◌||◌, nat_eq, slice_get, if◌then◌else◌}
use Rattle.std.specs.List.{list_any}
use Rattle.ipg_core.specs.declared.grammar.Sym.{Sym}
use Rattle.ipg_core.specs.declared.grammar.Sym.TheVariants.{Text, Prim, Rule}
use Rattle.ipg_core.specs.declared.grammar.CoreTerm.{CoreTerm}
use Rattle.ipg_core.specs.declared.grammar.CoreTerm.TheVariants.{Slot, Set, Test, Repeat, Many, Pick}
use Rattle.ipg_core.specs.declared.grammar.CoreRule.{CoreRule}
use Rattle.ipg_core.specs.Grammar.{Grammar, rule_at, holder_of, same_place}
use Rattle.ipg_core.specs.Mention.{Mention, SeenOf, ItemOf, AfterOf, OwnOf, OuterOf, term_mentions, term_syms}
use Rattle.ipg_core.specs.MustTouch.{is_marked}
use Rattle.ipg_facts_holder.specs.declared.mention.Ask.{Ask}
use Rattle.ipg_facts_holder.specs.declared.mention.Ask.TheVariants.{AnyOuter, Outer, Needs}

abbrev pub is_set_to : ℕ → Option ℕ → Bool
is_set_to attr None = false
is_set_to attr (Some a) = nat_eq a attr

-- whether a mention is of an attribute of the holder, of that one, or needs the term v, which sets that attribute if it sets one
abbrev pub answers : Ask → Mention → Bool
answers AnyOuter (OuterOf a) = true
answers (Outer attr) (OuterOf a) = nat_eq a attr
answers (Needs v sets) (SeenOf term sym) = nat_eq term v
answers (Needs v sets) (ItemOf term) = nat_eq term v
answers (Needs v sets) (AfterOf term) = nat_eq term v
answers (Needs v sets) (OwnOf a) = is_set_to a sets
answers _ _ = false

-- some mention in the expressions of the term is asked for
unfoldable pub mentions_some : Ask → CoreTerm → Bool
mentions_some ask term = list_any (answers ask) (term_mentions term)

-- the attribute that a term sets
abbrev pub set_by : Option CoreTerm → Option ℕ
set_by None = None
set_by (Some (Slot slot)) = None
set_by (Some (Set attr e)) = Some attr
set_by (Some (Test e)) = None
set_by (Some (Repeat first last item from to)) = None
set_by (Some (Many item from to)) = None
set_by (Some (Pick cases other)) = None

-- a local rule, of that alternative where one is asked for
abbrev pub is_held : Option (ℕ × ℕ) → Option (ℕ × ℕ) → Bool
is_held at None = false
is_held None (Some holder) = true
is_held (Some at) (Some holder) = same_place holder at

-- the symbol is such a local rule, and marked
abbrev pub calls : Grammar → Option (ℕ × ℕ) → List Bool → Sym → Bool
calls g at marks (Text bytes) = false
calls g at marks (Prim prim) = false
calls g at marks (Rule callee) = is_held at (holder_of (rule_at g callee)) && is_marked marks callee

unfoldable pub calls_some : Grammar → Option (ℕ × ℕ) → List Bool → CoreTerm → Bool
calls_some g at marks term = list_any (calls g at marks) (term_syms term)

-- a term mentions the holder's attribute, or calls a local rule that is marked
unfoldable pub reads_term : Grammar → ℕ → List Bool → CoreTerm → Bool
reads_term g attr marks term = mentions_some (Outer attr) term || calls_some g None marks term

-- a rule does
unfoldable pub reads_next : Grammar → ℕ → List Bool → CoreRule → Bool
reads_next g attr marks rule =
    list_any (λ alt. list_any (reads_term g attr marks) alt.terms) rule.alts

-- the rules that read the holder's attribute, through fewer than k calls of local rules
unfoldable pub readers : Grammar → ℕ → ℕ → List Bool
readers g attr zero = map (λ rule. false) g.rules
readers g attr (suc k) = map (reads_next g attr (readers g attr k)) g.rules

-- the rules that read the attribute, if it is one
abbrev pub readers_of : Grammar → Option ℕ → List Bool
readers_of g None = []
readers_of g (Some attr) = readers g attr (length g.rules)

-- the other mentions the term v, or the attribute that it sets
abbrev pub needs : ℕ → Option ℕ → Option CoreTerm → Bool
needs v sets None = false
needs v sets (Some term) = mentions_some (Needs v sets) term

-- the term v, which sets that attribute if it sets one, is a provider of the other
unfoldable pub provides : Grammar → ℕ × ℕ → ℕ → Option ℕ → Option CoreTerm → Bool
provides g at v sets None = false
provides g at v sets (Some term) = mentions_some (Needs v sets) term || calls_some g (Some at) (readers_of g sets) term

-- the caller mentions the attribute
abbrev pub is_wanted : List CoreTerm → Option ℕ → Bool
is_wanted caller None = false
is_wanted caller (Some attr) = list_any (mentions_some (Outer attr)) caller

-- a term matters where the caller mentions what it sets, or where it provides one that matters behind it
unfoldable pub matters : Grammar → ℕ × ℕ → List CoreTerm → List CoreTerm → ℕ → List ℕ → Bool
matters g at terms caller v behind =
    is_wanted caller (set_by (slice_get terms v))
    || list_any (λ w. provides g at v (set_by (slice_get terms v)) (slice_get terms w)) behind

abbrev pub with_term : Bool → ℕ → List ℕ → List ℕ
with_term matter v behind = if matter then v ∷ behind else behind

-- the terms that matter, in their order: a provider comes before what it provides
unfoldable pub kept : Grammar → ℕ × ℕ → List CoreTerm → List CoreTerm → List ℕ → List ℕ
kept g at terms caller [] = []
kept g at terms caller (v ∷ order) =
    with_term (matters g at terms caller v (kept g at terms caller order)) v (kept g at terms caller order)
