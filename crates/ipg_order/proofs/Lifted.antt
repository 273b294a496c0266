-- What is good of a term in one grammar is good in another that has the same rules, holders and attributes.
use Rattle.std.proofs.Common.{◌≡◌, ℕ, ◌<◌, List, [], ◌∷◌, Option, length, subst}
use Rattle.std.specs.List.{AllByRecursion}
use Rattle.ipg_core.specs.declared.grammar.Sym.{Sym}
use Rattle.ipg_core.specs.declared.grammar.Sym.TheVariants.{Text, Prim, Rule}
use Rattle.ipg_core.specs.declared.grammar.CoreTerm.{CoreTerm}
use Rattle.ipg_core.specs.declared.grammar.CoreTerm.TheVariants.{Slot, Set, Test, Repeat, Many, Pick}
use Rattle.ipg_core.specs.Grammar.{Grammar, rule_at, holder_of}
use Rattle.ipg_core.specs.Mention.{Mention, SeenOf, ItemOf, AfterOf, OwnOf, OuterOf, FieldOf, LoopOf, term_mentions, EachSym}
use Rattle.ipg_core.specs.Good.{IsSym, HolderSets, IsGoodMention, IsGoodShape, IsCallable, MayCall, GoodTerm}

all_more : {X : Type 0} (P Q : X → Type 0) (xs : List X) → ((x : X) → P x → Q x) → AllByRecursion P xs → AllByRecursion Q xs
all_more P Q [] f h = tt
all_more P Q (x ∷ xs) f h = (f x h.0, all_more P Q xs f h.1)

each_more : (P Q : Sym → Type 0) (term : CoreTerm) → ((s : Sym) → P s → Q s) → EachSym P term → EachSym Q term
each_more P Q (Slot slot) f h = f slot.sym h
each_more P Q (Set attr e) f h = tt
each_more P Q (Test e) f h = tt
each_more P Q (Repeat first last item from to) f h = f item h
each_more P Q (Many item from to) f h = f item h
each_more P Q (Pick cases other) f h = (all_more (λ c. P c.1.sym) (λ c. Q c.1.sym) cases (λ c p. f c.1.sym p) h.0, f other.sym h.1)

module _ (a b : Grammar) (there : (r : ℕ) → r < length a.rules → r < length b.rules) (held : (r : ℕ) → holder_of (rule_at a r) ≡ holder_of (rule_at b r))
    (names : a.names ≡ b.names) (sets : (holder : Option (ℕ × ℕ)) (attr : ℕ) → HolderSets a holder attr → HolderSets b holder attr) where
  is_sym : (s : Sym) → IsSym a s → IsSym b s
  is_sym (Rule r) h = there r h
  is_sym (Text bytes) h = tt
  is_sym (Prim prim) h = tt

  mention : (holder : Option (ℕ × ℕ)) (terms : List CoreTerm) (u : ℕ) (m : Mention) → IsGoodMention a holder terms u m → IsGoodMention b holder terms u m
  mention holder terms u (SeenOf term s) h = (h.0, is_sym s h.1)
  mention holder terms u (ItemOf term) h = h
  mention holder terms u (AfterOf term) h = h
  mention holder terms u (OwnOf attr) h = h
  mention holder terms u (OuterOf attr) h = sets holder attr h
  mention holder terms u (FieldOf attr) h = subst (λ ns. attr < length ns) names h
  mention holder terms u LoopOf h = tt

  callable : (at : ℕ × ℕ) (holder : Option (ℕ × ℕ)) (s : Sym) → IsCallable a at holder s → IsCallable b at holder s
  callable at holder (Rule r) h = (there r h.0, subst (MayCall at holder) (held r) h.1)
  callable at holder (Text bytes) h = tt
  callable at holder (Prim prim) h = tt

  shape : (term : CoreTerm) → IsGoodShape a term → IsGoodShape b term
  shape (Slot slot) h = h
  shape (Set attr e) h = subst (λ ns. attr < length ns) names h
  shape (Test e) h = h
  shape (Repeat first last item from to) h = h
  shape (Many item from to) h = h
  shape (Pick cases other) h = h

  pub good_term : (at : ℕ × ℕ) (holder : Option (ℕ × ℕ)) (terms : List CoreTerm) (u : ℕ) (term : CoreTerm) → GoodTerm a at holder terms u term
      → GoodTerm b at holder terms u term
  good_term at holder terms u term t = record {
    shape = shape term t.shape;
    syms = each_more (IsCallable a at holder) (IsCallable b at holder) term (callable at holder) t.syms;
    mentions = all_more (IsGoodMention a holder terms u) (IsGoodMention b holder terms u) (term_mentions term) (mention holder terms u) t.mentions;
  }
