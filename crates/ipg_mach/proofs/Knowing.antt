-- What is known stays known, and takes one answer more.
use Rattle.std.proofs.Common.{◌≡◌, ℕ, refl, sym, ap, ◌∙◌, subst, Bool, true, false, cond, ◌&&◌, nat_eq, ◌∷◌, Option, Some, None, Result, if◌then◌else◌}
use Rattle.std.specs.declared.cmp.Ordering.{Ordering}
use Rattle.std.specs.declared.cmp.Ordering.TheVariants.{Less, Equal, Greater}
use Rattle.std.specs.Ordering.{nat_cmp, ordering_then, is_eq, eq_by_cmp}
use Rattle.std.specs.Cmp.{IsTotalOrder, nat_cmp_total, eq_by_cmp_equiv, unsigned_tied}
use Rattle.std.specs.FinMap as map
use Rattle.std.specs.FinMap.{get-insert}
use Rattle.std.proofs.lemmas.Bool.{eqb-true, and_parts}
use Rattle.std.proofs.lemmas.Cmp.{on_total, then_total}
use Rattle.ipg_core.specs.Tree.{Tree}
use Rattle.ipg_core.specs.Run.{Stop}
use Rattle.ipg_mach_moves.specs.Moves as moves
use Rattle.ipg_mach_moves.specs.Moves.{same_key, find}
use Rattle.ipg_memo.specs.declared.memo.Key.{Key}
use Rattle.ipg_memo.specs.declared.memo.Entry.{Entry}
use Rattle.ipg_memo.specs.declared.memo.Entry.TheVariants as entry
use Rattle.ipg_memo.specs.Keyed.{Entries, key_cmp}
use Rattle.ipg_mach_nodes.specs.Stored.{Stored, Source}
use Rattle.ipg_mach_nodes.specs.Laws.{Grows, TreesStay}
use Rattle.ipg_mach.specs.Known.{key_of, IsEntryOf, IsKnown}

-- ---- what is known stays known as the store grows

module _ (stays : TreesStay) (src : Source) (st more : Stored) (grows : Grows st more) where
  pub entry_stays : (key : Key) (held : Option Entry) (answer : Option (Result Tree Stop)) → IsEntryOf src st key held answer
      → IsEntryOf src more key held answer
  entry_stays key None None h = tt
  entry_stays key (Some entry.NoTree) (Some answer) h = h
  entry_stays key (Some (entry.Node id)) (Some answer) h = (h.0, h.1, stays src st more key.from id h.0 grows h.2, h.3)
  entry_stays key None (Some answer) h = h
  entry_stays key (Some held) None h = h

  pub known_stays : (entries : Option Entries) (known : Option moves.Known) → IsKnown src st entries known → IsKnown src more entries known
  known_stays None None h = tt
  known_stays (Some entries) (Some known) h = λ key. entry_stays key (map.get entries key) (find known (key_of key)) (h key)
  known_stays None (Some known) h = h
  known_stays (Some entries) None h = h

-- ---- keys

keys_total : IsTotalOrder key_cmp
keys_total = then_total (on_total (λ k. k.rule) nat_cmp_total) (then_total (on_total (λ k. k.from) nat_cmp_total) (on_total (λ k. k.to) nat_cmp_total))

all_equal : (r s t : Ordering) → is_eq (ordering_then r (ordering_then s t)) ≡ (is_eq r && is_eq s && is_eq t)
all_equal Less s t = refl
all_equal Equal Less t = refl
all_equal Equal Equal t = refl
all_equal Equal Greater t = refl
all_equal Greater s t = refl

-- the map and what is known test keys alike
same_test : (a b : Key) → eq_by_cmp key_cmp a b ≡ same_key (key_of a) (key_of b)
same_test a b =
    all_equal (nat_cmp a.rule b.rule) (nat_cmp a.from b.from) (nat_cmp a.to b.to)
    ∙ (λ i. unsigned_tied a.rule b.rule i && unsigned_tied a.from b.from i && unsigned_tied a.to b.to i)

one_key : (a b : Key) → same_key (key_of a) (key_of b) ≡ true → a ≡ b
one_key a b e =
    let both = and_parts (nat_eq a.rule b.rule && nat_eq a.from b.from) (nat_eq a.to b.to) e in
    let first = and_parts (nat_eq a.rule b.rule) (nat_eq a.from b.from) both.0 in
    let rule = eqb-true a.rule b.rule first.0 in
    let from = eqb-true a.from b.from first.1 in
    let to = eqb-true a.to b.to both.1 in
    (λ i. record { rule = rule i; from = from i; to = to i })

-- ---- one answer more

module _ (src : Source) (st : Stored) (entries : Entries) (known : moves.Known) (new : Key) (held : Entry) (answer : Result Tree Stop)
    (h : IsKnown src st (Some entries) (Some known)) (is : IsEntryOf src st new (Some held) (Some answer)) where
  chosen : (key : Key) (b : Bool) → same_key (key_of new) (key_of key) ≡ b
      → IsEntryOf src st key (cond b (Some held) (map.get entries key)) (if b then Some answer else find known (key_of key))
  chosen key true e = subst (λ k. IsEntryOf src st k (Some held) (Some answer)) (one_key new key e) is
  chosen key false e = h key

  added : IsKnown src st (Some (map.insert entries new held)) (Some ((key_of new, answer) ∷ known))
  added key =
      let test = (eq_by_cmp_equiv keys_total).symm key new ∙ same_test new key in
      let has = get-insert keys_total entries new held key ∙ ap (λ b. cond b (Some held) (map.get entries key)) test in
      subst (λ o. IsEntryOf src st key o (find ((key_of new, answer) ∷ known) (key_of key))) (sym has) (chosen key _ refl)

  pub learned_so : (holder : Option (ℕ × ℕ)) (after : Entries) → holder ≡ None → after ≡ map.insert entries new held
      → IsKnown src st (Some after) (Some (moves.learned holder known (key_of new) answer))
  learned_so holder after none e =
      subst (λ o. IsKnown src st (Some after) (Some (moves.learned o known (key_of new) answer))) (sym none)
      (subst (λ m. IsKnown src st (Some m) (Some ((key_of new, answer) ∷ known))) (sym e) added)
