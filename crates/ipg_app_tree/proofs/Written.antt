-- What a sink tells over the pieces of a text.
use Rattle.std.proofs.Common.{◌≡◌, ℕ, ◌≤◌, inl, inr, List, [], ◌++◌, Option, None, Some, refl, sym, ap, ◌∙◌}
use Rattle.std.proofs.Common.{append_assoc, append-nil, arith}
use Rattle.ipg_outside.specs.Faults.{Rose}
use Rattle.ipg_outside.specs.Sink.{Output, Takes, HandsOn, Breaks, Tells, IsPrefix, given}
use Rattle.ipg_app_tree.specs.Out.{Writes}

prefix-more : (a b c : List ℕ) → IsPrefix a b → IsPrefix b c → IsPrefix a c
prefix-more a b c p q = (p.0 ++ q.0, q.1 ∙ ap (λ t. t ++ q.0) p.1 ∙ append_assoc a p.0 q.0)

takes-none : (a : Output) → Takes [] a a
takes-none a = record { all = sym (append-nil (given a)); kept = ([], sym (append-nil a.written)) }

takes-more : (xs ys : List ℕ) (a b c : Output) → Takes xs a b → Takes ys b c → Takes (xs ++ ys) a c
takes-more xs ys a b c p q = record {
  all = q.all ∙ ap (λ t. t ++ ys) p.all ∙ append_assoc (given a) xs ys;
  kept = prefix-more _ _ _ p.kept q.kept;
}

breaks-more : (xs ys zs text : List ℕ) (a b c : Output) → text ≡ xs ++ (ys ++ zs) → Takes xs a b → Breaks ys b c → Breaks text a c
breaks-more xs ys zs text a b c e p q = record {
  part = prefix-more _ _ _ q.part (
    zs,
    ap (λ t. given a ++ t) e ∙ sym (append_assoc (given a) xs (ys ++ zs))
        ∙ sym (append_assoc (given a ++ xs) ys zs) ∙ ap (λ t. (t ++ ys) ++ zs) (sym p.all),
  );
  kept = prefix-more _ _ _ p.kept q.kept;
  none_held = q.none_held;
}

flushed : (xs : List ℕ) (a b c : Output) → Takes xs a b → HandsOn b c → Writes xs a c
flushed xs a b c p q = record { all = q.all ∙ p.all; none_held = q.none_held }

-- what is written of a text, and what is left
pub record Progress (before after : Option Output) (text rest : List ℕ) : Type 0 where
  pub done : List ℕ
  pub is : text ≡ done ++ rest
  pub told : Tells before after (Takes done)

pub begun : (a : Option Output) (text : List ℕ) → Progress a a text text
begun None text = record { done = []; is = refl; told = tt }
begun (Some a) text = record { done = []; is = refl; told = takes-none a }

pub one-more : (a b c : Option Output) (text line rest : List ℕ) → Progress a b text (line ++ rest) → Tells b c (Takes line) → Progress a c text rest
one-more a b c text line rest p q = record { done = p.done ++ line; is = p.is ∙ sym (append_assoc p.done line rest); told = go a b c p.done p.told q }
  where
    go : (a b c : Option Output) (done : List ℕ) → Tells a b (Takes done) → Tells b c (Takes line) → Tells a c (Takes (done ++ line))
    go None b c done p q = tt
    go (Some a) None c done p q = absurd p
    go (Some a) (Some b) None done p q = absurd q
    go (Some a) (Some b) (Some c) done p q = takes-more done line a b c p q

pub broken : (a b c : Option Output) (text line rest : List ℕ) → Progress a b text (line ++ rest) → Tells b c (Breaks line) → Tells a c (Breaks text)
broken None b c text line rest p q = tt
broken (Some a) None c text line rest p q = absurd p.told
broken (Some a) (Some b) None text line rest p q = absurd q
broken (Some a) (Some b) (Some c) text line rest p q = breaks-more p.done line rest text a b c p.is p.told q

pub all-out : (a b c : Option Output) (text rest : List ℕ) → rest ≡ [] → Progress a b text rest → Tells b c HandsOn → Tells a c (Writes text)
all-out None b c text rest e p q = tt
all-out (Some a) None c text rest e p q = absurd p.told
all-out (Some a) (Some b) None text rest e p q = absurd q
all-out (Some a) (Some b) (Some c) text rest e p q =
    let same : p.done ≡ text = sym (p.is ∙ ap (λ t. p.done ++ t) e ∙ append-nil p.done) in
    rw (← same) (flushed p.done a b c p.told q)

pub later : (a b c : ℕ) → a ≤ b → Rose b c → Rose a c
later a b c h (inl r) = inl (omega arith)
later a b c h (inr r) = inr r
