-- Texts that were put into a sink, one behind another.
use Rattle.std.proofs.Common.{◌≡◌, ℕ, ◌≤◌, inl, inr, List, [], ◌++◌, Option, None, Some, refl, sym, ap, ◌∙◌, append_assoc, append-nil, Result}
use Rattle.std.proofs.Common.{Ok, Err, subst, le_refl, le_trans, lt_of_le_of_lt}
use Rattle.std.specs.Prelude.{IsErrAnd}
use Rattle.std.proofs.lemmas.Result.{err_from_is_err_and}
use Rattle.ipg_outside.specs.declared.sink.SinkFault.{SinkFault}
use Rattle.ipg_outside.specs.Faults.{Rose}
use Rattle.ipg_outside.specs.Sink.{Output, Takes, Breaks, Tells, IsPrefix, given}
use Rattle.ipg_tree.specs.Puts.{Whole, Part, Puts}

longer : (a b c : List ℕ) → IsPrefix a b → IsPrefix b c → IsPrefix a c
longer a b c p q = (p.0 ++ q.0, q.1 ∙ ap (λ t. t ++ q.0) p.1 ∙ append_assoc a p.0 q.0)

takes_none : (a : Output) → Takes [] a a
takes_none a = record { all = sym (append-nil (given a)); kept = ([], sym (append-nil a.written)) }

takes_more : (xs ys : List ℕ) (a b c : Output) → Takes xs a b → Takes ys b c → Takes (xs ++ ys) a c
takes_more xs ys a b c p q = record { all = q.all ∙ ap (λ t. t ++ ys) p.all ∙ append_assoc (given a) xs ys; kept = longer _ _ _ p.kept q.kept }

breaks_more : (xs ys zs text : List ℕ) (a b c : Output) → xs ++ (ys ++ zs) ≡ text → Takes xs a b → Breaks ys b c → Breaks text a c
breaks_more xs ys zs text a b c e p q = record {
  part =
      longer _ _ _ q.part (
        zs,
        ap (λ t. given a ++ t) (sym e) ∙ sym (append_assoc (given a) xs (ys ++ zs)) ∙ sym (append_assoc (given a ++ xs) ys zs)
            ∙ ap (λ t. (t ++ ys) ++ zs) (sym p.all),
      );
  kept = longer _ _ _ p.kept q.kept;
  none_held = q.none_held;
}

tells_none : (a : Option Output) → Tells a a (Takes [])
tells_none None = tt
tells_none (Some a) = takes_none a

tells_more : (a b c : Option Output) (xs ys : List ℕ) → Tells a b (Takes xs) → Tells b c (Takes ys) → Tells a c (Takes (xs ++ ys))
tells_more None b c xs ys p q = tt
tells_more (Some a) None c xs ys p q = absurd p
tells_more (Some a) (Some b) None xs ys p q = absurd q
tells_more (Some a) (Some b) (Some c) xs ys p q = takes_more xs ys a b c p q

tells_broken : (a b c : Option Output) (xs ys zs text : List ℕ) → xs ++ (ys ++ zs) ≡ text → Tells a b (Takes xs) → Tells b c (Breaks ys)
    → Tells a c (Breaks text)
tells_broken None b c xs ys zs text e p q = tt
tells_broken (Some a) None c xs ys zs text e p q = absurd p
tells_broken (Some a) (Some b) None xs ys zs text e p q = absurd q
tells_broken (Some a) (Some b) (Some c) xs ys zs text e p q = breaks_more xs ys zs text a b c e p q

later : (m n k : ℕ) → m ≤ n → Rose n k → Rose m k
later m n k h (inl r) = inl (lt_of_le_of_lt h r)
later m n k h (inr r) = inr r

-- what was put of a text so far, and what is left of it
pub record Progress (text rest : List ℕ) (a : Option Output) (m : ℕ) (b : Option Output) (n : ℕ) : Type 0 where
  pub done : List ℕ
  pub is : done ++ rest ≡ text
  pub put : Whole done a m b n

pub begun : (text : List ℕ) (a : Option Output) (m : ℕ) → Progress text text a m a m
begun text a m = record { done = []; is = refl; put = record { told = tells_none a; counts = le_refl m } }

module _ {text : List ℕ} {a : Option Output} {m : ℕ} where
  -- one piece more
  pub more : {xs rest : List ℕ} {b : Option Output} {n : ℕ} {c : Option Output} {k : ℕ} → Progress text (xs ++ rest) a m b n → Whole xs b n c k
      → Progress text rest a m c k
  more {xs = xs} {rest = rest} {b = b} {c = c} p w = record {
    done = p.done ++ xs;
    is = append_assoc p.done xs rest ∙ p.is;
    put = record { told = tells_more a b c p.done xs p.put.told w.told; counts = le_trans p.put.counts w.counts };
  }

  -- a fault at the next piece
  broken : {xs : List ℕ} (left : List ℕ) {b : Option Output} {n : ℕ} {c : Option Output} {k : ℕ} → Progress text (xs ++ left) a m b n → Part xs b n c k
      → Part text a m c k
  broken {xs = xs} left {b = b} {n = n} {c = c} {k = k} p w = record {
    told = tells_broken a b c p.done xs left text p.is p.put.told w.told;
    failed = later m n k p.put.counts w.failed;
    counts = le_trans p.put.counts w.counts;
  }

  -- the same is left
  pub as_left : {rest other : List ℕ} {b : Option Output} {n : ℕ} → rest ≡ other → Progress text rest a m b n → Progress text other a m b n
  as_left {b = b} {n = n} e p = subst (λ t. Progress text t a m b n) e p

  -- nothing is left
  pub all_put : {rest : List ℕ} {b : Option Output} {n : ℕ} → rest ≡ [] → Progress text rest a m b n → Whole text a m b n
  all_put {b = b} {n = n} e p =
      subst (λ t. Whole t a m b n) (sym (append-nil p.done) ∙ ap (λ t. p.done ++ t) (sym e) ∙ p.is) p.put

  last : {xs : List ℕ} {b : Option Output} {n : ℕ} → Progress text xs a m b n → Progress text (xs ++ []) a m b n
  last {xs = xs} {b = b} {n = n} p = subst (λ t. Progress text t a m b n) (sym (append-nil xs)) p

  -- the last piece
  pub ended : (r : Result (Unit {0}) SinkFault) {xs : List ℕ} {b : Option Output} {n : ℕ} (c : Option Output) (k : ℕ) → Progress text xs a m b n
      → Puts r xs b n c k
      → Puts r text a m c k
  ended (Ok u) c k p w = all_put refl (more (last p) w)
  ended (Err fault) c k p w = broken [] (last p) w

  -- the same, where what is left begins with the piece
  pub next : {rest xs left : List ℕ} {b : Option Output} {n : ℕ} {c : Option Output} {k : ℕ} → rest ≡ xs ++ left → Progress text rest a m b n → Whole xs b n c k
      → Progress text left a m c k
  next {b = b} {n = n} e p w = more (subst (λ t. Progress text t a m b n) e p) w

  -- the exit at a fault of a piece
  pub exits : (Q : SinkFault → Type 0) (r : Result (Unit {0}) SinkFault) → IsErrAnd r Q
      → {rest xs : List ℕ} (left : List ℕ) {b : Option Output} {n : ℕ} {c : Option Output} {k : ℕ} → rest ≡ xs ++ left → Progress text rest a m b n
      → Part xs b n c k
      → Puts r text a m c k
  exits Q r q left {b = b} {n = n} {c = c} {k = k} e p w =
      subst (λ r. Puts r text a m c k) (sym (err_from_is_err_and r q).1) (broken left (subst (λ t. Progress text t a m b n) e p) w)

-- the exit at a fault of the first piece
pub exits_first : (Q : SinkFault → Type 0) (r : Result (Unit {0}) SinkFault) → IsErrAnd r Q
    → (xs ys : List ℕ) {a : Option Output} {m : ℕ} {b : Option Output} {n : ℕ} → Part xs a m b n → Puts r (xs ++ ys) a m b n
exits_first Q r q xs ys {a = a} {m = m} w = exits Q r q ys refl (begun (xs ++ ys) a m) w

-- the same text
pub as_text : (r : Result (Unit {0}) SinkFault) (xs ys : List ℕ) (a : Option Output) (m : ℕ) (b : Option Output) (n : ℕ) → xs ≡ ys → Puts r xs a m b n
    → Puts r ys a m b n
as_text r xs ys a m b n e p = subst (λ text. Puts r text a m b n) e p
