-- Ways, put together and turned.
use Rattle.std.proofs.Common.{◌≡◌, ℕ, ◌<◌, ◌^◌, List, [], ◌∷◌, ◌++◌, refl, sym, subst}
use Rattle.ipg_graph.specs.Graph.{Graph, caller, callee, IsLive, IsWhole}
use Rattle.ipg_graph_parts.specs.Way.{IsWay, Leads, IsTied, turned}

joined : (g : Graph) (u v w : ℕ) (way more : List ℕ) → IsWay g u v way → IsWay g v w more → IsWay g u w (way ++ more)
joined g u v w [] more h k = subst (λ x. IsWay g x w more) (sym h) k
joined g u v w (e ∷ way) more h k = (h.0, (h.1.0, joined g (callee g e) v w way more h.1.1 k))

pub to_self : (g : Graph) (v : ℕ) → Leads g v v
to_self g v = ([], refl)

pub over : (g : Graph) (u v w : ℕ) → Leads g u v → Leads g v w → Leads g u w
over g u v w h k = (h.0 ++ k.0, joined g u v w h.0 k.0 h.1 k.1)

pub along : (g : Graph) (e u : ℕ) → IsLive g e → caller g e ≡ u → Leads g u (callee g e)
along g e u live is = (e ∷ [], (live, (is, refl)))

pub whole-turned : (g : Graph) → IsWhole g → IsWhole (turned g)
whole-turned g h = record { few = subst (λ n. n < 2 ^ 32) (sym h.same) h.few; same = sym h.same; inside = h.both; both = h.inside }

pub back : (g : Graph) → IsWhole g → (u v : ℕ) (way : List ℕ) → IsWay (turned g) u v way → Leads g v u
back g whole u v [] h = ([], sym h)
back g whole u v (e ∷ way) h =
    over g v (caller g e) u (back g whole (caller g e) v way h.1.1) (subst (Leads g (caller g e)) h.1.0 (along g e (caller g e) (whole.both e h.0) refl))

pub tied-self : (g : Graph) (v : ℕ) → IsTied g v v
tied-self g v = (to_self g v, to_self g v)

pub tied-back : (g : Graph) (u v : ℕ) → IsTied g u v → IsTied g v u
tied-back g u v h = (h.1, h.0)

pub tied-over : (g : Graph) (u v w : ℕ) → IsTied g u v → IsTied g v w → IsTied g u w
tied-over g u v w h k = (over g u v w h.0 k.0, over g w v u k.1 h.1)
