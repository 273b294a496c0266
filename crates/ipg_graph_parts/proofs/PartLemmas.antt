-- A part of rules, made whole.
use Rattle.std.proofs.Common.{◌≡◌, ℕ, ◌<◌, List, [], ◌∷◌, Option, Some, None, replicate, refl, sym, subst, ◌∙◌, inl, inr}
use Rattle.std.proofs.lemmas.List.{get_or_past, get_or-replicate, length-replicate}
use Rattle.std.proofs.lemmas.Option.{none-some, same_Some}
use Rattle.std.proofs.lemmas.Bool.{cases_lt}
use Rattle.ipg_graph.specs.Graph.{Graph, caller, callee, IsWhole}
use Rattle.ipg_graph_parts.specs.Way.{IsWay, Leads, IsTied, turned}
use Rattle.ipg_graph_parts.specs.Labels.{Field, label, IsLabelled, Keeps, IsFilled}
use Rattle.ipg_graph_parts.specs.Parts.{AreParts, IsIn, Stays, IsParted}
use Rattle.ipg_graph_parts.proofs.WayLemmas.{to_self, over, along, back, tied-back, tied-over}

blank : (n v : ℕ) → label (replicate n None) v ≡ None
blank n v = elim (cases_lt v n) [
  | inl lt ↦ get_or-replicate n v None None lt
  | inr ge ↦ get_or_past (replicate n None) v None (rw length-replicate ge)
]

pub none-made : (g : Graph) → AreParts g (replicate g.rules None) (replicate g.rules None)
none-made g = record {
  names_len = length-replicate g.rules None;
  found_len = length-replicate g.rules None;
  tied = λ r v is. absurd (none-some r (sym (blank g.rules v) ∙ is));
  whole = λ r v u is tied. absurd (none-some r (sym (blank g.rules v) ∙ is));
  named = λ r v is. absurd (none-some r (sym (blank g.rules v) ∙ is));
}

is-none : (o : Option ℕ) → ((x : ℕ) → o ≡ Some x → ⊥) → o ≡ None
is-none None h = refl
is-none (Some x) h = absurd (h x refl)

pub is-free : (labels : List (Option ℕ)) (v : ℕ) → (IsIn labels v → ⊥) → label labels v ≡ None
is-free labels v free = is-none (label labels v) (λ r is. free (r, is))

-- the rules that lead to the root, and those among them to which it leads
abbrev pub into : Graph → List (Option ℕ) → ℕ → Field
into g names r = record { graph = turned g; fence = names; open_label = None; root = r }

abbrev pub out : Graph → List (Option ℕ) → ℕ → Field
out g found r = record { graph = g; fence = found; open_label = Some r; root = r }

module _ (g : Graph) (whole : IsWhole g) (names found : List (Option ℕ)) (r : ℕ) (free : IsIn names r → ⊥) (are : AreParts g names found) where
  pub no-name : (v : ℕ) → IsLabelled names r v → ⊥
  no-name v is = free (r, are.whole r v r is (tied-back g r v (are.tied r v is)))

  pub not-found : (v : ℕ) → IsLabelled found r v → ⊥
  not-found v is = free (r, are.named r v is)

  free-of : (w : ℕ) → IsTied g r w → label names w ≡ None
  free-of w tied = is-none (label names w) (λ q is. free (q, are.whole q w r is (tied-back g r w tied)))

  module _ (leads : List (Option ℕ)) (keeps : Keeps r found leads) (in_is : IsFilled (into g names r) leads) where
    all-found : (w : ℕ) (way : List ℕ) → IsWay g w r way → Leads g r w → IsLabelled leads r w
    all-found w [] is from = subst (IsLabelled leads r) (sym is) in_is.start
    all-found w (e ∷ way) is from =
        let on : Leads g r (callee g e) = over g r w (callee g e) from (along g e w is.0 is.1.0) in
        let next : IsLabelled leads r (callee g e) = all-found (callee g e) way is.1.1 on in
        let tied : IsTied g r w = (from, (e ∷ way, is)) in
        let open_to : label names (caller g e) ≡ None = subst (λ x. label names x ≡ None) (sym is.1.0) (free-of w tied) in
        subst (IsLabelled leads r) is.1.0 (in_is.closed e (whole.inside e is.0) next open_to)

    module _ (made : List (Option ℕ)) (stays : Keeps r names made) (out_is : IsFilled (out g leads r) made) where
      all-named : (w u : ℕ) (way : List ℕ) → IsWay g w u way → IsLabelled made r w → Leads g r w → Leads g u r → IsLabelled made r u
      all-named w u [] is at from to = subst (IsLabelled made r) is at
      all-named w u (e ∷ way) is at from to =
          let on : Leads g r (callee g e) = over g r w (callee g e) from (along g e w is.0 is.1.0) in
          let home : Leads g (callee g e) r = over g (callee g e) u r (way, is.1.1) to in
          let led : IsLabelled leads r (callee g e) = all-found (callee g e) home.0 home.1 on in
          all-named (callee g e) u way is.1.1 (out_is.closed e is.0 (subst (IsLabelled made r) (sym is.1.0) at) led) on to

      -- the root's part was in none
      was-free : (v : ℕ) → IsLabelled made r v → label names v ≡ None
      was-free v is = (in_is.only v (out_is.only v is).0).0

      tied-in : (v : ℕ) → IsLabelled made r v → IsTied g r v
      tied-in v is = ((out_is.only v is).1, back g whole r v (in_is.only v (out_is.only v is).0).1.0 (in_is.only v (out_is.only v is).0).1.1)

      kept : (q v : ℕ) → IsLabelled names q v → IsLabelled made q v
      kept q v is = elim (stays.kept v) [ inl new ↦ absurd (none-some q (sym (was-free v new) ∙ is)) | inr same ↦ same ∙ is ]

      made-tied : (q v : ℕ) → IsLabelled made q v → IsTied g q v
      made-tied q v is = elim (stays.kept v) [
        | inl new ↦ subst (λ x. IsTied g x v) (same_Some r q (sym new ∙ is)) (tied-in v new)
        | inr same ↦ are.tied q v (sym same ∙ is)
      ]

      made-whole : (q v u : ℕ) → IsLabelled made q v → IsTied g v u → IsLabelled made q u
      made-whole q v u is tied = elim (stays.kept v) [
        | inl new ↦
            let with_u : IsTied g r u = tied-over g r v u (tied-in v new) tied in
            subst (λ x. IsLabelled made x u) (same_Some r q (sym new ∙ is))
            (all-named r u with_u.0.0 with_u.0.1 out_is.start (to_self g r) with_u.1)
        | inr same ↦ kept q u (are.whole q v u (sym same ∙ is) tied)
      ]

      made-named : (q v : ℕ) → IsLabelled leads q v → IsLabelled made q q
      made-named q v is = elim (keeps.kept v) [
        | inl new ↦ subst (λ x. IsLabelled made x x) (same_Some r q (sym new ∙ is)) out_is.start
        | inr same ↦ kept q q (are.named q v (sym same ∙ is))
      ]

      pub one-more : AreParts g made leads
      one-more = record { names_len = out_is.sized; found_len = in_is.sized; tied = made-tied; whole = made-whole; named = made-named }

      pub still : Stays names made
      still = record { stays = λ v is. (is.0, kept is.0 v is.1) }

      pub now : IsIn made r
      now = (r, out_is.start)

pub parted : (g : Graph) (names found : List (Option ℕ)) → AreParts g names found → ((v : ℕ) → v < g.rules → IsIn names v) → IsParted g names
parted g names found are all = record { names_len = are.names_len; all = all; tied = are.tied; whole = are.whole }
