-- What `explain` says begins with what `check` says.
use Rattle.std.proofs.Common.{ℕ, inl, inr, List, [], ◌++◌, Ok, Err, Some, None, refl, sym, ap, ◌∙◌, subst, append-nil}
use Rattle.std.specs.Prelude.{codes, flat_map, ◌∷◌}
use Rattle.ipg_app_explain.specs.Spot.{spot_lines}
use Rattle.ipg_app_explain.specs.Why.{advice, first_word, wrong}
use Rattle.ipg_app_text.specs.Said.{Said, done_line}
use Rattle.ipg_app_text.specs.CoreOf.{On, CoreFrom}
use Rattle.ipg_app_text.specs.Found.{Says}
use Rattle.ipg_app.specs.Laws.{BeginsAsCheck}
use Rattle.ipg_app_text.specs.Reasons.{Reason}
use Rattle.ipg_app_grammar.specs.Judged.{Judged}
use Rattle.ipg_app_text.specs.Steps.{core_of}
use Rattle.ipg_app_grammar.specs.Commands.{check}
use Rattle.ipg_app_text.specs.Reasoned.{of_text, unread, without_core}

-- the reason's own line is what `check` says
checked : (text : List ℕ) (r : Reason) → Judged text (Some r) → Says (core_of text check) r.said
checked text r (inl h) told = (Err r.said, subst (λ x. On x CoreFrom (Err r.said)) (sym (unread text r h)) refl, refl)
checked text r (inr (g, is, inl h)) told = (Err r.said, of_text text g (Err r.said) is (without_core g r h), refl)
checked text r (inr (g, is, inr (core, from, h))) told = (
  Ok core,
  of_text text g (Ok core) is from,
  (Err r.said, record { cycle = h.cycle; values = h.values; loops = h.loops; is = ap (λ (x : Reason). x.said) h.is }, refl),
)

abbrev rest_of : List ℕ → List ℕ → Reason → List ℕ
rest_of name text r =
    flat_map (spot_lines name text) r.places ++ (r.notes ++ (wrong r.why (first_word text r.places) ++ 10 ∷ (advice r.why ++ 10 ∷ [])))

pub begins : BeginsAsCheck
begins name text said (None, (core, of, accepts), is) = record {
  own = done_line (codes "accepted");
  checks = λ told. (Ok core, of, (Ok core, (refl, accepts), refl));
  status = ap (λ (s : Said). s.status) is;
  rest = [];
  begins = ap (λ (s : Said). s.text) is ∙ sym (append-nil (done_line (codes "accepted")).text);
}
begins name text said (Some r, judged, is) = record {
  own = r.said;
  checks = checked text r judged;
  status = ap (λ (s : Said). s.status) is;
  rest = rest_of name text r;
  begins = ap (λ (s : Said). s.text) is;
}
