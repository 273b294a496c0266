-- A whole text, and what is at fault in one.
use Rattle.std.proofs.Common.{◌≡◌, ℕ, ◌+◌, ◌-◌, ◌≤◌, ◌<◌, List, [], ◌∷◌, ◌++◌, length, take, sym, ap, ◌∙◌, subst, inl, inr, arith, append_assoc}
use Rattle.std.proofs.Common.{append-nil, length-append, Ok, Err}
use Rattle.std.proofs.Math.Seq.{take-append_seam}
use Rattle.ipg_proof.specs.declared.certificate.Certificate.{Certificate}
use Rattle.ipg_proof.specs.declared.cursor.Stall.TheVariants.{Here}
use Rattle.ipg_proof.specs.Texts.{text_of, edge_line, cycle_line, heading, between, IsShort}
use Rattle.ipg_proof.specs.Texts.{IsLong, IsEdgeEntry, IsCycleEntry, IsSpeakable, IsTextOf, GoesOn, IsTextFault}
use Rattle.ipg_proof.specs.Reads.{Continues, Stops, Reads, AreAlone}
use Rattle.ipg_proof.proofs.Readers.{fronts, no_cons, here_is_no_memory}
use Rattle.ipg_proof.proofs.Lines.{alone_edge_line, alone_cycle_line}
use Rattle.ipg_proof.proofs.Whole.{dead_text, cycles_text, alone_section, short_counts, long_counts, one_edge, one_edge_is, one_cycle, one_cycle_is}

-- no certificate's text begins another's
alone_text : AreAlone IsSpeakable text_of
alone_text a b more is also e =
    elim (fronts (dead_text b.dead) (cycles_text b.cycles) (dead_text a.dead) (cycles_text a.cycles ++ more)
    (e ∙ append_assoc (dead_text a.dead) (cycles_text a.cycles) more)) [
      | inl f ↦
          let none = alone_section heading IsShort short_counts IsEdgeEntry edge_line alone_edge_line one_edge one_edge_is
          a.dead b.dead f.more is.0 also.0 f.longer in
          cycles (sym (f.rest ∙ ap (λ w. w ++ cycles_text b.cycles) none))
      | inr f ↦
          let none = alone_section heading IsShort short_counts IsEdgeEntry edge_line alone_edge_line one_edge one_edge_is
          b.dead a.dead f.more also.0 is.0 f.longer in
          cycles (f.rest ∙ ap (λ w. w ++ (cycles_text a.cycles ++ more)) none)
    ]
  where
    cycles : cycles_text b.cycles ≡ cycles_text a.cycles ++ more → more ≡ []
    cycles h = alone_section between IsLong long_counts IsCycleEntry cycle_line alone_cycle_line one_cycle one_cycle_is a.cycles b.cycles more is.1 also.1 h

fault : (text taken left : List ℕ) → text ≡ taken ++ left → Continues IsSpeakable text_of taken → Stops IsSpeakable text_of taken left
    → ((c : Certificate) → ¬ IsTextOf c text)
    → IsTextFault text (length text - length left)
fault text taken left splits begins stops ends = subst (IsTextFault text) size (record {
  within = (let s : length taken ≤ length text = omega (arith, ap length splits, length-append taken left) in s);
  before = (begins.0, begins.2, (begins.1, ap (λ w. w ++ begins.2) front ∙ sym begins.3));
  there = there left splits stops;
  ends = ends;
})
  where
    size : length taken ≡ length text - length left
    size = let s : length taken ≡ length text - length left = omega (arith, ap length splits, length-append taken left) in s

    front : take (length taken) text ≡ taken
    front = ap (take (length taken)) splits ∙ take-append_seam taken left

    there : (l : List ℕ) → text ≡ taken ++ l → Stops IsSpeakable text_of taken l → length taken < length text → ¬ GoesOn (take (length taken + 1) text)
    there [] e h less = absurd (let s : ⊥ = omega (arith, less, ap length e, length-append taken []) in s)
    there (x ∷ l) e h less = λ on.
        let more : length taken + 1 ≡ length (taken ++ x ∷ []) = omega (arith, length-append taken (x ∷ [])) in
        let same : take (length taken + 1) text ≡ taken ++ x ∷ [] =
        ap (λ k. take k text) more ∙ ap (take (length (taken ++ x ∷ []))) (e ∙ sym (append_assoc taken (x ∷ []) l)) ∙ take-append_seam (taken ++ x ∷ []) l in
        h (on.0, on.2.0, on.1, sym on.2.1 ∙ ap (λ w. w ++ on.1) same)

pub stuck_text : (text left : List ℕ) → Reads IsSpeakable text_of text left (Err Here) → IsTextFault text (length text - length left)
stuck_text text left r = fault text r.says.taken left r.says.splits r.says.begins r.says.stops
    (λ c is. here_is_no_memory (r.back c [] is.0 (is.1 ∙ sym (append-nil (text_of c)))))

pub extra_text : (text left : List ℕ) (c : Certificate) → 0 < length left → Reads IsSpeakable text_of text left (Ok c)
    → IsTextFault text (length text - length left)
extra_text text left c some r = fault text (text_of c) left r.says.splits (c, r.says.is, [], sym (append-nil (text_of c))) (stops left)
    (λ d is. never (r.back d [] is.0 (is.1 ∙ sym (append-nil (text_of d)))).1)
  where
    never : left ≡ [] → ⊥
    never none = let s : ⊥ = omega (arith, some, ap length none) in s

    stops : (l : List ℕ) → Stops IsSpeakable text_of (text_of c) l
    stops [] = tt
    stops (x ∷ l) = λ on.
        no_cons x on.2 (alone_text c on.0 (x ∷ on.2) r.says.is on.1 (on.3 ∙ append_assoc (text_of c) (x ∷ []) on.2))

pub whole_text : (text left : List ℕ) (c : Certificate) → length left ≡ 0 → Reads IsSpeakable text_of text left (Ok c) → IsTextOf c text
whole_text text [] c none r = (r.says.is, r.says.splits ∙ append-nil (text_of c))
whole_text text (x ∷ left) c none r = absurd (let s : ⊥ = omega (arith, none) in s)

pub left_within : (text left : List ℕ) (c : Certificate) → Reads IsSpeakable text_of text left (Ok c) → length left ≤ length text
left_within text left c r = omega (arith, ap length r.says.splits, length-append (text_of c) left)

pub stuck_within : (text left : List ℕ) → Reads IsSpeakable text_of text left (Err Here) → length left ≤ length text
stuck_within text left r = omega (arith, ap length r.says.splits, length-append r.says.taken left)

pub text_again : (text left : List ℕ) (c d : Certificate) → Reads IsSpeakable text_of text left (Ok c) → IsTextOf d text → c ≡ d
text_again text left c d r is = (r.back d [] is.0 (is.1 ∙ sym (append-nil (text_of d)))).0
