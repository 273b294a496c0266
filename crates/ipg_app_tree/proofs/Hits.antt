-- Lines of hits, one after another.
use Rattle.std.proofs.Common.{◌≡◌, ℕ, ◌+◌, ◌<◌, ◌≤◌, List, [], ◌∷◌, ◌++◌, length, get_or, drop, Option, Result, refl, sym, ap, ◌∙◌, subst, append-nil, arith}
use Rattle.std.proofs.Common.{add-one}
use Rattle.std.proofs.Math.Seq.{drop-cons}
use Rattle.std.proofs.lemmas.List.{drop_all}
use Rattle.std.specs.Prelude.{IsErrAnd}
use Rattle.std.proofs.lemmas.Result.{err_from_is_err_and}
use Rattle.ipg_outside.specs.declared.sink.SinkFault.{SinkFault}
use Rattle.ipg_outside.specs.Sink.{Output, Takes, Tells}
use Rattle.ipg_query.specs.declared.hit.Hit.{Hit}
use Rattle.ipg_query.specs.Hits.{IsHit}
use Rattle.ipg_query.specs.Picked.{Pick}
use Rattle.ipg_table.specs.Rows.{Each}
use Rattle.ipg_tree.specs.Puts.{Puts, Whole, Part}
use Rattle.ipg_app_tree.specs.Queried.{pick_line, picks_text}
use Rattle.ipg_app_tree.proofs.Written.{Progress, begun, one-more, broken, later}

-- the first of hits is that of the first pick
record First (hit : Hit) (hits : List Hit) (picks : List Pick) : Type 0 where
  pub pick : Pick
  pub more : List Pick
  pub is : picks ≡ pick ∷ more
  pub hits_it : IsHit hit pick
  pub stand : Each IsHit hits more

first_of : (hit : Hit) (hits : List Hit) (picks : List Pick) → Each IsHit (hit ∷ hits) picks → First hit hits picks
first_of hit hits [] h = absurd h
first_of hit hits (pick ∷ more) h = record { pick = pick; more = more; is = refl; hits_it = h.0; stand = h.1 }

-- some picks are written, and some hits are left
pub record Going (picks : List Pick) (before : Option Output) (counted : ℕ) (hits : List Hit) (after : Option Output) (counts : ℕ) : Type 0 where
  pub left : List Pick
  pub stand : Each IsHit hits left
  pub so_far : Progress before after (picks_text picks) (picks_text left)
  pub rises : counted ≤ counts

next_left : (hits : List Hit) (i : ℕ) (d : Hit) → i < length hits → drop i hits ≡ get_or hits i d ∷ drop (i + 1) hits
next_left hits i d h = drop-cons hits i d h ∙ ap (λ k. get_or hits i d ∷ drop k hits) (sym (add-one i))

module _ (picks : List Pick) (before : Option Output) (counted : ℕ) where
  pub starts : (hits : List Hit) → Each IsHit hits picks → Going picks before counted hits before counted
  starts hits h = record { left = picks; stand = h; so_far = begun before (picks_text picks); rises = omega arith }

  module _ (hits : List Hit) (i : ℕ) (d : Hit) (less : i < length hits) (mid : Option Output) (counts : ℕ)
      (now : Going picks before counted (drop i hits) mid counts) where
    abbrev first : First (get_or hits i d) (drop (i + 1) hits) now.left
    first = first_of (get_or hits i d) (drop (i + 1) hits) now.left (subst (λ l. Each IsHit l now.left) (next_left hits i d less) now.stand)

    abbrev here : Progress before mid (picks_text picks) (pick_line first.pick ++ picks_text first.more)
    here = subst (λ l. Progress before mid (picks_text picks) (picks_text l)) first.is now.so_far

    pub goes_on : (after : Option Output) (more : ℕ) → ((pick : Pick) → IsHit (get_or hits i d) pick → Whole (pick_line pick) mid counts after more)
        → Going picks before counted (drop (i + 1) hits) after more
    goes_on after more put =
        let w = put first.pick first.hits_it in
        record {
          left = first.more;
          stand = first.stand;
          so_far = one-more before mid after (picks_text picks) (pick_line first.pick) (picks_text first.more) here w.told;
          rises = let x = now.rises in let y = w.counts in omega arith;
        }

    pub breaks : (after : Option Output) (more : ℕ) → ((pick : Pick) → IsHit (get_or hits i d) pick → Part (pick_line pick) mid counts after more)
        → Part (picks_text picks) before counted after more
    breaks after more put =
        let w = put first.pick first.hits_it in
        record {
          told = broken before mid after (picks_text picks) (pick_line first.pick) (picks_text first.more) here w.told;
          failed = later counted counts more now.rises w.failed;
          counts = let x = now.rises in let y = w.counts in omega arith;
        }

  none_left : (left : List Pick) → Each IsHit [] left → left ≡ []
  none_left [] h = refl
  none_left (pick ∷ left) h = absurd h

  pub ends : (hits : List Hit) (i : ℕ) → length hits ≤ i → (after : Option Output) (counts : ℕ)
      → Going picks before counted (drop i hits) after counts → Whole (picks_text picks) before counted after counts
  ends hits i all after counts now =
      let none = none_left now.left (subst (λ l. Each IsHit l now.left) (drop_all i hits all) now.stand) in
      let p : Progress before after (picks_text picks) [] = subst (λ l. Progress before after (picks_text picks) (picks_text l)) none now.so_far in
      record {
        told = subst (λ t. Tells before after (Takes t)) (sym (p.is ∙ append-nil p.done)) p.told;
        counts = now.rises;
      }

-- the exit at a fault
pub exits : (Q : SinkFault → Type 0) (r : Result (Unit {0}) SinkFault) → IsErrAnd r Q → (text : List ℕ) (before : Option Output) (counted : ℕ)
    (after : Option Output) (counts : ℕ) → Part text before counted after counts → Puts r text before counted after counts
exits Q r q text before counted after counts w = subst (λ r. Puts r text before counted after counts) (sym (err_from_is_err_and r q).1) w
