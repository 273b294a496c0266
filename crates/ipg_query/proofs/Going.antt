-- Lists that stand one by one for others, and loops over them.
use Rattle.std.proofs.Common.{◌≡◌, ℕ, ◌+◌, ◌<◌, ◌≤◌, List, [], ◌∷◌, ◌++◌, length, get_or, drop, flat_map, refl, ap, ◌∙◌, sym, subst}
use Rattle.std.proofs.Common.{append_assoc, append-nil, add-one, subst₂}
use Rattle.std.proofs.Math.Seq.{drop-cons}
use Rattle.std.proofs.lemmas.List.{drop_all}
use Rattle.ipg_table.specs.Rows.{Each}
use Rattle.ipg_query.specs.declared.hit.Hit.{Hit}
use Rattle.ipg_query.specs.Hits.{IsHit}
use Rattle.ipg_query.specs.Picked.{Pick}
use Rattle.ipg_query.specs.Spots.{Through}

pub each_append : {A B : Type 0} (R : A → B → Type 0) (xs ys : List A) (us vs : List B) → Each R xs us → Each R ys vs → Each R (xs ++ ys) (us ++ vs)
each_append R [] ys [] vs h k = k
each_append R [] ys (u ∷ us) vs h k = absurd h
each_append R (x ∷ xs) ys [] vs h k = absurd h
each_append R (x ∷ xs) ys (u ∷ us) vs h k = (h.0, each_append R xs ys us vs h.1 k)

pub push_one : {A B : Type 0} (R : A → B → Type 0) (xs : List A) (us : List B) (x : A) (u : B) → Each R xs us → R x u → Each R (xs ++ x ∷ []) (us ++ u ∷ [])
push_one R xs us x u h here = each_append R xs (x ∷ []) us (u ∷ []) h (here, tt)

pub nothing : {A B : Type 0} (R : A → B → Type 0) (xs : List A) → xs ≡ [] → Each R xs []
nothing R xs e = subst (λ ys. Each R ys []) (sym e) tt

-- the next of a list, and those behind it
pub next_left : {A : Type 0} (xs : List A) (i : ℕ) (d : A) → i < length xs → drop i xs ≡ get_or xs i d ∷ drop (i + 1) xs
next_left xs i d h = drop-cons xs i d h ∙ ap (λ k. get_or xs i d ∷ drop k xs) (sym (add-one i))

module _ {A B X Y : Type 0} (R : A → X → Type 0) (Q : B → Y → Type 0) (f : X → List Y) where
  pub begin : (left : List A) (out : List B) (xs : List X) (before : List Y) → Each R left xs → Each Q out before
      → Through R Q f left out (before ++ flat_map f xs)
  begin left out xs before stand made = record { rest = xs; done = before; stand = stand; made = made; is = refl }

  by_rest : (a : A) (left : List A) (out to : List B) (whole done : List Y) (rest : List X) → Each R (a ∷ left) rest → Each Q out done
      → done ++ flat_map f rest ≡ whole → ((x : X) (before : List Y) → R a x → Each Q out before → Each Q to (before ++ f x)) → Through R Q f left to whole
  by_rest a left out to whole done [] stand made is go = absurd stand
  by_rest a left out to whole done (x ∷ rest) stand made is go = record {
    rest = rest;
    done = done ++ f x;
    stand = stand.1;
    made = go x done stand.0 made;
    is = append_assoc done (f x) (flat_map f rest) ∙ is;
  }

  pub go_on : (a : A) (left : List A) (out to : List B) (whole : List Y) → Through R Q f (a ∷ left) out whole
      → ((x : X) (before : List Y) → R a x → Each Q out before → Each Q to (before ++ f x)) → Through R Q f left to whole
  go_on a left out to whole t go = by_rest a left out to whole t.done t.rest t.stand t.made t.is go

  -- a loop by places goes on
  pub go_at : (xs : List A) (i : ℕ) (d : A) (out to : List B) (whole : List Y) → i < length xs → Through R Q f (drop i xs) out whole
      → ((x : X) (before : List Y) → R (get_or xs i d) x → Each Q out before → Each Q to (before ++ f x)) → Through R Q f (drop (i + 1) xs) to whole
  go_at xs i d out to whole less t go =
      go_on (get_or xs i d) (drop (i + 1) xs) out to whole (subst (λ left. Through R Q f left out whole) (next_left xs i d less) t) go

  ended : (out : List B) (whole done : List Y) (rest : List X) → Each R [] rest → Each Q out done → done ++ flat_map f rest ≡ whole → Each Q out whole
  ended out whole done [] stand made is = subst (Each Q out) (sym (append-nil done) ∙ is) made
  ended out whole done (x ∷ rest) stand made is = absurd stand

  pub all_made : (out : List B) (whole : List Y) → Through R Q f [] out whole → Each Q out whole
  all_made out whole t = ended out whole t.done t.rest t.stand t.made t.is

  pub at_end : (xs : List A) (i : ℕ) (out : List B) (whole : List Y) → length xs ≤ i → Through R Q f (drop i xs) out whole → Each Q out whole
  at_end xs i out whole all t = all_made out whole (subst (λ left. Through R Q f left out whole) (drop_all i xs all) t)

-- ---- hits

pub hit_put : (out to : List Hit) (before picks : List Pick) (hit : Hit) → (pick : Pick) × (picks ≡ pick ∷ []) × IsHit hit pick → Each IsHit out before
    → to ≡ out ++ hit ∷ [] → Each IsHit to (before ++ picks)
hit_put out to before picks hit (pick, one, is) made put =
    subst₂ (λ hits ps. Each IsHit hits (before ++ ps)) (sym put) (sym one) (push_one IsHit out before hit pick made is)

pub no_hit : (out : List Hit) (before picks : List Pick) → picks ≡ [] → Each IsHit out before → Each IsHit out (before ++ picks)
no_hit out before picks none made = subst (λ ps. Each IsHit out (before ++ ps)) (sym none) (subst (Each IsHit out) (sym (append-nil before)) made)
