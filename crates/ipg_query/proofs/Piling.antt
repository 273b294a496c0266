-- Rows are put on a pile from the last to the first.
use Rattle.std.proofs.Common.{◌≡◌, ℕ, zero, suc, ◌+◌, ◌<◌, ◌≤◌, List, [], ◌∷◌, ◌++◌, length, get_or, drop, reverse, arith}
use Rattle.std.proofs.Common.{refl, ap, ◌∙◌, sym, subst, append_assoc}
use Rattle.std.proofs.lemmas.List.{drop_all}
use Rattle.ipg_core.specs.Grammar.{Grammar}
use Rattle.ipg_core.specs.Tree.{Kids}
use Rattle.ipg_mach_nodes.specs.declared.kid.Kid.{Kid}
use Rattle.ipg_mach_nodes.specs.Stored.{Stored, Source, StandKids}
use Rattle.ipg_table.specs.Rows.{Each}
use Rattle.ipg_query_path.specs.declared.path.Step.{Step}
use Rattle.ipg_query_path.specs.declared.path.Step.TheVariants.{Named, Nth, Children, All}
use Rattle.ipg_query.specs.Picked.{Found, each_of, below, all_of, members}
use Rattle.ipg_query.specs.Spots.{AreNear, IsSpot, spot_at, Rest, Comes}
use Rattle.ipg_query.proofs.Coming.{members_append, members_none}
use Rattle.ipg_query.proofs.Lying.{IsRow, rows_are}

-- what stands for one of a list, and what is behind it
record At {A B : Type 0} (R : A → B → Type 0) (x : A) (ys : List B) (i : ℕ) : Type 0 where
  pub one : B
  pub is : drop i ys ≡ one ∷ drop (suc i) ys
  pub stands : R x one

each_at : {A B : Type 0} (R : A → B → Type 0) (xs : List A) (ys : List B) (i : ℕ) (d : A) → Each R xs ys → i < length xs → At R (get_or xs i d) ys i
each_at R [] ys i d h lt = absurd (omega arith)
each_at R (x ∷ xs) [] i d h lt = absurd h
each_at R (x ∷ xs) (y ∷ ys) zero d h lt = record { one = y; is = refl; stands = h.0 }
each_at R (x ∷ xs) (y ∷ ys) (suc i) d h lt =
    let more = each_at R xs ys i d h.1 (omega arith) in
    record { one = more.one; is = more.is; stands = more.stands }

each_long : {A B : Type 0} (R : A → B → Type 0) (xs : List A) (ys : List B) → Each R xs ys → length ys ≡ length xs
each_long R [] [] h = refl
each_long R [] (y ∷ ys) h = absurd h
each_long R (x ∷ xs) [] h = absurd h
each_long R (x ∷ xs) (y ∷ ys) h = ap suc (each_long R xs ys h.1)

module _ (src : Source) (st : Stored) (g : Grammar) (at : ℕ) (rows : List Kid) (ones : Kids) (steps : List Step)
    (stand : StandKids src st at rows ones) (near : AreNear at ones) where
  -- from this row on, all are on the pile
  abbrev pub FromOn : List Rest → ℕ → List Found → Type 0
  FromOn pile i xs = Comes src st g (reverse pile) (members g steps (drop i (each_of at ones)) ++ xs)

  pub none_yet : (pile : List Rest) (xs : List Found) → Comes src st g (reverse pile) xs → FromOn pile (length rows) xs
  none_yet pile xs comes =
      let long = each_long (IsRow src st at) rows (each_of at ones) (rows_are src st at rows ones stand near) in
      subst (λ ys. Comes src st g (reverse pile) (ys ++ xs))
      (sym (ap (members g steps) (drop_all (length rows) (each_of at ones) (omega (arith, long))) ∙ members_none g steps)) comes

  pub one_more : (pile new : List Rest) (i left : ℕ) (d : Kid) (xs : List Found) → i + 1 ≡ left → left ≤ length rows → FromOn pile left xs
      → ((x : Found) (ys : List Found) → IsSpot src st (spot_at at (get_or rows i d)) x → Comes src st g (reverse pile) ys
      → Comes src st g (reverse new) (members g steps (x ∷ []) ++ ys))
      → FromOn new i xs
  one_more pile new i left d xs next within so_far go =
      let here = each_at (IsRow src st at) rows (each_of at ones) i d (rows_are src st at rows ones stand near) (omega (arith, next, within)) in
      let behind = drop (suc i) (each_of at ones) in
      let before = subst (λ k. FromOn pile k xs) (let e : left ≡ suc i = omega (arith, next) in e) so_far in
      subst (λ ys. Comes src st g (reverse new) ys)
      (sym (append_assoc (members g steps (here.one ∷ [])) (members g steps behind) xs)
      ∙ ap (λ ys. ys ++ xs) (sym (members_append g steps (here.one ∷ []) behind) ∙ ap (members g steps) (sym here.is)))
      (go here.one (members g steps behind ++ xs) here.stands before)

  pub all_on : (pile : List Rest) (i : ℕ) (xs : List Found) → i ≡ 0 → FromOn pile i xs
      → Comes src st g (reverse pile) (members g steps (each_of at ones) ++ xs)
  all_on pile i xs e so_far = subst (λ k. FromOn pile k xs) e so_far

-- ---- steps of which nothing comes

module _ (g : Grammar) (x : Found) (none : below x ≡ []) where
  pub none_named : (name : List ℕ) (rest : List Step) → members g (Named name ∷ rest) (x ∷ []) ≡ []
  none_named name rest = rw none (members_none g rest)

  pub none_nth : (name : List ℕ) (k : ℕ) (rest : List Step) → members g (Nth name k ∷ rest) (x ∷ []) ≡ []
  none_nth name k rest = rw none (members_none g rest)

  pub no_children : (rest : List Step) → members g (Children ∷ rest) (x ∷ []) ≡ []
  no_children rest = rw none (members_none g rest)

pub none_behind : (g : Grammar) (rest : List Step) (x : Found) → all_of x ≡ x ∷ [] → members g rest (x ∷ []) ≡ [] → members g (All ∷ rest) (x ∷ []) ≡ []
none_behind g rest x alone none = ap (λ ys. members g rest (ys ++ [])) alone ∙ none
