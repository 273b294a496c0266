-- What is come to so far, and what is left.
use Rattle.std.proofs.Common.{◌≡◌, List, [], ◌∷◌, ◌++◌, flat_map, reverse, refl, ap, ◌∙◌, sym, subst, append_assoc, append-nil}
use Rattle.std.proofs.lemmas.List.{reverse-append, map-append}
use Rattle.ipg_core.specs.Grammar.{Grammar}
use Rattle.ipg_mach_nodes.specs.Stored.{Stored, Source}
use Rattle.ipg_table.specs.Rows.{Each}
use Rattle.ipg_query_path.specs.declared.path.Step.{Step}
use Rattle.ipg_query.specs.declared.left.Left.{Left}
use Rattle.ipg_query.specs.declared.spot.Spot.{Spot}
use Rattle.ipg_query.specs.Picked.{Found, members}
use Rattle.ipg_query.specs.Spots.{IsSpot, Course, course, comes_to, Rest, left_at, seen, seen_one, IsLeft, Comes, Reaches}

module _ (src : Source) (st : Stored) (g : Grammar) where
  -- the last of the pile is the next
  pub next_is : (pile rest : List Left) (next : Left) (xs : List Found) → pile ≡ rest ++ next ∷ []
      → Comes src st g (reverse (seen pile)) xs → Comes src st g (seen_one next ∷ reverse (seen rest)) xs
  next_is pile rest next xs e comes =
      subst (λ ls. Comes src st g ls xs)
      (ap (λ ls. reverse (seen ls)) e ∙ ap reverse (map-append seen_one rest (next ∷ [])) ∙ reverse-append (seen rest) (seen_one next ∷ [])) comes

  by_courses : (steps : List Step) (spot : Spot) (lefts : List Rest) (xs : List Found) (courses : List Course) → steps ≡ []
      → Each (IsLeft src st) (left_at steps spot ∷ lefts) courses → flat_map (comes_to g) courses ≡ xs → Reaches src st g spot lefts xs
  by_courses steps spot lefts xs [] none stand from = absurd stand
  by_courses steps spot lefts xs (c ∷ courses) none stand from =
      let more = flat_map (comes_to g) courses in
      let here : comes_to g c ≡ c.from ∷ [] = ap (λ ss. members g ss (c.from ∷ [])) (sym stand.0.steps ∙ none) in
      record {
        next = c.from;
        more = more;
        are = sym from ∙ ap (λ ys. ys ++ more) here;
        is_spot = stand.0.spot;
        comes = record { courses = courses; stand = stand.1; is = refl };
      }

  -- a spot without steps is the next
  pub reaches : (steps : List Step) (spot : Spot) (lefts : List Rest) (xs : List Found) → steps ≡ [] → Comes src st g (left_at steps spot ∷ lefts) xs
      → Reaches src st g spot lefts xs
  reaches steps spot lefts xs none comes = by_courses steps spot lefts xs comes.courses none comes.stand comes.is

  no_courses : (courses : List Course) (xs : List Found) → Each (IsLeft src st) [] courses → flat_map (comes_to g) courses ≡ xs → xs ≡ []
  no_courses [] xs stand is = sym is
  no_courses (c ∷ courses) xs stand is = absurd stand

  pub nothing_left : (lefts : List Rest) (xs : List Found) → lefts ≡ [] → Comes src st g lefts xs → xs ≡ []
  nothing_left lefts xs none comes =
      let here = subst (λ ls. Comes src st g ls xs) none comes in
      no_courses here.courses xs here.stand here.is

  pub started : (steps : List Step) (spot : Spot) (x : Found) (pile : List Rest) → IsSpot src st spot x → pile ≡ left_at steps spot ∷ []
      → Comes src st g (reverse pile) (members g steps (x ∷ []))
  started steps spot x pile is put =
      subst (λ ps. Comes src st g (reverse ps) (members g steps (x ∷ []))) (sym put)
      (record {
        courses = course steps x ∷ [];
        stand = (record { steps = refl; spot = is }, tt);
        is = append-nil (members g steps (x ∷ []));
      })

-- of each result that was come to so much was made
module _ {B Y : Type 0} (Q : B → Y → Type 0) (f : Found → List Y) (src : Source) (st : Stored) (g : Grammar) where
  -- with what is made of what is left, this is the whole
  pub record IsUnderWay (lefts : List Rest) (out : List B) (whole : List Y) : Type 0 where
    pub left : List Found
    pub done : List Y
    pub comes : Comes src st g lefts left
    pub made : Each Q out done
    pub is : done ++ flat_map f left ≡ whole

  pub begun : (lefts : List Rest) (out : List B) (xs : List Found) → out ≡ [] → Comes src st g lefts xs → IsUnderWay lefts out (flat_map f xs)
  begun lefts out xs none comes = record { left = xs; done = []; comes = comes; made = subst (λ bs. Each Q bs []) (sym none) tt; is = refl }

  -- one more is made
  pub one_more : (spot : Spot) (lefts more : List Rest) (out to : List B) (whole : List Y) → IsUnderWay lefts out whole
      → ((xs : List Found) → Comes src st g lefts xs → Reaches src st g spot more xs)
      → ((x : Found) (before : List Y) → IsSpot src st spot x → Each Q out before → Each Q to (before ++ f x))
      → IsUnderWay more to whole
  one_more spot lefts more out to whole way go put =
      let r = go way.left way.comes in
      record {
        left = r.more;
        done = way.done ++ f r.next;
        comes = r.comes;
        made = put r.next way.done r.is_spot way.made;
        is = append_assoc way.done (f r.next) (flat_map f r.more) ∙ ap (λ xs. way.done ++ flat_map f xs) (sym r.are) ∙ way.is;
      }

  pub all_made : (lefts : List Rest) (out : List B) (whole : List Y) → IsUnderWay lefts out whole → ((xs : List Found) → Comes src st g lefts xs → xs ≡ [])
      → Each Q out whole
  all_made lefts out whole way none =
      subst (Each Q out) (sym (append-nil way.done) ∙ ap (λ xs. way.done ++ flat_map f xs) (sym (none way.left way.comes)) ∙ way.is) way.made

-- one of each
pub each_alone : (xs : List Found) → flat_map (λ x. x ∷ []) xs ≡ xs
each_alone [] = refl
each_alone (x ∷ xs) = ap (λ ys. x ∷ ys) (each_alone xs)
