-- A search's moves, one after another.
use Rattle.std.proofs.Common.{◌≡◌, ◌<◌, ℕ, List, [], ◌∷◌, ◌++◌, refl, sym, ap, ◌∙◌, subst}
use Rattle.ipg_graph.specs.Place.{IsSame}
use Rattle.ipg_graph.specs.Search.{place, left_of, Aims, GoesOn, ClosesAt, IsFound, Finds, FindsNone, Resumes, IsKept}
use Rattle.ipg_graph.specs.Search.{KeepsIn, IsNextFound, HasNothing, spot, spot_in, left_in, left_path, listing}
use Rattle.ipg_graph.specs.declared.search.State.TheVariants as state
use Rattle.ipg_graph.specs.Answers.{Start, At, End, IsAfter, IsNext, last_of, IsNextAnswer, IsLastAnswer}
use Rattle.ipg_graph.specs.Cycle.{StandsUpTo}
use Rattle.ipg_graph.specs.Walk.{run, step, Fresh, Closes}
use Rattle.ipg_graph.proofs.WalkLemmas.{run-push}
use Rattle.ipg_graph.proofs.CycleLemmas.{closes-simple, simple-closes}
use Rattle.ipg_graph.proofs.PlaceLemmas.{upto-refl}
use Rattle.std.proofs.lemmas.Bool.{cases_eq}
use Rattle.ipg_graph.specs.declared.search.Search.{Search}
use Rattle.ipg_graph.specs.Place.{left}
use Rattle.ipg_graph.specs.Graph.{Graph}
use Rattle.std.proofs.Common.{length, ◌+◌, inl, inr, arith}

aims-place : (old mid : Search) → Aims old mid → place mid ≡ place old
aims-place old mid a = ap (λ p. p.items ++ mid.cursor ∷ []) a.path ∙ ap (λ n. old.path.items ++ n ∷ []) a.cursor

pub aims-closes : (old mid new : Search) → Aims old mid → ClosesAt mid new → ClosesAt old new
aims-closes old mid new a h = record { links = h.links ∙ a.links; path = h.path ∙ aims-place old mid a; found = h.found }

pub aims-goes : (old mid new : Search) → Aims old mid → GoesOn mid new → GoesOn old new
aims-goes old mid new a h = record {
  links = h.links ∙ a.links;
  ready = h.ready;
  same = subst (λ p. IsSame old.links p (place new)) (aims-place old mid a) (subst (λ (g : Graph). IsSame g (place mid) (place new)) a.links h.same);
  less = subst (λ n. left_of new < n)
      (ap (λ (g : Graph). left (length g.callers) (g.rules + 2) (place mid)) a.links
      ∙ ap (left (length old.links.callers) (old.links.rules + 2)) (aims-place old mid a)) h.less;
}

pub found-closes : (s : Search) → IsFound s → Closes s.links s.path.items
unfolding run
found-closes s f = subst (Closes s.links) (sym f.path)
    (run-push s.links Fresh f.walked f.last ∙ (ap (λ x. step s.links x f.last) f.walk.runs ∙ f.closes))

-- each cycle stands at the first place or behind it
root-upto : (g : Graph) (d : List ℕ) → Closes g d → StandsUpTo (0 ∷ []) d
unfolding run
root-upto g [] h = cc
root-upto g (y ∷ d) h = elim (cases_eq 0 y) [ inl e ↦ inr (e, tt) | inr ne ↦ inl (omega arith) ]

kept-found : (s : Search) → s.state ≡ state.Found → IsFound s → IsKept s
kept-found s is f = subst (λ t. KeepsIn t s) (sym is) f

closes-over : (old new : Search) → new.links ≡ old.links → IsFound new → Closes old.links new.path.items
closes-over old new same f = subst (λ (g : Graph). Closes g new.path.items) same (found-closes new f)

spot-start : (s : Search) → s.state ≡ state.Start → spot s ≡ Start
spot-start s is = ap (λ t. spot_in t s.path.items) is

spot-found : (s : Search) → s.state ≡ state.Found → spot s ≡ At s.path.items
spot-found s is = ap (λ t. spot_in t s.path.items) is

spot-end : (s : Search) → s.state ≡ state.End → spot s ≡ End
spot-end s is = ap (λ t. spot_in t s.path.items) is

begun : (old : Search) → old.state ≡ state.Start → IsKept old → place old ≡ 0 ∷ []
begun old is kept = (let k : KeepsIn state.Start old = subst (λ t. KeepsIn t old) is kept in k).1

less-in : (old new : Search) (n : ℕ) → left_in old.state old ≡ n → new.state ≡ state.Found → left_path new < n → left_in new.state new < left_in old.state old
less-in old new n is found h = subst (λ t. left_in t new < left_in old.state old) (sym found) (subst (λ k. left_path new < k) (sym is) h)

pub next-start : (old new : Search) → old.state ≡ state.Start → IsKept old → Finds old new → IsNextFound old new
next-start old new is kept f = record {
  links = f.links;
  state = f.state;
  kept = kept-found new f.state f.found;
  closes = closes-over old new f.links f.found;
  after = subst (λ t. IsAfter t new.path.items) (sym (spot-start old is)) tt;
  first = λ d closes after. f.same.on d closes (rw (begun old is kept) (root-upto old.links d closes));
  less = less-in old new (left_of old + 1) (ap (λ t. left_in t old) is) f.state (omega (arith, f.less));
}

pub none-start : (old new : Search) → old.state ≡ state.Start → IsKept old → FindsNone old new → HasNothing old new
none-start old new is kept f = record {
  links = f.links;
  state = f.state;
  none = λ d closes after. f.none d closes (rw (begun old is kept) (root-upto old.links d closes));
}

pub next-found : (old mid new : Search) → old.state ≡ state.Found → Resumes old mid → Finds mid new → IsNextFound old new
next-found old mid new is r f =
    let same : IsSame old.links (place mid) new.path.items = subst (λ (g : Graph). IsSame g (place mid) new.path.items) r.links f.same in
    let closes : Closes old.links new.path.items = closes-over old new (f.links ∙ r.links) f.found in
    record {
      links = f.links ∙ r.links;
      state = f.state;
      kept = kept-found new f.state f.found;
      closes = closes;
      after = subst (λ t. IsAfter t new.path.items) (sym (spot-found old is))
          (r.behind.back new.path.items closes (same.back new.path.items closes (upto-refl new.path.items)));
      first = λ d is_cycle after. same.on d is_cycle (r.behind.on d is_cycle (subst (λ t. IsAfter t d) (spot-found old is) after));
      less = less-in old new (left_path old) (ap (λ t. left_in t old) is) f.state (omega (arith, f.less, r.less));
    }

pub none-found : (old mid new : Search) → old.state ≡ state.Found → Resumes old mid → FindsNone mid new → HasNothing old new
none-found old mid new is r f = record {
  links = f.links ∙ r.links;
  state = f.state;
  none = λ d closes after. f.none d (subst (λ (g : Graph). Closes g d) (sym r.links) closes)
      (r.behind.on d closes (subst (λ t. IsAfter t d) (spot-found old is) after));
}

pub none-end : (old : Search) → old.state ≡ state.End → HasNothing old old
none-end old is = record { links = refl; state = is; none = λ d closes after. subst (λ t. IsAfter t d) (spot-end old is) after }

-- in the words of callers
pub next-answer : (old new : Search) → IsNextFound old new → IsNextAnswer (listing old) (listing new)
next-answer old new f =
    let at : spot new ≡ At new.path.items = spot-found new f.state in
    let last : last_of (spot new) ≡ new.path.items = ap last_of at in
    record {
      at = at ∙ ap At (sym last);
      next = subst (λ l. IsNext old.links (spot old) l) (sym last) record {
        cycle = closes-simple old.links new.path.items f.closes;
        after = f.after;
        first = λ d is after. f.first d (simple-closes old.links d is) after;
      };
      less = f.less;
    }

pub last-answer : (old new : Search) → HasNothing old new → IsLastAnswer (listing old) (listing new)
last-answer old new f = record {
  at = spot-end new f.state;
  none = record { none = λ d is after. f.none d (simple-closes old.links d is) after };
}
