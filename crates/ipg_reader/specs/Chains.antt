-- Exact readers, put together.
use Rattle.std.specs.Prelude.{◌≡◌, ℕ, ◌<◌, ◌+◌, ◌^◌, zero, suc, List, [], ◌∷◌, ◌++◌, length, Ok, Err, slice_get, Option, Some, None}
use Rattle.std.specs.List.{flat_map, AllByRecursion}
use Rattle.std.specs.Int.{w64}
use Rattle.std.proofs.Common.{refl, sym, ap, subst, ◌∙◌, append_assoc, add-suc, suc-add, add-zero, zero-add, lit<}
use Rattle.std.proofs.lemmas.Option.{none-some, same_Some}
use Rattle.ipg_reader.specs.Found.{Found, ◌>>=◌, chain, made, both, items_at, list_at, number_at, on_tag, tag_at}
use Rattle.ipg_reader.specs.Exact.{AreBytes, IsAnswer, IsSteady, IsExact}
use Rattle.ipg_reader.specs.Laws.{long_text, AreCounted, list_text, LongAreExact}
use Rattle.ipg_reader.specs.Steadily.{no_error, nothing, chained, made_steadily, both_steadily, items_steadily}

-- ---- what a chain of readers found

abbrev found_in : {A : Type 0} → A × List ℕ → Found A → A × List ℕ
found_in other (Ok x) = x
found_in other (Err left) = other

pub same_found : {A : Type 0} (x y : A × List ℕ) → ◌≡◌ {A = Found A} (Ok x) (Ok y) → x ≡ y
same_found x y e = ap (found_in x) e

pub bind_ok : {A B : Type 0} (o : Found A) (f : A × List ℕ → Found B) (y : B × List ℕ) → (o >>= f) ≡ Ok y → (x : A × List ℕ) × (o ≡ Ok x) × (f x ≡ Ok y)
bind_ok (Ok x) f y e = (x, refl, e)
bind_ok (Err left) f y e = absurd (no_error left y e)

pub behind : (xs ys : List ℕ) → AreBytes (xs ++ ys) → AreBytes ys
behind [] ys are = are
behind (x ∷ xs) ys are = behind xs ys are.1

pub left_are : (bytes taken left : List ℕ) → AreBytes bytes → bytes ≡ taken ++ left → AreBytes left
left_are bytes taken left are splits = behind taken left (subst AreBytes splits are)

-- ---- what is made of one value

pub made_sound : {A B : Type 0} (make : A → B) (P : A → Type 0) (Q : B → Type 0) (s : A → List ℕ) (t : B → List ℕ) (f : List ℕ → Found A)
    → IsExact P s f → ((a : A) → P a → Q (make a)) → ((a : A) → P a → t (make a) ≡ s a) → (bytes left : List ℕ) (b : B) → AreBytes bytes
    → made make f bytes ≡ Ok (b, left) → Q b × (bytes ≡ t b ++ left)
made_sound make P Q s t f one holds spelled bytes left b are e =
    let (x, is, ends) = bind_ok (f bytes) (λ x. Ok (make x.0, x.1)) (b, left) e in
    let same = same_found (make x.0, x.1) (b, left) ends in
    let told = one.sound bytes x.1 x.0 are is in
    subst (λ y. Q y.0 × (bytes ≡ t y.0 ++ y.1)) same (holds x.0 told.0, told.1 ∙ ap (λ w. w ++ x.1) (sym (spelled x.0 told.0)))

pub made_again : {A B : Type 0} (make : A → B) (P : A → Type 0) (s : A → List ℕ) (f : List ℕ → Found A) → IsExact P s f
    → (a : A) (more : List ℕ) → P a → made make f (s a ++ more) ≡ Ok (make a, more)
made_again make P s f one a more p = ap (λ o. o >>= λ x. Ok (make x.0, x.1)) (one.again a more p)

-- each value is made of one that is read
pub exact_made : {A B : Type 0} (make : A → B) (P : A → Type 0) (Q : B → Type 0) (s : A → List ℕ) (t : B → List ℕ) (f : List ℕ → Found A)
    → IsExact P s f → ((a : A) → P a → Q (make a)) → ((a : A) → P a → t (make a) ≡ s a) → ((b : B) → Q b → (a : A) × P a × (make a ≡ b))
    → IsExact Q t (made make f)
exact_made make P Q s t f one holds spelled parts = record {
  steady = made_steadily make f one.steady;
  sound = made_sound make P Q s t f one holds spelled;
  again = λ b more q.
      let (a, p, is) = parts b q in
      ap (λ w. made make f (w ++ more)) (ap t (sym is) ∙ spelled a p) ∙ made_again make P s f one a more p ∙ ap (λ v. Ok (v, more)) is;
}

-- ---- two values

module _ {A B : Type 0} (P : A → Type 0) (Q : B → Type 0) (s : A → List ℕ) (t : B → List ℕ) (f : List ℕ → Found A) (g : List ℕ → Found B)
    (one : IsExact P s f) (other : IsExact Q t g) where
  abbrev AreBoth : A × B → Type 0
  AreBoth x = P x.0 × Q x.1

  abbrev both_text : A × B → List ℕ
  both_text x = s x.0 ++ t x.1

  both_sound : (bytes left : List ℕ) (ab : A × B) → AreBytes bytes → both f g bytes ≡ Ok (ab, left) → AreBoth ab × (bytes ≡ both_text ab ++ left)
  both_sound bytes left ab are e =
      let (x, is, ends) = bind_ok (f bytes) (λ x. g x.1 >>= λ y. Ok ((x.0, y.0), y.1)) (ab, left) e in
      let first = one.sound bytes x.1 x.0 are is in
      let rest = left_are bytes (s x.0) x.1 are first.1 in
      let (y, was, last) = bind_ok (g x.1) (λ y. Ok ((x.0, y.0), y.1)) (ab, left) ends in
      let told = other.sound x.1 y.1 y.0 rest was in
      subst (λ z. AreBoth z.0 × (bytes ≡ both_text z.0 ++ z.1)) (same_found ((x.0, y.0), y.1) (ab, left) last)
      ((first.0, told.0), first.1 ∙ ap (λ l. s x.0 ++ l) told.1 ∙ sym (append_assoc (s x.0) (t y.0) y.1))

  both_again : (ab : A × B) (more : List ℕ) → AreBoth ab → both f g (both_text ab ++ more) ≡ Ok (ab, more)
  both_again ab more are =
      ap (both f g) (append_assoc (s ab.0) (t ab.1) more)
      ∙ ap (λ o. o >>= λ x. g x.1 >>= λ y. Ok ((x.0, y.0), y.1)) (one.again ab.0 (t ab.1 ++ more) are.0)
      ∙ ap (λ o. o >>= λ y. Ok ((ab.0, y.0), y.1)) (other.again ab.1 more are.1)

  pub exact_both : IsExact AreBoth both_text (both f g)
  exact_both = record { steady = both_steadily f g one.steady other.steady; sound = both_sound; again = both_again }

-- ---- lists

module _ {A : Type 0} (P : A → Type 0) (s : A → List ℕ) (f : List ℕ → Found A) (one : IsExact P s f) where
  abbrev AreItems : ℕ → List A → Type 0
  AreItems n xs = (length xs ≡ n) × AllByRecursion P xs

  items_sound : (n : ℕ) (bytes left : List ℕ) (xs : List A) → AreBytes bytes → items_at f n bytes ≡ Ok (xs, left)
      → AreItems n xs × (bytes ≡ flat_map s xs ++ left)
  items_sound zero bytes left xs are e =
      subst (λ z. AreItems 0 z.0 × (bytes ≡ flat_map s z.0 ++ z.1)) (same_found ([], bytes) (xs, left) e) ((refl, tt), refl)
  items_sound (suc n) bytes left xs are e =
      let (x, is, ends) = bind_ok (f bytes) (λ x. items_at f n x.1 >>= λ ys. Ok (x.0 ∷ ys.0, ys.1)) (xs, left) e in
      let first = one.sound bytes x.1 x.0 are is in
      let rest = left_are bytes (s x.0) x.1 are first.1 in
      let (ys, was, last) = bind_ok (items_at f n x.1) (λ ys. Ok (x.0 ∷ ys.0, ys.1)) (xs, left) ends in
      let told = items_sound n x.1 ys.1 ys.0 rest was in
      subst (λ z. AreItems (suc n) z.0 × (bytes ≡ flat_map s z.0 ++ z.1)) (same_found (x.0 ∷ ys.0, ys.1) (xs, left) last)
      ((ap suc told.0.0, (first.0, told.0.1)), first.1 ∙ ap (λ l. s x.0 ++ l) told.1 ∙ sym (append_assoc (s x.0) (flat_map s ys.0) ys.1))

  items_again : (xs : List A) (more : List ℕ) → AllByRecursion P xs → items_at f (length xs) (flat_map s xs ++ more) ≡ Ok (xs, more)
  items_again [] more are = refl
  items_again (x ∷ xs) more are =
      ap (items_at f (suc (length xs))) (append_assoc (s x) (flat_map s xs) more)
      ∙ ap (λ o. o >>= λ y. items_at f (length xs) y.1 >>= λ ys. Ok (y.0 ∷ ys.0, ys.1)) (one.again x (flat_map s xs ++ more) are.0)
      ∙ ap (λ o. o >>= λ ys. Ok (x ∷ ys.0, ys.1)) (items_again xs more are.1)

  module _ (long : LongAreExact) where
    list_sound : (bytes left : List ℕ) (xs : List A) → AreBytes bytes → list_at f bytes ≡ Ok (xs, left) → AreCounted P xs × (bytes ≡ list_text s xs ++ left)
    unfolding list_at
    list_sound bytes left xs are e =
        let (n, is, ends) = bind_ok (number_at w64 bytes) (λ n. items_at f n.0 n.1) (xs, left) e in
        let count = long.sound bytes n.1 n.0 are is in
        let told = items_sound n.0 n.1 left xs (left_are bytes (long_text n.0) n.1 are count.1) ends in (
          (subst (λ k. k < 2 ^ 64) (sym told.0.0) count.0, told.0.1),
          count.1 ∙ ap (λ k. long_text k ++ n.1) (sym told.0.0) ∙ ap (λ l. long_text (length xs) ++ l) told.1
              ∙ sym (append_assoc (long_text (length xs)) (flat_map s xs) left),
        )

    list_again : (xs : List A) (more : List ℕ) → AreCounted P xs → list_at f (list_text s xs ++ more) ≡ Ok (xs, more)
    unfolding list_at
    list_again xs more are =
        ap (λ w. number_at w64 w >>= λ n. items_at f n.0 n.1) (append_assoc (long_text (length xs)) (flat_map s xs) more)
        ∙ ap (λ o. o >>= λ n. items_at f n.0 n.1) (long.again (length xs) (flat_map s xs ++ more) are.0)
        ∙ items_again xs more are.1

    list_steadily : IsSteady (list_at f)
    unfolding list_at
    list_steadily = chained (number_at w64) (items_at f) long.steady (items_steadily f one.steady)

    pub exact_list : IsExact (AreCounted P) (list_text s) (list_at f)
    exact_list = record { steady = list_steadily; sound = list_sound; again = list_again }

-- ---- values told apart by a tag

-- the tags of a table stand at their places, from n on
abbrev pub AreInPlace : {T : Type 0} → (T → ℕ) → ℕ → List T → Type 0
AreInPlace place n [] = Unit {0}
AreInPlace place n (tag ∷ tags) = (place tag ≡ n) × AreInPlace place (suc n) tags

-- what a reader finds behind a byte is spelled with that byte
pub record IsBehind {A : Type 0} (Is : A → Type 0) (spell : A → List ℕ) (byte : ℕ) (read : List ℕ → Found A) : Type 0 where
  pub steady : IsSteady read
  pub sound : (bytes left : List ℕ) (a : A) → AreBytes bytes → read bytes ≡ Ok (a, left) → Is a × (byte ∷ bytes ≡ spell a ++ left)

pub behind_made : {A B : Type 0} (make : A → B) (P : A → Type 0) (Is : B → Type 0) (s : A → List ℕ) (spell : B → List ℕ) (byte : ℕ) (f : List ℕ → Found A)
    → IsExact P s f → ((a : A) → P a → Is (make a)) → ((a : A) → P a → spell (make a) ≡ byte ∷ s a) → IsBehind Is spell byte (made make f)
behind_made make P Is s spell byte f one holds spelled = record {
  steady = made_steadily make f one.steady;
  sound = λ bytes left b are e.
      let (x, is, ends) = bind_ok (f bytes) (λ x. Ok (make x.0, x.1)) (b, left) e in
      let told = one.sound bytes x.1 x.0 are is in
      subst (λ y. Is y.0 × (byte ∷ bytes ≡ spell y.0 ++ y.1)) (same_found (make x.0, x.1) (b, left) ends)
      (holds x.0 told.0, ap (λ w. byte ∷ w) told.1 ∙ ap (λ w. w ++ x.1) (sym (spelled x.0 told.0)));
}

-- a tag behind which nothing stands
pub behind_nothing : {A : Type 0} (a : A) (Is : A → Type 0) (spell : A → List ℕ) (byte : ℕ) → Is a → spell a ≡ byte ∷ []
    → IsBehind Is spell byte (λ bytes. Ok (a, bytes))
behind_nothing a Is spell byte is spelled = record {
  steady = nothing a;
  sound = λ bytes left b are e.
      subst (λ y. Is y.0 × (byte ∷ bytes ≡ spell y.0 ++ y.1)) (same_found (a, bytes) (b, left) e) (is, ap (λ w. w ++ bytes) (sym spelled));
}

module _ {T : Type 0} (first : T) (others : List T) (place : T → ℕ) (in_place : AreInPlace place 0 (first ∷ others)) where
  abbrev table : List T
  table = first ∷ others

  placed : (tags : List T) (n b : ℕ) (tag : T) → AreInPlace place n tags → slice_get tags b ≡ Some tag → place tag ≡ b + n
  placed [] n b tag are e = absurd (none-some tag e)
  placed (t ∷ tags) n zero tag are e = sym (ap place (same_Some t tag e)) ∙ are.0 ∙ sym (zero-add n)
  placed (t ∷ tags) n (suc b) tag are e = placed tags (suc n) b tag are.1 e ∙ add-suc b n ∙ sym (suc-add b n)

  on_found : (o : Option T) (b : ℕ) (bytes : List ℕ) (x : T × List ℕ) → slice_get table b ≡ o → on_tag o b bytes ≡ Ok x → b ∷ bytes ≡ place x.0 ∷ x.1
  on_found None b bytes x is e = absurd (no_error (b ∷ bytes) x e)
  on_found (Some t) b bytes x is e =
      let at : place t ≡ b = placed table 0 b t in_place is ∙ add-zero b in
      subst (λ y. b ∷ bytes ≡ place y.0 ∷ y.1) (same_found (t, bytes) x e) (ap (λ c. c ∷ bytes) (sym at))

  tag_found : (bytes : List ℕ) (x : T × List ℕ) → tag_at table bytes ≡ Ok x → bytes ≡ place x.0 ∷ x.1
  tag_found [] x e = absurd (no_error [] x e)
  tag_found (b ∷ bytes) x e = on_found (slice_get table b) b bytes x refl e

  at_tag : (o : Option T) (b : ℕ) (bytes : List ℕ) → slice_get table b ≡ o → IsAnswer (tag_at table) (b ∷ bytes) (on_tag o b bytes)
  at_tag (Some t) b bytes is = record { taken = b ∷ []; splits = refl; again = λ more. ap (λ o. on_tag o b more) is }
  at_tag None b bytes is = record {
    taken = [];
    splits = refl;
    stays = λ more. ap (λ o. on_tag o b more) is;
    others = 0 ∷ [];
    are_bytes = (lit< tt, tt);
    value = first;
    found = refl;
  }

  at_bytes : (bytes : List ℕ) → IsAnswer (tag_at table) bytes (tag_at table bytes)
  at_bytes [] = record { taken = []; splits = refl; stays = tt; others = 0 ∷ []; are_bytes = (lit< tt, tt); value = first; found = refl }
  at_bytes (b ∷ bytes) = at_tag (slice_get table b) b bytes refl

  tags_steadily : IsSteady (tag_at table)
  tags_steadily = record { each = at_bytes; some = 0 ∷ []; are_bytes = (lit< tt, tt); value = first; found = refl }

  -- tags by themselves, where each is in the table
  pub exact_tag : ((tag : T) → slice_get table (place tag) ≡ Some tag) → IsExact (λ tag. Unit {0}) (λ tag. place tag ∷ []) (tag_at table)
  exact_tag there = record {
    steady = tags_steadily;
    sound = λ bytes left tag are e. (tt, tag_found bytes (tag, left) e);
    again = λ tag more is. ap (λ o. on_tag o (place tag) more) (there tag);
  }

  module _ {A : Type 0} (Is : A → Type 0) (spell : A → List ℕ) (fields : T → List ℕ → Found A)
      (each : (tag : T) → IsBehind Is spell (place tag) (fields tag)) where
    tagged_sound : (bytes left : List ℕ) (a : A) → AreBytes bytes → chain (tag_at table) fields bytes ≡ Ok (a, left) → Is a × (bytes ≡ spell a ++ left)
    tagged_sound bytes left a are e =
        let (x, is, ends) = bind_ok (tag_at table bytes) (λ x. fields x.0 x.1) (a, left) e in
        let splits = tag_found bytes x is in
        let told = (each x.0).sound x.1 left a (left_are bytes (place x.0 ∷ []) x.1 are splits) ends in
        (told.0, splits ∙ told.1)

    -- where each value is found again behind its tag
    pub exact_tagged : ((a : A) (more : List ℕ) → Is a → chain (tag_at table) fields (spell a ++ more) ≡ Ok (a, more))
        → IsExact Is spell (chain (tag_at table) fields)
    exact_tagged again = record {
      steady = chained (tag_at table) fields tags_steadily (λ tag. (each tag).steady);
      sound = tagged_sound;
      again = again;
    }
