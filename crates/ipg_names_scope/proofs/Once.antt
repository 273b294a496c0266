-- Names put into a set one after another.
use Rattle.std.proofs.Common.{◌≡◌, ℕ, ◌+◌, ◌<◌, Bool, true, false, ◌||◌, List, [], ◌∷◌, ◌++◌, length, drop, get_or, flat_map}
use Rattle.std.proofs.Common.{Result, OnOk, Some, None, ◌≤◌, not, nat_lt, arith, map, refl, sym, ap, ◌∙◌, cond, bytes_eq}
use Rattle.std.specs.List.{list_any, position, position_or_len}
use Rattle.std.proofs.lemmas.List.Sums.{prefix_len-le-length}
use Rattle.std.proofs.lemmas.Bool.Decides.{nat_tests}
use denote.Ref.{Bor}
use Rattle.ipg_names_scope.specs.Names.{NameList, once}
use Rattle.std.proofs.lemmas.Result.{on_ok_weaker}
use Rattle.ipg_names_scope.proofs.Lists.{at_item}

pub once_append : (seen xs ys : NameList) → once seen (xs ++ ys) ≡ once (once seen xs) ys
once_append seen [] ys = refl
once_append seen (x ∷ xs) ys = once_append (cond (list_any (bytes_eq x) seen) seen (seen ++ x ∷ [])) xs ys

abbrev names_of : List (Bor (List ℕ)) → NameList
names_of keys = map (λ name. name.now) keys

pub any_shown : (p : List ℕ → Bool) (keys : List (Bor (List ℕ))) → list_any (λ name. p name.now) keys ≡ list_any p (map (λ name. name.now) keys)
any_shown p [] = refl
any_shown p (key ∷ keys) = ap (λ b. p key.now || b) (any_shown p keys)

pub shown_more : (keys : List (Bor (List ℕ))) (key : Bor (List ℕ)) → map (λ name. name.now) (keys ++ key ∷ []) ≡ map (λ name. name.now) keys ++ key.now ∷ []
shown_more [] key = refl
shown_more (k ∷ keys) key = ap (λ names. k.now ∷ names) (shown_more keys key)

pub shown_once : (keys : List (Bor (List ℕ))) (key : Bor (List ℕ))
    → names_of (cond (list_any (λ name. bytes_eq key.now name.now) keys) keys (keys ++ key ∷ [])) ≡ once (names_of keys) (key.now ∷ [])
shown_once keys key = by (list_any (λ name. bytes_eq key.now name.now) keys)
    ∙ ap (λ b. cond b (names_of keys) (names_of keys ++ key.now ∷ [])) (any_shown (bytes_eq key.now) keys)
  where
    by : (b : Bool) → names_of (cond b keys (keys ++ key ∷ [])) ≡ cond b (names_of keys) (names_of keys ++ key.now ∷ [])
    by true = refl
    by false = shown_more keys key

-- names were put in after those that stood there
pub record Put (old piece new : NameList) : Type 0 where
  pub is : new ≡ once old piece

pub then : {old mid new xs ys : NameList} → Put old xs mid → Put mid ys new → Put old (xs ++ ys) new
then {old = old} {xs = xs} {ys = ys} first next = record { is = next.is ∙ ap (λ m. once m ys) first.is ∙ sym (once_append old xs ys) }

-- the same where the last piece may be refused
pub finally : {T E : Type 0} {old mid xs : NameList} (r : Result T E) (new ys all : NameList) → Put old xs mid → xs ++ ys ≡ all
    → OnOk r (new ≡ once mid ys) → OnOk r (new ≡ once old all)
finally {old = old} {xs = xs} r new ys all first whole next =
    on_ok_weaker r (λ e. e ∙ ap (λ m. once m ys) first.is ∙ sym (once_append old xs ys) ∙ ap (once old) whole) next

-- one turn of a loop
pub turn : {A : Type 0} {now : NameList} (f : A → NameList) (items : List A) (i : ℕ) (x : A) (new all : NameList) → x ≡ get_or items i x → i < length items
    → Put now (f x) new → once now (flat_map f (drop i items)) ≡ all → once new (flat_map f (drop (i + 1) items)) ≡ all
turn {now = now} f items i x new all is within more so_far =
    ap (λ n. once n (flat_map f (drop (i + 1) items))) more.is
    ∙ sym (once_append now (f x) (flat_map f (drop (i + 1) items)))
    ∙ ap (λ xs. once now (flat_map f xs)) (sym (at_item items i x is within)) ∙ so_far

-- ---- the number of a name

place_shown : (p : List ℕ → Bool) (keys : List (Bor (List ℕ))) → position_or_len (λ name. p name.now) keys ≡ position_or_len p (names_of keys)
place_shown p [] = refl
place_shown p (key ∷ keys) = ap (λ n. cond (not (p key.now)) (1 + n) 0) (place_shown p keys)

there : (b : Bool) (n at : ℕ) → Some n ≡ cond b (Some at) None → n ≡ at
there true n at e = cc
there false n at e = absurd (cc)

nowhere : (b : Bool) (at : ℕ) → None ≡ cond b (Some at) None → b ≡ false
nowhere true at e = absurd (cc)
nowhere false at e = refl

not_below : (at count : ℕ) → at ≤ count → nat_lt at count ≡ false → count ≡ at
not_below at count h e = grind (arith, nat_tests)

-- found at a place, or nowhere
pub found_there : (name : List ℕ) (keys : List (Bor (List ℕ))) (n : ℕ) → Some n ≡ position (λ key. bytes_eq name key.now) keys
    → n ≡ position_or_len (bytes_eq name) (map (λ key. key.now) keys)
found_there name keys n e = there _ n _ e ∙ place_shown (bytes_eq name) keys

pub found_nowhere : (name : List ℕ) (keys : List (Bor (List ℕ))) → None ≡ position (λ key. bytes_eq name key.now) keys
    → length keys ≡ position_or_len (bytes_eq name) (map (λ key. key.now) keys)
found_nowhere name keys e =
    let test : Bor (List ℕ) → Bool = λ key. not (bytes_eq name key.now) in
    not_below _ _ (prefix_len-le-length test keys) (nowhere _ _ e) ∙ place_shown (bytes_eq name) keys
