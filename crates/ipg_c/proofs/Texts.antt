-- Words that are read one after another.
use Rattle.std.proofs.Common.{◌≡◌, refl, sym, ap, ◌∙◌, List, [], ◌∷◌, ◌++◌, append_assoc, append-nil, Bool, true, false, ℕ, if◌then◌else◌, ◌&&◌}
use Rattle.std.specs.List.{list_all}
use Rattle.std.proofs.Common.{drop, length, ◌<◌, ◌+◌, suc, arith, get_or}
use Rattle.std.proofs.Math.Seq.{drop-cons}
use Rattle.std.specs.Str.{is_utf8, IsUtf8}
use Rattle.std.proofs.lemmas.Str.{IsUtf8-from_is_utf8, is_utf8-from_IsUtf8}
use Rattle.ipg_c.specs.declared.words.Word.{Word}
use Rattle.ipg_c.specs.Handed.{words_of, read_words}

-- those that were read, and the rest, where that is text
abbrev pub read_rest : List (List ℕ) → List (List ℕ) → List (List ℕ)
read_rest done rest = if list_all is_utf8 rest then done ++ rest else []

pub one_more : (done rest : List (List ℕ)) (word : List ℕ) → is_utf8 word ≡ true → read_rest (done ++ word ∷ []) rest ≡ read_rest done (word ∷ rest)
one_more done rest word e =
    ap (λ (words : List (List ℕ)). if list_all is_utf8 rest then words else []) (append_assoc done (word ∷ []) rest)
    ∙ sym (ap (λ (b : Bool). if b && list_all is_utf8 rest then done ++ word ∷ rest else []) e)

pub no_more : (done rest : List (List ℕ)) (word : List ℕ) → is_utf8 word ≡ false → [] ≡ read_rest done (word ∷ rest)
no_more done rest word e = sym (ap (λ (b : Bool). if b && list_all is_utf8 rest then done ++ word ∷ rest else []) e)

pub all_read : (done : List (List ℕ)) → done ≡ read_rest done []
all_read done = sym (append-nil done)

-- ---- in a list of words that a caller hands over

decided : (b : Bool) → (b ≡ true → ⊥) → b ≡ false
decided true h = absurd (h refl)
decided false h = refl

no_text : (bytes : List ℕ) → (IsUtf8 bytes → ⊥) → is_utf8 bytes ≡ false
no_text bytes h = decided (is_utf8 bytes) (λ e. h (IsUtf8-from_is_utf8 bytes e))

here : (words : List Word) (i : ℕ) (d : Word) → i < length words
    → words_of (drop i words) ≡ (get_or words i d).bytes.now ∷ words_of (drop (i + 1) words)
here words i d less =
    ap words_of (drop-cons words i d less ∙ ap (λ n. get_or words i d ∷ drop n words) (let h : suc i ≡ i + 1 = omega arith in h))

pub err_step : (words : List Word) (i : ℕ) (d : Word) (done : List (List ℕ)) → i < length words → (IsUtf8 (get_or words i d).bytes.now → ⊥)
    → read_rest done (words_of (drop i words)) ≡ read_words (words_of words) → [] ≡ read_words (words_of words)
err_step words i d done less none e =
    no_more done (words_of (drop (i + 1) words)) ((get_or words i d).bytes.now) (no_text ((get_or words i d).bytes.now) none)
    ∙ ap (read_rest done) (sym (here words i d less)) ∙ e

pub ok_step : (words : List Word) (i : ℕ) (d : Word) (done : List (List ℕ)) (text : List ℕ) → i < length words → IsUtf8 (get_or words i d).bytes.now
    → text ≡ (get_or words i d).bytes.now → read_rest done (words_of (drop i words)) ≡ read_words (words_of words)
    → read_rest (done ++ text ∷ []) (words_of (drop (i + 1) words)) ≡ read_words (words_of words)
ok_step words i d done text less is same e =
    ap (λ t. read_rest (done ++ t ∷ []) (words_of (drop (i + 1) words))) same
    ∙ one_more done (words_of (drop (i + 1) words)) ((get_or words i d).bytes.now) (is_utf8-from_IsUtf8 ((get_or words i d).bytes.now) is)
    ∙ ap (read_rest done) (sym (here words i d less)) ∙ e
