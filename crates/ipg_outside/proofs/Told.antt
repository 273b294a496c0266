-- What a list of files tells.
use Rattle.std.proofs.Common.{◌≡◌, ℕ, suc, ◌+◌, ◌<◌, Bool, true, false, cond, List, [], ◌∷◌, ◌++◌, length}
use Rattle.std.proofs.Common.{get_or, drop, map, refl, sym, ap, subst, ◌∙◌, add-one, drop-cons}
use Rattle.std.specs.Str.{bytes_eq}
use Rattle.std.specs.String.{string_bytes}
use Rattle.ipg_outside.specs.Files.{Told, absent, holds}
use Rattle.ipg_outside.specs.Shelf.{told_in, told_in_from, told_after, bytes_told, bytes_in}
use Rattle.ipg_outside.specs.Stored.{name_and_bytes}
use Rattle.ipg_outside.specs.declared.stored.StoredFile.{StoredFile}

-- the last file goes first
pub told-append : (name : List ℕ) (others : Told) (files : List (List ℕ × List ℕ)) (file : List ℕ × List ℕ)
    → told_in_from name others (files ++ file ∷ []) ≡ told_after name (told_in_from name others files) file
told-append name others [] file = refl
told-append name others (f ∷ files) file = told-append name (told_after name others f) files file

-- a file was added
pub told-added : (name : List ℕ) (before after : List (List ℕ × List ℕ)) (file : List ℕ × List ℕ) → after ≡ before ++ file ∷ []
    → told_in name after ≡ told_after name (told_in name before) file
told-added name before after file e = ap (told_in name) e ∙ told-append name absent before file

-- either the new bytes or those of before
pub bytes-chosen : (b : Bool) (bytes : List ℕ) (others : Told) → bytes_told (cond b (holds bytes) others) ≡ cond b bytes (bytes_told others)
bytes-chosen true bytes others = refl
bytes-chosen false bytes others = refl

pub bytes-added : (name : List ℕ) (before after : List (List ℕ × List ℕ)) (file : List ℕ × List ℕ) → after ≡ before ++ file ∷ []
    → bytes_in name after ≡ cond (bytes_eq name file.0) file.1 (bytes_in name before)
bytes-added name before after file e = ap bytes_told (told-added name before after file e) ∙ bytes-chosen (bytes_eq name file.0) file.1 (told_in name before)

-- one file more is read
pub told-step : (name : List ℕ) (others : Told) (files : List StoredFile) (i : ℕ) (file : StoredFile) → i < length files → file ≡ get_or files i file
    → told_in_from name others (map name_and_bytes (drop i files))
    ≡ told_in_from name (told_after name others (name_and_bytes file)) (map name_and_bytes (drop (i + 1) files))
told-step name others files i file h e =
    ap (λ t. told_in_from name others (map name_and_bytes t)) (drop-cons files i file h)
    ∙ ap (λ t. told_in_from name (told_after name others (name_and_bytes t)) (map name_and_bytes (drop (suc i) files))) (sym e)
    ∙ ap (λ k. told_in_from name (told_after name others (name_and_bytes file)) (map name_and_bytes (drop k files))) (sym (add-one i))

-- it has the name
pub told-found : (name bytes : List ℕ) (others told : Told) (files : List StoredFile) (i : ℕ) (file : StoredFile) → i < length files
    → file ≡ get_or files i file
    → bytes_eq name (string_bytes file.name) ≡ true → bytes ≡ file.bytes.items
    → told_in_from name others (map name_and_bytes (drop i files)) ≡ told → told_in_from name (holds bytes) (map name_and_bytes (drop (i + 1) files)) ≡ told
told-found name bytes others told files i file h e same b t =
    let P : Bool → Type 0 = λ v. told_in_from name (cond v (holds file.bytes.items) others) (map name_and_bytes (drop (i + 1) files)) ≡ told in
    rw b (subst P same (sym (told-step name others files i file h e) ∙ t))

-- it has another name
pub told-passed : (name : List ℕ) (others told : Told) (files : List StoredFile) (i : ℕ) (file : StoredFile) → i < length files → file ≡ get_or files i file
    → bytes_eq name (string_bytes file.name) ≡ false
    → told_in_from name others (map name_and_bytes (drop i files)) ≡ told → told_in_from name others (map name_and_bytes (drop (i + 1) files)) ≡ told
told-passed name others told files i file h e other t =
    let P : Bool → Type 0 = λ v. told_in_from name (cond v (holds file.bytes.items) others) (map name_and_bytes (drop (i + 1) files)) ≡ told in
    subst P other (sym (told-step name others files i file h e) ∙ t)
