-- Known bytes of readers and writers over several calls.
use Rattle.std.proofs.Common.{◌≡◌, ℕ, ◌+◌, ◌≤◌, ◌⊎◌, inl, inr, List, [], ◌∷◌, ◌++◌, length, take, drop, Option, None, Some}
use Rattle.std.proofs.Common.{suc, ◌<◌, Result, Ok, Err, IfOk, IfErr, Vec, Global, get_or, length-take, Fits as IsBelow, w8}
use Rattle.std.proofs.Common.{refl, sym, ap, subst, ◌∙◌, arith, append_assoc, append-nil, take-append-drop}
use Rattle.std.proofs.lemmas.Grind.{common_steps}
use Rattle.std.specs.Io.KnownBytes.{Keeps, Appends, Consumes, IsAtEnd}
use Rattle.ipg_outside.specs.Sink.{AppendsPart}
use Rattle.ipg_outside.specs.Files.{Told, untold, AreBytes, ReadWhole, ReadCut, IfTooLarge, Moves, told_by}
use Rattle.ipg_outside.specs.declared.files.FileFault.{FileFault}
use Rattle.ipg_outside.specs.declared.files.FileFault.TheVariants.{Failed, TooLarge, Memory}

pub appends-more : (a b c : Option (List ℕ)) (xs ys : List ℕ) → Appends a b xs → Appends b c ys → Appends a c (xs ++ ys)
appends-more None b c xs ys p q = tt
appends-more (Some a) None c xs ys p q = absurd p
appends-more (Some a) (Some b) None xs ys p q = absurd q
appends-more (Some a) (Some b) (Some c) xs ys p q = rw (q, p) (append_assoc a xs ys)

pub appends-none : (a b : Option (List ℕ)) → Keeps a b → Appends a b []
appends-none None b p = tt
appends-none (Some a) None p = absurd p
appends-none (Some a) (Some b) p = rw p (sym (append-nil _))

-- a piece falls into what was appended and the rest
abbrev pub Split : Option (List ℕ) → Option (List ℕ) → List ℕ → List ℕ → Type 0
Split before after piece rest = (done : List ℕ) × (piece ≡ done ++ rest) × Appends before after done

-- one write more
pub split-more : (a b c : Option (List ℕ)) (piece rest : List ℕ) (n : ℕ) → Split a b piece rest → Appends b c (take n rest) → Split a c piece (drop n rest)
split-more a b c piece rest n s q = (
  s.0 ++ take n rest,
  s.1 ∙ ap (λ t. s.0 ++ t) (sym (take-append-drop n rest)) ∙ sym (append_assoc s.0 (take n rest) (drop n rest)),
  appends-more a b c _ _ s.2 q,
)

-- a write that failed
pub split-same : (a b c : Option (List ℕ)) (piece rest : List ℕ) → Split a b piece rest → Keeps b c → Split a c piece rest
split-same a b c piece rest s q =
    (s.0, s.1, let P : List ℕ → Type 0 = λ t. Appends a c t in subst P (append-nil _) (appends-more a b c s.0 [] s.2 (appends-none b c q)))

-- what was appended begins the piece
pub part-from_split : (a b : Option (List ℕ)) (piece rest : List ℕ) → Split a b piece rest → AppendsPart a b piece
part-from_split None b piece rest s = tt
part-from_split (Some a) None piece rest s = absurd s.2
part-from_split (Some a) (Some b) piece rest s = ((s.0, s.2), (rest, rw (s.1, s.2) (sym (append_assoc a s.0 rest))))

-- no rest is left
pub whole-from_split : (a b : Option (List ℕ)) (piece rest : List ℕ) → Split a b piece rest → rest ≡ [] → Appends a b piece
whole-from_split a b piece rest s e =
    let P : List ℕ → Type 0 = λ t. Appends a b t in
    subst P (sym (s.1 ∙ ap (λ t. s.0 ++ t) e ∙ append-nil _)) s.2

pub consumes-none : (a : Option (List ℕ)) → Consumes a a []
consumes-none None = tt
consumes-none (Some a) = refl

pub consumes-more : (a b c : Option (List ℕ)) (xs ys : List ℕ) → Consumes a b xs → Consumes b c ys → Consumes a c (xs ++ ys)
consumes-more None b c xs ys p q = tt
consumes-more (Some a) None c xs ys p q = absurd p
consumes-more (Some a) (Some b) None xs ys p q = absurd q
consumes-more (Some a) (Some b) (Some c) xs ys p q = rw (p, q) (sym (append_assoc xs ys c))

-- one read more
pub moves-more : (a b c : Option (List ℕ)) (old new : List ℕ) → Consumes a b old → Moves b c old new → Consumes a c new
moves-more a b c old new p m =
    let P : List ℕ → Type 0 = λ t. Consumes a c t in subst P (sym m.2) (consumes-more a b c old m.0 p m.1)

-- what the type of a list of bytes says of it
abbrev pub Below : List ℕ → Type 0
Below xs = (i : ℕ) → IsBelow w8 (get_or xs i 0)

pub bytes_below : (xs : List ℕ) → Below xs → AreBytes xs
bytes_below [] below = tt
bytes_below (b ∷ xs) below = (let here = below 0 in omega arith, bytes_below xs (λ i. below (suc i)))

-- a reader that gave all its bytes
pub read-whole : (a b : Option (List ℕ)) (limit : ℕ) (xs : List ℕ) → Consumes a b xs → IsAtEnd b → length xs ≤ limit → AreBytes xs
    → ReadWhole (told_by a) limit xs
read-whole None b limit xs p q h below = record { contents = below; within = h }
read-whole (Some a) None limit xs p q h below = absurd p
read-whole (Some a) (Some b) limit xs p q h below = record { contents = sym (p ∙ ap (λ t. xs ++ t) q ∙ append-nil _); within = h }

-- a reader that gave more than the limit
pub read-cut : (a b : Option (List ℕ)) (limit : ℕ) (xs : List ℕ) → Consumes a b xs → length xs ≡ limit + 1 → AreBytes xs → ReadCut (told_by a) limit xs
read-cut None b limit xs p e below = record { whole = xs; contents = below; longer = omega arith; front_is = grind (arith, common_steps) }
read-cut (Some a) None limit xs p e below = absurd p
read-cut (Some a) (Some b) limit xs p e below = record {
  whole = a;
  contents = refl;
  longer = grind (arith, common_steps);
  front_is = grind (arith, common_steps);
}

-- a fault of the system carries no bytes
pub never-large : (fault : FileFault) (P : List ℕ → Type 0) → (fault ≡ Memory) ⊎ (fault ≡ Failed) → IfTooLarge fault P
never-large Failed P e = tt
never-large (TooLarge front) P (inl e) = absurd (cc)
never-large (TooLarge front) P (inr e) = absurd (cc)
never-large Memory P e = tt

-- of a file of which nothing is told its bytes are known to be bytes
pub whole-untold : (told : Told) (limit : ℕ) (xs : List ℕ) → ReadWhole told limit xs → AreBytes xs → ReadWhole untold limit xs
whole-untold told limit xs h bytes = record { contents = bytes; within = h.within }

pub cut-untold : (told : Told) (limit : ℕ) (xs : List ℕ) → ReadCut told limit xs → AreBytes xs → ReadCut untold limit xs
cut-untold told limit xs h bytes =
    let longer : limit < length xs = let e = ap length h.front_is in omega (arith, e, h.longer, length-take {A = ℕ}) in
    let size : length xs ≤ limit + 1 = let e = ap length h.front_is in omega (arith, e, length-take {A = ℕ}) in
    record { whole = xs; contents = bytes; longer = longer; front_is = grind (arith, common_steps, size) }

abbrev Reading : Type 0
Reading = Result (Vec ℕ Global) FileFault

pub if-whole : (told : Told) (limit : ℕ) (r : Reading) → IfOk r (λ bytes. ReadWhole told limit bytes.items) → IfOk r (λ bytes. AreBytes bytes.items)
    → IfOk r (λ bytes. ReadWhole untold limit bytes.items)
if-whole told limit (Ok bytes) h b = whole-untold told limit bytes.items h b
if-whole told limit (Err fault) h b = tt

fault-cut : (told : Told) (limit : ℕ) (fault : FileFault) → IfTooLarge fault (ReadCut told limit) → IfTooLarge fault AreBytes
    → IfTooLarge fault (ReadCut untold limit)
fault-cut told limit Failed h b = tt
fault-cut told limit (TooLarge front) h b = cut-untold told limit front.items h b
fault-cut told limit Memory h b = tt

pub if-cut : (told : Told) (limit : ℕ) (r : Reading) → IfErr r (λ fault. IfTooLarge fault (ReadCut told limit)) → IfErr r (λ fault. IfTooLarge fault AreBytes)
    → IfErr r (λ fault. IfTooLarge fault (ReadCut untold limit))
if-cut told limit (Ok bytes) h b = tt
if-cut told limit (Err fault) h b = fault-cut told limit fault h b
