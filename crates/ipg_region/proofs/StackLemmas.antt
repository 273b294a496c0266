-- How the runs of all blocks change with the last block, and which block holds a run.
use Rattle.std.proofs.Common.{◌≡◌, ℕ, zero, suc, ◌+◌, ◌-◌, ◌<◌, ◌≤◌, List, [], ◌∷◌, ◌++◌, length, get_or, take, drop, refl, sym, ◌∙◌, ap, arith, length-append}
use Rattle.std.specs.Prelude.{slice_get}
use Rattle.std.proofs.lemmas.List.{append-nil, append_assoc, take-append-le, take-append-drop}
use Rattle.std.proofs.Math.Seq.{take-append-add, take-suc}
use Rattle.ipg_region.specs.Held.{Held}
use Rattle.ipg_region.specs.Stack.{flat}

flat-append : {T : Type 0} (xs ys : List (Held T)) → flat (xs ++ ys) ≡ flat xs ++ flat ys
flat-append [] ys = refl
flat-append (x ∷ xs) ys = ap (λ runs. x.runs ++ runs) (flat-append xs ys) ∙ sym (append_assoc x.runs (flat xs) (flat ys))

-- the runs of the last block are the last runs
flat_last : {T : Type 0} (xs : List (Held T)) (x : Held T) → flat (xs ++ x ∷ []) ≡ flat xs ++ x.runs
flat_last xs x = flat-append xs (x ∷ []) ∙ ap (λ runs. flat xs ++ runs) (append-nil x.runs)

pub length_last : {T : Type 0} (xs : List (Held T)) (x : Held T) → length (flat (xs ++ x ∷ [])) ≡ length (flat xs) + length x.runs
length_last xs x = ap length (flat_last xs x) ∙ length-append (flat xs) x.runs

-- what is taken of two lists reaches into the second one
pub take_over : {X : Type 0} (xs ys : List X) (n : ℕ) → length xs ≤ n → take n (xs ++ ys) ≡ xs ++ take (n - length xs) ys
take_over xs ys n h =
    let split : n ≡ length xs + (n - length xs) = omega arith in
    ap (λ m. take m (xs ++ ys)) split ∙ take-append-add xs ys (n - length xs)

-- of no blocks any part is all
pub none_left : {T : Type 0} (blocks : List (Held T)) (to : ℕ) → length blocks ≡ 0 → flat blocks ≡ take to (flat blocks)
none_left [] zero h = refl
none_left [] (suc to) h = refl
none_left (block ∷ blocks) to h = absurd (omega (arith, h))

pub slice_get-append-left : {X : Type 0} (xs ys : List X) (k : ℕ) → k < length xs → slice_get (xs ++ ys) k ≡ slice_get xs k
slice_get-append-left [] ys k h = absurd (omega arith)
slice_get-append-left (x ∷ xs) ys zero h = refl
slice_get-append-left (x ∷ xs) ys (suc k) h = slice_get-append-left xs ys k (omega arith)

-- a place behind the first of two lists is a place of the second
pub slice_get_over : {X : Type 0} (xs ys : List X) (k : ℕ) → length xs ≤ k → slice_get (xs ++ ys) k ≡ slice_get ys (k - length xs)
slice_get_over [] ys k h = ap (slice_get ys) (omega arith)
slice_get_over (x ∷ xs) ys zero h = absurd (omega arith)
slice_get_over (x ∷ xs) ys (suc k) h = slice_get_over xs ys k (omega arith) ∙ ap (slice_get ys) (omega arith)

-- the runs of the blocks up to one, and those of the next
up_to : {T : Type 0} (blocks : List (Held T)) (block : Held T) (k : ℕ) → k < length blocks → block ≡ get_or blocks k block
    → flat (take (suc k) blocks) ≡ flat (take k blocks) ++ block.runs
up_to blocks block k h e = ap flat (take-suc blocks k block h) ∙ flat_last (take k blocks) (get_or blocks k block)
    ∙ ap (λ b. flat (take k blocks) ++ b.runs) (sym e)

length_up_to : {T : Type 0} (blocks : List (Held T)) (block : Held T) (k : ℕ) → k < length blocks → block ≡ get_or blocks k block
    → length (flat (take (suc k) blocks)) ≡ length (flat (take k blocks)) + length block.runs
length_up_to blocks block k h e = ap length (up_to blocks block k h e) ∙ length-append (flat (take k blocks)) block.runs

-- where a block adds runs, it is there
is_there : {T : Type 0} (blocks : List (Held T)) (k : ℕ) → length (flat (take k blocks)) < length (flat (take (suc k) blocks)) → k < length blocks
is_there [] zero h = absurd (omega arith)
is_there [] (suc k) h = absurd (omega arith)
is_there (block ∷ blocks) zero h = omega arith
is_there (block ∷ blocks) (suc k) h =
    omega (arith, is_there blocks k (omega (arith, length-append block.runs (flat (take k blocks)), length-append block.runs (flat (take (suc k) blocks)))))

-- a run before the block at `at` is none of the blocks from there on: one step back
pub earlier : {T : Type 0} (blocks : List (Held T)) (block : Held T) (at start place : ℕ) → at ≤ length blocks → start ≡ length (flat (take at blocks))
    → place < start → block ≡ get_or blocks (at - 1) block
    → (length block.runs ≤ start) × (start - length block.runs ≡ length (flat (take (at - 1) blocks))) × (place < length (flat (take (suc (at - 1)) blocks)))
earlier blocks block zero start place within e h here = absurd (omega (arith, e))
earlier blocks block (suc k) start place within e h here =
    let back : suc k - 1 ≡ k = omega arith in
    let n = length_up_to blocks block k (omega arith) (here ∙ ap (λ i. get_or blocks i block) back) in
    let same = ap (λ i. length (flat (take i blocks))) back in
    let next = ap (λ i. length (flat (take (suc i) blocks))) back in
    (omega (arith, e, n), omega (arith, e, n, same), omega (arith, e, n, next))

-- the block that holds the run at a place
pub holds : {T : Type 0} (blocks : List (Held T)) (block : Held T) (at start place : ℕ) → start ≡ length (flat (take at blocks)) → start ≤ place
    → place < length (flat (take (suc at) blocks)) → block ≡ get_or blocks at block
    → place - start < length block.runs
holds blocks block at start place e from to here = omega (arith, e, length_up_to blocks block at (is_there blocks at (omega (arith, e))) here)

pub found : {T : Type 0} (blocks : List (Held T)) (block : Held T) (at start place : ℕ) → start ≡ length (flat (take at blocks)) → start ≤ place
    → place < length (flat (take (suc at) blocks)) → block ≡ get_or blocks at block
    → slice_get (flat blocks) place ≡ slice_get block.runs (place - start)
found blocks block at start place e from to here =
    ap (λ all. slice_get (flat all) place) (sym (take-append-drop (suc at) blocks))
    ∙ ap (λ runs. slice_get runs place) (flat-append (take (suc at) blocks) (drop (suc at) blocks))
    ∙ slice_get-append-left (flat (take (suc at) blocks)) (flat (drop (suc at) blocks)) place to
    ∙ ap (λ runs. slice_get runs place) (up_to blocks block at (is_there blocks at (omega (arith, e))) here)
    ∙ slice_get_over (flat (take at blocks)) block.runs place (omega (arith, e))
    ∙ ap (λ n. slice_get block.runs (place - n)) (sym e)

-- how many runs come before the last block
pub without_last : {T : Type 0} (all left : List (Held T)) (block : Held T) (start n : ℕ) → all ≡ left ++ block ∷ [] → start ≡ length (flat all)
    → n ≡ length block.runs → start ≡ length (flat left) + n
without_last all left block start n e counted own = omega (arith, counted, own, ap (λ blocks. length (flat blocks)) e, length_last left block)

-- a cut before the last block does not touch what it holds
pub cut_without_last : {T : Type 0} (all left : List (Held T)) (block : Held T) (to : ℕ) → all ≡ left ++ block ∷ [] → to ≤ length (flat left)
    → take to (flat left) ≡ take to (flat all)
cut_without_last all left block to e h =
    sym (take-append-le to (flat left) block.runs h) ∙ ap (take to) (sym (flat_last left block)) ∙ ap (λ blocks. take to (flat blocks)) (sym e)

-- a cut within the last block
pub cut_last : {T : Type 0} (all all' left : List (Held T)) (block kept : Held T) (start to : ℕ) → all ≡ left ++ block ∷ [] → all' ≡ left ++ kept ∷ []
    → start ≡ length (flat left) → start ≤ to
    → kept.runs ≡ take (to - start) block.runs → flat all' ≡ take to (flat all)
cut_last all all' left block kept start to e e' counted h cut =
    ap flat e' ∙ flat_last left kept ∙ ap (λ runs. flat left ++ runs) cut ∙ ap (λ n. flat left ++ take (to - n) block.runs) counted
    ∙ sym (take_over (flat left) block.runs to (omega (arith, counted)))
    ∙ ap (take to) (sym (flat_last left block)) ∙ ap (λ blocks. take to (flat blocks)) (sym e)

-- a cut in the full blocks leaves none of the last one
pub cut_back : {T : Type 0} (full full' : List (Held T)) (last kept : List (List T)) (before to : ℕ) → before ≡ length (flat full) → to < before
    → flat full' ≡ take to (flat full) → kept ≡ take (to - to) last
    → flat full' ++ kept ≡ take to (flat full ++ last)
cut_back full full' last kept before to counted h cut none =
    let no : to - to ≡ 0 = omega arith in
    ap (λ runs. flat full' ++ runs) (none ∙ ap (λ n. take n last) no) ∙ append-nil (flat full') ∙ cut
    ∙ sym (take-append-le to (flat full) last (omega (arith, counted)))

-- a cut in the last block leaves the full ones alone
pub cut_on : {T : Type 0} (full : List (Held T)) (last kept : List (List T)) (before to : ℕ) → before ≡ length (flat full) → before ≤ to
    → kept ≡ take (to - before) last → flat full ++ kept ≡ take to (flat full ++ last)
cut_on full last kept before to counted h cut =
    ap (λ runs. flat full ++ runs) (cut ∙ ap (λ n. take (to - n) last) counted) ∙ sym (take_over (flat full) last to (omega (arith, counted)))

-- a last block that is put onto the full ones leaves the runs as they are
pub opened : {T : Type 0} (full : List (Held T)) (last : Held T) → flat (full ++ last ∷ []) ++ [] ≡ flat full ++ last.runs
opened full last = append-nil (flat (full ++ last ∷ [])) ∙ flat_last full last
