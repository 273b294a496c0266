-- How the items of full blocks change where a block is put onto them.
use Rattle.std.proofs.lemmas.List.{same_from_push}
use Rattle.std.proofs.Common.{arith, ◌≡◌, ℕ, ◌+◌, List, [], ◌∷◌, ◌++◌, length, refl, sym, ◌∙◌, ap, append_assoc, append-nil, length-append}
use Rattle.ipg_region.specs.Stacked.{Stacked}
use Rattle.ipg_region.specs.Piled.{items_of}
use Rattle.ipg_region.specs.declared.stack.Full.{Full}

module _ {T A : Type 0} where
  -- the items of the last block are the last ones
  items_last : (blocks : List (Full T A)) (block : Full T A) (top : List T) → top ≡ block.below.items ++ block.last ∷ []
      → items_of (blocks ++ block ∷ []) ≡ items_of blocks ++ top
  items_last [] block top e = sym e
  items_last (b ∷ blocks) block top e =
      ap (λ items. b.below.items ++ b.last ∷ items) (items_last blocks block top e) ∙ sym (append_assoc b.below.items (b.last ∷ items_of blocks) top)

  -- the same, by the equations that the code leaves
  pub put_on : (all blocks : List (Full T A)) (block : Full T A) (top : List T) → all ≡ blocks ++ block ∷ [] → top ≡ block.below.items ++ block.last ∷ []
      → items_of all ≡ items_of blocks ++ top
  put_on all blocks block top e own = ap items_of e ∙ items_last blocks block top own

  -- how many items come before the last block
  pub counted_off : (all blocks : List (Full T A)) (block : Full T A) (before n : ℕ) → all ≡ blocks ++ block ∷ [] → before ≡ length (items_of all)
      → n ≡ length block.below.items
      → before ≡ length (items_of blocks) + (n + 1)
  counted_off all blocks block before n e counted own =
      let whole = block.below.items ++ block.last ∷ [] in
      let both = ap length (put_on all blocks block whole e refl) ∙ length-append (items_of blocks) whole in
      omega (arith, counted, own, both, length-append block.below.items (block.last ∷ []))

  -- the items where those of no block lie on top
  pub none_on : (all blocks : List (Full T A)) (block : Full T A) (top : List T) → all ≡ blocks ++ block ∷ [] → length top ≡ 0
      → items_of all ++ top ≡ (items_of blocks ++ block.below.items) ++ block.last ∷ []
  none_on all blocks block [] e none =
      append-nil (items_of all) ∙ put_on all blocks block (block.below.items ++ block.last ∷ []) e refl
      ∙ sym (append_assoc (items_of blocks) block.below.items (block.last ∷ []))
  none_on all blocks block (x ∷ top) e none = absurd (omega (arith, none))

abbrev pub holding : {T : Type 0} → List T → Stacked T
holding items = record { items = items }

pub stacked : {T : Type 0} → (items rest other : List T) → rest ≡ [] → items ≡ other → holding (items ++ rest) ≡ holding other
stacked items rest other e f = ap (λ rest. holding (items ++ rest)) e ∙ ap holding (append-nil items ∙ f)

-- the item on top, and those below
pub popped : {T : Type 0} (items : List T) (last : T) (whole rest : List T) (item : T) → items ++ last ∷ [] ≡ whole → whole ≡ rest ++ item ∷ []
    → (items ≡ rest) × (last ≡ item)
popped items last whole rest item e f = same_from_push items rest last item (e ∙ f)

pub not_empty : {T : Type 0} {P : Type 0} (items : List T) (last : T) → items ++ last ∷ [] ≡ [] → P
not_empty items last e = absurd (omega (arith, ap length e, length-append items (last ∷ [])))
